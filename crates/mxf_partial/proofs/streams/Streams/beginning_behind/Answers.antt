use Rattle.std.proofs.Common.{◌+◌, ap, sym}
use Rattle.mxf_partial.specs.InStreams.{HasNoneFrom, IsFirstFrom}
use Rattle.mxf_partial.specs.declared.streams.PartStart.{PartStart}
use Rattle.mxf_partial.proofs.StreamLaws.{no_part_behind, part_behind, searched}
use Rattle.mxf_partial.proofs.streams.Streams.beginning_behind.Goals as goal

pub returns-in-Some : goal.returns-in-Some
returns-in-Some c = λ u are.
    let starts = c.args.self.now.starts.items in
    let t = c.behind.result.from + c.behind.result.more in
    let start = c.in-Some.start.now in
    let found = part_behind u.known.notes starts are.starts c.args.place.body_sid c.args.place.offset t c.behind.ensures start
    (searched (λ s. s.body_sid) (λ s. s.body_offset) (λ s. s.partition)
    (λ l n. IsFirstFrom (λ s. s.body_sid) (λ s. s.body_offset) (λ s. s.partition) l n t start) _ starts _ _
    c.deref.ensures.value c.from-stream.ensures c.in-Some.ensures are.starts.order) in
    (found.0, found.1, sym (ap (λ (s : PartStart). s.body_offset) found.2))

pub returns-in-None : goal.returns-in-None
returns-in-None c = λ u are.
    let starts = c.args.self.now.starts.items in
    let t = c.behind.result.from + c.behind.result.more in
    no_part_behind u.known.notes starts are.starts c.args.place.body_sid c.args.place.offset t c.behind.ensures
    (searched (λ s. s.body_sid) (λ s. s.body_offset) (λ s. s.partition)
    (λ l n. HasNoneFrom (λ s. s.body_sid) (λ s. s.body_offset) (λ s. s.partition) l n t) _ starts _ _
    c.deref.ensures.value c.from-stream.ensures c.in-None.ensures are.starts.order)
