use Rattle.std.proofs.Common.{rules, ◌+◌}
use Rattle.mxf_partial.specs.InStreams.{HasNoneFrom, IsFirstFrom}
use Rattle.mxf_partial.proofs.StreamLaws.{high_by_rip, high_found, high_none, no_part_behind, part_behind, searched}
use Rattle.mxf_partial.proofs.streams.Streams.high.Goals as goal

pub returns-in_err-self-in-None : goal.returns-in_err-self-in-None
returns-in_err-self-in-None c = λ u are.
    let starts = c.args.self.now.starts.items in
    let t = c.behind.result.from + c.behind.result.more in
    high_none u c.args.place.body_sid c.args.place.offset c.args.self.now.rip _
    (no_part_behind u.known.notes starts are.starts c.args.place.body_sid c.args.place.offset t c.behind.ensures
    (searched (λ s. s.body_sid) (λ s. s.body_offset) (λ s. s.partition)
    (λ l n. HasNoneFrom (λ s. s.body_sid) (λ s. s.body_offset) (λ s. s.partition) l n t) _ starts _ _
    c.deref.ensures.value c.from-stream.ensures c.in-None.ensures are.starts.order))
    are.rip (search rules) c.from_residual.ensures

pub returns-in-Some : goal.returns-in-Some
returns-in-Some c = λ u are.
    let starts = c.args.self.now.starts.items in
    let t = c.behind.result.from + c.behind.result.more in
    let start = c.in-Some.start.now in
    high_found u c.args.place.body_sid c.args.place.offset _ start
    (part_behind u.known.notes starts are.starts c.args.place.body_sid c.args.place.offset t c.behind.ensures start
    (searched (λ s. s.body_sid) (λ s. s.body_offset) (λ s. s.partition)
    (λ l n. IsFirstFrom (λ s. s.body_sid) (λ s. s.body_offset) (λ s. s.partition) l n t start) _ starts _ _
    c.deref.ensures.value c.from-stream.ensures c.in-Some.ensures are.starts.order))
    (cc (c.less.ensures, c.saturating_sub-distance.ensures, c.from.ensures))

pub returns-in_ok-self-in-None : goal.returns-in_ok-self-in-None
returns-in_ok-self-in-None c = λ u are.
    let starts = c.args.self.now.starts.items in
    let t = c.behind.result.from + c.behind.result.more in
    high_by_rip u c.args.place.body_sid c.args.place.offset _ c.greatest_from.result c.in_ok-self-in-None.field-0
    c.args.self.now.rip
    (no_part_behind u.known.notes starts are.starts c.args.place.body_sid c.args.place.offset t c.behind.ensures
    (searched (λ s. s.body_sid) (λ s. s.body_offset) (λ s. s.partition)
    (λ l n. HasNoneFrom (λ s. s.body_sid) (λ s. s.body_offset) (λ s. s.partition) l n t) _ starts _ _
    c.deref.ensures.value c.from-stream.ensures c.in-None.ensures are.starts.order))
    are.rip (search rules) (c.greatest_from.ensures.greatest u are) c.less-in-None.ensures
