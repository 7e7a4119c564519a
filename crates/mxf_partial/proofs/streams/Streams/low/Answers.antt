use Rattle.std.proofs.Common.{◌+◌, refl}
use Rattle.mxf_partial.specs.InStreams.{HasNoneBelow, IsLastBelow}
use Rattle.mxf_partial.proofs.StreamLaws.{low_found, low_none, searched}
use Rattle.mxf_partial.proofs.streams.Streams.low.Goals as goal

pub returns-in-Some-clause-low : goal.returns-in-Some-clause-low
returns-in-Some-clause-low c = λ u are.
    let starts = c.args.self.now.starts.items in
    let t = c.behind.result.from + c.behind.result.more in
    let start = c.in-Some.start.now in
    low_found u.known.notes starts are.starts c.args.place.body_sid c.args.place.offset t c.behind.ensures start _
    (searched (λ s. s.body_sid) (λ s. s.body_offset) (λ s. s.partition)
    (λ l n. IsLastBelow (λ s. s.body_sid) (λ s. s.body_offset) (λ s. s.partition) l n t start) _ starts _ _
    c.deref.ensures.value c.from-stream.ensures c.in-Some.ensures are.starts.order)
    (cc (c.reach.ensures.sum, c.from.ensures, c.saturating_sub-distance.ensures))

pub returns-in-None-clause-low : goal.returns-in-None-clause-low
returns-in-None-clause-low c = λ u are.
    let starts = c.args.self.now.starts.items in
    let t = c.behind.result.from + c.behind.result.more in
    low_none u.known.notes starts are.starts c.args.place.body_sid c.args.place.offset t c.behind.ensures 0
    (searched (λ s. s.body_sid) (λ s. s.body_offset) (λ s. s.partition)
    (λ l n. HasNoneBelow (λ s. s.body_sid) (λ s. s.body_offset) (λ s. s.partition) l n t) _ starts _ _
    c.deref.ensures.value c.from-stream.ensures c.in-None.ensures are.starts.order)
    refl
