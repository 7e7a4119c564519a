use Rattle.std.proofs.Common.{refl}
use Rattle.mxf_partial.specs.InStreams.{HasNoneBelow, IsLastBelow}
use Rattle.mxf_partial.proofs.StreamLaws.{greatest_found, greatest_own, searched}
use Rattle.mxf_partial.proofs.streams.Streams.greatest_from.Goals as goal

pub returns-in-Some-clause-greatest : goal.returns-in-Some-clause-greatest
returns-in-Some-clause-greatest c = λ u are.
    let places = c.args.self.now.greatest.items in
    let g = c.in-Some.greatest.now in
    greatest_found u places are.greatest c.args.place.body_sid c.args.place.offset g c.max.result
    (searched (λ g. g.body_sid) (λ g. 0) (λ g. g.offset)
    (λ l n. IsLastBelow (λ g. g.body_sid) (λ g. 0) (λ g. g.offset) l n 1 g) _ places _ _
    c.deref.ensures.value c.from-stream.ensures c.in-Some.ensures are.greatest.order)
    c.max.ensures

pub returns-in-None-clause-greatest : goal.returns-in-None-clause-greatest
returns-in-None-clause-greatest c = λ u are.
    let places = c.args.self.now.greatest.items in
    greatest_own u places are.greatest c.args.place.body_sid c.args.place.offset c.args.place.offset
    (searched (λ g. g.body_sid) (λ g. 0) (λ g. g.offset)
    (λ l n. HasNoneBelow (λ g. g.body_sid) (λ g. 0) (λ g. g.offset) l n 1) _ places _ _
    c.deref.ensures.value c.from-stream.ensures c.in-None.ensures are.greatest.order)
    refl
