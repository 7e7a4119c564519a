use Rattle.std.proofs.Common.{◌∙◌, ℕ, ap, arith, nat_lt, sym}
use Rattle.std.proofs.lemmas.Bool.{ltb-false, ltb-true}
use Rattle.mxf_klv.proofs.RisingBy.{by_itself, never_falls}
use Rattle.mxf_partial.proofs.StartLaws.{none_between, one_between}
use Rattle.mxf_partial.proofs.between.Starts.is_between_any.Goals as goal

pub below-requires : goal.below-requires
below-requires c = never_falls (λ x. x) c.args.numbers.now (by_itself c.args.numbers.now c.requires)

pub returns-in-Some : goal.returns-in-Some
returns-in-Some c =
    let numbers = c.args.numbers.now in
    ap (λ (n : ℕ). nat_lt n c.high.result) c.from.ensures
    ∙ one_between c.args.self.now numbers c.args.place c.low.result c.below.result c.low.ensures
    c.below.ensures.below c.high.result c.in-Some.number.now c.high.ensures
    (λ j. let f = c.type_inv.numbers j in omega (arith, f))
    (never_falls (λ x. x) numbers (by_itself numbers c.requires))
    c.below.ensures.above (ltb-true _ _ (sym c.in-Some.ensures.lookup.0)) c.in-Some.ensures.lookup.1

pub returns-in-None : goal.returns-in-None
returns-in-None c =
    none_between c.args.self.now c.args.numbers.now c.args.place c.low.result c.below.result c.low.ensures
    c.below.ensures.below (ltb-false _ _ (sym c.in-None.ensures.lookup.0))
