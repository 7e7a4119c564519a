use Rattle.mxf_views.proofs.Common.{◌∙◌, ◌<◌, ap, rules, subst, sym, unsigned_abs}
use Rattle.std.proofs.Common.{FitsSigned, w32}
use Rattle.std.proofs.Math.Nat.{mul-pos}
use Rattle.std.proofs.lemmas.Int.{to_z-of_z}
use Rattle.mxf_clocks.proofs.RateLaws.{good_parts}
use Rattle.mxf_clocks.proofs.fraction.rate_over.Goals as goal

pub lowest-requires-clause-upper : goal.lowest-requires-clause-upper
lowest-requires-clause-upper c =
    let p = good_parts c.args.a c.requires.first in
    let q = good_parts c.args.b c.requires.second in
    let f : FitsSigned w32 c.args.a.numerator = search rules in
    let g : FitsSigned w32 c.args.b.denominator = search rules in
    mul-pos (subst (λ n. 0 < n) (sym (c.from.ensures ∙ c.unsigned_abs.ensures.value
    ∙ ap unsigned_abs (to_z-of_z w32 c.args.a.numerator f))) p.0)
    (subst (λ n. 0 < n) (sym (c.from-2.ensures ∙ c.unsigned_abs-2.ensures.value
    ∙ ap unsigned_abs (to_z-of_z w32 c.args.b.denominator g))) q.1)

pub lowest-requires-clause-lower : goal.lowest-requires-clause-lower
lowest-requires-clause-lower c =
    let p = good_parts c.args.a c.requires.first in
    let q = good_parts c.args.b c.requires.second in
    let f : FitsSigned w32 c.args.a.denominator = search rules in
    let g : FitsSigned w32 c.args.b.numerator = search rules in
    mul-pos (subst (λ n. 0 < n) (sym (c.from-3.ensures ∙ c.unsigned_abs-3.ensures.value
    ∙ ap unsigned_abs (to_z-of_z w32 c.args.a.denominator f))) p.1)
    (subst (λ n. 0 < n) (sym (c.from-4.ensures ∙ c.unsigned_abs-4.ensures.value
    ∙ ap unsigned_abs (to_z-of_z w32 c.args.b.numerator g))) q.0)
