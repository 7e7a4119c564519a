use Rattle.mxf_views.proofs.Common.{◌≡◌, ◌∙◌, ◌<◌, ◌≤◌, ℕ, List, arith, get_or, length, subst, sym, then_some}
use Rattle.mxf_views.proofs.Common.{AllWithin, IsNonDecreasing, ltb-false, end_of, reaches_of, is_in_copy}
use Rattle.mxf_views.proofs.ReachLaws.{first_reaches, length-reaches_from, none_reaches, reaches_never_fall}
use Rattle.mxf_views.proofs.kept.reaches.copy_around.Goals as goal

pub below-at-requires : goal.below-at-requires
below-at-requires c = subst IsNonDecreasing (sym c.requires.reaches) (reaches_never_fall 0 c.args.copies.now)

pub returns-in_err-copy : goal.returns-in_err-copy
returns-in_err-copy c =
    let n = c.args.note.now in
    let copies = c.args.copies.now in
    let at = c.below-at in
    let end : c.end.result ≡ end_of n = c.end.ensures in
    let fits : end_of n ≤ 18446744073709551615 = omega (arith, end, c.end.type_inv) in
    let below : AllWithin (λ r. r < end_of n) (reaches_of copies) 0 at.result =
    subst (λ (e : ℕ). AllWithin (λ r. r < e) (reaches_of copies) 0 at.result) end
    (subst (λ (rs : List ℕ). AllWithin (λ r. r < c.end.result) rs 0 at.result) c.requires.reaches at.ensures.below) in
    c.from_residual.ensures ∙ sym (none_reaches n 0 copies at.result fits below
    (ltb-false at.result (length copies) (sym c.in_err-copy.ensures.lookup.0)))

pub returns : goal.returns
returns c = grind (arith, end_of, reaches_of, length, length-reaches_from, get_or, then_some, is_in_copy, first_reaches)
