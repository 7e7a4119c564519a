use Rattle.mxf_views.proofs.Common.{◌↔◌, ◌∙◌, ◌==◌, ℕ, IfErr, IsTrue, List, Ok, Err, Result, is_ok, refl, nat_cmp_total}
use Rattle.mxf_views.proofs.Common.{nat_cmp-IsAntisymmetric, list_any, nat_cmp, In, IsPlaceOf, same_bool, search_says}
use Rattle.std.proofs.Common.{OnOk}
use Rattle.mxf_units.proofs.SidLaws.{any-says}
use Rattle.mxf_units.proofs.indexes.is_among.Goals as goal

found_in_place : (x : ℕ) (xs : List ℕ) (r : Result ℕ ℕ) → OnOk r (In x xs) × IfErr r (IsPlaceOf nat_cmp x xs)
    → IsTrue (is_ok r) ↔ In x xs
found_in_place x xs (Ok i) h = (λ _. h.0, λ _. refl)
found_in_place x xs (Err i) h = (λ e. absurd cc, λ k. absurd (h.1.absent k))

pub returns : goal.returns
returns c =
    let xs = c.args.index_sids.now in
    let x = c.args.index_sid in
    let found = found_in_place x xs c.binary_search.result
    (search_says nat_cmp_total nat_cmp-IsAntisymmetric x xs c.binary_search.result c.requires
    c.binary_search.ensures.bound c.binary_search.ensures.position) in
    let any = any-says xs x in
    c.is_ok.ensures.value
    ∙ same_bool (is_ok c.binary_search.result) (list_any (λ held. held == x) xs) (λ h. any.1 (found.0 h))
    (λ h. found.1 (any.0 h))
