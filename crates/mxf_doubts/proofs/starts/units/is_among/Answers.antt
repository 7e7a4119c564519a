use Rattle.mxf_views.proofs.Common.{◌≡◌, ◌↔◌, ◌∙◌, ◌==◌, ◌&&◌, ℕ, IfErr, IsTrue, List, Ok, Err, Result, is_ok, refl, list_any, In, IsPlaceOf}
use Rattle.mxf_views.proofs.Common.{same_bool, search_says, list_any-In, and_from, and_parts, eq-eqb, eqb-true, subst}
use Rattle.std.proofs.Common.{OnOk}
use Rattle.mxf_doubts.specs.UnitStarts.{unit_cmp}
use Rattle.mxf_doubts.proofs.IndexLaws.{one_unit, unit_total}
use Rattle.mxf_doubts.proofs.starts.units.is_among.Goals as goal

found_in_place : (x : ℕ × ℕ) (xs : List (ℕ × ℕ)) (r : Result ℕ ℕ) → OnOk r (In x xs) × IfErr r (IsPlaceOf unit_cmp x xs)
    → IsTrue (is_ok r) ↔ In x xs
found_in_place x xs (Ok i) h = (λ _. h.0, λ _. refl)
found_in_place x xs (Err i) h = (λ e. absurd cc, λ k. absurd (h.1.absent k))

any_says : (xs : List (ℕ × ℕ)) (index_sid unit : ℕ)
    → IsTrue (list_any (λ u. (u.0 == index_sid) && (u.1 == unit)) xs) ↔ In (index_sid, unit) xs
any_says xs index_sid unit =
    let any = list_any-In (λ (u : ℕ × ℕ). (u.0 == index_sid) && (u.1 == unit)) xs in (
      λ t.
          let s = any.0 t in
          let p = and_parts (s.0.0 == index_sid) (s.0.1 == unit) s.2 in
          let a = eqb-true s.0.0 index_sid p.0 in
          let b = eqb-true s.0.1 unit p.1 in
          let same : s.0 ≡ (index_sid, unit) = λ i. (a i, b i) in subst (λ (u : ℕ × ℕ). In u xs) same s.1,
      λ i. any.1 ((index_sid, unit), i, and_from _ _ (eq-eqb index_sid index_sid refl) (eq-eqb unit unit refl)),
    )

pub returns : goal.returns
returns c =
    let xs = c.args.units.now in
    let x : ℕ × ℕ = (c.args.index_sid, c.args.unit) in
    let found = found_in_place x xs c.binary_search.result
    (search_says unit_total one_unit x xs c.binary_search.result c.requires c.binary_search.ensures.bound
    c.binary_search.ensures.position) in
    let any = any_says xs c.args.index_sid c.args.unit in
    c.is_ok.ensures.value
    ∙ same_bool (is_ok c.binary_search.result) (list_any (λ (u : ℕ × ℕ). (u.0 == c.args.index_sid) && (u.1 == c.args.unit)) xs)
    (λ h. any.1 (found.0 h)) (λ h. found.1 (any.0 h))
