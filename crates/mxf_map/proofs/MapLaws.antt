-- The end of a map, its cells, and the bytes that are held.
use Rattle.mxf_views.proofs.Common.{◌≡◌, ◌↔◌, ◌<◌, ◌≤◌, ◌+◌, ◌-◌, ◌/◌, ℕ, Bool, true, false, List, []}
use Rattle.mxf_views.proofs.Common.{◌∷◌, refl, sym, ap, subst, inl, inr, arith, map, max, Option, Some, None, count_by}
use Rattle.mxf_views.proofs.Common.{if◌then◌else◌, nat_lt, not, ◌&&◌, unwrap_or, cases_lt, false_from_ne_true}
use Rattle.mxf_views.proofs.Common.{range_with_len, covered_end, range-all, range-none, range-same, range-split}
use Rattle.mxf_views.proofs.Common.{list_any-In, Covers, covers_below_end, starts_above, rip_view_of, same_bool}
use Rattle.mxf_views.proofs.Common.{AllByRecursion, NoteParts, In, all_from_In, IsCover, AreMaximal, LiesIn, has_byte}
use Rattle.mxf_catalogue.specs.declared.run.Run.{Run}
use Rattle.std.proofs.lemmas.Bool.{lt-ltb}
use Rattle.std.specs.Option.{option_and_then}
use Rattle.mxf_places.specs.Held.{IsHeld, bytes_of, end_of_file, is_held, reaches_past, rip_end_by, top_of}
use Rattle.mxf_places.specs.AtHand.{KnownParts, edge_of, has_offset, outside_below, runs_end}
use Rattle.mxf_map.specs.Map.{hand_below, held_below, greatest_of, map_end}
use Rattle.mxf_places.proofs.AtHandLaws.{has_offset-says}
use Rattle.mxf_places.proofs.HeldLaws.{is_held-says, same_bounds, top_of-bound}
use Rattle.std.proofs.lemmas.Nat.{div-mul-add, div-add-mod'}
use Rattle.mxf_map.specs.Layers.{AreOffsets}
use Rattle.mxf_restore.specs.Missing.{missing_places}

-- ---- the end and the cells

greatest-bound : (xs : List ℕ) (bound : ℕ) → greatest_of (map (λ x. x + 1) xs) ≤ bound ↔ ((x : ℕ) → In x xs → x < bound)
greatest-bound [] bound = (λ h x k. absurd k, λ f. omega arith)
greatest-bound (y ∷ xs) bound =
    let ih = greatest-bound xs bound in (
      λ h x k. elim k [ inl e ↦ omega (arith, h, e) | inr i ↦ ih.0 (omega (arith, h)) x i ],
      λ f. let a = f y (inl refl) in let b = ih.1 (λ x k. f x (inr k)) in omega (arith, a, b),
    )

pub end_is : (known : KnownParts) (runs : List Run) (reached : ℕ)
    → AreOffsets (λ x. In x (missing_places known.notes)) runs
    → ((bound : ℕ) → reached ≤ bound ↔ ((offset : ℕ) → LiesIn runs offset → offset < bound))
    → max (max (edge_of known.at known.notes) reached) 1 ≡ map_end known
unfolding map_end
end_is known runs reached are is =
    let xs = missing_places known.notes in
    let same : reached ≡ greatest_of (map (λ x. x + 1) xs) =
    same_bounds reached (greatest_of (map (λ x. x + 1) xs)) (λ bound. (x : ℕ) → In x xs → x < bound)
    (λ bound. (
      λ h x k. (is bound).0 h x ((are x).1 k),
      λ f. (is bound).1 (λ x l. f x ((are x).0 l)),
    )) (greatest-bound xs) in
    omega (arith, same)

-- A quotient that is rounded up.
pub rounded_up : (e w : ℕ) → 1 ≤ e → 1 ≤ w → (e - 1) / w + 1 ≡ (e + (w - 1)) / w
rounded_up e w some cells = grind (arith, div-add-mod', div-mul-add)

-- ---- the bytes of runs

lower : (low : ℕ) (runs : List Run) → AreMaximal (low + 1) runs → AreMaximal low runs
lower low [] m = tt
lower low (r ∷ runs) m = let from : low + 1 ≤ r.start = m.0 in (omega (arith, from), m.1, m.2)

none_before : (low x : ℕ) (runs : List Run) → AreMaximal low runs → x < low → LiesIn runs x → ⊥
none_before low x runs m l h =
    let above = starts_above low runs h.0 m h.1 in
    let from : h.0.start ≤ x = h.2.from in omega (arith, above, from, l)

-- The bytes of maximal runs are the offsets of a range that lie in one of them, where they lie in the range.
runs_count : (p : ℕ → Bool) (low len : ℕ) (runs : List Run) → AreMaximal low runs
    → AllByRecursion (λ r. r.end ≤ low + len) runs → ((x : ℕ) → low ≤ x → x < low + len → (p x ≡ true) ↔ LiesIn runs x)
    → bytes_of runs ≡ count_by p (range_with_len low len)
runs_count p low len [] m w f =
    sym (range-none p low len (λ x l r. false_from_ne_true (p x) (λ t. let k = (f x l r).0 t in k.1)))
runs_count p low len (r ∷ runs) m w f =
    let from : low ≤ r.start = m.0 in
    let some : r.start < r.end = m.1 in
    let within : r.end ≤ low + len = w.0 in
    let before = r.start - low in
    let size = r.end - r.start in
    let after = low + len - r.end in
    let at1 : low + before ≡ r.start = omega (arith, from) in
    let at2 : r.start + size ≡ r.end = omega (arith, some) in
    let at3 : r.end + after ≡ low + len = omega (arith, within) in
    let parts : len ≡ before + (size + after) = omega (arith, from, some, within) in
    let s1 = range-split p low before (size + after) in
    let s2 = range-split p r.start size after in
    let z1 : count_by p (range_with_len low before) ≡ 0 = range-none p low before (λ x l h.
    false_from_ne_true (p x) (λ t. let k = (f x l (omega (arith, h, parts))).0 t in
    none_before r.start x (r ∷ runs) (omega arith, m.1, m.2) (omega (arith, h, at1)) k)) in
    let z2 : count_by p (range_with_len r.start size) ≡ size = range-all p r.start size (λ x l h.
    (f x (omega (arith, l, from)) (omega (arith, h, at2, within))).1
    (r, inl refl, record { from = l; before = omega (arith, h, at2) })) in
    let ih : bytes_of runs ≡ count_by p (range_with_len r.end after) =
    runs_count p r.end after runs (lower r.end runs m.2)
    (subst (λ (h : ℕ). AllByRecursion (λ s. s.end ≤ h) runs) (sym at3) w.1) (λ x l h.
    let k = f x (omega (arith, l, from, some)) (omega (arith, h, at3)) in (
      λ t. let s = k.0 t in
          elim s.1 [
            | inl e ↦
                let same : s.0.end ≡ r.end = ap (λ (q : Run). q.end) e in
                let b : x + 1 ≤ s.0.end = s.2.before in absurd (omega (arith, same, b, l))
            | inr i ↦ (s.0, i, s.2)
          ],
      λ s. k.1 (s.0, inr s.1, s.2),
    )) in
    let g1 : count_by p (range_with_len low len) ≡ count_by p (range_with_len low (before + (size + after))) =
    ap (λ (k : ℕ). count_by p (range_with_len low k)) parts in
    let g2 : count_by p (range_with_len (low + before) (size + after))
    ≡ count_by p (range_with_len r.start (size + after)) =
    ap (λ (k : ℕ). count_by p (range_with_len k (size + after))) at1 in
    let g3 : count_by p (range_with_len (r.start + size) after) ≡ count_by p (range_with_len r.end after) =
    ap (λ (k : ℕ). count_by p (range_with_len k after)) at2 in
    omega (arith, ih, z1, z2, s1, s2, g1, g2, g3)

-- What is held lies below the edge.
top_above : (notes : List NoteParts) (x : ℕ) → IsHeld notes x → x < top_of notes
top_above notes x h =
    let top = (top_of-bound notes (top_of notes)).0 (omega arith) h.0 h.1 in
    let before : x + 1 ≤ covered_end h.0 = h.2.before in
    let most = covers_below_end h.0 in omega (arith, top, before, most)

edge_by : (notes : List NoteParts) (given : ℕ) (o : Option ℕ) (x : ℕ) → IsHeld notes x
    → x < unwrap_or (option_and_then (λ e. if reaches_past e notes then None else Some e) o) (max (top_of notes) given)
edge_by notes given None x h = let top = top_above notes x h in omega (arith, top)
edge_by notes given (Some e) x h = elim (reaches_past e notes) as (λ b. reaches_past e notes ≡ b
    → x < unwrap_or (if b then None else Some e) (max (top_of notes) given)) [
      | true ↦ λ t. let top = top_above notes x h in omega (arith, top)
      | false ↦ λ t. elim (cases_lt e (covered_end h.0)) [
        | inl l ↦ absurd (let u = (list_any-In (λ n. nat_lt e (covered_end n)) notes).1
            (h.0, h.1, lt-ltb e (covered_end h.0) l) in cc (t, u))
        | inr g ↦ let before : x + 1 ≤ covered_end h.0 = h.2.before in omega (arith, g, before)
      ]
    ] refl

held_below_end : (known : KnownParts) (x : ℕ) → IsHeld known.notes x → x < map_end known
unfolding map_end end_of_file
held_below_end known x h =
    let notes = known.notes in
    let edge : x < edge_of known.at notes =
    edge_by notes (runs_end known.at.given) (rip_end_by notes (rip_view_of notes)) x h in omega (arith, edge)

pub held_is : (known : KnownParts) (runs : List Run) → Covers runs known.notes → IsCover runs
    → bytes_of runs ≡ held_below known.notes (map_end known)
held_is known runs covers is = runs_count (is_held known.notes) 0 (map_end known) runs is.maximal
    (all_from_In (λ (r : Run). r.end ≤ 0 + map_end known) runs (λ r h.
    let some : r.start < r.end = has_byte 0 runs r is.maximal h in
    let last = (covers (r.end - 1)).0 (r, h, record { from = omega (arith, some); before = omega (arith, some) }) in
    let below = held_below_end known (r.end - 1) last in omega (arith, below, some))) (λ x l h. (
      λ t. (covers x).1 ((is_held-says known.notes x).0 t),
      λ k. (is_held-says known.notes x).1 ((covers x).0 k),
    ))

pub hand_is : (known : KnownParts) (runs : List Run) → Covers runs known.notes → (end : ℕ)
    → outside_below known.at.hand runs end ≡ hand_below known end
hand_is known runs covers end = range-same (λ x. has_offset known.at.hand x && not (has_offset runs x))
    (λ x. has_offset known.at.hand x && not (is_held known.notes x)) 0 end (λ x l h.
    ap (λ b. has_offset known.at.hand x && not b) (same_bool (has_offset runs x) (is_held known.notes x)
    (λ t. (is_held-says known.notes x).1 ((covers x).0 ((has_offset-says runs x).0 t)))
    (λ t. (has_offset-says runs x).1 ((covers x).1 ((is_held-says known.notes x).0 t)))))
