-- What is held, by tests and by relations.
use Rattle.mxf_views.proofs.Common.{◌≡◌, ◌↔◌, ◌<◌, ◌≤◌, ◌+◌, ◌-◌, ℕ, true, false, IsTrue, List, [], ◌∷◌, arith}
use Rattle.mxf_views.proofs.Common.{refl, sym, ap, subst, inl, inr, nat_le, nat_lt, map, ltb-true, lt-ltb, Some, None}
use Rattle.mxf_views.proofs.Common.{option_and_then, cond, ltb-false, and_parts, and_from, NoteParts, IsCovered}
use Rattle.mxf_views.proofs.Common.{covered_end, end_of, In, In-filter, In-map, list_any-In, same_bool, IsDisputed}
use Rattle.mxf_views.proofs.Common.{disputed_notes, is_disputed, rip_view_of, union_of_runs, Covers, covered_run}
use Rattle.mxf_views.proofs.Common.{covers_all, LiesIn, is_disputed-IsDisputed, notes-disputed_notes, covers_first}
use Rattle.mxf_catalogue.specs.declared.run.Run.{Run}
use Rattle.std.proofs.Common.{leb-true, le-leb}
use Rattle.mxf_places.specs.Held.{AreDisputed, IsDisputedAt, IsHeld, covers, is_disputed_at, is_held, reaches_past}
use Rattle.mxf_places.specs.Held.{top_of, end_of_file, held_end, rip_end_by}

pub covers-says : (x : ℕ) (n : NoteParts) → IsTrue (covers x n) ↔ IsCovered n x
covers-says x n = (
  λ h.
      let from : n.offset ≤ x = leb-true _ _ (and_parts (nat_le n.offset x) (nat_lt x (covered_end n)) h).0 in
      let before : x < covered_end n = ltb-true _ _ (and_parts (nat_le n.offset x) (nat_lt x (covered_end n)) h).1 in
      record { from = from; before = omega (arith, before) },
  λ c.
      let before : x + 1 ≤ covered_end n = c.before in
      and_from (nat_le n.offset x) (nat_lt x (covered_end n)) (le-leb n.offset x c.from) (lt-ltb x (covered_end n)
      (omega (arith, before))),
)

pub is_held-says : (notes : List NoteParts) (x : ℕ) → IsTrue (is_held notes x) ↔ IsHeld notes x
is_held-says notes x = grind (arith, list_any-In, covers, covers-says)

-- Of the disputed notes some is a disputed note.
pub In-disputed : (notes : List NoteParts) (n : NoteParts)
    → In n (map (λ d. d.note) (disputed_notes notes)) ↔ (In n notes × IsDisputed n notes)
In-disputed notes n =
    let f = In-filter (λ m. is_disputed m notes) notes n in
    let d = is_disputed-IsDisputed n notes in (
      λ h. let k = f.0 (subst (In n) (notes-disputed_notes notes) h) in (k.0, d.0 k.1),
      λ h. subst (In n) (sym (notes-disputed_notes notes)) (f.1 (h.0, d.1 h.1)),
    )

pub is_disputed_at-says : (notes : List NoteParts) (x : ℕ) → IsTrue (is_disputed_at notes x) ↔ IsDisputedAt notes x
is_disputed_at-says notes x =
    let any = list_any-In (λ d. covers x d.note) (disputed_notes notes) in (
      λ h.
          let s = any.0 h in
          let n = s.0.note in
          let k = (In-disputed notes n).0 ((In-map (λ d. d.note) (disputed_notes notes) n).1 (s.0, s.1, refl)) in
          (n, k.0, k.1, (covers-says x n).0 s.2),
      λ h.
          let k = (In-map (λ d. d.note) (disputed_notes notes) h.0).0 ((In-disputed notes h.0).1 (h.1, h.2)) in
          any.1 (k.0, k.1, subst (λ n. IsTrue (covers x n)) k.2 ((covers-says x h.0).1 h.3)),
    )

-- The greatest ends are at or below a bound exactly where all ends are.
pub top_of-bound : (notes : List NoteParts) (bound : ℕ)
    → top_of notes ≤ bound ↔ ((n : NoteParts) → In n notes → end_of n ≤ bound)
top_of-bound [] bound = (λ h n k. absurd k, λ f. omega arith)
top_of-bound (m ∷ notes) bound =
    let ih = top_of-bound notes bound in (
      λ h n k. elim k [
        | inl e ↦ let s : end_of n ≡ end_of m = ap end_of e in omega (arith, h, s)
        | inr i ↦ ih.0 (omega (arith, h)) n i
      ],
      λ f. let a = f m (inl refl) in let b = ih.1 (λ n k. f n (inr k)) in omega (arith, a, b),
    )

pub held_end-bound : (notes : List NoteParts) (bound : ℕ)
    → held_end notes ≤ bound ↔ ((n : NoteParts) → In n notes → covered_end n ≤ bound)
held_end-bound [] bound = (λ h n k. absurd k, λ f. omega arith)
held_end-bound (m ∷ notes) bound = grind (arith, covered_end, held_end-bound notes bound)

-- Numbers with the same bounds are one.
pub same_bounds : (a b : ℕ) (P : ℕ → Type 0) → ((bound : ℕ) → a ≤ bound ↔ P bound)
    → ((bound : ℕ) → b ≤ bound ↔ P bound) → a ≡ b
same_bounds a b P f g =
    let up = (f b).1 ((g b).0 (omega arith)) in
    let down = (g a).1 ((f a).0 (omega arith)) in omega (arith, up, down)

-- The end of a cover of what notes cover is the first offset above all that is held.
pub held_end-is : (notes : List NoteParts) (runs : List Run) (end : ℕ) → Covers runs notes
    → ((bound : ℕ) → end ≤ bound ↔ ((offset : ℕ) → LiesIn runs offset → offset < bound)) → end ≡ held_end notes
held_end-is notes runs end covers is =
    same_bounds end (held_end notes) (λ bound. (n : NoteParts) → In n notes → covered_end n ≤ bound)
    (λ bound. (
      λ h n k.
          let first = covers_first n in
          let from : n.offset ≤ covered_end n - 1 = omega (arith, first) in
          let before : covered_end n - 1 + 1 ≤ covered_end n = omega (arith, first) in
          let last = (is bound).0 h (covered_end n - 1)
          ((covers (covered_end n - 1)).1 (n, k, record { from = from; before = before })) in
          omega (arith, last, first),
      λ f. (is bound).1 (λ offset l.
          let c = (covers offset).0 l in
          let a = f c.0 c.1 in
          let b : offset + 1 ≤ covered_end c.0 = c.2.before in omega (arith, a, b)),
    )) (held_end-bound notes)

-- Something is held at or above an offset exactly where the first offset above all that is held lies above it.
pub reaches_past-is : (x : ℕ) (notes : List NoteParts) → reaches_past x notes ≡ nat_lt x (held_end notes)
reaches_past-is x notes =
    let any = list_any-In (λ n. nat_lt x (covered_end n)) notes in
    same_bool (reaches_past x notes) (nat_lt x (held_end notes)) (λ h.
    let s = any.0 h in
    let a : x < covered_end s.0 = ltb-true _ _ s.2 in
    let b = (held_end-bound notes (held_end notes)).0 (omega arith) s.0 s.1 in
    lt-ltb x (held_end notes) (omega (arith, a, b))) (λ h.
    let above : x < held_end notes = ltb-true _ _ h in
    elim (reaches_past x notes) as (λ b. reaches_past x notes ≡ b → IsTrue (reaches_past x notes)) [
      | true ↦ λ e. e
      | false ↦ λ e. absurd (
          let low = (held_end-bound notes x).1 (λ n k.
          elim (nat_lt x (covered_end n)) as (λ b. nat_lt x (covered_end n) ≡ b → covered_end n ≤ x) [
            | true ↦ λ t. let u = any.1 (n, k, t) in absurd (cc (u, e))
            | false ↦ λ t. ltb-false _ _ t
          ] refl) in omega (arith, low, above))
    ] refl)

-- The runs of what the disputed notes cover.
pub disputed_runs : (notes : List NoteParts)
    → AreDisputed notes (union_of_runs [] (map covered_run (map (λ d. d.note) (disputed_notes notes))))
disputed_runs notes x =
    let all = covers_all (map (λ d. d.note) (disputed_notes notes)) x in (
      λ h. let s = all.0 h in let k = (In-disputed notes s.0).0 s.1 in (s.0, k.0, k.1, s.2),
      λ h. all.1 (h.0, (In-disputed notes h.0).1 (h.1, h.2), h.3),
    )

-- The end of the only random index pack is that of the file, unless what is held reaches past it.
pub end_of_file-by : (notes : List NoteParts) (end reached : ℕ) → rip_end_by notes (rip_view_of notes) ≡ Some end
    → reached ≡ held_end notes → end_of_file notes ≡ cond (nat_lt end reached) None (Some end)
unfolding end_of_file
end_of_file-by notes end reached e h = grind (arith, option_and_then, cond, reaches_past, reaches_past-is, nat_lt)
