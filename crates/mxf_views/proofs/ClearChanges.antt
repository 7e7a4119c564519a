-- What adding a note changes among the clear notes, and the clear notes at their offsets.
use Rattle.mxf_views.proofs.Common.{◌≡◌, ℕ, ◌<◌, ◌≤◌, ◌⊎◌, true, List, [], ◌∷◌, refl, sym, subst, ◌∙◌, inl, inr, arith}
use Rattle.mxf_views.proofs.Common.{◌↔◌, max, lt-ltb, NoteParts, end_of, In, IsClear, SharesByte, clear_notes}
use Rattle.mxf_views.proofs.Common.{In-clear_notes, IsHull, is_outside, cases_lt, min, AreReduced, has_note}
use Rattle.mxf_views.proofs.Common.{reduced_with}
use Rattle.mxf_catalogue.proofs.HeadLaws.{In-reduced_with}
use Rattle.mxf_catalogue.proofs.DisputeLaws.{SharesByte-symmetric}
use Rattle.mxf_catalogue.specs.NoteLists.{touching}
use Rattle.mxf_catalogue.proofs.PartLaws.{In-touching}
use Rattle.mxf_catalogue.proofs.ClearLaws.{ordered, shared_low, shares}

-- ---- the hull of what comes and goes

-- A clear note that shares no byte with the new one lies outside.
pub lies_outside : (x n : NoteParts) (notes : List NoteParts) (start end : ℕ) → IsHull x notes start end
    → IsClear n notes → (SharesByte x n → ⊥) → (end_of n ≤ start) ⊎ (end ≤ n.offset)
lies_outside x n notes start end h c far =
    elim (cases_lt x.offset (end_of n)) [
      | inr low ↦ elim h.least [
        | inl q ↦ inl (omega (arith, q, low))
        | inr m ↦ (
            let q : start ≡ m.0.offset = m.3 in
            let l : x.offset < end_of m.0 = shared_low x m.0 m.2 in
            let other : n ≡ m.0 → ⊥ = λ s. far (subst (SharesByte x) (sym s) m.2) in
            let o : end_of n ≤ m.0.offset = ordered notes n m.0 c m.1 other (omega (arith, l, low)) in
            inl (omega (arith, q, o)))
      ]
      | inl e ↦ (
          let high : end_of x ≤ n.offset = elim (cases_lt n.offset (end_of x)) [
            | inl f ↦ absurd (far (shares x n e f))
            | inr f ↦ f
          ] in
          elim h.greatest [
            | inl q ↦ inr (omega (arith, q, high))
            | inr m ↦ (
                let q : end ≡ end_of m.0 = m.3 in
                let l : m.0.offset < end_of x = shared_low m.0 x (SharesByte-symmetric x m.0 m.2) in
                let other : m.0 ≡ n → ⊥ = λ s. far (subst (SharesByte x) s m.2) in
                let o : end_of m.0 ≤ n.offset = ordered notes m.0 n m.1 c other (omega (arith, l, high)) in
                inr (omega (arith, q, o)))
          ])
    ]

outside_by : (start end : ℕ) (n : NoteParts) → (end_of n ≤ start) ⊎ (end ≤ n.offset)
    → is_outside start end n.offset ≡ true
outside_by start end n (inl l) = rw (lt-ltb n.offset start (omega arith)) refl
outside_by start end n (inr l) = grind (arith)

-- What the test says of an offset.
pub outside_says : (start end offset : ℕ) → is_outside start end offset ≡ true → start ≤ offset → offset < end → ⊥
outside_says start end offset e low high = grind (arith)

-- So by its offset alone: a clear note lies outside exactly where it shares no byte with the new one.
pub outside_iff : (x n : NoteParts) (notes : List NoteParts) (start end : ℕ) → IsHull x notes start end
    → IsClear n notes → (SharesByte x n → ⊥) ↔ (is_outside start end n.offset ≡ true)
outside_iff x n notes start end h c = (
  λ far. outside_by start end n (lies_outside x n notes start end h c far),
  λ e s.
      let b = h.all n c s in
      let low : start ≤ n.offset = b.0 in
      let high : end_of n ≤ end = b.1 in
      outside_says start end n.offset e low (omega arith),
)

-- The hull of the new note and of the touched ones but those that are left.
pub record HullSoFar (x : NoteParts) (notes : List NoteParts) (start end : ℕ) (left : List NoteParts) : Type 0 where
  pub all : (m : NoteParts) → IsClear m notes → SharesByte x m → In m left ⊎ ((start ≤ m.offset) × (end_of m ≤ end))
  pub members : (m : NoteParts) → In m left → IsClear m notes × SharesByte x m
  pub least : (start ≡ x.offset) ⊎ ((m : NoteParts) × IsClear m notes × SharesByte x m × (start ≡ m.offset))
  pub greatest : (end ≡ end_of x) ⊎ ((m : NoteParts) × IsClear m notes × SharesByte x m × (end ≡ end_of m))
  pub low : start ≤ x.offset
  pub high : end_of x ≤ end

pub hull_of_one : (x : NoteParts) (notes left : List NoteParts) → left ≡ touching x (clear_notes notes)
    → HullSoFar x notes x.offset (end_of x) left
hull_of_one x notes left e =
    let t = λ (m : NoteParts). In-touching x m (clear_notes notes) in
    let c = λ (m : NoteParts). In-clear_notes m notes in
    record {
      all = λ m k s. inl (subst (In m) (sym e) ((t m).1 ((c m).1 k, s)));
      members = λ m h. let k = (t m).0 (subst (In m) e h) in ((c m).0 k.0, k.1);
      least = inl refl;
      greatest = inl refl;
      low = omega arith;
      high = omega arith;
    }

pub hull_with : (x : NoteParts) (notes : List NoteParts) (start end : ℕ) (m : NoteParts) (left : List NoteParts)
    → HullSoFar x notes start end (m ∷ left) → HullSoFar x notes (min start m.offset) (max end (end_of m)) left
hull_with x notes start end m left h =
    let own = h.members m (inl refl) in
    record {
      all = λ n c s. elim (h.all n c s) [
        | inl k ↦ elim k [
          | inl e ↦ inr (subst (λ (y : NoteParts). (min start m.offset ≤ y.offset)
              × (end_of y ≤ max end (end_of m))) (sym e) (omega arith, omega arith))
          | inr i ↦ inl i
        ]
        | inr b ↦ (
            let l : start ≤ n.offset = b.0 in
            let g : end_of n ≤ end = b.1 in
            let p : min start m.offset ≤ n.offset = omega arith in
            let q : end_of n ≤ max end (end_of m) = omega arith in inr (p, q))
      ];
      members = λ n k. h.members n (inr k);
      least =
          elim (cases_lt start m.offset) [
            | inl l ↦ (
                let same : min start m.offset ≡ start = omega arith in
                elim h.least [ inl e ↦ inl (same ∙ e) | inr n ↦ inr (n.0, n.1, n.2, same ∙ n.3) ])
            | inr l ↦ (let same : min start m.offset ≡ m.offset = omega arith in inr (m, own.0, own.1, same))
          ];
      greatest =
          elim (cases_lt end (end_of m)) [
            | inl l ↦ (let same : max end (end_of m) ≡ end_of m = omega arith in inr (m, own.0, own.1, same))
            | inr l ↦ (
                let same : max end (end_of m) ≡ end = omega arith in
                elim h.greatest [ inl e ↦ inl (same ∙ e) | inr n ↦ inr (n.0, n.1, n.2, same ∙ n.3) ])
          ];
      low = let l : start ≤ x.offset = h.low in omega arith;
      high = let l : end_of x ≤ end = h.high in omega arith;
    }

pub hull_of_all : (x : NoteParts) (notes : List NoteParts) (start end : ℕ) → HullSoFar x notes start end []
    → IsHull x notes start end
hull_of_all x notes start end h = grind (arith)

-- A new note that is added leaves no note clear that it shares a byte with.
pub touched : (m n : NoteParts) (notes : List NoteParts) → AreReduced notes → (has_note notes n → ⊥) → In m notes
    → SharesByte n m → In m (clear_notes (reduced_with n notes)) → ⊥
touched m n notes r new h s k =
    let clear = (In-clear_notes m (reduced_with n notes)).0 k in
    let added = (In-reduced_with n n notes r new).1 (inl refl) in
    clear.undisputed (n, added, (λ e. new (inl (subst (λ x. In x notes) (sym e) h))), s)
