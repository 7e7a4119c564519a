-- The gaps of a content are its maximal ranges of offsets that no note covers.
use Rattle.mxf_views.proofs.Common.{◌≡◌, ℕ, ◌+◌, ◌-◌, ◌^◌, ◌<◌, ◌≤◌, ◌⊎◌, true, false, List, [], ◌∷◌, refl, ap, subst}
use Rattle.mxf_views.proofs.Common.{length, inl, inr, arith, ◌↔◌, max, cond, nat_lt, ltb-true, NoteParts, IsNote}
use Rattle.mxf_views.proofs.Common.{end_of, greatest_end, In, less_in, IsCatalogue, IsContent, gaps_of, LiesIn}
use Rattle.mxf_views.proofs.Common.{AreMaximal, all-In, covered_end, note_total, gaps_from, AreGaps, covers_first}
use Rattle.mxf_views.proofs.Common.{has_byte, cases_lt, IsCovered, offset_le, IsWithin, AreMaximal-lower}
use Rattle.mxf_catalogue.specs.declared.run.Run.{Run}
use Rattle.std.proofs.Common.{ltb-false}
use Rattle.mxf_catalogue.proofs.RunBounds.{length_maximal}

maximal_from : (notes : List NoteParts) (reached top : ℕ) → AreMaximal reached (gaps_from reached top notes)
maximal_from [] reached top = grind (arith)
maximal_from (n ∷ notes) reached top =
    let high = max reached (covered_end n) in
    let rest = gaps_from high (max top (end_of n)) notes in
    let ih = maximal_from notes high (max top (end_of n)) in
    elim (nat_lt reached n.offset) as (λ b. nat_lt reached n.offset ≡ b
    → AreMaximal reached (cond b (record { start = reached; end = n.offset } ∷ rest) rest)) [
      | true ↦ λ t.
          let l : reached < n.offset = ltb-true reached n.offset t in
          let h : n.offset + 1 ≤ high = omega (arith, covers_first n) in
          (omega arith, l, AreMaximal-lower (n.offset + 1) high rest h ih)
      | false ↦ λ t. let h : reached ≤ high = omega arith in AreMaximal-lower reached high rest h ih
    ] refl

-- a gap above what is reached, below the greatest end so far or that of a note to come
record IsGapAbove (reached top : ℕ) (notes : List NoteParts) (offset : ℕ) : Type 0 where
  above : reached ≤ offset
  below : (offset < top) ⊎ ((n : NoteParts) × In n notes × (offset < end_of n))
  in_none : (n : NoteParts) → In n notes → IsCovered n offset → ⊥

fewer : (n : NoteParts) (notes : List NoteParts) (reached top offset : ℕ)
    → IsGapAbove (max reached (covered_end n)) (max top (end_of n)) notes offset
    → IsGapAbove reached top (n ∷ notes) offset
fewer n notes reached top offset g =
    let a : max reached (covered_end n) ≤ offset = g.above in
    record {
      above = omega arith;
      below = elim g.below [
        | inl l ↦ elim (cases_lt offset top) [ inl t ↦ inl t | inr h ↦ inr (n, inl refl, omega (arith, l, h)) ]
        | inr s ↦ inr (s.0, inr s.1, s.2)
      ];
      in_none = λ m h s. elim h [
        | inl e ↦ (let t : IsCovered n offset = subst (λ (x : NoteParts). IsCovered x offset) e s in
            let u : offset + 1 ≤ covered_end n = t.before in absurd (omega arith))
        | inr k ↦ g.in_none m k s
      ];
    }

-- an offset that no note covers, above what is reached, lies before the first note or above what that covers
before_or_after : (n : NoteParts) (notes : List NoteParts) (reached top offset : ℕ)
    → IsGapAbove reached top (n ∷ notes) offset
    → (offset < n.offset) ⊎ IsGapAbove (max reached (covered_end n)) (max top (end_of n)) notes offset
before_or_after n notes reached top offset g = grind (arith)

-- before the first note of a content is none
before_first : (n : NoteParts) (notes : List NoteParts) (reached top offset : ℕ) → IsContent (n ∷ notes)
    → reached ≤ offset → offset < n.offset → IsGapAbove reached top (n ∷ notes) offset
before_first n notes reached top offset r a l = record {
  above = a;
  below = inr (n, inl refl, omega arith);
  in_none = λ m h s.
      let f : m.offset ≤ offset = s.from in
      elim h [
        | inl e ↦ (let q = ap (λ (x : NoteParts). x.offset) e in absurd (omega (arith, q)))
        | inr k ↦ (let o : n.offset ≤ m.offset = offset_le n m (less_in note_total n m notes r.0 k) in absurd
            (omega arith))
      ];
}

offsets_from : (notes : List NoteParts) (reached top offset : ℕ) → IsContent notes
    → LiesIn (gaps_from reached top notes) offset ↔ IsGapAbove reached top notes offset
offsets_from [] reached top offset r = elim (nat_lt reached top) as (λ b. nat_lt reached top ≡ b
    → LiesIn (cond b (record { start = reached; end = top } ∷ []) []) offset ↔ IsGapAbove reached top [] offset) [
      | true ↦ λ t. (
        λ h. elim h.1 [
          | inl e ↦
              let w : IsWithin (record { start = reached; end = top }) offset =
              subst (λ (x : Run). IsWithin x offset) e h.2 in
              let w0 : reached ≤ offset = w.from in
              let w1 : offset + 1 ≤ top = w.before in
              record { above = w0; below = inl (omega (arith, w1)); in_none = λ n k s. k }
          | inr k ↦ absurd k
        ],
        λ g. elim g.below [
          | inl l ↦ (
            record { start = reached; end = top },
            inl refl,
            record { from = g.above; before = omega (arith, l) },
          )
          | inr s ↦ absurd s.1
        ],
      )
      | false ↦ λ t.
          let le : top ≤ reached = ltb-false reached top t in (
            λ h. absurd h.1,
            λ g. elim g.below [
              | inl l ↦ (let a : reached ≤ offset = g.above in absurd (omega (arith, l)))
              | inr s ↦ absurd s.1
            ],
          )
    ] refl
offsets_from (n ∷ notes) reached top offset r =
    let rest = gaps_from (max reached (covered_end n)) (max top (end_of n)) notes in
    let ih = offsets_from notes (max reached (covered_end n)) (max top (end_of n)) offset r.1 in
    elim (nat_lt reached n.offset) as (λ b. nat_lt reached n.offset ≡ b
    → LiesIn (cond b (record { start = reached; end = n.offset } ∷ rest) rest) offset
    ↔ IsGapAbove reached top (n ∷ notes) offset) [
      | true ↦ λ t. (
        λ h. elim h.1 [
          | inl e ↦
              let w : IsWithin (record { start = reached; end = n.offset }) offset =
              subst (λ (x : Run). IsWithin x offset) e h.2 in
              let w0 : reached ≤ offset = w.from in
              let w1 : offset + 1 ≤ n.offset = w.before in
              before_first n notes reached top offset r w0 (omega arith)
          | inr k ↦ fewer n notes reached top offset (ih.0 (h.0, k, h.2))
        ],
        λ g. elim (before_or_after n notes reached top offset g) [
          | inl l ↦ (
            record { start = reached; end = n.offset },
            inl refl,
            record { from = g.above; before = omega arith },
          )
          | inr k ↦ let w = ih.1 k in (w.0, inr w.1, w.2)
        ],
      )
      | false ↦ λ t.
          let le : n.offset ≤ reached = ltb-false reached n.offset t in (
            λ h. fewer n notes reached top offset (ih.0 h),
            λ g. elim (before_or_after n notes reached top offset g) [
              | inl l ↦ (let a : reached ≤ offset = g.above in absurd (omega arith))
              | inr k ↦ ih.1 k
            ],
          )
    ] refl

pub gaps_are : (notes : List NoteParts) → IsContent notes → AreGaps notes (gaps_of notes)
gaps_are notes r = record {
  maximal = maximal_from notes 0 0;
  offsets = λ offset. let o = offsets_from notes 0 0 offset r in (
    λ h. let g = o.0 h in record {
      below = elim g.below [ inl l ↦ absurd (omega (arith, l)) | inr s ↦ s ];
      in_none = g.in_none;
    },
    λ g. o.1 (record { above = omega arith; below = inr g.below; in_none = g.in_none }),
  );
}

-- ---- how many there are

-- so gaps can be counted
pub few_gaps : (notes : List NoteParts) (gaps : List Run) → IsCatalogue notes → AreGaps notes gaps
    → length gaps < 2 ^ 64
few_gaps notes gaps c g =
    let ends : (r : Run) → In r gaps → r.end ≤ greatest_end = λ r h.
    let some : r.start < r.end = has_byte 0 gaps r g.maximal h in
    let from : r.start ≤ r.end - 1 = omega (arith, some) in
    let before : r.end - 1 + 1 ≤ r.end = omega (arith, some) in
    let below = ((g.offsets (r.end - 1)).0 (r, h, record { from = from; before = before })).below in
    let within = (all-In IsNote notes below.0 c.members below.1).within in
    omega (arith, below.2, within, some) in
    elim (length_maximal 0 greatest_end gaps g.maximal ends) [
      | inl none ↦ omega (arith, none)
      | inr few ↦ omega (arith, few)
    ]
