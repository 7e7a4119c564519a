-- The gaps of notes are those of the cover of what they cover, and what lies between its end and the greatest end.
use Rattle.mxf_views.proofs.Common.{◌≡◌, ℕ, ◌+◌, ◌-◌, ◌<◌, ◌≤◌, ◌++◌, true, false, List, [], ◌∷◌, ap, arith, inl, inr}
use Rattle.mxf_views.proofs.Common.{refl, ◌↔◌, cond, nat_lt, ltb-true, end_of, NoteParts, In, IsContent, AreMaximal}
use Rattle.mxf_views.proofs.Common.{LiesIn, gaps_of, In-append, covered_end, Covers, AreGaps, has_byte, IsCover}
use Rattle.mxf_views.proofs.Common.{gaps_of_runs, run, gaps_by_definition, same_runs, IsGap, some_above}
use Rattle.mxf_views.proofs.Common.{covers_below_end}
use Rattle.mxf_catalogue.specs.declared.run.Run.{Run}
use Rattle.std.proofs.Common.{ltb-false}
use Rattle.mxf_catalogue.specs.Covers.{IsBetween}
use Rattle.mxf_views.proofs.GapsLaws.{gaps_are}

-- A run that begins above the ends of maximal ones goes on with them.
maximal_push : (low : ℕ) (runs : List Run) (r : Run) → AreMaximal low runs → low ≤ r.start → r.start < r.end
    → ((s : Run) → In s runs → s.end + 1 ≤ r.start) → AreMaximal low (runs ++ r ∷ [])
maximal_push low [] r m l b f = (l, b, tt)
maximal_push low (s ∷ runs) r m l b f =
    grind (arith, maximal_push (s.end + 1) runs r m.2 (f s (inl refl)) b (λ x h. f x (inr h)))

module _ (runs : List Run) (notes : List NoteParts) (reached top : ℕ) (cover : IsCover runs)
    (covers : Covers runs notes)
    (reached_is : (bound : ℕ) → reached ≤ bound ↔ ((offset : ℕ) → LiesIn runs offset → offset < bound))
    (top_is : (bound : ℕ) → top ≤ bound ↔ ((n : NoteParts) → In n notes → end_of n ≤ bound)) where
  -- What lies between the end of the cover and the greatest end.
  abbrev pub last_gap : List Run
  last_gap = cond (nat_lt reached top) (run reached top ∷ []) []

  ends_in_reach : (r : Run) → In r runs → r.end ≤ reached
  ends_in_reach r h =
      let some : r.start < r.end = has_byte 0 runs r cover.maximal h in
      let from : r.start ≤ r.end - 1 = omega (arith, some) in
      let before : r.end - 1 + 1 ≤ r.end = omega (arith, some) in
      let l = (reached_is reached).0 (omega arith) (r.end - 1) (r, h, record { from = from; before = before }) in
      omega (arith, l)

  -- An offset lies between the runs exactly where it lies in a gap of the notes below the end of the cover.
  between_gap : (at : ℕ) → IsBetween runs at → IsGap notes at
  between_gap at b =
      let r = b.below.0 in
      let some : r.start < r.end = has_byte 0 runs r cover.maximal b.below.1 in
      let above : at < r.end = b.below.2 in
      let from : r.start ≤ r.end - 1 = omega (arith, some) in
      let before : r.end - 1 + 1 ≤ r.end = omega (arith, some) in
      let last = (covers (r.end - 1)).0 (r, b.below.1, record { from = from; before = before }) in
      let within : r.end - 1 + 1 ≤ covered_end last.0 = last.2.before in
      record {
        below = (last.0, last.1, omega (arith, within, above, covers_below_end last.0));
        in_none = λ n h s. b.in_none ((covers at).1 (n, h, s));
      }

  gap_between : (at : ℕ) → at < reached → IsGap notes at → IsBetween runs at
  gap_between at low g =
      let s = some_above (λ (r : Run). r.end) runs at (λ f.
      let l = (reached_is at).1 (λ offset h.
      let e : h.0.end ≤ at = f h.0 h.1 in
      let b : offset + 1 ≤ h.0.end = h.2.before in omega (arith, e, b)) in
      omega (arith, l, low)) in
      record { below = s; in_none = λ l. let c = (covers at).0 l in g.in_none c.0 c.1 c.2 }

  -- Above the end of the cover it does so exactly where it lies below the greatest end.
  above_gap : (at : ℕ) → reached ≤ at → at < top → IsGap notes at
  above_gap at l h = record {
    below = some_above end_of notes at (λ f. let t = (top_is at).1 f in omega (arith, t, h));
    in_none = λ n k s. let b = (reached_is reached).0 (omega arith) at ((covers at).1 (n, k, s)) in omega (arith, b, l);
  }

  gap_below : (at : ℕ) → IsGap notes at → at < top
  gap_below at g =
      let e : end_of g.below.0 ≤ top = (top_is top).0 (omega arith) g.below.0 g.below.1 in omega (arith, e, g.below.2)

  ends_below : (s : Run) → In s (gaps_of_runs runs) → s.end + 1 ≤ reached
  ends_below s h =
      let of_runs = gaps_by_definition runs cover in
      let some : s.start < s.end = has_byte 0 (gaps_of_runs runs) s of_runs.maximal h in
      let from : s.start ≤ s.end - 1 = omega (arith, some) in
      let before : s.end - 1 + 1 ≤ s.end = omega (arith, some) in
      let b = (of_runs.offsets (s.end - 1)).0 (s, h, record { from = from; before = before }) in
      let r = b.below.0 in
      let filled : r.start < r.end = has_byte 0 runs r cover.maximal b.below.1 in
      let up : s.end - 1 < r.end = b.below.2 in
      let top : r.end ≤ reached = ends_in_reach r b.below.1 in
      elim (nat_lt s.end r.end) as (λ t. nat_lt s.end r.end ≡ t → s.end + 1 ≤ reached) [
        | true ↦ λ t. let l : s.end < r.end = ltb-true s.end r.end t in omega (arith, l, top)
        | false ↦ λ t.
            let l : r.end ≤ s.end = ltb-false s.end r.end t in
            let low : r.start ≤ s.end - 1 = omega (arith, l, filled) in
            let high : s.end - 1 + 1 ≤ r.end = omega (arith, up) in
            absurd (b.in_none (r, b.below.1, record { from = low; before = high }))
      ] refl

  pub are_gaps : AreGaps notes (gaps_of_runs runs ++ last_gap)
  are_gaps =
      let of_runs = gaps_by_definition runs cover in
      elim (nat_lt reached top) as (λ b. nat_lt reached top ≡ b
      → AreGaps notes (gaps_of_runs runs ++ cond b (run reached top ∷ []) [])) [
        | true ↦ λ t.
            let some : reached < top = ltb-true reached top t in
            let all = λ (r : Run). In-append r (gaps_of_runs runs) (run reached top ∷ []) in
            record {
              maximal = maximal_push 0 (gaps_of_runs runs) (run reached top) of_runs.maximal
                  (omega arith) some ends_below;
              offsets = λ at. (
                λ h. elim ((all h.0).0 h.1) [
                  | inl k ↦ between_gap at ((of_runs.offsets at).0 (h.0, k, h.2))
                  | inr k ↦ elim k [
                    | inl e ↦
                        let low : h.0.start ≤ at = h.2.from in
                        let high : at + 1 ≤ h.0.end = h.2.before in
                        let s : h.0.start ≡ reached = ap (λ (r : Run). r.start) e in
                        let f : h.0.end ≡ top = ap (λ (r : Run). r.end) e in
                        above_gap at (omega (arith, low, s)) (omega (arith, high, f))
                    | inr z ↦ absurd z
                  ]
                ],
                λ g. elim (nat_lt at reached) as (λ b. nat_lt at reached ≡ b
                    → LiesIn (gaps_of_runs runs ++ run reached top ∷ []) at) [
                      | true ↦ λ u.
                          let s = (of_runs.offsets at).1 (gap_between at (ltb-true at reached u) g) in
                          (s.0, (all s.0).1 (inl s.1), s.2)
                      | false ↦ λ u.
                          let low : reached ≤ at = ltb-false at reached u in
                          let high : at + 1 ≤ top = omega (arith, gap_below at g) in (
                            run reached top,
                            (all (run reached top)).1 (inr (inl refl)),
                            record { from = low; before = high },
                          )
                    ] refl,
              );
            }
        | false ↦ λ t.
            let none : top ≤ reached = ltb-false reached top t in
            let all = λ (r : Run). In-append r (gaps_of_runs runs) [] in
            record {
              maximal = maximal_none 0 (gaps_of_runs runs) of_runs.maximal;
              offsets = λ at. (
                λ h. elim ((all h.0).0 h.1) [
                  | inl k ↦ between_gap at ((of_runs.offsets at).0 (h.0, k, h.2))
                  | inr k ↦ absurd k
                ],
                λ g.
                    let low : at < reached = omega (arith, gap_below at g, none) in
                    let s = (of_runs.offsets at).1 (gap_between at low g) in
                    (s.0, (all s.0).1 (inl s.1), s.2),
              );
            }
      ] refl
    where
      maximal_none : (low : ℕ) (runs : List Run) → AreMaximal low runs → AreMaximal low (runs ++ [])
      maximal_none low [] m = tt
      maximal_none low (s ∷ runs) m = (m.0, m.1, maximal_none (s.end + 1) runs m.2)

  pub gaps_of-spans : IsContent notes → gaps_of_runs runs ++ last_gap ≡ gaps_of notes
  gaps_of-spans rises =
      let of_runs = are_gaps in
      let of_notes = gaps_are notes rises in
      same_runs 0 0 (gaps_of_runs runs ++ last_gap) (gaps_of notes) of_runs.maximal of_notes.maximal (λ at. (
        (λ h. (of_notes.offsets at).1 ((of_runs.offsets at).0 h)),
        (λ h. (of_runs.offsets at).1 ((of_notes.offsets at).0 h)),
      ))
