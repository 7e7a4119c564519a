-- The runs of the spans of notes.
use Rattle.std.specs.Prelude.{◌≡◌, ℕ, ◌+◌, ◌<◌, ◌≤◌, List, [], ◌∷◌, map, ◌⊎◌, ◌↔◌, refl}
use Rattle.std.proofs.Common.{subst, inl, inr, arith}
use Rattle.mxf_klv.specs.Parts.{NoteParts}
use Rattle.mxf_klv.specs.Note.{IsCovered, IsInSpan, IsNote, end_of, greatest_end, head_note}
use Rattle.mxf_klv.specs.Rising.{In}
use Rattle.mxf_catalogue.specs.declared.run.Run.{Run}
use Rattle.mxf_catalogue.specs.Covers.{IsRun, both, spanned, with_run, in_both, LiesIn-with_run}
use Rattle.mxf_catalogue.specs.Disputes.{SharesByte}
use Rattle.mxf_catalogue.specs.Content.{AreReduced, has_note, reduced_with}
use Rattle.mxf_catalogue.specs.NoteLists.{Covers, LiesInNote, LiesInSpan, Spans, covered_run, run_of}
use Rattle.mxf_catalogue.specs.Runs.{IsWithin, LiesIn}
use Rattle.mxf_catalogue.proofs.HeadLaws.{In-reduced_with, same_note}

-- an offset lies in the run of a note where it lies in its span
in_span : (n : NoteParts) (at : ℕ) → IsWithin (run_of n) at → IsInSpan n at
in_span n at w = record { from = w.from; before = w.before }

in_run : (n : NoteParts) (at : ℕ) → IsInSpan n at → IsWithin (run_of n) at
in_run n at s = record { from = s.from; before = s.before }

-- what the head of a packet covers, the note of the packet covers
head_covers : (n : NoteParts) (at : ℕ) → IsCovered (head_note n) at → IsCovered n at
head_covers n at h = grind arith

-- a content with a note covers what it covered, and what the note covers
pub LiesInNote-reduced_with : (x : NoteParts) (notes : List NoteParts) (at : ℕ) → AreReduced notes
    → (has_note notes x → ⊥) → LiesInNote (reduced_with x notes) at ↔ (IsCovered x at ⊎ LiesInNote notes at)
LiesInNote-reduced_with x notes at r new =
    let there = λ (n : NoteParts). In-reduced_with n x notes r new in (
      λ h. elim ((there h.0).0 h.1) [ inl e ↦ inl (subst (λ n. IsCovered n at) e h.2) | inr i ↦ inr (h.0, i.0, h.2) ],
      λ h. elim h [
        | inl c ↦ (x, (there x).1 (inl refl), c)
        | inr s ↦ elim (same_note s.0 (head_note x)) [
          | inl e ↦ (x, (there x).1 (inl refl), head_covers x at (subst (λ n. IsCovered n at) e s.2))
          | inr ne ↦ (s.0, (there s.0).1 (inr (s.1, ne)), s.2)
        ]
      ],
    )

-- the runs of a cover, with what one more note covers
pub Covers-with : (x : NoteParts) (runs : List Run) (notes : List NoteParts) → AreReduced notes
    → (has_note notes x → ⊥) → Covers runs notes → Covers (with_run (covered_run x) runs) (reduced_with x notes)
Covers-with x runs notes r new c at =
    let w = LiesIn-with_run (covered_run x) runs at in
    let k = c at in
    let l = LiesInNote-reduced_with x notes at r new in (
      λ h. l.1 (elim (w.0 h) [ inl q ↦ inl (record { from = q.from; before = q.before }) | inr q ↦ inr (k.0 q) ]),
      λ h. w.1 (elim (l.0 h) [ inl s ↦ inl (record { from = s.from; before = s.before }) | inr s ↦ inr (k.1 s) ]),
    )

-- what lies in the run of a note with others that it touches, lies in the note or in one of them
in_spanned : (r : Run) (ms : List NoteParts) (at : ℕ)
    → ((n : NoteParts) → In n ms → (n.offset ≤ r.end) × (r.start ≤ end_of n))
    → IsWithin (spanned r (map run_of ms)) at ↔ (IsWithin r at ⊎ LiesInSpan ms at)
in_spanned r [] at t = (inl, λ h. elim h [ inl k ↦ k | inr k ↦ absurd k.1 ])
in_spanned r (m ∷ ms) at t =
    let first = t m (inl refl) in
    let two = in_both r (run_of m) at first.0 first.1 in
    let ih = in_spanned (both r (run_of m)) ms at (λ n h.
    let s = t n (inr h) in
    let a : n.offset ≤ r.end = s.0 in
    let b : r.start ≤ end_of n = s.1 in (omega arith, omega arith)) in (
      λ h. elim (ih.0 h) [
        | inl k ↦ elim (two.0 k) [ inl l ↦ inl l | inr l ↦ inr (m, inl refl, in_span m at l) ]
        | inr k ↦ inr (k.0, inr k.1, k.2)
      ],
      λ h. ih.1 (elim h [
        | inl k ↦ inl (two.1 (inl k))
        | inr k ↦ elim k.1 [
          | inl e ↦ inl (two.1 (inr (in_run m at (subst (λ n. IsInSpan n at) e k.2))))
          | inr i ↦ inr (k.0, i, k.2)
        ]
      ]),
    )

-- the run of a note with others is one
pub spanned-IsRun : (r : Run) (ms : List NoteParts) → IsRun r → ((n : NoteParts) → In n ms → end_of n ≤ greatest_end)
    → IsRun (spanned r (map run_of ms))
spanned-IsRun r [] is w = is
spanned-IsRun r (m ∷ ms) is w =
    let a : r.start < r.end = is.order in
    let b : r.end ≤ greatest_end = is.within in
    let c : end_of m ≤ greatest_end = w m (inl refl) in
    spanned-IsRun (both r (run_of m)) ms (record { order = omega arith; within = omega arith }) (λ n h. w n (inr h))

pub run_of-IsRun : (n : NoteParts) → IsNote n → IsRun (run_of n)
run_of-IsRun n is = record { order = omega arith; within = is.within }

-- the runs of a cover, with the span of one more note and of others that it touches
pub Spans-with_all : (x : NoteParts) (ms : List NoteParts) (runs : List Run) (old new : List NoteParts)
    → Spans runs old → ((n : NoteParts) → In n ms → SharesByte x n)
    → ((n : NoteParts) → In n new ↔ ((n ≡ x) ⊎ (In n old ⊎ In n ms)))
    → Spans (with_run (spanned (run_of x) (map run_of ms)) runs) new
Spans-with_all x ms runs old new c touch same at =
    let w = LiesIn-with_run (spanned (run_of x) (map run_of ms)) runs at in
    let k = c at in
    let all = in_spanned (run_of x) ms at (λ n h.
    let s = touch n h in
    let a : x.offset ≤ s.0 = s.1.from in
    let b : s.0 + 1 ≤ end_of x = s.1.before in
    let d : n.offset ≤ s.0 = s.2.from in
    let e : s.0 + 1 ≤ end_of n = s.2.before in (omega arith, omega arith)) in (
      λ h. elim (w.0 h) [
        | inl r ↦ elim (all.0 r) [
          | inl q ↦ (x, (same x).1 (inl refl), in_span x at q)
          | inr s ↦ (s.0, (same s.0).1 (inr (inr s.1)), s.2)
        ]
        | inr r ↦ let s = k.0 r in (s.0, (same s.0).1 (inr (inl s.1)), s.2)
      ],
      λ h. w.1 (elim ((same h.0).0 h.1) [
        | inl e ↦ inl (all.1 (inl (in_run x at (subst (λ n. IsInSpan n at) e h.2))))
        | inr i ↦ elim i [ inl j ↦ inr (k.1 (h.0, j, h.2)) | inr j ↦ inl (all.1 (inr (h.0, j, h.2))) ]
      ]),
    )

-- where a cover of notes meets the span of a note, the note shares a byte with one of them
pub met_note : (x : NoteParts) (runs : List Run) (notes : List NoteParts) → Spans runs notes
    → ((at : ℕ) × LiesIn runs at × (x.offset ≤ at) × (at + 1 ≤ end_of x))
    ↔ ((n : NoteParts) × In n notes × SharesByte x n)
met_note x runs notes c = (
  λ h. let s = (c h.0).0 h.1 in (s.0, s.1, (h.0, record { from = h.2; before = h.3 }, s.2)),
  λ h. let s = h.2 in (s.0, (c s.0).1 (h.0, h.1, s.2), s.1.from, s.1.before),
)
