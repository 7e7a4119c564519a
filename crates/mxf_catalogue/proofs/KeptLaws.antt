-- What a catalogue keeps, once a note is there.
use Rattle.mxf_klv.proofs.Common.{max, ◌∙◌, arith, ap, sym, subst, inl, inr, refl, NoteParts, Less, Greater, lt-ltb}
use Rattle.mxf_klv.proofs.Common.{IsInSpan, IsNote, end_of, head_note, note_cmp, note_total, In}
use Rattle.std.specs.Prelude.{◌≡◌, ◌↔◌, ℕ, ◌+◌, ◌-◌, ◌<◌, ◌≤◌, List, [], ◌∷◌, ◌++◌, map}
use Rattle.mxf_catalogue.specs.declared.run.Run.{Run}
use Rattle.mxf_catalogue.specs.Content.{AreReduced, IsCatalogue, has_note, reduced_with, union_of, with_note}
use Rattle.mxf_catalogue.specs.Covers.{IsRun, spanned, with_run}
use Rattle.mxf_catalogue.specs.Disputes.{SharesByte, whole_notes}
use Rattle.mxf_catalogue.specs.NoteLists.{AreNoteLists, Covers, AreKeptLists, AreCatalogueFields, Spans, away_from}
use Rattle.mxf_catalogue.specs.NoteLists.{covered_run, disputed_with, moved_by, run_of, touching}
use Rattle.mxf_catalogue.specs.Runs.{LiesIn}
use Rattle.mxf_catalogue.proofs.ContentLaws.{In-union_of, IsCatalogue-union_of}
use Rattle.mxf_catalogue.proofs.CoverLaws.{IsCover-with_run}
use Rattle.mxf_catalogue.proofs.PartLaws.{In-disputed_with, In-touching, parts_with_clear, parts_with_disputed}
use Rattle.mxf_catalogue.proofs.PartLaws.{some_member, view_with_clear, view_with_disputed, parts_swap_clear}
use Rattle.mxf_catalogue.proofs.PartLaws.{moved_part, no_members, parts_swap_disputed, view_swap_clear}
use Rattle.mxf_catalogue.proofs.PartLaws.{view_swap_disputed}
use Rattle.mxf_catalogue.proofs.HeadLaws.{AreReduced-reduced, AreReduced-with_note, In-reduced_with, AreReduced-part}
use Rattle.mxf_catalogue.proofs.HeadLaws.{same_note}
use Rattle.mxf_catalogue.proofs.SpanCovers.{Covers-with, Spans-with_all, met_note, run_of-IsRun, spanned-IsRun}
use Rattle.mxf_klv.proofs.Lists.{all-In}

-- nothing is kept
pub whole_none : AreCatalogueFields [] [] [] []
whole_none = grind arith

-- the notes of both parts
pub union_is : (c d : List NoteParts) → AreNoteLists c d → IsCatalogue (union_of c d)
union_is c d p = IsCatalogue-union_of c d p.undisputed_is p.disputed_is

-- a clear note is put
pub kept_with_clear : (x : NoteParts) (c d : List NoteParts) (few : List Run) → IsNote x → AreKeptLists c d few
    → (has_note (union_of c d) x → ⊥) → (In (head_note x) (union_of c d) → ⊥)
    → ((n : NoteParts) → In n (union_of c d) → SharesByte x n → ⊥) → AreKeptLists (with_note x c) d few
kept_with_clear x c d few is k new alone far = record {
  parts = parts_with_clear x c d is k.parts (λ n h. far n ((In-union_of n c d).1 h));
  reduced = subst AreReduced (sym (view_with_clear x c d k.parts))
      (AreReduced-with_note x (union_of c d) k.reduced new alone);
  cover = k.cover;
  covers = k.covers;
}

-- the run of a note with the clear notes that it touches
pub hull-IsRun : (x : NoteParts) (c d : List NoteParts) → IsNote x → AreNoteLists c d
    → IsRun (spanned (run_of x) (map run_of (touching x c)))
hull-IsRun x c d is p = spanned-IsRun (run_of x) (touching x c) (run_of-IsRun x is)
    (λ n h. (all-In IsNote c n p.undisputed_is.members ((In-touching x n c).0 h).0).within)

-- a disputed note is put, and moves the clear notes that it touches
pub kept_with_disputed : (x : NoteParts) (c d : List NoteParts) (few : List Run) → IsNote x → AreKeptLists c d few
    → (has_note (union_of c d) x → ⊥) → (In (head_note x) (union_of c d) → ⊥)
    → ((n : NoteParts) × In n (union_of c d) × SharesByte x n)
    → AreKeptLists (away_from x c) (disputed_with x c d) (with_run (spanned (run_of x) (map run_of (touching x c))) few)
kept_with_disputed x c d few is k new alone near = record {
  parts = parts_with_disputed x c d is k.parts (λ h. new (inl ((In-union_of x c d).1 h)))
      (near.0, (In-union_of near.0 c d).0 near.1, near.2);
  reduced = subst AreReduced (sym (view_with_disputed x c d k.parts))
      (AreReduced-with_note x (union_of c d) k.reduced new alone);
  cover = IsCover-with_run (spanned (run_of x) (map run_of (touching x c))) few (hull-IsRun x c d is k.parts) k.cover;
  covers = Spans-with_all x (touching x c) few d (disputed_with x c d) k.covers (λ n h. ((In-touching x n c).0 h).1)
      (λ n.
      let t = In-disputed_with x n c d in
      let m = In-touching x n c in (
        λ h. elim (t.0 h) [ inl e ↦ inl e | inr i ↦ inr (elim i [ inl j ↦ inl j | inr j ↦ inr (m.1 j) ]) ],
        λ h. t.1 (elim h [ inl e ↦ inl e | inr i ↦ inr (elim i [ inl j ↦ inl j | inr j ↦ inr (m.0 j) ]) ]),
      ));
}

-- what all cover, with what a new note does
pub covers_with : (x : NoteParts) (c d all : List NoteParts) (runs : List Run) → AreReduced (union_of c d)
    → (has_note (union_of c d) x → ⊥) → Covers runs (union_of c d) → all ≡ reduced_with x (union_of c d)
    → Covers (with_run (covered_run x) runs) all
covers_with x c d all runs r new k e =
    subst (Covers (with_run (covered_run x) runs)) (sym e) (Covers-with x runs (union_of c d) r new k)

-- a note takes the place of its head
pub kept_swap_clear : (x : NoteParts) (c d : List NoteParts) (few : List Run) → IsNote x → AreKeptLists c d few
    → (has_note (union_of c d) x → ⊥) → In (head_note x) c → AreKeptLists (reduced_with x c) d few
kept_swap_clear x c d few is k new h = record {
  parts = parts_swap_clear x c d is k.parts k.reduced new h;
  reduced = subst AreReduced (sym (view_swap_clear x c d is k.parts k.reduced new h))
      (AreReduced-reduced (with_note x (union_of c d)));
  cover = k.cover;
  covers = k.covers;
}

pub kept_swap_disputed : (x : NoteParts) (c d : List NoteParts) (few : List Run) → IsNote x → AreKeptLists c d few
    → (has_note (union_of c d) x → ⊥) → In (head_note x) d → AreKeptLists c (reduced_with x d) few
kept_swap_disputed x c d few is k new h =
    let own = AreReduced-part d (union_of c d) (λ n i. (In-union_of n c d).1 (inr i)) k.reduced in
    let new_d : has_note d x → ⊥ = λ i. new (elim i [
      | inl j ↦ inl ((In-union_of x c d).1 (inr j))
      | inr s ↦ inr (s.0, (In-union_of s.0 c d).1 (inr s.1), s.2)
    ]) in
    let there = λ (n : NoteParts). In-reduced_with n x d own new_d in
    record {
      parts = parts_swap_disputed x c d is k.parts k.reduced new h;
      reduced = subst AreReduced (sym (view_swap_disputed x c d is k.parts k.reduced new h))
          (AreReduced-reduced (with_note x (union_of c d)));
      cover = k.cover;
      covers = λ at. let o = k.covers at in (
        λ i.
            let s = o.0 i in
            elim (same_note s.0 (head_note x)) [
              | inl e ↦
                  let q = subst (λ n. IsInSpan n at) e s.2 in
                  (x, (there x).1 (inl refl), record { from = q.from; before = q.before })
              | inr ne ↦ (s.0, (there s.0).1 (inr (s.1, ne)), s.2)
            ],
        λ i. o.1 (elim ((there i.0).0 i.1) [
          | inl e ↦
              let q = subst (λ n. IsInSpan n at) e i.2 in
              (head_note x, h, record { from = q.from; before = q.before })
          | inr j ↦ (i.0, j.0, i.2)
        ]),
      );
    }

-- a note that touches no clear note, and meets no disputed span, shares no byte with any
pub far_from_all : (x : NoteParts) (c d : List NoteParts) (few : List Run) → AreNoteLists c d → Spans few d
    → touching x c ≡ [] → (((at : ℕ) × LiesIn few at × (x.offset ≤ at) × (at + 1 ≤ end_of x)) → ⊥)
    → (n : NoteParts) → In n (union_of c d) → SharesByte x n → ⊥
far_from_all x c d few p k none apart n h s =
    elim ((In-union_of n c d).0 h) [
      | inl i ↦ subst (In n) none ((In-touching x n c).1 (i, s))
      | inr i ↦ apart ((met_note x few d k).1 (n, i, s))
    ]

pub near_disputed : (x : NoteParts) (c d : List NoteParts) (few : List Run) → Spans few d
    → ((at : ℕ) × LiesIn few at × (x.offset ≤ at) × (at + 1 ≤ end_of x))
    → (n : NoteParts) × In n (union_of c d) × SharesByte x n
near_disputed x c d few k h = let m = (met_note x few d k).0 h in (m.0, (In-union_of m.0 c d).1 (inr m.1), m.2)

pub near_clear : (x : NoteParts) (c d : List NoteParts) → (touching x c ≡ [] → ⊥)
    → (n : NoteParts) × In n (union_of c d) × SharesByte x n
near_clear x c d some =
    let m = some_member (touching x c) some in
    let t = (In-touching x m.0 c).0 m.1 in (m.0, (In-union_of m.0 c d).1 (inl t.0), t.1)

-- the greatest end of both parts
pub end_of_parts : (c d : List NoteParts) (few : List Run) → AreKeptLists c d few → (one two bound : ℕ)
    → one ≤ bound ↔ ((n : NoteParts) → In n c → end_of n ≤ bound)
    → two ≤ bound ↔ ((offset : ℕ) → LiesIn few offset → offset < bound)
    → max one two ≤ bound ↔ ((n : NoteParts) → In n (union_of c d) → end_of n ≤ bound)
end_of_parts c d few k one two bound p q = (
  λ l n h. elim ((In-union_of n c d).0 h) [
    | inl i ↦ p.0 (omega (arith, l)) n i
    | inr i ↦
        let from : n.offset ≤ end_of n - 1 = omega arith in
        let before : end_of n - 1 + 1 ≤ end_of n = omega arith in
        let low : end_of n - 1 < bound =
        q.0 (omega (arith, l)) (end_of n - 1) ((k.covers (end_of n - 1)).1
        (n, i, record { from = from; before = before })) in
        omega (arith, low)
  ],
  λ f.
      let a : one ≤ bound = p.1 (λ n h. f n ((In-union_of n c d).1 (inl h))) in
      let b : two ≤ bound = q.1 (λ offset h.
      let s = (k.covers offset).0 h in
      let e : end_of s.0 ≤ bound = f s.0 ((In-union_of s.0 c d).1 (inr s.1)) in
      let w : offset + 1 ≤ end_of s.0 = s.2.before in omega (arith, e, w)) in
      omega (arith, a, b),
)

-- a note that begins where another has ended shares no byte with it
pub above_far : (x n : NoteParts) → end_of n ≤ x.offset → SharesByte x n → ⊥
above_far x n l s =
    let a : x.offset ≤ s.0 = s.1.from in let b : s.0 + 1 ≤ end_of n = s.2.before in omega (arith, l)

-- where all have ended, it is new, and so is its head
pub above_new : (x : NoteParts) (notes : List NoteParts) → ((n : NoteParts) → In n notes → end_of n ≤ x.offset)
    → has_note notes x → ⊥
above_new x notes above h = grind arith

pub above_alone : (x : NoteParts) (notes : List NoteParts) → ((n : NoteParts) → In n notes → end_of n ≤ x.offset)
    → In (head_note x) notes → ⊥
above_alone x notes above i = let l : end_of x ≤ x.offset = above (head_note x) i in omega (arith, l)

-- so it goes behind them
pub above_last : (x : NoteParts) (notes : List NoteParts) → ((n : NoteParts) → In n notes → end_of n ≤ x.offset)
    → notes ++ x ∷ [] ≡ with_note x notes
above_last x [] above = refl
above_last x (y ∷ ys) above =
    let l : end_of y ≤ x.offset = above y (inl refl) in
    let b : note_cmp y x ≡ Less = rw (lt-ltb y.offset x.offset (omega (arith, l))) refl in
    let e : note_cmp x y ≡ Greater = let a = note_total.antisymm x y in rw b at a in
    rw e (ap (λ t. y ∷ t) (above_last x ys (λ n h. above n (inr h))))

-- and it moves none
pub above_moves_none : (x : NoteParts) (c d : List NoteParts) → AreNoteLists c d → AreReduced (union_of c d)
    → ((n : NoteParts) → In n (union_of c d) → end_of n ≤ x.offset) → [] ≡ moved_by x (union_of c d)
above_moves_none x c d p red above =
    let none : touching x c ≡ [] = no_members (touching x c) (λ n h.
    let t = (In-touching x n c).0 h in above_far x n (above n ((In-union_of n c d).1 (inl t.0))) t.1) in
    sym (ap (λ l. map (λ (n : NoteParts). n.offset) (whole_notes l)) none)
    ∙ moved_part x c d p red (above_new x (union_of c d) above)
