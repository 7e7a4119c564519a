-- The tests of disputes say what the relations say.
use Rattle.mxf_klv.proofs.Common.{find, max, sym, ◌∙◌, ap, subst, inl, inr, arith, eqb-true, eq-eqb, and_from}
use Rattle.mxf_klv.proofs.Common.{and_parts, or_cases, or_left, or_right, ltb-true, lt-ltb, NoteParts, end_of, In}
use Rattle.std.specs.Prelude.{◌≡◌, ◌≢◌, ◌↔◌, ◌⊎◌, ◌+◌, ◌<◌, ◌≤◌, ℕ, Bool, true, false, not, nat_lt, ◌==◌, List, [], ◌∷◌}
use Rattle.std.specs.Prelude.{filter, map, Some, None, IsTrue, refl}
use Rattle.mxf_catalogue.specs.Content.{IsContent}
use Rattle.mxf_catalogue.specs.Disputes.{SharesByte, SharesOffset, Overlaps, IsDisputed, IsClear, DisputedParts}
use Rattle.mxf_catalogue.specs.Disputes.{IsDisputedOf, disputed_parts, clear_notes, disputed_notes, undisputed_notes}
use Rattle.mxf_catalogue.specs.Disputes.{is_same_note, is_byte_shared, is_offset_shared, is_overlapped, is_disputed}
use Rattle.mxf_klv.proofs.HeadOrder.{same_note-Decides}
use Rattle.mxf_klv.proofs.Lists.{list_any-In, In-filter, all-filter, In-map, find-none, find-only}
use Rattle.mxf_klv.proofs.Tests.{not_true, not-true-false, same_bool}

-- the test of shared bytes
pub is_byte_shared-SharesByte : (m n : NoteParts) → IsTrue (is_byte_shared m n) ↔ SharesByte m n
is_byte_shared-SharesByte m n = (
  λ h.
      let p = and_parts (nat_lt m.offset (end_of n)) (nat_lt n.offset (end_of m)) h in
      let a : m.offset < end_of n = ltb-true _ _ p.0 in
      let b : n.offset < end_of m = ltb-true _ _ p.1 in (
        max m.offset n.offset,
        record { from = omega arith; before = omega arith },
        record { from = omega arith; before = omega arith },
      ),
  λ s.
      let i : s.0 + 1 ≤ end_of m = s.1.before in let j : m.offset ≤ s.0 = s.1.from in
      let k : s.0 + 1 ≤ end_of n = s.2.before in let l : n.offset ≤ s.0 = s.2.from in
      and_from _ _ (lt-ltb m.offset (end_of n) (omega arith)) (lt-ltb n.offset (end_of m) (omega arith)),
)

-- spans are never empty: notes at one offset share its byte
pub SharesByte-same_offset : (m n : NoteParts) → m.offset ≡ n.offset → SharesByte m n
SharesByte-same_offset m n e = grind arith

pub SharesByte-symmetric : (m n : NoteParts) → SharesByte m n → SharesByte n m
SharesByte-symmetric m n s = (s.0, s.2, s.1)

-- the test of shared offsets
pub is_offset_shared-SharesOffset : (n : NoteParts) (notes : List NoteParts)
    → IsTrue (is_offset_shared n notes) ↔ SharesOffset n notes
is_offset_shared-SharesOffset n notes =
    grind (arith, and_from, and_parts, eq-eqb, eqb-true, list_any-In, not-true-false, not_true, same_note-Decides)

-- the test of overlaps
pub is_overlapped-Overlaps : (n : NoteParts) (notes : List NoteParts)
    → IsTrue (is_overlapped n notes) ↔ Overlaps n notes
is_overlapped-Overlaps n notes =
    grind (
      arith,
      and_from,
      and_parts,
      eq-eqb,
      eqb-true,
      is_byte_shared-SharesByte,
      list_any-In,
      not-true-false,
      not_true,
    )

-- a note is disputed exactly where another has its offset, or one with a different offset shares a byte with it
pub IsDisputed-two_ways : (n : NoteParts) (notes : List NoteParts)
    → IsDisputed n notes ↔ SharesOffset n notes ⊎ Overlaps n notes
IsDisputed-two_ways n notes = (
  λ d. elim (d.0.offset == n.offset) as (λ b. (d.0.offset == n.offset) ≡ b → SharesOffset n notes ⊎ Overlaps n notes) [
    | true ↦ λ e. inl (d.0, d.1, d.2, eqb-true _ _ e)
    | false ↦ λ e. inr (d.0, d.1, (λ same. let t = eq-eqb _ _ same in cc (t, e)), d.3)
  ] refl,
  λ h. elim h [
    | inl s ↦ (s.0, s.1, s.2, SharesByte-same_offset s.0 n s.3)
    | inr o ↦ (o.0, o.1, (λ e. o.2 (ap (λ m. m.offset) e)), o.3)
  ],
)

-- the test of disputes
pub is_disputed-IsDisputed : (n : NoteParts) (notes : List NoteParts)
    → IsTrue (is_disputed n notes) ↔ IsDisputed n notes
is_disputed-IsDisputed n notes =
    grind (
      arith,
      IsDisputed-two_ways,
      is_offset_shared-SharesOffset,
      is_overlapped-Overlaps,
      or_cases,
      or_left,
      or_right,
    )

-- the undisputed notes are those that no other shares a byte with
pub In-undisputed_notes : (n : NoteParts) (notes : List NoteParts)
    → In n (undisputed_notes notes) ↔ (In n notes × (IsDisputed n notes → ⊥))
In-undisputed_notes n notes =
    grind (
      arith,
      In-filter (λ m. not (is_disputed m notes)) notes n,
      is_disputed-IsDisputed n notes,
      not-true-false (is_disputed n notes),
      is_disputed n notes,
      not_true (is_disputed n notes),
    )

-- the clear notes are those that are clear
pub In-clear_notes : (n : NoteParts) (notes : List NoteParts) → In n (clear_notes notes) ↔ IsClear n notes
In-clear_notes n notes =
    grind (
      arith,
      In-filter (λ m. m.whole) (undisputed_notes notes) n,
      undisputed_notes notes,
      In-undisputed_notes n notes,
    )

-- some of a content's notes are a content
pub IsContent-filter : (p : NoteParts → Bool) (notes : List NoteParts) → IsContent notes → IsContent (filter p notes)
IsContent-filter p [] r = tt
IsContent-filter p (x ∷ xs) r = grind (arith, all-filter, IsContent-filter p xs r.1)

-- the clear notes and the disputed notes rise
pub IsContent-clear_notes : (notes : List NoteParts) → IsContent notes → IsContent (clear_notes notes)
IsContent-clear_notes notes r = grind (arith, IsContent-filter)

marks : (f : NoteParts → DisputedParts) → ((n : NoteParts) → (f n).note ≡ n) → (notes : List NoteParts)
    → map (λ d. d.note) (map f notes) ≡ notes
marks f e [] = refl
marks f e (x ∷ xs) = λ i. e x i ∷ marks f e xs i

-- the disputed notes, without their marks, are a part of the notes in their order
pub notes-disputed_notes : (notes : List NoteParts)
    → map (λ d. d.note) (disputed_notes notes) ≡ filter (λ n. is_disputed n notes) notes
notes-disputed_notes notes = grind (arith, marks)

pub IsContent-disputed_notes : (notes : List NoteParts) → IsContent notes
    → IsContent (map (λ d. d.note) (disputed_notes notes))
IsContent-disputed_notes notes r = grind (arith, IsContent-filter, notes-disputed_notes)

-- the disputed notes are those that are disputed, with their marks
pub In-disputed_notes : (d : DisputedParts) (notes : List NoteParts)
    → In d (disputed_notes notes) ↔ IsDisputedOf d notes
In-disputed_notes d notes =
    let some = filter (λ n. is_disputed n notes) notes in
    let m = In-map (λ n. disputed_parts n notes) some d in (
      λ h.
          let s = m.0 h in
          let f = (In-filter (λ n. is_disputed n notes) notes s.0).0 s.1 in
          let P : DisputedParts → Type 0 = λ e. IsDisputedOf e notes in
          subst P (sym s.2) (record {
            held = f.0;
            disputed = (is_disputed-IsDisputed s.0 notes).0 f.1;
            same_offset = is_offset_shared-SharesOffset s.0 notes;
            overlaps = is_overlapped-Overlaps s.0 notes;
          }),
      λ k.
          let n = d.note in
          let s = is_offset_shared-SharesOffset n notes in
          let o = is_overlapped-Overlaps n notes in
          let a : d.same_offset ≡ is_offset_shared n notes =
          same_bool _ _ (λ t. s.1 (k.same_offset.0 t)) (λ t. k.same_offset.1 (s.0 t)) in
          let b : d.overlaps ≡ is_overlapped n notes =
          same_bool _ _ (λ t. o.1 (k.overlaps.0 t)) (λ t. k.overlaps.1 (o.0 t)) in
          let held = (In-filter (λ x. is_disputed x notes) notes n).1
          (k.held, (is_disputed-IsDisputed n notes).1 k.disputed) in
          m.1 (n, held, λ i. record { note = n; same_offset = a i; overlaps = b i }),
    )

-- a note of a whole packet is clear or disputed
pub clear_or_disputed : (n : NoteParts) (notes : List NoteParts) → In n notes → IsTrue n.whole
    → IsClear n notes ⊎ IsDisputed n notes
clear_or_disputed n notes h whole = grind (arith, is_disputed-IsDisputed n notes, is_disputed n notes)

-- a clear note shares no byte with another note
pub clear-apart : (m n : NoteParts) (notes : List NoteParts) → IsClear m notes → In n notes → m ≢ n → SharesByte m n → ⊥
clear-apart m n notes c h ne s = c.undisputed (n, h, (λ e. ne (sym e)), SharesByte-symmetric m n s)

-- a clear note is the only note with its offset
pub clear-alone : (m n : NoteParts) (notes : List NoteParts) → IsClear m notes → In n notes → m.offset ≡ n.offset
    → m ≡ n
clear-alone m n notes c h e =
    grind (arith, is_same_note m n, same_note-Decides m n, clear-apart m n notes c h, SharesByte-same_offset m n e)

-- an undisputed note is the only note with its offset
undisputed-alone : (m n : NoteParts) (notes : List NoteParts) → In m (undisputed_notes notes) → In n notes
    → m.offset ≡ n.offset → m ≡ n
undisputed-alone m n notes h k e =
    grind (
      arith,
      In-undisputed_notes m notes,
      is_same_note m n,
      same_note-Decides m n,
      SharesByte-same_offset n m (sym e),
    )

-- an undisputed note with an offset is the first with it among the undisputed notes
pub undisputed_at-found : (offset : ℕ) (notes : List NoteParts) (n : NoteParts) → In n (undisputed_notes notes)
    → n.offset ≡ offset → find (λ n. n.offset == offset) (undisputed_notes notes) ≡ Some n
undisputed_at-found offset notes n h at = find-only (λ (m : NoteParts). m.offset == offset) (undisputed_notes notes) n h
    (eq-eqb _ _ at) (λ m k t.
    undisputed-alone m n notes k ((In-undisputed_notes n notes).0 h).0 (eqb-true _ _ t ∙ sym at))

pub undisputed_at-lacked : (offset : ℕ) (notes : List NoteParts)
    → ((n : NoteParts) → In n (undisputed_notes notes) → n.offset ≢ offset)
    → find (λ n. n.offset == offset) (undisputed_notes notes) ≡ None
undisputed_at-lacked offset notes none = search (arith, eqb-true, find-none)

-- a clear note with an offset is the first with it among the clear notes
pub clear_at-found : (offset : ℕ) (notes : List NoteParts) (n : NoteParts) → IsClear n notes → n.offset ≡ offset
    → find (λ n. n.offset == offset) (clear_notes notes) ≡ Some n
clear_at-found offset notes n clear at = grind (arith, In-clear_notes, clear-alone, eq-eqb, eqb-true, find-only)

pub clear_at-lacked : (offset : ℕ) (notes : List NoteParts) → ((n : NoteParts) → IsClear n notes → n.offset ≢ offset)
    → find (λ n. n.offset == offset) (clear_notes notes) ≡ None
clear_at-lacked offset notes none = find-none (λ (m : NoteParts). m.offset == offset) (clear_notes notes)
    (λ n h t. none n ((In-clear_notes n notes).0 h) (eqb-true _ _ t))
