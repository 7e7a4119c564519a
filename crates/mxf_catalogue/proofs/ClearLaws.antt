-- Which notes are clear: once a note is added, in two contents, and of packets that are laid one after another.
use Rattle.std.proofs.Common.{Bool, Less, List, [], ap, arith, count_by, false, filter, inl, inr, length, lt-ltb}
use Rattle.std.proofs.Common.{not, refl, subst, sym, true, ℕ, ◌++◌, ◌+◌, ◌<◌, ◌↔◌, ◌∙◌, ◌∷◌, ◌≡◌, ◌≢◌, ◌≤◌, ◌⊎◌}
use Rattle.std.proofs.lemmas.Bool.{and_from, cases_lt}
use Rattle.mxf_catalogue.proofs.ContentLaws.{In-union_of, IsContent-union_of}
use Rattle.mxf_catalogue.proofs.DisputeLaws.{In-clear_notes, IsContent-clear_notes, IsContent-filter, clear-apart}
use Rattle.mxf_catalogue.proofs.DisputeLaws.{is_byte_shared-SharesByte, is_disputed-IsDisputed}
use Rattle.mxf_catalogue.proofs.HeadLaws.{In-reduced_with, IsContent-reduced_union, has-reduced_union, same_note}
use Rattle.mxf_catalogue.proofs.MergeLaws.{length-union_of}
use Rattle.mxf_catalogue.proofs.PartLaws.{with_whole}
use Rattle.mxf_catalogue.proofs.SpanLaws.{less_by_offset, not_same}
use Rattle.mxf_catalogue.specs.Content.{AreReduced, IsContent, has_note, reduced_union, reduced_with, union_of}
use Rattle.mxf_catalogue.specs.Disputes.{IsClear, IsDisputed, SharesByte, clear_notes, is_disputed, is_same_note}
use Rattle.mxf_klv.proofs.Counts.{count_by-cons, tally}
use Rattle.mxf_klv.proofs.HeadOrder.{same_note-Decides}
use Rattle.mxf_klv.proofs.Lists.{In-append, In-filter, all-In, all_from_In, filter_all}
use Rattle.mxf_klv.specs.Note.{end_of, head_note, note_cmp, note_of}
use Rattle.mxf_klv.specs.NoteOrder.{note_total}
use Rattle.mxf_klv.specs.Packet.{size_of}
use Rattle.mxf_klv.specs.Parts.{NoteParts, PacketParts}
use Rattle.mxf_klv.specs.Piece.{notes_from}
use Rattle.mxf_klv.specs.Rising.{In, less_in}

-- clear notes that share a byte are one
pub clear_same : (notes : List NoteParts) (m n : NoteParts) → IsClear m notes → IsClear n notes → SharesByte m n → m ≡ n
clear_same notes m n c d s =
    elim (is_same_note m n) as (λ b. is_same_note m n ≡ b → m ≡ n) [
      | true ↦ λ t. (same_note-Decides m n).0 t
      | false ↦ λ t. absurd (clear-apart m n notes c d.held (λ e. let u = (same_note-Decides m n).1 e in cc (t, u)) s)
    ] refl

pub shares : (m n : NoteParts) → m.offset < end_of n → n.offset < end_of m → SharesByte m n
shares m n l h = (is_byte_shared-SharesByte m n).0 (and_from _ _ (lt-ltb m.offset (end_of n) l) (lt-ltb n.offset
    (end_of m) h))

pub shared_low : (m n : NoteParts) → SharesByte m n → m.offset < end_of n
shared_low m n s = let a : m.offset ≤ s.0 = s.1.from in let b : s.0 + 1 ≤ end_of n = s.2.before in omega arith

-- The note is neither one of the reduced notes nor the head of one.
abbrev pub IsNew : NoteParts → List NoteParts → Type 0
IsNew x notes = AreReduced notes × (has_note notes x → ⊥)

pub new_is_none : (x n : NoteParts) (notes : List NoteParts) → IsNew x notes → In n notes → x ≢ n
new_is_none x n notes new h e = new.1 (inl (subst (λ (y : NoteParts). In y notes) (sym e) h))

pub In-with_new : (x m : NoteParts) (notes : List NoteParts) → IsNew x notes
    → In m (reduced_with x notes) ↔ ((m ≡ x) ⊎ (In m notes × (m ≢ head_note x)))
In-with_new x m notes new = In-reduced_with m x notes new.0 new.1

-- A whole note is no head.
pub no_head : (x n : NoteParts) → n.whole ≡ true → n ≢ head_note x
no_head x n w e = let h : n.whole ≡ false = ap (λ (y : NoteParts). y.whole) e in cc (w, h)

-- Clear with a new note are: the note itself, where it is, and what was clear and shares no byte with it.
pub clear_after : (x : NoteParts) (notes : List NoteParts) → IsNew x notes → (n : NoteParts)
    → IsClear n (reduced_with x notes)
    ↔ (((n ≡ x) × IsClear x (reduced_with x notes)) ⊎ (IsClear n notes × (SharesByte x n → ⊥)))
clear_after x notes new n =
    let all = λ (m : NoteParts). In-with_new x m notes new in
    let added = (all x).1 (inl refl) in (
      λ c. elim ((all n).0 c.held) [
        | inl e ↦ inl (e, subst (λ (y : NoteParts). IsClear y (reduced_with x notes)) e c)
        | inr k ↦ (
            let other = new_is_none x n notes new k.0 in
            inr (
              record {
                held = k.0;
                whole = c.whole;
                undisputed = λ d. elim (same_note d.0 (head_note x)) [
                  | inl e ↦ c.undisputed (
                    x,
                    added,
                    other,
                    with_whole x n (subst (λ (y : NoteParts). SharesByte y n) e d.3),
                  )
                  | inr ne ↦ c.undisputed (d.0, (all d.0).1 (inr (d.1, ne)), d.2, d.3)
                ];
              },
              λ s. c.undisputed (x, added, other, s),
            ))
      ],
      λ h. elim h [
        | inl p ↦ subst (λ (y : NoteParts). IsClear y (reduced_with x notes)) (sym p.0) p.1
        | inr q ↦ record {
          held = (all n).1 (inr (q.0.held, no_head x n q.0.whole));
          whole = q.0.whole;
          undisputed = λ d. elim ((all d.0).0 d.1) [
            | inl e ↦ q.1 (subst (λ (y : NoteParts). SharesByte y n) e d.3)
            | inr k ↦ q.0.undisputed (d.0, k.0, d.2, d.3)
          ];
        }
      ],
    )

-- Two clear notes of which one begins below the other's end, but isn't the other, stand one behind the other.
pub ordered : (notes : List NoteParts) (m n : NoteParts) → IsClear m notes → IsClear n notes → (m ≡ n → ⊥)
    → m.offset < end_of n → end_of m ≤ n.offset
ordered notes m n c d ne l = grind (arith, cases_lt, clear_same, shares)

-- A content that has no notes but those of another is no longer.
pub sub_length : (xs ys : List NoteParts) → IsContent xs → IsContent ys → ((n : NoteParts) → In n xs → In n ys)
    → length xs ≤ length ys
sub_length [] ys r s f = omega arith
sub_length (x ∷ xs) [] r s f = absurd (f x (inl refl))
sub_length (x ∷ xs) (y ∷ ys) r s f =
    elim (f x (inl refl)) [
      | inl e ↦ (
          let ih = sub_length xs ys r.1 s.1 (λ z h. elim (f z (inr h)) [
            | inl q ↦ absurd (not_same x z (less_in note_total x z xs r.0 h) (e ∙ sym q))
            | inr k ↦ k
          ]) in omega (arith, ih))
      | inr h ↦ (
          let below = less_in note_total y x ys s.0 h in
          let ih = sub_length (x ∷ xs) ys r s.1 (λ z k. elim k [
            | inl q ↦ subst (λ w. In w ys) (sym q) h
            | inr i ↦ elim (f z (inr i)) [
              | inl q ↦ absurd (not_same y z (note_total.trans y x z below (less_in note_total x z xs r.0 i)) (sym q))
              | inr m ↦ m
            ]
          ]) in omega (arith, ih))
    ]

-- A clear note of the union is a clear note of one of both.
pub clear_in_union : (a b : List NoteParts) (n : NoteParts) → IsClear n (union_of a b) → IsClear n a ⊎ IsClear n b
clear_in_union a b n c =
    let all = λ (m : NoteParts). In-union_of m a b in
    elim ((all n).0 c.held) [
      | inl h ↦ inl (record {
        held = h;
        whole = c.whole;
        undisputed = λ d. c.undisputed (d.0, (all d.0).1 (inl d.1), d.2, d.3);
      })
      | inr h ↦ inr (record {
        held = h;
        whole = c.whole;
        undisputed = λ d. c.undisputed (d.0, (all d.0).1 (inr d.1), d.2, d.3);
      })
    ]

-- A whole note that notes have is one of them.
pub held_whole : (notes : List NoteParts) (n : NoteParts) → n.whole ≡ true → has_note notes n → In n notes
held_whole notes n w (inl h) = h
held_whole notes n w (inr s) = absurd (no_head s.0 n w (sym s.2))

-- A note that is clear among all is clear among some that all have.
pub clear_among_some : (some all : List NoteParts) (n : NoteParts) → AreReduced some
    → ((m : NoteParts) → In m some → has_note all m) → IsClear n all → In n some → IsClear n some
clear_among_some some all n r has c h = grind (arith, same_note, with_whole)

-- So is one of their reduced union.
pub clear_in_one : (a b : List NoteParts) (n : NoteParts) → AreReduced a → AreReduced b
    → IsClear n (reduced_union a b) → IsClear n a ⊎ IsClear n b
clear_in_one a b n p q c =
    let has = λ (m : NoteParts). has-reduced_union m a b in
    let all = reduced_union a b in
    elim ((has n).0 (inl c.held)) [
      | inl h ↦ inl (clear_among_some a all n p (λ m k. (has m).1 (inl (inl k))) c (held_whole a n c.whole h))
      | inr h ↦ inr (clear_among_some b all n q (λ m k. (has m).1 (inr (inl k))) c (held_whole b n c.whole h))
    ]

pub count_is_length : (test : NoteParts → Bool) (ns : List NoteParts) → count_by test ns ≡ length (filter test ns)
count_is_length test [] = refl
count_is_length test (n ∷ ns) = grind (arith, count_by, tally, count_by-cons, count_is_length test ns)

-- So there are no more of them in the union than in both.
pub count_in_union : (test : NoteParts → Bool) (a b : List NoteParts) → IsContent a → IsContent b → AreReduced a
    → AreReduced b → count_by test (clear_notes (reduced_union a b)) ≤ count_by test (clear_notes a) + count_by test
    (clear_notes b)
count_in_union test a b r s p q =
    let xs = filter test (clear_notes a) in
    let ys = filter test (clear_notes b) in
    let all = filter test (clear_notes (reduced_union a b)) in
    let u = IsContent-reduced_union a b r in
    let rising = IsContent-filter test (clear_notes (reduced_union a b)) (IsContent-clear_notes
    (reduced_union a b) u) in
    let rx = IsContent-filter test (clear_notes a) (IsContent-clear_notes a r) in
    let sub = sub_length all (union_of xs ys) rising (IsContent-union_of xs ys rx) (λ n h.
    let f = (In-filter test (clear_notes (reduced_union a b)) n).0 h in
    (In-union_of n xs ys).1 (elim (clear_in_one a b n p q ((In-clear_notes n (reduced_union a b)).0 f.0)) [
      | inl c ↦ inl ((In-filter test (clear_notes a) n).1 ((In-clear_notes n a).1 c, f.1))
      | inr c ↦ inr ((In-filter test (clear_notes b) n).1 ((In-clear_notes n b).1 c, f.1))
    ])) in
    let both = length-union_of xs ys in
    let ca = count_is_length test (clear_notes a) in
    let cb = count_is_length test (clear_notes b) in
    let cu = count_is_length test (clear_notes (reduced_union a b)) in
    omega (arith, sub, both, ca, cb, cu)

pub end_of-note_of : (offset : ℕ) (p : PacketParts) → end_of (note_of offset p) ≡ offset + size_of p
end_of-note_of offset p = omega arith

-- Each note of the file begins at or after the offset.
pub after : (at : ℕ) (l : List PacketParts) (n : NoteParts) → In n (notes_from at l) → at ≤ n.offset
after at [] n h = absurd h
after at (p ∷ ps) n (inl e) = let f : n.offset ≡ at = ap (λ (m : NoteParts). m.offset) e in omega arith
after at (p ∷ ps) n (inr h) = let f : at + size_of p ≤ n.offset = after (at + size_of p) ps n h in omega arith

-- Two notes of the file share no byte.
pub apart : (at : ℕ) (l : List PacketParts) (m n : NoteParts) → In m (notes_from at l) → In n (notes_from at l)
    → SharesByte m n → m ≡ n
apart at [] m n h k s = absurd h
apart at (p ∷ ps) m n (inl e) (inl f) s = e ∙ sym f
apart at (p ∷ ps) m n (inl e) (inr k) s =
    let x : end_of m ≡ end_of (note_of at p) = ap end_of e in
    let y : at + size_of p ≤ n.offset = after (at + size_of p) ps n k in
    let a : s.0 + 1 ≤ end_of m = s.1.before in let b : n.offset ≤ s.0 = s.2.from in absurd (omega arith)
apart at (p ∷ ps) m n (inr h) (inl f) s =
    let x : end_of n ≡ end_of (note_of at p) = ap end_of f in
    let y : at + size_of p ≤ m.offset = after (at + size_of p) ps m h in
    let a : s.0 + 1 ≤ end_of n = s.2.before in let b : m.offset ≤ s.0 = s.1.from in absurd (omega arith)
apart at (p ∷ ps) m n (inr h) (inr k) s = apart (at + size_of p) ps m n h k s

pub no_dispute : (at : ℕ) (l : List PacketParts) (n : NoteParts) → In n (notes_from at l)
    → IsDisputed n (notes_from at l) → ⊥
no_dispute at l n k d = d.2 (apart at l d.0 n d.1 k d.3)

-- Each note of the file is of a packet that was read whole.
pub is_whole : (at : ℕ) (l : List PacketParts) (n : NoteParts) → In n (notes_from at l) → n.whole ≡ true
is_whole at [] n h = absurd h
is_whole at (p ∷ ps) n (inl e) = ap (λ (m : NoteParts). m.whole) e
is_whole at (p ∷ ps) n (inr h) = is_whole (at + size_of p) ps n h

pub not_disputed : (at : ℕ) (l : List PacketParts) (n : NoteParts) → In n (notes_from at l)
    → not (is_disputed n (notes_from at l)) ≡ true
not_disputed at l n h = grind (arith, is_disputed-IsDisputed, no_dispute)

pub clear-laid : (at : ℕ) (l : List PacketParts) → clear_notes (notes_from at l) ≡ notes_from at l
clear-laid at l = grind (arith, filter_all, not_disputed, is_whole)

pub contents_append : (xs ys : List NoteParts) → IsContent xs → IsContent ys
    → ((m n : NoteParts) → In m xs → In n ys → m.offset < n.offset) → IsContent (xs ++ ys)
contents_append [] ys r s f = s
contents_append (x ∷ xs) ys r s f = (
  all_from_In (λ y. note_cmp x y ≡ Less) (xs ++ ys) (λ y h. elim ((In-append y xs ys).0 h) [
    | inl k ↦ all-In (λ z. note_cmp x z ≡ Less) xs y r.0 k
    | inr k ↦ less_by_offset x y (f x y (inl refl) k)
  ]),
  contents_append xs ys r.1 s (λ m n h k. f m n (inr h) k),
)
