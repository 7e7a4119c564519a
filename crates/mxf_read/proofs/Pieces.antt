-- How the notes of a piece stand: those of its packets, and the head of the packet that its end cuts.
use Rattle.mxf_views.proofs.Common.{◌≡◌, ◌≢◌, ◌⊎◌, ℕ, zero, suc, ◌+◌, ◌<◌, ◌≤◌, List, [], ◌∷◌, ◌++◌, length, take, refl}
use Rattle.mxf_views.proofs.Common.{sym, ap, subst, ◌∙◌, arith, inl, inr, append-nil, slice_get, IsSomeAnd}
use Rattle.mxf_views.proofs.Common.{AllByRecursion, take_all, Less, NoteParts, PacketParts, head_parts, size_of}
use Rattle.mxf_views.proofs.Common.{note_cmp, BeginsWithCut, end_after, notes_from, IsOpen, head_at, heads_at, notes_in}
use Rattle.mxf_views.proofs.Common.{packets_in, rest_in, stop_in, stop_of, In, AreReduced, IsContent, reduced_union}
use Rattle.mxf_views.proofs.Common.{AreApart, reduced_union-none, AreApart-lower, less_by_offset}
use Rattle.mxf_klv.specs.PieceReading.{is_cut_at}
use Rattle.mxf_klv.proofs.CutHeads.{cut_stops, heads_at-stands}
use Rattle.mxf_catalogue.proofs.ApartLaws.{begins_above}

-- ---- notes that stand apart

apart_front : (low : ℕ) (xs ys : List NoteParts) → AreApart low (xs ++ ys) → AreApart low xs
apart_front low [] ys a = tt
apart_front low (x ∷ xs) ys a = (a.0, apart_front (x.offset + 16 + x.width + x.length) xs ys a.1)

apart_take : (n low : ℕ) (xs : List NoteParts) → AreApart low xs → AreApart low (take n xs)
apart_take n low [] a = subst (AreApart low) (sym (take_all n [] (omega arith))) tt
apart_take zero low (x ∷ xs) a = tt
apart_take (suc n) low (x ∷ xs) a = (a.0, apart_take n (x.offset + 16 + x.width + x.length) xs a.1)

-- no two of them have one offset
pub one_at : (low : ℕ) (ns : List NoteParts) (x y : NoteParts) → AreApart low ns → In x ns → In y ns → x.offset ≡ y.offset
    → y ≡ x
one_at low [] x y a h k e = absurd h
one_at low (n ∷ ns) x y a (inl p) (inl q) e = q ∙ sym p
one_at low (n ∷ ns) x y a (inl p) (inr k) e =
    let same = ap (λ (m : NoteParts). m.offset) p in
    let behind = begins_above (n.offset + 16 + n.width + n.length) ns y a.1 k in
    absurd (omega arith)
one_at low (n ∷ ns) x y a (inr h) (inl q) e =
    let same = ap (λ (m : NoteParts). m.offset) q in
    let behind = begins_above (n.offset + 16 + n.width + n.length) ns x a.1 h in
    absurd (omega arith)
one_at low (n ∷ ns) x y a (inr h) (inr k) e = one_at (n.offset + 16 + n.width + n.length) ns x y a.1 h k e

pub reduced_apart : (low : ℕ) (ns : List NoteParts) → AreApart low ns → AreReduced ns
reduced_apart low ns a x h (y, k, other, tells) =
    other (one_at low ns x y a h k (sym (ap (λ (m : NoteParts). m.offset) tells)))

all_behind : (low : ℕ) (m : NoteParts) (ns : List NoteParts) → AreApart low ns → m.offset < low
    → AllByRecursion (λ n. note_cmp m n ≡ Less) ns
all_behind low m [] a h = tt
all_behind low m (n ∷ ns) a h =
    let from = a.0 in
    (less_by_offset m n (omega arith), all_behind (n.offset + 16 + n.width + n.length) m ns a.1 (omega arith))

pub content_apart : (low : ℕ) (ns : List NoteParts) → AreApart low ns → IsContent ns
content_apart low [] a = tt
content_apart low (n ∷ ns) a =
    let end = n.offset + 16 + n.width + n.length in
    (all_behind end n ns a.1 (omega arith), content_apart end ns a.1)

-- they are the reduced content of their set
pub alone : (low : ℕ) (ns : List NoteParts) → AreApart low ns → reduced_union [] ns ≡ ns
alone low ns a = reduced_union-none ns (content_apart low ns a) (reduced_apart low ns a)

pub alone_front : (low : ℕ) (xs ys : List NoteParts) → AreApart low (xs ++ ys) → reduced_union [] xs ≡ xs
alone_front low xs ys a = alone low xs (apart_front low xs ys a)

-- ---- the head of a rest

one_or_none : (at : ℕ) (r : List ℕ) → (heads_at at r ≡ []) ⊎ ((n : NoteParts) × (heads_at at r ≡ n ∷ []))
unfolding heads_at
one_or_none at r = grind (arith, head_at, heads_at, is_cut_at, head_parts, take)

-- there is none, or one, of the packet at the front that is cut
pub heads_few : (at : ℕ) (r : List ℕ)
    → (heads_at at r ≡ []) ⊎ ((n : NoteParts) × (heads_at at r ≡ n ∷ []) × BeginsWithCut at r n)
heads_few at r = grind (arith, one_or_none, heads_at-stands)

pub head_begins : (at : ℕ) (r : List ℕ) (n : NoteParts) → BeginsWithCut at r n → n.offset ≡ at
head_begins at r n c = ap (λ (m : NoteParts). m.offset) c.head

-- none where the piece can't go on
pub no_heads : (at : ℕ) (r : List ℕ) → (IsOpen (stop_of at r) → ⊥) → heads_at at r ≡ []
no_heads at r final =
    elim (heads_few at r) [ inl e ↦ e | inr s ↦ absurd (final (subst IsOpen (sym (cut_stops at r s.0 s.2)) tt)) ]

apart_heads : (at : ℕ) (r : List ℕ) → AreApart at (heads_at at r)
apart_heads at r = grind (arith, heads_few, head_begins)

-- ---- the notes of a piece

apart_from : (low offset : ℕ) (ps : List PacketParts) (heads : List NoteParts) → low ≤ offset
    → AreApart (end_after offset ps) heads → AreApart low (notes_from offset ps ++ heads)
apart_from low offset [] heads h a = AreApart-lower low offset heads h a
apart_from low offset (p ∷ ps) heads h a =
    (h, apart_from (offset + 16 + p.width + length p.value) (offset + size_of p) ps heads (omega arith) a)

pub apart_packets : (offset : ℕ) (ps : List PacketParts) → AreApart offset (notes_from offset ps)
apart_packets offset ps = apart_front offset (notes_from offset ps) [] (apart_from offset offset ps [] (omega arith) tt)

pub alone_packets : (offset : ℕ) (ps : List PacketParts) → reduced_union [] (notes_from offset ps)
    ≡ notes_from offset ps
alone_packets offset ps = alone offset (notes_from offset ps) (apart_packets offset ps)

pub AreApart-notes_in : (offset : ℕ) (bytes : List ℕ) → AreApart offset (notes_in offset bytes)
AreApart-notes_in offset bytes = grind (arith, apart_from, packets_in, heads_at, end_after, rest_in, apart_heads)

pub IsContent-notes_in : (offset : ℕ) (bytes : List ℕ) → IsContent (notes_in offset bytes)
IsContent-notes_in offset bytes = content_apart offset (notes_in offset bytes) (AreApart-notes_in offset bytes)

pub alone_in : (offset : ℕ) (bytes : List ℕ) → reduced_union [] (notes_in offset bytes) ≡ notes_in offset bytes
alone_in offset bytes = alone offset (notes_in offset bytes) (AreApart-notes_in offset bytes)

pub alone_first : (count offset : ℕ) (bytes : List ℕ)
    → reduced_union [] (take count (notes_in offset bytes)) ≡ take count (notes_in offset bytes)
alone_first count offset bytes = alone offset (take count (notes_in offset bytes))
    (apart_take count offset (notes_in offset bytes) (AreApart-notes_in offset bytes))

-- there are as many notes of packets as packets
pub notes_for_packets : (offset : ℕ) (ps : List PacketParts) → length (notes_from offset ps) ≡ length ps
notes_for_packets offset [] = refl
notes_for_packets offset (p ∷ ps) = ap suc (notes_for_packets (offset + size_of p) ps)

-- behind a stop that no bytes lead past there is no head
pub closed_notes : (o : ℕ) (m : List ℕ) → (IsOpen (stop_in o m) → ⊥) → notes_in o m ≡ notes_from o (packets_in o m)
closed_notes o m final = grind (arith, notes_from, packets_in, no_heads, end_after, rest_in, append-nil)

-- the first note of a piece begins at its offset
pub first_begins : (offset : ℕ) (bytes : List ℕ) → (notes_in offset bytes ≢ [])
    → IsSomeAnd (slice_get (notes_in offset bytes) 0) (λ n. n.offset ≡ offset)
first_begins offset bytes some = first (packets_in offset bytes) (rest_in offset bytes) some
  where
    first : (ps : List PacketParts) (r : List ℕ) → (notes_from offset ps ++ heads_at (end_after offset ps) r ≢ [])
        → IsSomeAnd (slice_get (notes_from offset ps ++ heads_at (end_after offset ps) r) 0) (λ n. n.offset ≡ offset)
    first [] r some =
        elim (heads_few offset r) [
          | inl e ↦ absurd (some e)
          | inr s ↦ subst (λ (l : List NoteParts). IsSomeAnd (slice_get l 0) (λ n. n.offset ≡ offset)) (sym s.1)
              (head_begins offset r s.0 s.2)
        ]
    first (p ∷ ps) r some = refl
