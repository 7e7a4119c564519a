-- Where the packets of a file lie, and what notes of the file that share a byte are.
use Rattle.mxf_views.proofs.Common.{◌≡◌, ◌∙◌, ◌⊎◌, ◌≤◌, ◌<◌, ◌+◌, ◌++◌, ℕ, List, [], ◌∷◌, ap, arith, drop, inl, inr}
use Rattle.mxf_views.proofs.Common.{length, false, length-append, refl, sym, take, true, take-append-le, take_at}
use Rattle.mxf_views.proofs.Common.{NoteParts, PacketParts, end_of, head_note, note_of, size_of, AreLaid, end_after}
use Rattle.mxf_views.proofs.Common.{notes_from, In, In-append, notes_from-append, length-spelled, after, apart}
use Rattle.mxf_views.proofs.Common.{is_whole}
use Rattle.std.proofs.Common.{take-append-drop}
use Rattle.mxf_places.proofs.LaidPlaces.{ends_below}
use Rattle.mxf_hand.specs.File.{IsBoundary, IsOfFile}

-- ---- bytes

-- Where a list goes on behind its front, the front is the beginning of any part that is long enough.
pub front_of : (r more front after : List ℕ) → r ++ more ≡ front ++ after → length front ≤ length r
    → r ≡ front ++ drop (length front) r
front_of r more front after e few =
    let n = length front in
    let cut : take n r ≡ front = sym (take-append-le n r more few) ∙ ap (take n) e ∙ take_at front after n refl in
    sym (take-append-drop n r) ∙ ap (λ (t : List ℕ). t ++ drop n r) cut

-- Packets that are laid have all bytes but the rest.
pub laid_size : (o : ℕ) (bytes : List ℕ) (ps : List PacketParts) (rest : List ℕ) → AreLaid o bytes ps rest
    → o + length bytes ≡ end_after o ps + length rest
laid_size o bytes [] rest e = let same = ap length e in omega (arith, same)
laid_size o bytes (p ∷ ps) rest (front, after, spelled, joined, within, laid) =
    grind (arith, length-spelled, length-append, laid_size (o + size_of p) after ps rest laid)

-- ---- places

-- The first of them ends at or below the end of each.
pub first_below : (o : ℕ) (p : PacketParts) (l : List PacketParts) (m : NoteParts) → In m (notes_from o (p ∷ l))
    → o + size_of p ≤ end_of m
first_below o p l m (inl e) = let end : end_of m ≡ end_of (note_of o p) = ap end_of e in omega (arith, end)
first_below o p l m (inr i) = let from = after (o + size_of p) l m i in omega (arith, from)

module _ (l : List PacketParts) where
  -- Before or behind a place where packets begin.
  pub sides : (y : ℕ) (front back : List PacketParts) (m : NoteParts) → l ≡ front ++ back → end_after 0 front ≡ y
      → In m (notes_from 0 l) → In m (notes_from 0 front) ⊎ In m (notes_from y back)
  sides y front back m e at i = grind (arith, notes_from-append, In-append)

  -- No packet begins inside another.
  pub not_cut : (y : ℕ) (m : NoteParts) → IsBoundary l y → In m (notes_from 0 l) → m.offset < y → end_of m ≤ y
  not_cut y m (front, back, e, at) i less =
      elim (sides y front back m e at i) [
        | inl k ↦ let ends = ends_below 0 front m k in omega (arith, ends, at)
        | inr k ↦ let from = after y back m k in absurd (omega (arith, from, less))
      ]

  -- What begins at or above a place where packets begin stands behind it.
  pub behind_place : (y : ℕ) (front back : List PacketParts) (m : NoteParts) → l ≡ front ++ back
      → end_after 0 front ≡ y → In m (notes_from 0 l) → y ≤ m.offset → In m (notes_from y back)
  behind_place y front back m e at i from =
      elim (sides y front back m e at i) [
        | inl k ↦ let ends = ends_below 0 front m k in absurd (omega (arith, ends, at, from))
        | inr k ↦ k
      ]

-- ---- notes of a file

-- The packet of a note.
pub record HasPacket (l : List PacketParts) (n : NoteParts) : Type 0 where
  pub packet : NoteParts
  pub there : In packet (notes_from 0 l)
  pub which : (n ≡ packet) ⊎ (n ≡ head_note packet)
  pub offset : n.offset ≡ packet.offset
  pub end : end_of n ≡ end_of packet

module _ (l : List PacketParts) where
  pub has_packet : (n : NoteParts) → IsOfFile l n → HasPacket l n
  has_packet n (inl i) = record { packet = n; there = i; which = inl refl; offset = refl; end = refl }
  has_packet n (inr (m, i, e)) = record {
    packet = m;
    there = i;
    which = inr (sym e);
    offset = ap (λ (k : NoteParts). k.offset) (sym e);
    end = ap end_of (sym e);
  }

  -- What shares a byte with a packet is its note or its head.
  pub is_or_head : (m n : NoteParts) (x : ℕ) → In m (notes_from 0 l) → IsOfFile l n → m.offset ≤ x → x < end_of m
      → n.offset ≤ x → x < end_of n → (n ≡ m) ⊎ (n ≡ head_note m)
  is_or_head m n x i of a b c d = grind (arith, has_packet, apart)

  -- A head is that of a packet.
  pub is_head : (n : NoteParts) → IsOfFile l n → n.whole ≡ false → (m : NoteParts) × In m (notes_from 0 l)
      × (n ≡ head_note m)
  is_head n (inl i) head = absurd (let whole = is_whole 0 l n i in cc (whole, head))
  is_head n (inr (m, i, e)) head = (m, i, sym e)

  -- A note of a packet that was read whole is the packet's.
  pub is_packet : (n : NoteParts) → IsOfFile l n → n.whole ≡ true → In n (notes_from 0 l)
  is_packet n (inl i) whole = i
  is_packet n (inr (m, i, e)) whole =
      absurd (let head : false ≡ n.whole = ap (λ (k : NoteParts). k.whole) e in cc (whole, head))
