-- Packets wherever they lie, and the order in which equal ones stand together (this project's profile).
use Rattle.std.specs.Prelude.{Bool, List, [], ◌∷◌, Option, None, Some}
use Rattle.std.specs.Cmp.Lexicographic.{slice_cmp}
use Rattle.std.specs.Ordering.{bool_cmp, nat_cmp, on, then_cmp}
use Rattle.std.specs.declared.cmp.Ordering.{Ordering}
use Rattle.mxf_klv.specs.Parts.{NoteParts, head_parts}
use Rattle.mxf_klv.specs.Note.{note_cmp}
use Rattle.mxf_klv.specs.Rising.{IsRising, SameMembers}
use Rattle.mxf_catalogue.specs.Content.{AreReduced, IsContent}
use Rattle.mxf_catalogue.specs.Disputes.{is_same_note}

-- What a note says, wherever its packet lies: the note at offset 0.
abbrev pub packet_of : NoteParts → NoteParts
packet_of n = record {
  offset = 0;
  key = n.key;
  width = n.width;
  length = n.length;
  whole = n.whole;
  held = n.held;
}

-- What it says of key and length alone: the head at offset 0.
abbrev pub front_of : NoteParts → NoteParts
front_of n = head_parts 0 n.key n.width n.length

-- Two notes say the same but for their offset.
abbrev pub is_same_packet : NoteParts → NoteParts → Bool
is_same_packet m n = is_same_note (packet_of m) (packet_of n)

-- Two notes have the same key, width and length.
abbrev pub is_same_length : NoteParts → NoteParts → Bool
is_same_length m n = is_same_note (front_of m) (front_of n)

-- Notes go by what they say but for their offset, then by offset.
abbrev pub packet_cmp : NoteParts → NoteParts → Ordering
packet_cmp = then_cmp (on packet_of note_cmp) (on (λ n. n.offset) nat_cmp)

-- They are the notes of a content, in that order.
pub record AreByPacket (notes : List NoteParts) (packets : List NoteParts) : Type 0 where
  pub rising : IsRising packet_cmp packets
  pub members : SameMembers packets notes

-- How what two notes hold stands: a head first, then by the held bytes.
abbrev pub held_cmp : NoteParts → NoteParts → Ordering
held_cmp = then_cmp (on (λ n. n.whole) bool_cmp) (on (λ n. n.held) (slice_cmp nat_cmp))

-- The only one of a list.
abbrev pub sole : {K : Type 0} → List K → Option K
sole [] = None
sole (x ∷ []) = Some x
sole (x ∷ y ∷ xs) = None

-- A content that is reduced, and its notes in the order of packets.
pub record IsByPacket (notes packets : List NoteParts) : Type 0 where
  pub content : IsContent notes
  pub reduced : AreReduced notes
  pub ordered : AreByPacket notes packets
