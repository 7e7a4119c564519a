-- What a note says of a packet, and the order of notes (this project's profile).
use Rattle.std.specs.Prelude.{◌≡◌, ℕ, ◌+◌, ◌≤◌, Bool, true, ◌&&◌, nat_le, if◌then◌else◌, List, length}
use Rattle.std.specs.declared.cmp.Ordering.{Ordering}
use Rattle.std.specs.Ordering.{bool_cmp, nat_cmp, on, then_cmp}
use Rattle.std.specs.Cmp.Lexicographic.{slice_cmp}
use Rattle.sha2.specs.Sha256.{sha256}
use Rattle.mxf_klv.specs.Parts.{PacketParts, NoteParts, CanSpell, head_parts}
use Rattle.mxf_klv.specs.Label.{IsLabel}
use Rattle.mxf_klv.specs.Kind.{kind_of, is_structural}
use Rattle.mxf_klv.specs.declared.kinds.Kind.{Kind}

-- The greatest end of a packet, called MAX in the code.
abbrev pub greatest_end : ℕ
greatest_end = 9223372036854775807

-- Whether a value of this length is kept in a packet of this kind: a structural one's, of at most 4,194,304 bytes.
abbrev pub keeps_of : Kind → ℕ → Bool
keeps_of kind len = is_structural kind && nat_le len 4194304

-- The same under a key.
abbrev pub keeps : List ℕ → ℕ → Bool
keeps key len = keeps_of (kind_of key) len

-- Whether the note keeps its value: its packet was read whole, and a value of its key and length is kept.
abbrev pub keeps_value : NoteParts → Bool
keeps_value n = n.whole && keeps n.key n.length

-- The first offset after the packet of a note; of a head, where the packet would end.
abbrev pub end_of : NoteParts → ℕ
end_of n = n.offset + 16 + n.width + n.length

-- The first offset after the bytes that a note covers: the whole packet; of a head, its key and its length.
abbrev pub covered_end : NoteParts → ℕ
covered_end n = if n.whole then end_of n else n.offset + 16 + n.width

-- How many bytes a note holds: the whole value if that is kept, otherwise the 32 bytes of a digest; a head none.
abbrev pub held_length : NoteParts → ℕ
held_length n = if n.whole then (if keeps n.key n.length then n.length else 32) else 0

-- A note: its key is a label, its width can spell its length, it ends at or below the greatest end, and it holds as
-- many bytes as it has to.
pub record IsNote (n : NoteParts) : Type 0 where
  pub label : IsLabel n.key
  pub width : CanSpell n.width n.length
  pub within : end_of n ≤ greatest_end
  pub held : length n.held ≡ held_length n

-- The offset lies in the note's span: from its offset up to its end, the end excluded.
pub record IsInSpan (n : NoteParts) (offset : ℕ) : Type 0 where
  pub from : n.offset ≤ offset
  pub before : offset + 1 ≤ end_of n

-- The offset is one of the bytes that the note covers.
pub record IsCovered (n : NoteParts) (offset : ℕ) : Type 0 where
  pub from : n.offset ≤ offset
  pub before : offset + 1 ≤ covered_end n

-- The head that a note implies: the head of the same packet.
abbrev pub head_note : NoteParts → NoteParts
head_note n = head_parts n.offset n.key n.width n.length

-- The note of a packet at an offset: it holds the value if that is kept, otherwise its SHA-256.
abbrev pub note_of : ℕ → PacketParts → NoteParts
note_of offset packet = record {
  offset = offset;
  key = packet.key;
  width = packet.width;
  length = length packet.value;
  whole = true;
  held = if keeps packet.key (length packet.value) then packet.value else sha256 packet.value;
}

-- A note can be made: its width can spell its length, it ends at or below the greatest end, and a value of its key and
-- length is kept whole, or isn't, as is said.
abbrev pub CanNote : NoteParts → Bool → Type 0
CanNote n whole = CanSpell n.width n.length × (end_of n ≤ greatest_end) × (keeps n.key n.length ≡ whole)

-- There is a head with this key, a label: its width can spell its length, and the packet would end at or below the
-- greatest end.
abbrev pub CanHead : NoteParts → Type 0
CanHead n = CanSpell n.width n.length × (end_of n ≤ greatest_end)

-- Notes go by offset, then key bytes, then width, then length; then a head goes before the notes of whole packets,
-- which go by held bytes.
abbrev pub note_cmp : NoteParts → NoteParts → Ordering
note_cmp =
    then_cmp (on (λ n. n.offset) nat_cmp)
    (then_cmp (on (λ n. n.key) (slice_cmp nat_cmp))
    (then_cmp (on (λ n. n.width) nat_cmp)
    (then_cmp (on (λ n. n.length) nat_cmp)
    (then_cmp (on (λ n. n.whole) bool_cmp)
    (on (λ n. n.held) (slice_cmp nat_cmp))))))
