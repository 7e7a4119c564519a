-- What stands before a packet's value (ST 336, KLV triplet): its key and its length.
use Rattle.std.specs.Prelude.{◌≡◌, ℕ, ◌+◌, List, ◌++◌, take, Result, Ok, Err}
use Rattle.mxf_klv.specs.Parts.{LengthParts, PacketParts, packet_parts}
use Rattle.mxf_klv.specs.Label.{IsLabel}
use Rattle.mxf_klv.specs.Ber.{IsSpelledLength}
use Rattle.mxf_klv.specs.Packet.{ReadsPacket}
use Rattle.mxf_klv.specs.declared.packet.PacketFault.{PacketFault}
use Rattle.mxf_klv.specs.declared.packet.key_and_length.KeyAndLength.{KeyAndLength}

-- The bytes begin with a whole key and a whole length, and these bytes come after them.
pub record BeginsWithKeyAndLength (bytes key : List ℕ) (l : LengthParts) (after : List ℕ) : Type 0 where
  pub spelled : List ℕ
  pub label : IsLabel key
  pub width : IsSpelledLength spelled l.width l.value
  pub whole : bytes ≡ key ++ (spelled ++ after)

-- The bytes begin with no whole key and length.
abbrev pub HasNoKeyAndLength : List ℕ → Type 0
HasNoKeyAndLength bytes = (key after : List ℕ) (l : LengthParts) → ¬ BeginsWithKeyAndLength bytes key l after

-- What bytes begin with before any value is read: a key and a length; otherwise what is at fault with the packet.
abbrev pub ReadsKeyAndLength : List ℕ → Result KeyAndLength PacketFault → Type 0
ReadsKeyAndLength bytes (Ok front) = BeginsWithKeyAndLength bytes front.key front.ber front.after.now
ReadsKeyAndLength bytes (Err fault) = ReadsPacket bytes (Err fault) × HasNoKeyAndLength bytes

-- The packet with this key and length and the first of the bytes after them, and its number of bytes.
abbrev pub whole_packet : KeyAndLength → PacketParts × ℕ
whole_packet front = (
  packet_parts front.key front.ber.width (take front.ber.value front.after.now),
  16 + front.ber.width + front.ber.value,
)
