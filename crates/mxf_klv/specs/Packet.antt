-- The bytes of packets (ST 336, KLV triplet): a key, a spelled length, and as many bytes as it says.
use Rattle.std.specs.Prelude.{◌≡◌, ℕ, ◌+◌, ◌≤◌, ◌<◌, List, ◌++◌, length, take, drop, Result, Ok, Err}
use Rattle.mxf_klv.specs.Ber.{IsSpelledLength, ReadsLength, length_bytes}
use Rattle.mxf_klv.specs.Label.{IsLabel, BeginsAsLabel}
use Rattle.mxf_klv.specs.Parts.{PacketParts, CanSpell}
use Rattle.mxf_klv.specs.declared.ber.BerFault.{BerFault}
use Rattle.mxf_klv.specs.declared.ber.BerFault.TheVariants as lengths
use Rattle.mxf_klv.specs.declared.packet.PacketFault.{PacketFault}
use Rattle.mxf_klv.specs.declared.packet.PacketFault.TheVariants.{NotUl, Short, Indefinite, TooWide}

-- The bytes stand for the packet.
pub record IsSpelledPacket (bytes : List ℕ) (packet : PacketParts) : Type 0 where
  pub spelled : List ℕ
  pub label : IsLabel packet.key
  pub width : IsSpelledLength spelled packet.width (length packet.value)
  pub whole : bytes ≡ packet.key ++ (spelled ++ packet.value)

-- The bytes are the beginning of some packet, and not all of it.
pub record IsCutPacket (bytes : List ℕ) : Type 0 where
  pub more : List ℕ
  pub packet : PacketParts
  pub some : 0 < length more
  pub spells : IsSpelledPacket (bytes ++ more) packet

-- What bytes begin with: a packet of that many bytes; no label; a length that is at fault; or a packet that is cut.
abbrev pub ReadsPacket : List ℕ → Result (PacketParts × ℕ) PacketFault → Type 0
ReadsPacket bytes (Ok (packet, size)) = (size ≤ length bytes) × IsSpelledPacket (take size bytes) packet
ReadsPacket bytes (Err NotUl) = ¬ BeginsAsLabel bytes
ReadsPacket bytes (Err Indefinite) = BeginsAsLabel bytes × ReadsLength (drop 16 bytes) (Err lengths.Indefinite)
ReadsPacket bytes (Err TooWide) = BeginsAsLabel bytes × ReadsLength (drop 16 bytes) (Err lengths.TooWide)
ReadsPacket bytes (Err Short) = IsCutPacket bytes

-- The fault of a packet whose length is at fault.
abbrev pub packet_fault : BerFault → PacketFault
packet_fault lengths.Short = Short
packet_fault lengths.Indefinite = Indefinite
packet_fault lengths.TooWide = TooWide

-- The number of a packet's bytes.
abbrev pub size_of : PacketParts → ℕ
size_of packet = 16 + packet.width + length packet.value

-- The bytes of a packet.
abbrev pub packet_bytes : PacketParts → List ℕ
packet_bytes packet = packet.key ++ (length_bytes packet.width (length packet.value) ++ packet.value)

-- Which packets there are: the key is a label, and the width can spell the length.
pub record IsPacket (packet : PacketParts) : Type 0 where
  pub label : IsLabel packet.key
  pub width : CanSpell packet.width (length packet.value)
