-- The packets of a piece: bytes that lie at an offset of a file (this project's profile).
use Rattle.std.specs.Prelude.{◌≡◌, ◌≢◌, ◌⊎◌, ℕ, ◌+◌, ◌≤◌, ◌<◌, List, [], ◌∷◌, ◌++◌, length as len, Err}
use Rattle.mxf_klv.specs.Parts.{LengthParts, PacketParts, NoteParts, head_parts}
use Rattle.mxf_klv.specs.Packet.{IsSpelledPacket, ReadsPacket, size_of}
use Rattle.mxf_klv.specs.KeyAndLength.{BeginsWithKeyAndLength}
use Rattle.mxf_klv.specs.Note.{greatest_end, note_of}
use Rattle.mxf_klv.specs.declared.packet.PacketFault.TheVariants as faults
use Rattle.mxf_klv.specs.declared.piece.Stop.{Stop}
use Rattle.mxf_klv.specs.declared.piece.Stop.TheVariants.{End, NotUl, BadLength, TooFar, Truncated, NoStart}

-- The first offset after packets that are laid one after another from an offset on.
abbrev pub end_after : ℕ → List PacketParts → ℕ
end_after offset [] = offset
end_after offset (p ∷ ps) = end_after (offset + size_of p) ps

-- The bytes at the offset are these packets, one after another, each of which ends at or below the greatest end, and
-- then the rest.
abbrev pub AreLaid : ℕ → List ℕ → List PacketParts → List ℕ → Type 0
AreLaid offset bytes [] rest = bytes ≡ rest
AreLaid offset bytes (p ∷ ps) rest =
    (front : List ℕ) × (after : List ℕ) × IsSpelledPacket front p × (bytes ≡ front ++ after)
    × (offset + size_of p ≤ greatest_end) × AreLaid (offset + size_of p) after ps rest

-- No packet stands at the front of the bytes that would end at or below the greatest end.
abbrev pub BeginsWithNone : ℕ → List ℕ → Type 0
BeginsWithNone offset bytes =
    (front after : List ℕ) (p : PacketParts) → IsSpelledPacket front p → bytes ≡ front ++ after
    → greatest_end < offset + size_of p

-- The packets of a piece and the rest: the packets are laid from the offset on, and the rest begins with none.
pub record IsPiece (offset : ℕ) (bytes : List ℕ) (packets : List PacketParts) (rest : List ℕ) : Type 0 where
  pub laid : AreLaid offset bytes packets rest
  pub ended : BeginsWithNone (end_after offset packets) rest

-- The notes of packets that are laid one after another from an offset on.
abbrev pub notes_from : ℕ → List PacketParts → List NoteParts
notes_from offset [] = []
notes_from offset (p ∷ ps) = note_of offset p ∷ notes_from (offset + size_of p) ps

-- A whole key and a whole length stand at the front, and the packet would end above the greatest end.
abbrev pub EndsTooFar : ℕ → List ℕ → Type 0
EndsTooFar offset bytes =
    (key : List ℕ) × (l : LengthParts) × (after : List ℕ) × BeginsWithKeyAndLength bytes key l after
    × (greatest_end < offset + (16 + l.width + l.value))

-- A whole key and a whole length stand at the front of a rest, with a value that is cut; the packet would end at or
-- below the greatest end, and this is its head.
pub record BeginsWithCut (offset : ℕ) (rest : List ℕ) (n : NoteParts) : Type 0 where
  pub key : List ℕ
  pub length : LengthParts
  pub after : List ℕ
  pub stands : BeginsWithKeyAndLength rest key length after
  pub cut : len after < length.value
  pub within : offset + (16 + length.width + length.value) ≤ greatest_end
  pub head : n ≡ head_parts offset key length.width length.value

-- Why no packet is noted at the front of a rest at an offset: no byte is left; what is there doesn't begin as a label;
-- the length is at fault; the packet would end too far on; otherwise the packet is cut. A piece has its start, so it
-- never stops for want of one.
abbrev pub IsStop : ℕ → List ℕ → Stop → Type 0
IsStop offset rest End = rest ≡ []
IsStop offset rest (NotUl place) = (place ≡ offset) × ReadsPacket rest (Err faults.NotUl)
IsStop offset rest (BadLength place) =
    (place ≡ offset) × (ReadsPacket rest (Err faults.Indefinite) ⊎ ReadsPacket rest (Err faults.TooWide))
IsStop offset rest (TooFar place) = (place ≡ offset) × EndsTooFar offset rest
IsStop offset rest (Truncated place) =
    (place ≡ offset) × (rest ≢ []) × ReadsPacket rest (Err faults.Short) × ¬ EndsTooFar offset rest
IsStop offset rest (NoStart place) = ⊥
