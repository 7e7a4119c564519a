-- Whole packets at the front of bytes (this project's profile).
use Rattle.std.specs.Prelude.{◌≡◌, ℕ, ◌+◌, List, [], ◌∷◌, drop, Some}
use Rattle.mxf_klv.specs.Packet.{size_of}
use Rattle.mxf_klv.specs.Parts.{PacketParts}
use Rattle.mxf_klv.specs.PieceReading.{packet_at}

-- The packets stand at the front of bytes that lie at an offset, one after another.
abbrev pub StandAtFront : ℕ → List ℕ → List PacketParts → Type 0
StandAtFront offset bytes [] = Unit {0}
StandAtFront offset bytes (p ∷ ps) =
    (packet_at offset bytes ≡ Some p) × StandAtFront (offset + size_of p) (drop (size_of p) bytes) ps
