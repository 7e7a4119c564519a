-- A file of packets, of which notes and bytes are known (this project's profile).
use Rattle.std.specs.Prelude.{◌≡◌, ℕ, ◌<◌, List, [], ◌++◌, slice_get, Some, false}
use Rattle.mxf_klv.specs.Parts.{NoteParts, PacketParts}
use Rattle.mxf_klv.specs.Piece.{AreLaid, end_after, notes_from}
use Rattle.mxf_klv.specs.Rising.{In}
use Rattle.mxf_catalogue.specs.Content.{has_note}
use Rattle.mxf_catalogue.specs.Covers.{IsCover}
use Rattle.mxf_catalogue.specs.Runs.{LiesIn}
use Rattle.mxf_places.specs.Heads.{start_of}
use Rattle.mxf_restore.specs.Sections.{sections_of}
use Rattle.mxf_restore.specs.declared.section.Section.{Section}
use Rattle.mxf_hand.specs.Hand.{HandBytes}
use Rattle.mxf_skim.specs.declared.scan.Scan.TheVariants.{Full}

-- The bytes of the file are these packets, one after another, and the bytes at hand are the file's, all of which are
-- read.
pub record AreBytesOfFile (packets : List PacketParts) (h : HandBytes) : Type 0 where
  pub bytes : List ℕ
  pub laid : AreLaid 0 bytes packets []
  pub cover : IsCover h.runs
  pub alike : (x : ℕ) → LiesIn h.runs x → slice_get bytes x ≡ Some (h.byte x)
  pub read : h.scan ≡ Full

-- The note is that of a packet of the file, or its head.
abbrev pub IsOfFile : List PacketParts → NoteParts → Type 0
IsOfFile packets n = has_note (notes_from 0 packets) n

-- All notes are.
abbrev pub AreOfFile : List PacketParts → List NoteParts → Type 0
AreOfFile packets notes = (n : NoteParts) → In n notes → IsOfFile packets n

-- A packet of the file begins at the offset, or the file ends there.
abbrev pub IsBoundary : List PacketParts → ℕ → Type 0
IsBoundary packets x =
    (front : List PacketParts) × (back : List PacketParts) × (packets ≡ front ++ back) × (end_after 0 front ≡ x)

-- Each section of the holes begins where a packet of the file does: what packs say of places is right.
abbrev pub BeginAtPackets : List PacketParts → List NoteParts → Type 0
BeginAtPackets packets notes = (p : Section) → In p (sections_of notes) → IsBoundary packets (start_of notes p.first)

-- Each byte of the file is at hand, a number below 256.
abbrev pub IsAllAtHand : List PacketParts → HandBytes → Type 0
IsAllAtHand packets h = (x : ℕ) → x < end_after 0 packets → LiesIn h.runs x × (h.byte x < 256)

-- No head of the notes is that of a packet without a value.
abbrev pub HeadsHaveValues : List NoteParts → Type 0
HeadsHaveValues notes = (n : NoteParts) → In n notes → n.whole ≡ false → 0 < n.length
