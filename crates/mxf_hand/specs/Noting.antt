-- What is noted of bytes at hand (this project's profile).
use Rattle.std.specs.Prelude.{◌≡◌, ◌+◌, ◌<◌, ◌≤◌, ℕ, List, Option}
use Rattle.mxf_klv.specs.Parts.{NoteParts}
use Rattle.mxf_klv.specs.Piece.{end_after, notes_from}
use Rattle.mxf_klv.specs.PieceReading.{heads_at, packets_in, rest_in}
use Rattle.mxf_hand.specs.Given.{AreBytesOf, AreTold, SourceParts, bytes_between}
use Rattle.mxf_hand.specs.declared.given.Extent.{Extent}
use Rattle.mxf_read.specs.Feeding.{Feeds, IsFed, option_list}
use Rattle.mxf_read.specs.declared.piece.Piece.{Piece}
use Rattle.mxf_skim.specs.PassedOver.{noted_by}
use Rattle.mxf_skim.specs.declared.scan.Scan.{Scan}

-- The notes of the packets of a piece.
abbrev pub packet_notes : ℕ → List ℕ → List NoteParts
packet_notes offset bytes = notes_from offset (packets_in offset bytes)

-- The head of the packet that its end cuts, if there is one.
abbrev pub cut_heads : ℕ → List ℕ → List NoteParts
cut_heads offset bytes = heads_at (end_after offset (packets_in offset bytes)) (rest_in offset bytes)

-- What a scan notes of a piece, its whole packets and its head, apart from each other.
pub record IsReading (scan : Scan) (offset : ℕ) (bytes : List ℕ) (noted : List NoteParts) (cut : Option NoteParts)
    : Type 0 where
  pub notes : noted ≡ noted_by scan (packet_notes offset bytes)
  pub head : option_list cut ≡ cut_heads offset bytes

-- A step from an offset on, at most `left` bytes far: so many bytes were fed to a piece. They are what sources give, as
-- far as that is known.
pub record TakesStep (told : Option (List SourceParts)) (extents : List Extent) (old new : Piece) (at left n : ℕ)
    : Type 0 where
  pub some : 0 < n
  pub within : n ≤ left
  pub goes_on : IsFed new
  pub fed : (given : List SourceParts) (byte : ℕ → ℕ) → AreTold told extents given → AreBytesOf given byte at (at + n)
      → Feeds old new (bytes_between byte at (at + n))
