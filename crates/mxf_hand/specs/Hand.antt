-- The bytes at hand, and readings of them (this project's profile).
use Rattle.std.specs.Prelude.{◌≡◌, ◌&&◌, ℕ, Bool, if◌then◌else◌, nat_le, nat_lt, List, Option, None, Some, find, not}
use Rattle.std.specs.Option.{option_and_then, option_map_or}
use Rattle.mxf_klv.specs.Parts.{NoteParts, packet_parts}
use Rattle.mxf_klv.specs.Note.{covered_end, end_of, note_of}
use Rattle.mxf_catalogue.specs.declared.run.Run.{Run}
use Rattle.mxf_catalogue.specs.Runs.{LiesIn}
use Rattle.mxf_hand.specs.declared.given.Extent.{Extent}
use Rattle.mxf_hand.specs.Given.{AreAtHand, AreTold, IsGivenAs, SourceParts, bytes_between}
use Rattle.mxf_hand.specs.Places.{GivenParts}
use Rattle.mxf_hand.specs.Noting.{cut_heads, packet_notes}
use Rattle.mxf_places.specs.AtHand.{has_offsets, up_to_bound}
use Rattle.mxf_read.specs.ValueSoFar.{noted_if, passes}
use Rattle.mxf_skim.specs.PassedOver.{noted_by}
use Rattle.mxf_skim.specs.declared.scan.Scan.{Scan}

-- Bytes at hand: where they lie, as maximal runs, and the byte of each of these offsets; and whether the values of a
-- container's packets are read among them.
pub record HandBytes : Type 0 where
  pub scan : Scan
  pub runs : List Run
  pub byte : ℕ → ℕ

-- The byte of each offset of the runs is the one that sources give.
abbrev pub AreBytesAt : List SourceParts → List Run → (ℕ → ℕ) → Type 0
AreBytesAt sources runs byte = (x b : ℕ) → LiesIn runs x → IsGivenAs sources x b → byte x ≡ b

-- What contracts see of extents that were compared: the scan, the extents with what they give, and the offsets at
-- hand.
pub record HandParts : Type 0 where
  pub scan : Scan
  pub given : GivenParts
  pub runs : List Run

-- They are the bytes at hand of sources.
pub record AreOf (sources : List SourceParts) (h : HandBytes) : Type 0 where
  pub offsets : AreAtHand sources h.runs
  pub bytes : AreBytesAt sources h.runs h.byte

-- They lie in these runs, are what sources with these extents give, and are scanned so.
pub record AreToldIn (told : Option (List SourceParts)) (extents : List Extent) (runs : List Run) (scan : Scan)
    (h : HandBytes) : Type 0 where
  pub sources : List SourceParts
  pub are_told : AreTold told extents sources
  pub lie : h.runs ≡ runs
  pub scanned : h.scan ≡ scan
  pub bytes : AreBytesAt sources runs h.byte

-- The end of the run that has the offset: the first that ends above it, if it begins at or below it.
abbrev pub run_end : List Run → ℕ → Option ℕ
run_end runs x =
    option_and_then (λ r. if nat_le r.start x then Some r.end else None) (find (λ r. nat_lt x r.end) runs)

-- Where a reading ends that begins at an offset: with the run at hand, or before that at an end; at its beginning if
-- the offset isn't at hand.
abbrev pub read_to : List Run → Option ℕ → ℕ → ℕ
read_to runs end from = option_map_or (λ e. up_to_bound e end) (run_end runs from) from

-- The bytes of a reading from an offset on, up to an end if there is one.
abbrev pub read_bytes : HandBytes → Option ℕ → ℕ → List ℕ
read_bytes h end from = bytes_between h.byte from (read_to h.runs end from)

-- The notes of the whole packets of a reading, as the scan notes them.
abbrev pub read_packets : HandBytes → Option ℕ → ℕ → List NoteParts
read_packets h end from = noted_by h.scan (packet_notes from (read_bytes h end from))

-- The head of the packet that its end cuts, if there is one.
abbrev pub read_heads : HandBytes → Option ℕ → ℕ → List NoteParts
read_heads h end from = cut_heads from (read_bytes h end from)

-- The note is a head, the value of its packet has a byte, and all of them are at hand.
abbrev pub is_value_at_hand : HandBytes → NoteParts → Bool
is_value_at_hand h n = not n.whole && (nat_lt 0 n.length && has_offsets h.runs (covered_end n) (end_of n))

-- The note of a head's packet, with the bytes at hand as its value, or that of one that is passed over.
abbrev pub packet_of : HandBytes → NoteParts → NoteParts
packet_of h n =
    noted_if (passes h.scan n.key n.length)
    (note_of n.offset (packet_parts n.key n.width (bytes_between h.byte (covered_end n) (end_of n))))
