-- The primer pack that says what the tags of a set stand for (ST 377-1, Primer Pack; which copy's it is if several have
-- the set is this project's profile).
use Rattle.std.specs.Prelude.{◌≡◌, ℕ, ◌+◌, ◌≤◌, Bool, false, ◌==◌, Option, Some, None, List, find}
use Rattle.std.specs.Option.{option_and_then}
use Rattle.mxf_klv.specs.Parts.{NoteParts}
use Rattle.mxf_klv.specs.Note.{end_of}
use Rattle.mxf_sets.specs.Batch.{BatchParts}
use Rattle.mxf_sets.specs.PackReadings.{primer_at}
use Rattle.mxf_sets.specs.Readable.{read_as}
use Rattle.mxf_catalogue.specs.Disputes.{IsClear, clear_notes, lies_in}
use Rattle.mxf_views.specs.declared.copy.CopyInfo.{CopyInfo}
use Rattle.mxf_views.specs.Copies.{IsCopy, IsPrimerOf, copies_of}

-- The packet lies wholly in the zone that begins there, in none without a start.
abbrev pub is_in_zone : NoteParts → ℕ → Option ℕ → Bool
is_in_zone n bytes None = false
is_in_zone n bytes (Some start) = lies_in start bytes n

-- The packet lies wholly in the zone of the copy.
abbrev pub is_in_copy : NoteParts → CopyInfo → Bool
is_in_copy n copy = is_in_zone n copy.bytes copy.start

-- The primer pack of the clear note at the offset.
abbrev pub primer_there : List NoteParts → ℕ → Option BatchParts
primer_there notes offset = option_and_then (read_as primer_at) (find (λ n. n.offset == offset) (clear_notes notes))

-- The primer pack at the start of the copy.
abbrev pub primer_of : List NoteParts → CopyInfo → Option BatchParts
primer_of notes copy = option_and_then (primer_there notes) copy.start

-- The primer pack of the first of the copies whose zone has the set.
unfoldable pub primer_for : List NoteParts → NoteParts → Option BatchParts
primer_for notes n = option_and_then (primer_of notes) (find (is_in_copy n) (copies_of notes))

-- The packet lies wholly in the zone of the copy: in as many bytes as its partition states, from its start on.
pub record IsInZoneOf (n : NoteParts) (copy : CopyInfo) : Type 0 where
  pub start : ℕ
  pub begins : copy.start ≡ Some start
  pub from : start ≤ n.offset
  pub before : end_of n ≤ start + copy.bytes

-- The copy is that of the first partition whose copy has the packet in its zone.
pub record IsFirstWith (notes : List NoteParts) (n : NoteParts) (copy : CopyInfo) : Type 0 where
  pub copied : IsCopy notes copy
  pub has : IsInZoneOf n copy
  pub first : (other : CopyInfo) → IsCopy notes other → IsInZoneOf n other → copy.partition ≤ other.partition

-- The primer pack is that of the clear note at the start of that copy.
pub record IsPrimerOfFirst (notes : List NoteParts) (n : NoteParts) (primer : BatchParts) : Type 0 where
  pub copy : CopyInfo
  pub first : IsFirstWith notes n copy
  pub note : NoteParts
  pub clear : IsClear note notes
  pub there : copy.start ≡ Some note.offset
  pub read : IsPrimerOf note primer

-- The same, or none if no copy has the packet in its zone.
abbrev pub IsPrimerFor : List NoteParts → NoteParts → Option BatchParts → Type 0
IsPrimerFor notes n None = (copy : CopyInfo) → IsCopy notes copy → ¬ IsInZoneOf n copy
IsPrimerFor notes n (Some primer) = IsPrimerOfFirst notes n primer
