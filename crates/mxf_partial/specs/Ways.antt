-- Where the way from a partition pack to its essence goes on over what isn't held (ST 377-1, Partition Pack; this
-- project's profile).
use Rattle.std.specs.Prelude.{◌≡◌, ℕ, ◌≤◌, ◌-◌, ◌==◌, Bool, ◌&&◌, find, is_some, not, if◌then◌else◌, Option, None, Some}
use Rattle.std.specs.Prelude.{List}
use Rattle.std.specs.Option.{option_and_then, option_map, option_or}
use Rattle.mxf_klv.specs.Parts.{NoteParts}
use Rattle.mxf_klv.specs.Rising.{In}
use Rattle.mxf_views.specs.Partitions.{PartitionParts, in_numbers, partitions_of}
use Rattle.mxf_views.specs.declared.index.place.StreamPlace.{StreamPlace}
use Rattle.mxf_restore.specs.declared.named.NamedPlace.{NamedPlace}
use Rattle.mxf_places.specs.Held.{is_held, is_in_file}
use Rattle.mxf_places.specs.Claims.{index_of, metadata_of, over_fills}
use Rattle.mxf_places.specs.declared.stretch.Stretch.{Stretch}
use Rattle.mxf_units.specs.EssenceZones.{behind_index, parts_of}
use Rattle.mxf_units.specs.declared.essence_zone.part.StreamPart.{StreamPart}
use Rattle.mxf_partial.specs.Streams.{IsPart}

-- Where a stretch ends, if it isn't known what begins there.
abbrev pub open_end : Stretch → Option ℕ
open_end s = if s.is_open then Some (s.end - 1) else None

-- Where the way from a partition pack over its header metadata, its index table segments and fills ends.
abbrev pub end_of_way : List NoteParts → PartitionParts → Option ℕ
end_of_way notes p =
    option_or (option_map (over_fills notes) (behind_index notes p))
    (option_or (option_and_then open_end (metadata_of notes p)) (option_and_then open_end (index_of notes p)))

abbrev pub is_free : List NoteParts → ℕ → Bool
is_free notes x = is_in_file notes x && not (is_held notes x)

-- The same, if nothing is held there and the file may reach that far.
unfoldable pub way_of : List NoteParts → PartitionParts → Option ℕ
way_of notes p = option_and_then (λ x. if is_free notes x then Some x else None) (end_of_way notes p)

-- The part begins at or below an offset of its stream, and no other of the stream begins after it and at or below that.
pub record BeginsLast (notes : List NoteParts) (body_sid offset : ℕ) (part : StreamPart) : Type 0 where
  pub body : part.body_sid ≡ body_sid
  pub begins : part.body_offset ≤ offset
  pub last : (q : StreamPart) → IsPart notes body_sid q → q.body_offset ≤ offset → q.body_offset ≤ part.body_offset

-- A part without a first packet of essence, that begins last at or below an offset of its stream, and from whose
-- partition the way leads to the place.
pub record LeadsTo (notes : List NoteParts) (body_sid offset : ℕ) (part : StreamPart) (x : ℕ) : Type 0 where
  pub among : In part (parts_of notes)
  pub begins : BeginsLast notes body_sid offset part
  pub unknown : part.zone ≡ None
  pub partition : PartitionParts
  pub held : In partition (partitions_of notes)
  pub offset_is : partition.offset ≡ part.partition
  pub way : way_of notes partition ≡ Some x

-- A place of the stream lies in the part last.
abbrev pub HasPlace : List NoteParts → List StreamPlace → StreamPart → Type 0
HasPlace notes places part = (p : StreamPlace) × In p places × BeginsLast notes p.body_sid p.offset part

-- The same as functions. Lemmas tie them to the relations.

-- Where the way goes on from the partition of a part whose first packet isn't known.
abbrev pub way_from : List NoteParts → StreamPart → Option NamedPlace
way_from notes p =
    if is_some p.zone then None
    else option_map (λ x. record { place = x; source = Some p.partition })
    (option_and_then (way_of notes) (option_map in_numbers (find (λ q. q.offset == p.partition) (partitions_of notes))))

-- One of some parts has a place of some, and the way from it leads there.
abbrev pub HasWay : List NoteParts → List NoteParts → List StreamPlace → List StreamPart → NamedPlace → Type 0
HasWay notes held places parts n =
    (part : StreamPart) × In part parts × HasPlace notes places part × (way_from held part ≡ Some n)
