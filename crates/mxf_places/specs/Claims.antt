-- What packs say of places: where partitions stand, and where header metadata and index table segments lie (ST 377-1,
-- Partition Pack and Random Index Pack; reasons and stretches are this project's profile).
use Rattle.std.specs.Prelude.{ℕ, ◌+◌, Bool, true, false, ◌&&◌, ◌||◌, ◌==◌, not, nat_le, nat_lt, if◌then◌else◌, Option}
use Rattle.std.specs.Prelude.{None, Some, is_some, List, [], ◌∷◌, ◌++◌, find, map}
use Rattle.std.specs.Option.{option_and_then, option_map, option_map_or}
use Rattle.std.specs.List.{filter_map}
use Rattle.mxf_klv.specs.Parts.{NoteParts}
use Rattle.mxf_klv.specs.Note.{end_of}
use Rattle.mxf_klv.specs.Kind.{kind_of}
use Rattle.mxf_sets.specs.declared.pack.random_index.RipEntry.{RipEntry}
use Rattle.mxf_sets.specs.PackReadings.{primer_at}
use Rattle.mxf_sets.specs.Readable.{read_as}
use Rattle.mxf_catalogue.specs.Disputes.{undisputed_notes}
use Rattle.mxf_views.specs.Copies.{is_fill, is_primer}
use Rattle.mxf_views.specs.Partitions.{PartitionParts, partitions_of}
use Rattle.mxf_views.specs.Places.{is_segment}
use Rattle.mxf_views.specs.RandomIndexView.{rip_view_of}
use Rattle.mxf_views.specs.declared.random_index.RipView.{RipView}
use Rattle.mxf_views.specs.declared.random_index.RipView.TheVariants.{Absent, Several, Unreadable, One}
use Rattle.mxf_places.specs.Held.{is_disputed_at, is_held, is_in_file}
use Rattle.mxf_places.specs.declared.claim.Claim.{Claim}
use Rattle.mxf_places.specs.declared.stretch.Stretch.{Stretch}
use Rattle.mxf_places.specs.declared.stretch.Zone.{Zone}
use Rattle.mxf_places.specs.declared.stretch.Zone.TheVariants as zones
use Rattle.mxf_places.specs.declared.reason.Reason.{Reason}
use Rattle.mxf_places.specs.declared.reason.Reason.TheVariants.{Header, Footer, Metadata, Index, Entry, Previous}

-- The reason is that of a stretch, not of a place that a pack names.
abbrev pub is_of_stretch : Reason → Bool
is_of_stretch Metadata = true
is_of_stretch Index = true
is_of_stretch _ = false

-- A place that a pack names: one offset.
abbrev pub place_claim : Reason → Option ℕ → ℕ → Claim
place_claim reason source place =
    record { reason = reason; source = source; from = place; end = place + 1; is_open = false }

-- The place that a claim names, if it names one.
unfoldable pub named_place : Claim → Option ℕ
named_place c = if is_of_stretch c.reason then None else Some c.from

-- Going over the notes that share no byte with another, in their order: from the beginning of a fill, whole or head,
-- one goes on at its end.
abbrev pub over_among : List NoteParts → ℕ → ℕ
over_among [] x = x
over_among (n ∷ notes) x = over_among notes (if (n.offset == x) && is_fill (kind_of n.key) then end_of n else x)

abbrev pub over_fills : List NoteParts → ℕ → ℕ
over_fills notes x = over_among (undisputed_notes notes) x

-- Header metadata begin with a primer pack, a whole one being readable.
unfoldable pub begins_metadata : NoteParts → Bool
begins_metadata n = is_primer (kind_of n.key) && (not n.whole || is_some (read_as primer_at n))

-- Index table segments begin with one.
unfoldable pub begins_index : NoteParts → Bool
begins_index n = is_segment (kind_of n.key)

-- The packet begins the zone of a partition.
abbrev pub begins : Zone → NoteParts → Bool
begins zones.Metadata n = begins_metadata n
begins zones.Index n = begins_index n

-- It isn't known what begins there: nothing is held, or what is held is disputed.
abbrev pub is_unknown : List NoteParts → ℕ → Bool
is_unknown notes x = is_in_file notes x && (is_disputed_at notes x || not (is_held notes x))

-- The stretch of a given number of bytes, counted from the first packet after fills, which has to be of a kind; if that
-- packet isn't known, the stretch up to its first byte.
abbrev pub stretch_at : Zone → List NoteParts → ℕ → ℕ → ℕ → Option Stretch
stretch_at zone notes from x count =
    option_map_or (λ n. if begins zone n then Some (record { from = from; end = x + count; is_open = false }) else None)
    (find (λ n. n.offset == x) (undisputed_notes notes))
    (if is_unknown notes x then Some (record { from = from; end = x + 1; is_open = true }) else None)

abbrev pub stretch_from : Zone → List NoteParts → ℕ → ℕ → Option Stretch
stretch_from zone notes from count = stretch_at zone notes from (over_fills notes from) count

-- The header metadata of a partition (ST 377-1: HeaderByteCount counts from the primer to the end of the header
-- metadata with its trailing fill; a fill before the primer isn't counted).
unfoldable pub metadata_of : List NoteParts → PartitionParts → Option Stretch
metadata_of notes p =
    let count = p.pack.numbers.header_byte_count in
    if nat_lt 0 count then stretch_from zones.Metadata notes p.end count else None

-- Where the bytes after the header metadata begin, if that is known.
abbrev pub known_end : Stretch → Option ℕ
known_end s = if s.is_open then None else Some s.end

abbrev pub behind_metadata : List NoteParts → PartitionParts → Option ℕ
behind_metadata notes p =
    if nat_lt 0 p.pack.numbers.header_byte_count then option_and_then known_end (metadata_of notes p) else Some p.end

-- The index table segments of a partition (ST 377-1: IndexByteCount counts from the first segment to the end of the
-- last one's trailing fill).
unfoldable pub index_of : List NoteParts → PartitionParts → Option Stretch
index_of notes p =
    let count = p.pack.numbers.index_byte_count in
    if nat_lt 0 count then option_and_then (λ from. stretch_from zones.Index notes from count)
    (behind_metadata notes p) else None

abbrev pub stretch_claim : Reason → PartitionParts → Stretch → Claim
stretch_claim reason p s =
    record { reason = reason; source = Some p.offset; from = s.from; end = s.end; is_open = s.is_open }

-- What a partition pack says: of the footer partition above it, of the partition before it, and of its stretches.
unfoldable pub footer_claim : PartitionParts → Option Claim
footer_claim p =
    let place = p.pack.numbers.footer_partition in
    if nat_lt p.offset place then Some (place_claim Footer (Some p.offset) place) else None

unfoldable pub previous_claim : PartitionParts → Option Claim
previous_claim p =
    let place = p.pack.numbers.previous_partition in
    if nat_lt 0 place && nat_lt place p.offset then Some (place_claim Previous (Some p.offset) place) else None

abbrev pub zone_of : Zone → List NoteParts → PartitionParts → Option Stretch
zone_of zones.Metadata notes p = metadata_of notes p
zone_of zones.Index notes p = index_of notes p

abbrev pub zone_reason : Zone → Reason
zone_reason zones.Metadata = Metadata
zone_reason zones.Index = Index

unfoldable pub zone_claim : Zone → List NoteParts → PartitionParts → Option Claim
zone_claim zone notes p = option_map (stretch_claim (zone_reason zone) p) (zone_of zone notes p)

-- What the entries of the only random index pack say, if it can be read.
unfoldable pub entry_claim : ℕ → RipEntry → Option Claim
entry_claim offset entry =
    if entry.offset == 0 then None else Some (place_claim Entry (Some offset) entry.offset)

abbrev pub entry_claims : RipView → List Claim
entry_claims Absent = []
entry_claims Several = []
entry_claims (Unreadable offset) = []
entry_claims (One r) = filter_map (entry_claim r.offset) (map (λ e. e.0) r.entries)

-- All claims, by reason and then source: the header partition stands at 0, whatever packs say.
unfoldable pub claims_of : List NoteParts → List Claim
claims_of notes =
    let partitions = partitions_of notes in
    place_claim Header None 0
    ∷ (filter_map footer_claim partitions
    ++ (filter_map (zone_claim zones.Metadata notes) partitions
    ++ (filter_map (zone_claim zones.Index notes) partitions
    ++ (entry_claims (rip_view_of notes)
    ++ filter_map previous_claim partitions))))

-- The offset is one of those that are claimed.
abbrev pub is_claimed : ℕ → Claim → Bool
is_claimed x c = nat_le c.from x && nat_lt x c.end

-- The first claim of an offset, by reason and then source.
abbrev pub claim_at : List NoteParts → ℕ → Option Claim
claim_at notes x = find (is_claimed x) (claims_of notes)
