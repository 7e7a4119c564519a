-- Where the essence of partitions lies, as far as that is known (ST 377-1, BodyOffset; sureness is this project's
-- profile).
use Rattle.std.specs.Prelude.{◌≡◌, ℕ, ◌+◌, ◌-◌, Bool, true, false, ◌&&◌, ◌||◌, ◌==◌, not, nat_le, nat_lt, is_some}
use Rattle.std.specs.Prelude.{if◌then◌else◌, Option, None, Some, Result, Err, List, [], ◌∷◌, ◌++◌, filter, find, map}
use Rattle.std.specs.Prelude.{reverse}
use Rattle.std.specs.Option.{ok_or, option_and_then, option_cmp, option_map, option_map_or, option_or}
use Rattle.std.specs.List.{filter_map, AllByRecursion}
use Rattle.std.specs.Ordering.{bool_cmp, nat_cmp, on, then_cmp}
use Rattle.std.specs.declared.cmp.Ordering.{Ordering}
use Rattle.std.specs.declared.cmp.Ordering.TheVariants.{Less}
use Rattle.mxf_klv.specs.declared.kinds.Kind.{Kind}
use Rattle.mxf_klv.specs.declared.kinds.Kind.TheVariants as kinds
use Rattle.mxf_klv.specs.Parts.{NoteParts}
use Rattle.mxf_klv.specs.Note.{end_of}
use Rattle.mxf_klv.specs.Kind.{kind_of}
use Rattle.mxf_klv.specs.Rising.{union}
use Rattle.mxf_catalogue.specs.Disputes.{undisputed_notes}
use Rattle.mxf_views.specs.Partitions.{PartitionParts, partitions_of, previous_of}
use Rattle.mxf_views.specs.Places.{segments_of}
use Rattle.mxf_views.specs.RandomIndexView.{rip_view_of}
use Rattle.mxf_views.specs.declared.random_index.RipView.{RipView}
use Rattle.mxf_views.specs.declared.random_index.RipView.TheVariants.{Absent, Several, Unreadable, One}
use Rattle.mxf_places.specs.Held.{begins_clear_head, end_of_file, is_disputed_at, is_held, is_in_file}
use Rattle.mxf_places.specs.Claims.{behind_metadata, claims_of, index_of, known_end, named_place, over_fills}
use Rattle.mxf_places.specs.declared.claim.Claim.{Claim}
use Rattle.mxf_units.specs.declared.standing.UnitStanding.{UnitStanding}
use Rattle.mxf_units.specs.declared.standing.UnitStanding.TheVariants as standings
use Rattle.mxf_units.specs.declared.essence_zone.EssenceZone.{EssenceZone}
use Rattle.mxf_units.specs.declared.essence_zone.part.StreamPart.{StreamPart}
use Rattle.mxf_units.specs.Streams.{least_above, next_of}

-- Where the bytes after the header metadata and the index table segments of a partition begin, if that is known.
abbrev pub behind_index : List NoteParts → PartitionParts → Option ℕ
behind_index notes p =
    if nat_lt 0 p.pack.numbers.index_byte_count then option_and_then known_end (index_of notes p)
    else behind_metadata notes p

abbrev pub is_essence : Kind → Bool
is_essence kinds.Essence = true
is_essence _ = false

-- Essence, or a packet of a kind that isn't known.
abbrev pub may_be_essence : Kind → Bool
may_be_essence kinds.Essence = true
may_be_essence kinds.Other = true
may_be_essence _ = false

-- The packet at an offset, whole or head, if it may be essence and shares no byte with another.
abbrev pub essence_at : List NoteParts → ℕ → Option NoteParts
essence_at notes x =
    option_and_then (λ n. if may_be_essence (kind_of n.key) then Some n else None)
    (find (λ n. n.offset == x) (undisputed_notes notes))

-- The first packet of the essence of a partition: the one after its header metadata and its index table segments, and
-- after the fills that follow these.
unfoldable pub first_packet : List NoteParts → PartitionParts → Option NoteParts
first_packet notes p = option_and_then (λ x. essence_at notes (over_fills notes x)) (behind_index notes p)

-- All units of the partition lie in its first packet: this begins its stream, and the second unit of that begins
-- inside.
abbrev pub begins_inside : NoteParts → Option ℕ → Bool
begins_inside n second = option_map_or (λ offset. nat_lt offset (end_of n - n.offset)) second false

abbrev pub is_clip_wrapped : List NoteParts → PartitionParts → NoteParts → Bool
is_clip_wrapped notes p n =
    is_essence (kind_of n.key) && (p.pack.numbers.body_offset == 0)
    && begins_inside n (next_of (segments_of notes) p.pack.numbers.body_sid 0)

-- A place that a pack names, if it isn't known whole what begins there: it is missing or disputed.
abbrev pub is_open_place : List NoteParts → ℕ → Bool
is_open_place notes x =
    is_in_file notes x && (is_disputed_at notes x || begins_clear_head notes x || not (is_held notes x))

unfoldable pub open_place : List NoteParts → Claim → Option ℕ
open_place notes c = option_and_then (λ x. if is_open_place notes x then Some x else None) (named_place c)

-- Where a partition stands, or one may stand.
abbrev pub bounds_of : List NoteParts → List ℕ
bounds_of notes = map (λ p. p.offset) (partitions_of notes) ++ filter_map (open_place notes) (claims_of notes)

-- The offset of the only random index pack, if the end of the file is known.
abbrev pub rip_place_by : Option ℕ → RipView → Option ℕ
rip_place_by end Absent = None
rip_place_by end Several = None
rip_place_by end (Unreadable offset) = None
rip_place_by end (One r) = if is_some end then Some r.offset else None

-- Where a partition ends at the latest.
abbrev pub limit_of : List NoteParts → PartitionParts → Option ℕ
limit_of notes p =
    option_or (least_above p.offset (bounds_of notes)) (rip_place_by (end_of_file notes) (rip_view_of notes))

abbrev pub is_one : RipView → Bool
is_one Absent = false
is_one Several = false
is_one (Unreadable offset) = false
is_one (One r) = true

-- A partition stands at an offset and names another as the one before it.
abbrev pub names_before : List NoteParts → ℕ → ℕ → Bool
names_before notes offset before =
    option_map_or (λ q. previous_of q == before) (find (λ q. q.offset == offset) (partitions_of notes)) false

-- No unknown partition lies between a partition and a limit: all are listed, or one at the limit names this.
abbrev pub is_sure : List NoteParts → PartitionParts → Option ℕ → Bool
is_sure notes p limit =
    option_map_or (λ x. is_one (rip_view_of notes) || names_before notes x p.offset) limit false

-- The essence of a partition by its first packet. Its origin is where the bytes lie that BodyOffset counts from: the
-- packets of the stream with keys, lengths and fills, but if one packet has all units, the bytes of its value.
abbrev pub zone_by : List NoteParts → PartitionParts → NoteParts → EssenceZone
zone_by notes p n =
    let limit = limit_of notes p in
    if is_clip_wrapped notes p n
    then record { body_offset = 0; origin = n.offset + 16 + n.width; limit = Some (end_of n); is_sure = true }
    else record {
      body_offset = p.pack.numbers.body_offset;
      origin = n.offset;
      limit = limit;
      is_sure = is_sure notes p limit;
    }

unfoldable pub zone_of : List NoteParts → PartitionParts → Option EssenceZone
zone_of notes p = option_map (zone_by notes p) (first_packet notes p)

-- A partition as a part of its stream.
abbrev pub part_by : PartitionParts → Option EssenceZone → StreamPart
part_by p zone = record {
  body_sid = p.pack.numbers.body_sid;
  body_offset = p.pack.numbers.body_offset;
  zone = zone;
  partition = p.offset;
}

abbrev pub part_of : List NoteParts → PartitionParts → StreamPart
part_of notes p = part_by p (zone_of notes p)

abbrev pub zone_cmp : EssenceZone → EssenceZone → Ordering
zone_cmp =
    then_cmp (on (λ z. z.body_offset) nat_cmp)
    (then_cmp (on (λ z. z.origin) nat_cmp)
    (then_cmp (on (λ z. z.limit) (option_cmp nat_cmp)) (on (λ z. z.is_sure) bool_cmp)))

-- By BodySID, then by BodyOffset, then those without a first packet before the others.
abbrev pub part_cmp : StreamPart → StreamPart → Ordering
part_cmp =
    then_cmp (on (λ p. p.body_sid) nat_cmp)
    (then_cmp (on (λ p. p.body_offset) nat_cmp)
    (then_cmp (on (λ p. p.zone) (option_cmp zone_cmp)) (on (λ p. p.partition) nat_cmp)))

-- Each part comes after all later ones.
abbrev pub IsFalling : List StreamPart → Type 0
IsFalling [] = Unit {0}
IsFalling (p ∷ parts) = AllByRecursion (λ q. part_cmp q p ≡ Less) parts × IsFalling parts

-- The parts of all streams, from the last to the first.
unfoldable pub parts_of : List NoteParts → List StreamPart
parts_of notes = reverse (union part_cmp [] (map (part_of notes) (partitions_of notes)))

-- The part of a stream begins at or below an offset.
abbrev pub begins_up_to : ℕ → ℕ → StreamPart → Bool
begins_up_to body_sid offset p = (p.body_sid == body_sid) && nat_le p.body_offset offset

-- The essence of the last of parts, or of the only one of several that begin where it does and have a first packet.
abbrev pub chosen : List StreamPart → Result EssenceZone UnitStanding
chosen [] = Err standings.NoPartition
chosen (p ∷ []) = ok_or p.zone standings.Unknown
chosen (p ∷ q ∷ parts) =
    if not (p.body_offset == q.body_offset) then ok_or p.zone standings.Unknown
    else (if is_some q.zone then Err standings.Several else ok_or p.zone standings.Several)

-- Two parts begin at one offset of one stream.
abbrev pub begins_with : StreamPart → StreamPart → Bool
begins_with p q = (p.body_sid == q.body_sid) && (p.body_offset == q.body_offset)

-- The same of parts from the last to the first if none of them begins after the offset: by the first and the second.
abbrev pub by_second : StreamPart → List StreamPart → Result EssenceZone UnitStanding
by_second p [] = ok_or p.zone standings.Unknown
by_second p (q ∷ parts) =
    if begins_with p q then (if is_some q.zone then Err standings.Several else ok_or p.zone standings.Several)
    else ok_or p.zone standings.Unknown

abbrev pub by_first : ℕ → List StreamPart → Result EssenceZone UnitStanding
by_first body_sid [] = Err standings.NoPartition
by_first body_sid (p ∷ parts) = if p.body_sid == body_sid then by_second p parts else Err standings.NoPartition

-- Where the essence lies in which an offset of a stream is to be found.
abbrev pub zone_at : List StreamPart → ℕ → ℕ → Result EssenceZone UnitStanding
zone_at parts body_sid offset = chosen (filter (begins_up_to body_sid offset) parts)
