-- What the views keep of the clear notes, and what an addition changes of it (this project's profile).
use Rattle.std.specs.Prelude.{◌≡◌, ℕ, ◌+◌, ◌-◌, ◌≤◌, max, min, ◌⊎◌, Bool, ◌&&◌, ◌||◌, ◌==◌, nat_le, nat_lt}
use Rattle.std.specs.Prelude.{if◌then◌else◌, ◌<◌, ◌++◌, count_by, length, not, option_map, IfSome, Vec, Option, None}
use Rattle.std.specs.Prelude.{Some, false, is_some, List, [], ◌∷◌, filter, find, map}
use Rattle.std.specs.Global.{Global}
use Rattle.std.specs.Vec.{vec_capacity, vec_len}
use Rattle.std.specs.List.{AllByRecursion, cons_option, filter_map}
use Rattle.std.specs.Option.{option_and_then}
use Rattle.mxf_klv.specs.Parts.{NoteParts}
use Rattle.mxf_klv.specs.Note.{end_of}
use Rattle.mxf_klv.specs.Kind.{kind_of}
use Rattle.mxf_klv.specs.Rising.{In}
use Rattle.mxf_catalogue.specs.Disputes.{IsClear, SharesByte, clear_notes}
use Rattle.mxf_views.specs.declared.copy.CopyInfo.{CopyInfo}
use Rattle.mxf_catalogue.specs.Content.{AreReduced, IsCatalogue, IsContent, has_note, reduced_with}
use Rattle.mxf_views.specs.declared.kept.arrival.Arrival.{Arrival}
use Rattle.mxf_views.specs.declared.kept.KeptLists.{KeptLists}
use Rattle.mxf_views.specs.Copies.{copies_of, copy_of, has_metadata, is_fill, is_primer}
use Rattle.mxf_views.specs.Partitions.{PartitionParts, in_numbers, is_no_unreadable_pack, partition_at}
use Rattle.mxf_views.specs.Places.{SegmentAtParts, placed_segment, without_entries}
use Rattle.mxf_views.specs.RandomIndex.{is_rip_note}

-- What is kept of a note that is a readable partition pack, or a readable index table segment; and the offset of one
-- that is a random index pack, or a partition pack that isn't readable.
abbrev pub kept_partition : NoteParts → Option PartitionParts
kept_partition n = option_map in_numbers (partition_at n)

abbrev pub kept_segment : NoteParts → Option SegmentAtParts
kept_segment n = option_map without_entries (placed_segment n)

abbrev pub offset_if : Bool → NoteParts → Option ℕ
offset_if so n = if so then Some n.offset else None

abbrev pub kept_random_index_pack : NoteParts → Option ℕ
kept_random_index_pack n = offset_if (is_rip_note n) n

abbrev pub kept_unreadable_pack : NoteParts → Option ℕ
kept_unreadable_pack n = offset_if (not (is_no_unreadable_pack n)) n

-- Something is kept of the note.
abbrev pub is_kept : {A : Type 0} → (NoteParts → Option A) → NoteParts → Bool
is_kept take n = is_some (take n)

-- What is kept of the clear notes.
abbrev pub kept_among : {A : Type 0} → (NoteParts → Option A) → List NoteParts → List A
kept_among take notes = filter_map take (clear_notes notes)

-- What is kept of the clear note at the offset.
abbrev pub kept_at : {A : Type 0} → (NoteParts → Option A) → List NoteParts → ℕ → Option A
kept_at take notes offset = option_and_then take (find (λ n. n.offset == offset) (clear_notes notes))

-- The range goes from the least offset of a note and of the clear notes that share a byte with it to their greatest
-- end.
pub record IsHull (x : NoteParts) (notes : List NoteParts) (start end : ℕ) : Type 0 where
  pub all : (m : NoteParts) → IsClear m notes → SharesByte x m → (start ≤ m.offset) × (end_of m ≤ end)
  pub least : (start ≡ x.offset) ⊎ ((m : NoteParts) × IsClear m notes × SharesByte x m × (start ≡ m.offset))
  pub greatest : (end ≡ end_of x) ⊎ ((m : NoteParts) × IsClear m notes × SharesByte x m × (end ≡ end_of m))
  pub low : start ≤ x.offset
  pub high : end_of x ≤ end

abbrev pub has_some_metadata : Option PartitionParts → Bool
has_some_metadata None = false
has_some_metadata (Some p) = has_metadata p

-- It is a partition pack that states header metadata.
abbrev pub states_metadata : NoteParts → Bool
states_metadata n = has_some_metadata (partition_at n)

-- The copy of the partition that the note is, if it states header metadata.
abbrev pub copy_by : List NoteParts → NoteParts → Option CopyInfo
copy_by notes n =
    option_and_then (λ p. if has_metadata p then Some (copy_of notes p) else None) (partition_at n)

-- The offset lies outside of the range.
abbrev pub is_outside : ℕ → ℕ → ℕ → Bool
is_outside start end offset = nat_lt offset start || nat_le end offset

-- The offset lies above the lower one and below the upper one.
abbrev pub lies_between : ℕ → ℕ → ℕ → Bool
lies_between low high offset = nat_lt low offset && nat_lt offset high

-- A copy without a start can get one only by a note that is a fill or a primer.
unfoldable pub can_bring_start : NoteParts → Bool
can_bring_start n = is_fill (kind_of n.key) || is_primer (kind_of n.key)

-- What comes and goes in a range may change the copy: the range meets that from the partition to the end of the zone,
-- or there is no zone yet and a start may come.
abbrev pub may_change : ℕ → ℕ → Bool → CopyInfo → Option ℕ → Bool
may_change start end brings c None = brings
may_change start end brings c (Some zone) = nat_lt c.partition end && nat_lt (start - zone) c.bytes

abbrev pub or_itself : CopyInfo → Option CopyInfo → CopyInfo
or_itself c None = c
or_itself c (Some d) = d

-- The copy of the same partition, counted anew if it may have changed.
abbrev pub renewed : List NoteParts → ℕ → ℕ → Bool → CopyInfo → CopyInfo
renewed notes start end brings c =
    if may_change start end brings c c.start then or_itself c (find (λ d. d.partition == c.partition) (copies_of notes))
    else c

-- The list with another element in its place, by their keys.
abbrev pub with_keyed : {A : Type 0} → (A → ℕ) → A → List A → List A
with_keyed key x [] = x ∷ []
with_keyed key x (y ∷ ys) = if nat_lt (key x) (key y) then x ∷ y ∷ ys else y ∷ with_keyed key x ys

abbrev pub with_found : {A : Type 0} → (A → ℕ) → Option A → List A → List A
with_found key None xs = xs
with_found key (Some x) xs = with_keyed key x xs

-- The elements whose keys lie outside of the range.
abbrev pub outside : {A : Type 0} → (A → ℕ) → ℕ → ℕ → List A → List A
outside key start end xs = filter (λ x. is_outside start end (key x)) xs

-- The elements outside of the range, and another in its place, if there is one.
abbrev pub followed : {A : Type 0} → (A → ℕ) → Option A → ℕ → ℕ → List A → List A
followed key there start end xs = with_found key there (outside key start end xs)

-- The copies once a note stands at the offset: those outside of the range counted anew, and that of the offset.
abbrev pub copies_followed : List NoteParts → ℕ → ℕ → ℕ → Bool → List CopyInfo → List CopyInfo
copies_followed notes offset start end brings copies =
    with_found (λ c. c.partition) (find (λ d. d.partition == offset) (copies_of notes))
    (map (renewed notes start end brings) (outside (λ c. c.partition) start end copies))

-- Where a zone of a given number of bytes ends, at most at the greatest file offset; 0 without a start.
abbrev pub reach_from : ℕ → Option ℕ → ℕ
reach_from bytes None = 0
reach_from bytes (Some start) = min (start + bytes) 18446744073709551615

-- The same for the zone of the copy.
abbrev pub reach_of : CopyInfo → ℕ
reach_of c = reach_from c.bytes c.start

-- For each copy the greatest of an offset, the end of its zone and those of the copies before it.
abbrev pub reaches_from : ℕ → List CopyInfo → List ℕ
reaches_from high [] = []
reaches_from high (c ∷ copies) = max high (reach_of c) ∷ reaches_from (max high (reach_of c)) copies

-- How far the copies reach: for each the greatest end of its zone and of the zones of those before it.
abbrev pub reaches_of : List CopyInfo → List ℕ
reaches_of copies = reaches_from 0 copies

-- The one start is below the other, if there are both.
abbrev pub IsStartBelow : Option ℕ → Option ℕ → Type 0
IsStartBelow None other = Unit {0}
IsStartBelow (Some start) None = Unit {0}
IsStartBelow (Some start) (Some other) = start < other

-- Each copy starts below all later ones, if both have a start.
abbrev pub StartsRise : List CopyInfo → Type 0
StartsRise [] = Unit {0}
StartsRise (c ∷ copies) = AllByRecursion (λ d. IsStartBelow c.start d.start) copies × StartsRise copies

-- The clear notes at the keys of what is kept.
abbrev pub notes_at : {A : Type 0} → (A → ℕ) → List NoteParts → List A → List NoteParts
notes_at key notes kept = filter_map (λ x. find (λ n. n.offset == key x) (clear_notes notes)) kept

-- What there is is what there was, and another element after it if there is one.
pub record IsAppended {A : Type 0} (next : Option A) (before now : Vec A Global) : Type 0 where
  pub items : now.items ≡ before.items ++ cons_option next []
  pub len : vec_len now ≡ vec_len before + length (cons_option next [])
  pub capacity : vec_capacity before ≤ vec_capacity now

-- What there is is what there was, without what the arrival moves.
pub record IsLeft {A : Type 0} (key : A → ℕ) (a : Arrival) (before now : Vec A Global) : Type 0 where
  pub items : now.items ≡ outside key a.start a.end before.items
  pub len : vec_len now ≤ vec_len before
  pub capacity : vec_capacity now ≡ vec_capacity before

-- What is kept: the partitions and the segments by what they state in numbers, where random index packs and unreadable
-- partition packs stand, the copies, and how far these reach.
pub record KeptParts : Type 0 where
  pub partitions : List PartitionParts
  pub segments : List SegmentAtParts
  pub rips : List ℕ
  pub unreadable : List ℕ
  pub copies : List CopyInfo
  pub reaches : List ℕ

-- What is kept of a content.
abbrev pub kept_of : List NoteParts → KeptParts
kept_of notes = record {
  partitions = kept_among kept_partition notes;
  segments = kept_among kept_segment notes;
  rips = kept_among kept_random_index_pack notes;
  unreadable = kept_among kept_unreadable_pack notes;
  copies = copies_of notes;
  reaches = reaches_of (copies_of notes);
}

-- Nothing: what is kept of no note.
abbrev pub nothing_kept : KeptParts
nothing_kept =
    record { partitions = []; segments = []; rips = []; unreadable = []; copies = []; reaches = [] }

abbrev pub kept_in : KeptLists → KeptParts
kept_in k = record {
  partitions = k.partitions.items;
  segments = k.segments.items;
  rips = k.random_index_packs.items;
  unreadable = k.unreadable_packs.items;
  copies = k.copies.items;
  reaches = k.reaches.items;
}

-- What is kept of the clear notes fits beside what there is, without taking memory.
pub record HasRoom (there : KeptParts) (clear : List NoteParts) (k : KeptLists) : Type 0 where
  pub partitions : length there.partitions + count_by (is_kept kept_partition) clear ≤ vec_capacity k.partitions
  pub segments : length there.segments + count_by (is_kept kept_segment) clear ≤ vec_capacity k.segments
  pub rips : length there.rips + count_by (is_kept kept_random_index_pack) clear ≤ vec_capacity k.random_index_packs
  pub unreadable : length there.unreadable + count_by (is_kept kept_unreadable_pack) clear
      ≤ vec_capacity k.unreadable_packs
  pub copies : length there.copies + count_by states_metadata clear ≤ vec_capacity k.copies
  pub reaches : length there.reaches + count_by states_metadata clear ≤ vec_capacity k.reaches

-- One more of each fits without taking memory.
pub record HasRoomForOne (k : KeptLists) : Type 0 where
  pub partitions : vec_len k.partitions < vec_capacity k.partitions
  pub segments : vec_len k.segments < vec_capacity k.segments
  pub rips : vec_len k.random_index_packs < vec_capacity k.random_index_packs
  pub unreadable : vec_len k.unreadable_packs < vec_capacity k.unreadable_packs
  pub copies : vec_len k.copies < vec_capacity k.copies
  pub reaches : vec_len k.reaches < vec_capacity k.reaches

-- Each note of the first ends at or below the boundary, and each of the other begins at or above it.
pub record MeetAt (boundary : ℕ) (own other : List NoteParts) : Type 0 where
  pub own_is : IsCatalogue own
  pub other_is : IsCatalogue other
  pub own_reduced : AreReduced own
  pub other_reduced : AreReduced other
  pub ends : (n : NoteParts) → In n own → end_of n ≤ boundary
  pub begins : (n : NoteParts) → In n other → boundary ≤ n.offset

-- What has to be known of a note that is added to a content.
pub record IsArrival (x : NoteParts) (notes : List NoteParts) (a : Arrival) : Type 0 where
  pub content : IsContent notes
  pub reduced : AreReduced notes
  pub hull : IsHull x notes a.start a.end
  pub offset : a.offset ≡ x.offset
  pub can_bring_start : a.can_bring_start ≡ can_bring_start x
  pub boundary : IfSome a.boundary (λ b. MeetAt b notes (x ∷ []))

-- What is kept is that of notes to which a note has been added since, one that they hadn't.
pub record HasArrived (a : Arrival) (after : List NoteParts) (k : KeptParts) : Type 0 where
  pub note : NoteParts
  pub notes : List NoteParts
  pub new : has_note notes note → ⊥
  pub arrival : IsArrival note notes a
  pub is_after : after ≡ reduced_with note notes
  pub kept : k ≡ kept_of notes
