-- Tracks that header metadata name, and essence that none of them names (ST 377-1, TrackNumber; what is in doubt is this
-- project's profile).
use Rattle.std.specs.Prelude.{ℕ, Bool, true, false, ◌&&◌, ◌==◌, not, if◌then◌else◌, Option, Some, None, List, [], ◌∷◌, drop, length}
use Rattle.std.specs.Prelude.{◌≡◌, filter, flat_map}
use Rattle.std.specs.BTreeSet.{BTreeSet, contains}
use Rattle.std.specs.Cmp.Lexicographic.{slice_cmp}
use Rattle.std.specs.List.{filter_map, list_any}
use Rattle.std.specs.Option.{option_map_or}
use Rattle.std.specs.Ordering.{nat_cmp}
use Rattle.std.specs.Str.{bytes_eq}
use Rattle.mxf_klv.specs.declared.kinds.Kind.{Kind}
use Rattle.mxf_klv.specs.declared.kinds.Kind.TheVariants as kinds
use Rattle.mxf_klv.specs.Parts.{NoteParts}
use Rattle.mxf_klv.specs.Kind.{kind_of}
use Rattle.mxf_sets.specs.Items.{ItemParts}
use Rattle.mxf_catalogue.specs.Disputes.{clear_notes}
use Rattle.mxf_views.specs.SetItems.{set_items}
use Rattle.mxf_doubts.specs.Sound.{is_in_sound_zone}
use Rattle.mxf_doubts.specs.Strange.{is_essence, is_lone}

-- The track number that an item is: four bytes, not all of them zero, with the tag of TrackNumber.
abbrev pub track_number : ItemParts → Option (List ℕ)
track_number i =
    if (i.tag == 0x4804) && (length i.value == 4) && not (bytes_eq i.value (0x00 ∷ 0x00 ∷ 0x00 ∷ 0x00 ∷ []))
    then Some i.value else None

abbrev pub is_raw_set : Kind → Bool
is_raw_set kinds.RawSet = true
is_raw_set _ = false

-- The track numbers in a raw set that keeps its value and whose items can be read.
unfoldable pub numbers_in : NoteParts → List (List ℕ)
numbers_in n = if is_raw_set (kind_of n.key) then option_map_or (filter_map track_number) (set_items n) [] else []

-- The numbers of named tracks: those in the clear raw sets that lie wholly in the zone of a finished copy.
abbrev pub named_tracks : List NoteParts → List (List ℕ)
named_tracks notes = flat_map numbers_in (filter (is_in_sound_zone notes) (clear_notes notes))

abbrev pub is_any : List (List ℕ) → Bool
is_any [] = false
is_any (number ∷ numbers) = true

-- No track has the number, although some track has one.
abbrev pub is_no_track : List NoteParts → List ℕ → Bool
is_no_track notes number = is_any (named_tracks notes) && not (list_any (bytes_eq number) (named_tracks notes))

-- An essence element with a key that no other packet has, and of whose last four bytes, by which an essence element names its
-- track (ST 377-1), no track has the number.
unfoldable pub is_untracked : List NoteParts → NoteParts → Bool
is_untracked notes n = is_essence (kind_of n.key) && is_lone notes n && is_no_track notes (drop 12 n.key)

-- The table has the numbers of named tracks, and no others.
abbrev pub AreNamed : List NoteParts → BTreeSet (List ℕ) → Type 0
AreNamed notes numbers =
    (number : List ℕ) → contains (slice_cmp nat_cmp) numbers number ≡ list_any (bytes_eq number) (named_tracks notes)
