-- Which sets have which items (ST 377-1 and the AAF object specification, keys and local tags of sets).
use Rattle.std.specs.Prelude.{◌≡◌, ℕ, ◌≤◌, Bool, false, ◌&&◌, ◌||◌, ◌==◌, not, nat_le, if◌then◌else◌, Option, Some, None, List, [], ◌∷◌}
use Rattle.std.specs.Prelude.{take, drop, slice_index_or}
use Rattle.std.specs.List.{list_any}
use Rattle.std.specs.Option.{option_map_or}
use Rattle.std.specs.Str.{bytes_eq}
use Rattle.mxf_klv.specs.Parts.{NoteParts}
use Rattle.mxf_klv.specs.Rising.{In}
use Rattle.mxf_sets.specs.Items.{ItemParts}
use Rattle.mxf_views.specs.SetItems.{IsMadeUpOf, set_items}
use Rattle.mxf_doubts.specs.declared.classes.Row.{Row}

-- The class of a set: byte 15 of its key, where all else of that but the version is as in the sets of ST 377-1.
abbrev pub begins_as_set : List ℕ → Bool
begins_as_set key =
    bytes_eq (take 3 (drop 4 key)) (0x02 ∷ 0x53 ∷ 0x01 ∷ [])
    && bytes_eq (take 6 (drop 8 key)) (0x0D ∷ 0x01 ∷ 0x01 ∷ 0x01 ∷ 0x01 ∷ 0x01 ∷ [])

abbrev pub has_class : List ℕ → Bool
has_class key = begins_as_set key && (slice_index_or key 15 0 == 0x00)

abbrev pub class_of : List ℕ → Option ℕ
class_of key = if has_class key then Some (slice_index_or key 14 0) else None

-- Tags from one to another stand in sets of the classes from one to another, and in those of other rows with them.
abbrev pub tags_in : ℕ → ℕ → ℕ → ℕ → Row
tags_in first_tag last_tag first_class last_class = record {
  first_tag = first_tag;
  last_tag = last_tag;
  first_class = first_class;
  last_class = last_class;
}

abbrev pub rows : List Row
rows =
    tags_in 0x0201 0x0202 0x03 0x17
    ∷ tags_in 0x0201 0x0202 0x41 0x41
    ∷ tags_in 0x0201 0x0202 0x45 0x45
    ∷ tags_in 0x1001 0x1001 0x0F 0x0F
    ∷ tags_in 0x1101 0x1102 0x11 0x11
    ∷ tags_in 0x1101 0x1102 0x45 0x45
    ∷ tags_in 0x1201 0x1201 0x11 0x11
    ∷ tags_in 0x1201 0x1201 0x45 0x45
    ∷ tags_in 0x1501 0x1503 0x14 0x14
    ∷ tags_in 0x1901 0x1902 0x18 0x18
    ∷ tags_in 0x2701 0x2701 0x23 0x23
    ∷ tags_in 0x3B02 0x3B03 0x2F 0x2F
    ∷ tags_in 0x3B05 0x3B0B 0x2F 0x2F
    ∷ tags_in 0x3C01 0x3C09 0x30 0x30
    ∷ tags_in 0x4001 0x4001 0x32 0x32
    ∷ tags_in 0x4101 0x4101 0x33 0x33
    ∷ tags_in 0x4401 0x4406 0x35 0x37
    ∷ tags_in 0x4408 0x4409 0x35 0x37
    ∷ tags_in 0x4701 0x4701 0x37 0x37
    ∷ tags_in 0x4801 0x4804 0x39 0x3B
    ∷ tags_in 0x4901 0x4902 0x39 0x39
    ∷ tags_in 0x4B01 0x4B02 0x3B 0x3B
    ∷ tags_in 0x5001 0x5001 0x3F 0x3F
    ∷ tags_in 0x5003 0x5003 0x3F 0x3F
    ∷ tags_in 0x6101 0x6101 0x41 0x41
    ∷ tags_in 0x3001 0x3002 0x24 0x29
    ∷ tags_in 0x3001 0x3002 0x42 0x44
    ∷ tags_in 0x3001 0x3002 0x47 0x48
    ∷ tags_in 0x3001 0x3002 0x51 0xFF
    ∷ tags_in 0x3004 0x3006 0x24 0x29
    ∷ tags_in 0x3004 0x3006 0x42 0x44
    ∷ tags_in 0x3004 0x3006 0x47 0x48
    ∷ tags_in 0x3004 0x3006 0x51 0xFF
    ∷ tags_in 0x2F01 0x2F01 0x24 0x29
    ∷ tags_in 0x2F01 0x2F01 0x2D 0x2E
    ∷ tags_in 0x2F01 0x2F01 0x42 0x44
    ∷ tags_in 0x2F01 0x2F01 0x47 0x4B
    ∷ tags_in 0x2F01 0x2F01 0x4E 0x4E
    ∷ tags_in 0x2F01 0x2F01 0x51 0xFF
    ∷ tags_in 0x3F01 0x3F01 0x24 0x29
    ∷ tags_in 0x3F01 0x3F01 0x2D 0x2E
    ∷ tags_in 0x3F01 0x3F01 0x42 0x44
    ∷ tags_in 0x3F01 0x3F01 0x47 0x4B
    ∷ tags_in 0x3F01 0x3F01 0x4E 0x4E
    ∷ tags_in 0x3F01 0x3F01 0x51 0xFF
    ∷ tags_in 0x3201 0x321D 0x24 0x29
    ∷ tags_in 0x3201 0x321D 0x51 0xFF
    ∷ tags_in 0x3301 0x330B 0x24 0x26
    ∷ tags_in 0x3301 0x330B 0x28 0x28
    ∷ tags_in 0x3301 0x330B 0x51 0xFF
    ∷ tags_in 0x3401 0x3407 0x24 0x26
    ∷ tags_in 0x3401 0x3407 0x29 0x29
    ∷ tags_in 0x3401 0x3407 0x52 0xFF
    ∷ tags_in 0x3D01 0x3D0D 0x24 0x26
    ∷ tags_in 0x3D01 0x3D0D 0x42 0x42
    ∷ tags_in 0x3D01 0x3D0D 0x47 0x48
    ∷ tags_in 0x3D01 0x3D0D 0x52 0xFF
    ∷ []

abbrev pub has_tag : ℕ → Row → Bool
has_tag tag r = nat_le r.first_tag tag && nat_le tag r.last_tag

abbrev pub takes : ℕ → Row → Bool
takes class r = nat_le r.first_class class && nat_le class r.last_class

-- One of these rows knows the tag.
abbrev pub is_known : ℕ → List Row → Bool
is_known tag rows = list_any (has_tag tag) rows

-- One that knows the tag takes the class.
abbrev pub is_taken : ℕ → ℕ → List Row → Bool
is_taken class tag rows = list_any (λ r. has_tag tag r && takes class r) rows

-- No row knows the tag, or one takes the class of the set.
abbrev pub fits : Option ℕ → ℕ → Bool
fits None tag = not (is_known tag rows)
fits (Some class) tag = not (is_known tag rows) || is_taken class tag rows

-- A set that keeps its value, whose items can be read, and one of them has a tag that sets of its class don't have.
unfoldable pub is_misfit : NoteParts → Bool
is_misfit n = option_map_or (λ items. list_any (λ (i : ItemParts). not (fits (class_of n.key) i.tag)) items) (set_items n) false

-- The same in words of items and rows.
pub record IsMisfit (n : NoteParts) : Type 0 where
  pub items : List ItemParts
  pub made : IsMadeUpOf n items
  pub item : ItemParts
  pub there : In item items
  pub row : Row
  pub one : In row rows
  pub from : row.first_tag ≤ item.tag
  pub to : item.tag ≤ row.last_tag
  pub none : (class : ℕ) (r : Row) → class_of n.key ≡ Some class → In r rows → r.first_tag ≤ item.tag
      → item.tag ≤ r.last_tag → r.first_class ≤ class → ¬ (class ≤ r.last_class)
