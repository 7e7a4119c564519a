-- Packets whose keys no other packet of the content has, as a damaged key leaves them (this project's profile). Byte 8 of a
-- key, the version of its register, doesn't count (ST 336, universal labels).
use Rattle.std.specs.Prelude.{◌≡◌, ℕ, Bool, true, false, ◌&&◌, ◌||◌, ◌==◌, not, List, [], ◌∷◌, ◌++◌, take, drop, count_by}
use Rattle.std.specs.Cmp.Lexicographic.{slice_cmp}
use Rattle.std.specs.List.{list_any}
use Rattle.std.specs.List.Sorted.{IsSorted}
use Rattle.std.specs.Ordering.{nat_cmp}
use Rattle.std.specs.Str.{bytes_eq}
use Rattle.mxf_klv.specs.declared.kinds.Kind.{Kind}
use Rattle.mxf_klv.specs.declared.kinds.Kind.TheVariants as kinds
use Rattle.mxf_klv.specs.Parts.{NoteParts}
use Rattle.mxf_klv.specs.Kind.{is_in_containers, kind_of}
use Rattle.mxf_klv.specs.Rising.{In}

-- A key with 0 in place of its version.
abbrev pub bare_key : List ℕ → List ℕ
bare_key key = take 7 key ++ 0x00 ∷ drop 8 key

-- The note's key is this one but for the version.
abbrev pub has_bare_key : List ℕ → NoteParts → Bool
has_bare_key key n = bytes_eq (bare_key n.key) (bare_key key)

-- How many notes of the content have the key but for the version, disputed ones and heads too.
abbrev pub count_with : List ℕ → List NoteParts → ℕ
count_with key notes = count_by (has_bare_key key) notes

-- No other note of the content has its key but for the version.
abbrev pub is_lone : List NoteParts → NoteParts → Bool
is_lone notes n = count_with n.key notes == 1

-- The same in words of notes.
abbrev pub IsLone : List NoteParts → NoteParts → Type 0
IsLone notes n = (m : NoteParts) → In m notes → bare_key m.key ≡ bare_key n.key → m ≡ n

-- The keys that standards name and whose packets are of kind Other, each as its bytes 5 to 7 and 9 to 16.
abbrev pub named : List ℕ → List ℕ → List ℕ
named registry item = 0x06 ∷ 0x0E ∷ 0x2B ∷ 0x34 ∷ registry ++ 0x00 ∷ item

-- ST 385, System Scheme 1: its system metadata pack and its sets of package metadata, pictures, sounds and data.
abbrev pub of_system_scheme : List (List ℕ)
of_system_scheme =
    named (0x02 ∷ 0x05 ∷ 0x01 ∷ []) (0x0D ∷ 0x01 ∷ 0x03 ∷ 0x01 ∷ 0x04 ∷ 0x01 ∷ 0x01 ∷ 0x00 ∷ [])
    ∷ named (0x02 ∷ 0x43 ∷ 0x01 ∷ []) (0x0D ∷ 0x01 ∷ 0x03 ∷ 0x01 ∷ 0x04 ∷ 0x01 ∷ 0x02 ∷ 0x01 ∷ [])
    ∷ named (0x02 ∷ 0x43 ∷ 0x01 ∷ []) (0x0D ∷ 0x01 ∷ 0x03 ∷ 0x01 ∷ 0x04 ∷ 0x01 ∷ 0x03 ∷ 0x01 ∷ [])
    ∷ named (0x02 ∷ 0x43 ∷ 0x01 ∷ []) (0x0D ∷ 0x01 ∷ 0x03 ∷ 0x01 ∷ 0x04 ∷ 0x01 ∷ 0x04 ∷ 0x01 ∷ [])
    ∷ named (0x02 ∷ 0x43 ∷ 0x01 ∷ []) (0x0D ∷ 0x01 ∷ 0x03 ∷ 0x01 ∷ 0x04 ∷ 0x01 ∷ 0x05 ∷ 0x01 ∷ [])
    ∷ []

-- ST 405, elements and individual data items: its system metadata pack and its sets.
abbrev pub of_generic_system : List (List ℕ)
of_generic_system =
    named (0x02 ∷ 0x05 ∷ 0x01 ∷ []) (0x0D ∷ 0x01 ∷ 0x03 ∷ 0x01 ∷ 0x14 ∷ 0x02 ∷ 0x01 ∷ 0x00 ∷ [])
    ∷ named (0x02 ∷ 0x53 ∷ 0x01 ∷ []) (0x0D ∷ 0x01 ∷ 0x03 ∷ 0x01 ∷ 0x14 ∷ 0x02 ∷ 0x01 ∷ 0x00 ∷ [])
    ∷ named (0x02 ∷ 0x53 ∷ 0x01 ∷ []) (0x0D ∷ 0x01 ∷ 0x03 ∷ 0x01 ∷ 0x14 ∷ 0x02 ∷ 0x02 ∷ 0x00 ∷ [])
    ∷ named (0x02 ∷ 0x53 ∷ 0x01 ∷ []) (0x0D ∷ 0x01 ∷ 0x03 ∷ 0x01 ∷ 0x14 ∷ 0x02 ∷ 0x03 ∷ 0x00 ∷ [])
    ∷ []

-- ST 429-6, encrypted triplets; ST 410, generic stream partition packs and generic stream data elements.
abbrev pub of_other_standards : List (List ℕ)
of_other_standards =
    named (0x02 ∷ 0x04 ∷ 0x01 ∷ []) (0x0D ∷ 0x01 ∷ 0x03 ∷ 0x01 ∷ 0x02 ∷ 0x7E ∷ 0x01 ∷ 0x00 ∷ [])
    ∷ named (0x02 ∷ 0x05 ∷ 0x01 ∷ []) (0x0D ∷ 0x01 ∷ 0x02 ∷ 0x01 ∷ 0x01 ∷ 0x03 ∷ 0x11 ∷ 0x00 ∷ [])
    ∷ named (0x01 ∷ 0x01 ∷ 0x01 ∷ []) (0x0D ∷ 0x01 ∷ 0x05 ∷ 0x09 ∷ 0x01 ∷ 0x00 ∷ 0x00 ∷ 0x00 ∷ [])
    ∷ []

abbrev pub named_keys : List (List ℕ)
named_keys = of_system_scheme ++ of_generic_system ++ of_other_standards

-- A standard names the key.
abbrev pub is_named : List ℕ → Bool
is_named key = list_any (λ named. bytes_eq named (bare_key key)) named_keys

-- Byte 7 of the key, the structure of what its register names, is 1, as in all keys that these standards give.
abbrev pub has_structure_1 : List ℕ → Bool
has_structure_1 key = bytes_eq (take 1 (drop 6 key)) (0x01 ∷ [])

-- Whether a packet with this key is one that ordinary writers don't write, if it is alone with it or isn't.
abbrev pub is_strange_as : Kind → List ℕ → Bool → Bool
is_strange_as kinds.Other key lone = lone && not (is_named key)
is_strange_as kinds.Essence key lone = not (has_structure_1 key)
is_strange_as kinds.RawSet key lone = not (has_structure_1 key)
is_strange_as _ key lone = false

-- A packet that no standard knows, and no other packet beside; or an essence element or a set by another structure.
unfoldable pub is_strange : List NoteParts → NoteParts → Bool
is_strange notes n = is_strange_as (kind_of n.key) n.key (is_lone notes n)

abbrev pub is_other : Kind → Bool
is_other kinds.Other = true
is_other _ = false

abbrev pub is_essence : Kind → Bool
is_essence kinds.Essence = true
is_essence _ = false

-- A packet in an essence container: an element, or another packet by a key of the containers (ST 379).
abbrev pub is_container_packet : NoteParts → Bool
is_container_packet n =
    is_essence (kind_of n.key) || (is_other (kind_of n.key) && is_in_containers n.key)

-- Dark data: a packet that no standard knows, of which there are others, outside of the containers (ST 377-1, dark
-- components).
unfoldable pub is_dark : List NoteParts → NoteParts → Bool
is_dark notes n = is_other (kind_of n.key) && not (is_strange notes n) && not (is_container_packet n)

-- How many of these keys are this one but for its version.
abbrev pub count_of : List ℕ → List (List ℕ) → ℕ
count_of key keys = count_by (λ other. bytes_eq other (bare_key key)) keys

-- The keys are sorted, and have each key as often as the notes.
pub record AreKeysOf (notes : List NoteParts) (keys : List (List ℕ)) : Type 0 where
  pub sorted : IsSorted (slice_cmp nat_cmp) keys
  pub counted : (key : List ℕ) → count_of key keys ≡ count_with key notes
