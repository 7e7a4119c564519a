-- Items of a local set by their tags (ST 336, local sets).
use Rattle.std.specs.Prelude.{ℕ, ◌==◌, List, [], Option, unwrap_or, find, count_by}
use Rattle.std.specs.Option.{option_map}
use Rattle.mxf_sets.specs.Items.{ItemParts}

-- How many items have the tag.
abbrev pub count_of : ℕ → List ItemParts → ℕ
count_of tag items = count_by (λ i. i.tag == tag) items

-- The value of the first item with the tag.
abbrev pub value_of : ℕ → List ItemParts → Option (List ℕ)
value_of tag items = option_map (λ i. i.value) (find (λ i. i.tag == tag) items)

-- The same of a tag that an item has for sure.
abbrev pub bytes_of : ℕ → List ItemParts → List ℕ
bytes_of tag items = unwrap_or (value_of tag items) []
