-- Lists of references (ST 377-1, strong references): each names another set by its instance identifier of sixteen
-- bytes.
use Rattle.std.specs.Prelude.{ℕ, zero, suc, ◌/◌, List, [], ◌∷◌, length, take, drop}
use Rattle.std.specs.Option.{option_map_or}
use Rattle.mxf_sets.specs.Items.{ItemParts}
use Rattle.mxf_sets.specs.Lookup.{value_of}

-- The first n pieces of sixteen bytes.
abbrev pub sixteens : ℕ → List ℕ → List (List ℕ)
sixteens zero bytes = []
sixteens (suc n) bytes = take 16 bytes ∷ sixteens n (drop 16 bytes)

-- The references that stand one after another.
abbrev pub references_of : List ℕ → List (List ℕ)
references_of bytes = sixteens (length bytes / 16) bytes

-- The references of the batch that the tag's value is: what follows its count and item size. There are none if no item
-- has the tag.
abbrev pub references_in : ℕ → List ItemParts → List (List ℕ)
references_in tag items = option_map_or (λ v. references_of (drop 8 v)) (value_of tag items) []
