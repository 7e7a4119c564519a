-- The labels of a primer pack in a table by their tags (ST 377-1, Primer Pack; which label a tag with several entries
-- has is this project's profile).
use Rattle.std.specs.Prelude.{ℕ, if◌then◌else◌, List, [], ◌∷◌, Option, Some, None}
use Rattle.std.specs.Str.{bytes_eq}
use Rattle.std.specs.Map.{lookup}
use Rattle.std.specs.Ordering.{nat_cmp}
use Rattle.std.specs.BTreeMap.{is_at}

-- The label on which all agree, if there is one.
abbrev pub agreed_in : Option (Option (List ℕ)) → Option (List ℕ)
agreed_in None = None
agreed_in (Some told) = told

-- What the table has for a tag: none for one that isn't there, or whose entries have different labels.
abbrev pub label_in : List (ℕ × Option (List ℕ)) → ℕ → Option (List ℕ)
label_in table tag = agreed_in (lookup (is_at (nat_cmp tag)) table)

-- What the entries of a tag agree on, with the label of one more: so far there is none, or different ones, or one.
abbrev pub with_label : Option (Option (List ℕ)) → List ℕ → Option (Option (List ℕ))
with_label None label = Some (Some label)
with_label (Some None) label = Some None
with_label (Some (Some own)) label = Some (if bytes_eq own label then Some own else None)

-- The same with several more, one after another.
abbrev pub with_labels : Option (Option (List ℕ)) → List (List ℕ) → Option (Option (List ℕ))
with_labels told [] = told
with_labels told (label ∷ labels) = with_labels (with_label told label) labels
