-- The items of header metadata sets (ST 336, local sets).
use Rattle.std.specs.Prelude.{ℕ, ◌==◌, ◌&&◌, if◌then◌else◌, IsTrue, List, length, Option, Some, None}
use Rattle.mxf_klv.specs.Parts.{NoteParts}
use Rattle.mxf_klv.specs.Note.{keeps_value}
use Rattle.mxf_klv.specs.Kind.{kind_of}
use Rattle.mxf_sets.specs.Items.{AreItems, ItemParts, items_of, left_of}
use Rattle.mxf_views.specs.Copies.{IsSetKind, is_set_note}

-- The items of a value, if they make up all of it.
abbrev pub whole_items : List ℕ → Option (List ItemParts)
whole_items bytes = if length (left_of bytes) == 0 then Some (items_of bytes) else None

-- The items of a header metadata set that keeps its value, if they make up all of it.
unfoldable pub set_items : NoteParts → Option (List ItemParts)
set_items n = if is_set_note n && keeps_value n then whole_items n.held else None

-- The note is a header metadata set that keeps its value, and the items, one after another, make up all of it.
pub record IsMadeUpOf (n : NoteParts) (items : List ItemParts) : Type 0 where
  pub kind : IsSetKind (kind_of n.key)
  pub kept : IsTrue (keeps_value n)
  pub whole : AreItems n.held items

-- The items of such a set, or none if the note is none.
abbrev pub AreSetItems : NoteParts → Option (List ItemParts) → Type 0
AreSetItems n None = (items : List ItemParts) → ¬ IsMadeUpOf n items
AreSetItems n (Some items) = IsMadeUpOf n items
