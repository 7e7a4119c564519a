-- The lines of the items of header metadata sets (ST 336, local sets; the lines are this project's profile).
use Rattle.std.specs.Prelude.{ℕ, ◌≡◌, ◌==◌, if◌then◌else◌, List, [], ◌∷◌, length, take, codes, Option, None, Some}
use Rattle.std.specs.Prelude.{flat_map, option_and_then}
use Rattle.std.specs.Int.{w16, to_be_bytes}
use Rattle.mxf_klv.specs.Parts.{NoteParts}
use Rattle.mxf_sets.specs.Batch.{BatchParts}
use Rattle.mxf_sets.specs.Items.{ItemParts}
use Rattle.mxf_sets.specs.PackReadings.{label_of}
use Rattle.mxf_sets.specs.PrimerTable.{label_in}
use Rattle.mxf_views.specs.Labels.{primer_for, primer_of}
use Rattle.mxf_views.specs.declared.copy.CopyInfo.{CopyInfo}
use Rattle.mxf_views.specs.SetItems.{set_items}
use Rattle.mxf_lines.specs.declared.printing.sets.CopyLabels.{CopyLabels}
use Rattle.mxf_forms.specs.Forms.{Absent, Characters, PrintedLine, Value, field, line, number, word}
use Rattle.mxf_forms.specs.Hexadecimal.{hex_of}
use Rattle.mxf_lines.specs.Lines.{lines_where}

-- The label of a tag by a primer pack, none without one.
abbrev pub label_by : Option BatchParts → ℕ → Option (List ℕ)
label_by None tag = None
label_by (Some entries) tag = label_of tag entries

-- The digits of a label, or a hyphen for none.
abbrev pub label_shown : Option (List ℕ) → Value
label_shown None = Absent (codes "-")
label_shown (Some label) = Characters (hex_of label)

-- The digits of the first 32 bytes of a value, or a hyphen if it is empty.
abbrev pub value_shown : List ℕ → Value
value_shown value = if length value == 0 then Absent (codes "-") else Characters (hex_of (take 32 value))

-- The line of an item of the set at an offset: its tag, the length of its value, the label that the tag stands for, and
-- its value.
unfoldable pub item_line : ℕ → Option (List ℕ) → ItemParts → PrintedLine
item_line offset label item =
    line "item" (number " " "offset" offset ∷ word " " "tag" (hex_of (to_be_bytes w16 item.tag))
    ∷ number " " "length" (length item.value) ∷ field (codes " ") (codes "label") (label_shown label)
    ∷ field (codes " ") (codes "value") (value_shown item.value) ∷ [])

-- The lines of the items of the set at an offset, the labels by the primer pack.
abbrev pub item_lines : ℕ → Option BatchParts → List ItemParts → List PrintedLine
item_lines offset primer items = flat_map (λ item. item_line offset (label_by primer item.tag) item ∷ []) items

-- The lines of one of the notes of a content, none if it has no items.
abbrev pub set_lines : List NoteParts → NoteParts → List PrintedLine
set_lines content n = lines_where (item_lines n.offset (primer_for content n)) (set_items n)

-- The label of a tag by the table that is kept of a copy while its sets are printed, none without one.
abbrev pub label_among : Option (List (ℕ × Option (List ℕ))) → ℕ → Option (List ℕ)
label_among None tag = None
label_among (Some table) tag = label_in table tag

-- The label of a tag by the primer pack at the start of a copy, none without a copy.
abbrev pub label_by_copy : List NoteParts → Option CopyInfo → ℕ → Option (List ℕ)
label_by_copy content copy tag = label_by (option_and_then (primer_of content) copy) tag

-- What is kept says what the primer pack of its copy says.
abbrev pub AreLabelsIn : List NoteParts → CopyLabels → Type 0
AreLabelsIn content kept = (tag : ℕ) → label_among kept.labels tag ≡ label_by_copy content kept.copy tag
