-- A line that is written field by field.
use Rattle.std.proofs.Common.{◌≡◌, ◌∙◌, List, [], ◌∷◌, ◌++◌, ap, append-nil, append_assoc, flat_map, refl, sym}
use Rattle.mxf_forms.specs.Forms.{Field, PrintedLine, end_in, field_in, front_in, line_in}
use Rattle.mxf_forms.specs.Writing.{Written, with_end, with_field, with_fields, with_front, with_line, written}

fields_written : (fields : List Field) (w : Written)
    → with_fields fields w ≡ written w.form (w.text ++ flat_map (field_in w.form) fields)
unfolding with_field
fields_written [] w = ap (written w.form) (sym (append-nil w.text))
fields_written (f ∷ fields) w = fields_written fields (with_field f w)
    ∙ ap (written w.form) (append_assoc w.text (field_in w.form f) (flat_map (field_in w.form) fields))

-- What is written of a line is the line as it is printed.
pub line_written : (l : PrintedLine) (w : Written) → with_line l w ≡ written w.form (line_in w.form l)
unfolding with_end with_front
line_written l w = ap (with_end l.last) (fields_written l.fields (with_front l.name l.first w))
    ∙ ap (written w.form) (append_assoc (front_in w.form l.name l.first) (flat_map (field_in w.form) l.fields)
    (end_in w.form l.last))

-- Fields after others.
pub fields_after : (a b : List Field) (w : Written) → with_fields (a ++ b) w ≡ with_fields b (with_fields a w)
fields_after [] b w = refl
fields_after (f ∷ a) b w = fields_after a b (with_field f w)
