-- What is written of a line, piece by piece.
use Rattle.std.specs.Prelude.{ℕ, List, [], ◌∷◌, ◌++◌}
use Rattle.mxf_forms.specs.declared.form.Form.{Form}
use Rattle.mxf_forms.specs.Forms.{Field, PrintedLine, end_in, field_in, front_in}

-- What is written of a line so far, in a form.
pub record Written : Type 0 where
  pub form : Form
  pub text : List ℕ

abbrev pub written : Form → List ℕ → Written
written form text = record { form = form; text = text }

-- With its front; what was written before is gone.
unfoldable pub with_front : List ℕ → List ℕ → Written → Written
with_front name first w = written w.form (front_in w.form name first)

-- With a field more.
unfoldable pub with_field : Field → Written → Written
with_field f w = written w.form (w.text ++ field_in w.form f)

-- With its end.
unfoldable pub with_end : List ℕ → Written → Written
with_end last w = written w.form (w.text ++ end_in w.form last)

abbrev pub with_fields : List Field → Written → Written
with_fields [] w = w
with_fields (f ∷ fields) w = with_fields fields (with_field f w)

-- The whole line.
abbrev pub with_line : PrintedLine → Written → Written
with_line l w = with_end l.last (with_fields l.fields (with_front l.name l.first w))
