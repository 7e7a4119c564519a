-- The line so far, with the characters that are to come, escaped.
use Rattle.mxf_klv.proofs.Common.{◌≡◌, ◌++◌, string_bytes, chars_rest}
use Rattle.mxf_forms.specs.Forms.{escaped}
use Rattle.mxf_forms.proofs.field_writer.append_escaped.Given as goal

abbrev pub invariant-loop-c : goal.invariant-loop-c
invariant-loop-c l =
    string_bytes l.line ++ escaped (chars_rest l.c-iterator) ≡ string_bytes l.initial.line ++ escaped l.fn.text
