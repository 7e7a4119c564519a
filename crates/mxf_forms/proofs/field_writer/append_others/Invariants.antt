-- The line so far, with the numbers that are to come.
use Rattle.std.proofs.Common.{◌≡◌, ◌++◌, drop, string_bytes}
use Rattle.mxf_forms.specs.Forms.{separated_behind}
use Rattle.mxf_forms.proofs.field_writer.append_others.Given as goal

abbrev pub invariant-loop-value : goal.invariant-loop-value
invariant-loop-value l = string_bytes l.line ++ separated_behind l.fn.separator (drop l.value-index l.values)
    ≡ string_bytes l.initial.line ++ separated_behind l.fn.separator l.values
