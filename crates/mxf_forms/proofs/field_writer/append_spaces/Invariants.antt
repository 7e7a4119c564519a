-- The line so far, with the spaces that are to come.
use Rattle.std.proofs.Common.{◌≡◌, ◌++◌, codes, string_bytes}
use Rattle.std.specs.List.{repeat}
use Rattle.mxf_forms.proofs.field_writer.append_spaces.Given as goal

abbrev pub invariant-loop-left : goal.invariant-loop-left
invariant-loop-left l =
    string_bytes l.line ++ repeat l.left (codes " ") ≡ string_bytes l.initial.line ++ repeat l.fn.count (codes " ")

abbrev pub decreases-loop-left : goal.decreases-loop-left
decreases-loop-left l = l.left
