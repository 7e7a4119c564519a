-- The words so far, and the lines of the rest, are the words before and all lines.
use Rattle.std.proofs.Common.{◌≡◌, ◌++◌, length, map}
use denote.Text.{Utf8}
use denote.Shadow.{shadow}
use Rattle.mxf_commands.specs.Lists.{naming_lines}
use Rattle.mxf_commands.proofs.listed.push_lines.Given as goal

abbrev pub invariant-lines : goal.invariant-lines
invariant-lines l = shadow (Utf8 l.rest) × (map (λ word. word.now) l.all.items ++ naming_lines l.rest
    ≡ map (λ word. word.now) l.initial.all.items ++ naming_lines l.fn.list)

abbrev pub decreases-lines : goal.decreases-lines
decreases-lines l = length l.rest
