-- The tracks so far, with those of the packages that are to come.
use Rattle.mxf_views.proofs.Common.{◌≡◌, ◌+◌, ◌≤◌, drop, length}
use Rattle.std.specs.Prelude.{◌*◌, ◌^◌}
use Rattle.mxf_lines.specs.DescriptionLines.{found_tracks}
use Rattle.mxf_lines.proofs.printing.description.found_tracks.Given as goal

abbrev pub invariant-loop-one : goal.invariant-loop-one
invariant-loop-one l =
    (l.count + length (found_tracks (drop l.one-index l.packages)) ≡ length (found_tracks l.packages))
    × (l.count ≤ l.one-index * 2 ^ 64)
