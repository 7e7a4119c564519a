use Rattle.std.proofs.Common.{◌≡◌, ◌++◌, drop, flat_map}
use Rattle.mxf_restore.specs.Sections.{sections_in}
use Rattle.mxf_restore.proofs.section.cut_up.Given as goal

abbrev pub invariant-loop-hole : goal.invariant-loop-hole
invariant-loop-hole l = l.sections.items ++ flat_map (sections_in l.cuts) (drop l.hole-index l.holes)
    ≡ flat_map (sections_in l.cuts) l.holes
