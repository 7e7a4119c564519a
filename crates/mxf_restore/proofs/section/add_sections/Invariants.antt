use Rattle.std.proofs.Common.{◌≡◌, ◌++◌, drop}
use Rattle.mxf_restore.specs.Sections.{sections_from}
use Rattle.mxf_restore.proofs.section.add_sections.Given as goal

abbrev pub invariant-loop-cut : goal.invariant-loop-cut
invariant-loop-cut l = l.sections.items ++ sections_from l.hole l.first (drop l.cut-index l.cuts)
    ≡ l.fn.sections.items ++ sections_from l.hole l.hole.start l.cuts
