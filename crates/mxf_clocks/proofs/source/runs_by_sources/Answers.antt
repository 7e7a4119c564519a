use Rattle.mxf_clocks.proofs.LookupLaws.{sources_all}
use Rattle.mxf_clocks.proofs.source.runs_by_sources.Goals as goal

pub returns : goal.returns
returns c =
    let l = c.loop-package in
    sources_all c.args.segments.now c.args.packages.now c.in_ok-tables.tables l.package-index l.runs.items
    c.loop-package-test.false l.invariant c.in_ok-tables.ensures
