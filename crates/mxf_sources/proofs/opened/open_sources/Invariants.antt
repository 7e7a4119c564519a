-- The sources that were opened have their extents.
use Rattle.std.specs.Prelude.{take}
use Rattle.mxf_sources.specs.Ranges.{AreExtentsOf}
use Rattle.mxf_sources.proofs.opened.open_sources.Given as goal

abbrev pub invariant-sources : goal.invariant-sources
invariant-sources l = record {
  extents : AreExtentsOf (take l.source-index l.fn.sources) l.extents.items;
}
