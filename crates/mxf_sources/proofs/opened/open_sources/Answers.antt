use Rattle.std.proofs.Common.{◌∙◌, sym}
use Rattle.mxf_sources.proofs.RangeLaws.{extents_next, pushed}
use Rattle.mxf_sources.proofs.opened.open_sources.Goals as goal

pub sources-preserved : goal.sources-preserved
sources-preserved c = record {
  extents =
      let added = pushed c.push-else-is_err.result c.sources.extents.items _ c.in_ok-part.extent
      (sym c.is_err-else-is_err.ensures.value ∙ c.if-is_err-2.false) c.push-else-is_err.ensures.items in
      extents_next c.args.sources.now c.sources.source-index _ c.sources.extents.items _ c.in_ok-part.extent
      c.sources-test.true added c.in_ok-part.ensures c.sources.invariant.extents;
}
