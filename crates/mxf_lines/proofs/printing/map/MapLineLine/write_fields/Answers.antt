use Rattle.mxf_lines.specs.MapLines.{map_line}
use Rattle.mxf_lines.proofs.printing.map.MapLineLine.write_fields.Goals as goal

pub returns : goal.returns
unfolding map_line
returns c =
    rw (
      c.in_ok-number-7.ensures,
      c.in_ok-number-6.ensures,
      c.in_ok-number-5.ensures,
      c.in_ok-fraction.ensures,
      c.in_ok-number-4.ensures,
      c.in_ok-number-3.ensures,
      c.in_ok-number-2.ensures,
      c.in_ok-number.ensures,
      c.in_ok-begin.ensures,
      c.cell.ensures,
      c.disputed.ensures,
      c.gaps.ensures,
      c.share_of.ensures,
      c.saturating_sub-missing.ensures,
      c.saturating_sub.ensures,
      c.hand-hand.ensures,
      c.held-held.ensures,
      c.end-end.ensures.end,
    ) at c.end.ensures
