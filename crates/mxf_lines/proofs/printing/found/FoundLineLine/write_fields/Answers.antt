use Rattle.mxf_lines.specs.FindLines.{found_line}
use Rattle.mxf_lines.proofs.printing.found.FoundLineLine.write_fields.Goals as goal

pub returns : goal.returns
unfolding found_line
returns c =
    rw (
      c.in_ok-word.ensures,
      c.in_ok-write_match.ensures,
      c.in_ok-number-2.ensures,
      c.in_ok-number.ensures,
      c.in_ok-begin.ensures,
    ) at c.end.ensures
