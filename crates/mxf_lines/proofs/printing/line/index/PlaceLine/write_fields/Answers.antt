use Rattle.mxf_lines.specs.IndexLines.{place_line}
use Rattle.mxf_lines.proofs.printing.line.index.PlaceLine.write_fields.Goals as goal

pub returns-in_ok-fixed-in-NotIndexed : goal.returns-in_ok-fixed-in-NotIndexed
unfolding place_line
returns-in_ok-fixed-in-NotIndexed c =
    rw c.in-NotIndexed.is (rw (
      c.in_ok-fixed-in-NotIndexed.ensures,
      c.in_ok-begin-in-NotIndexed.ensures,
    ) at c.end.ensures)

pub returns-in_ok-number-in-At-2 : goal.returns-in_ok-number-in-At-2
unfolding place_line
returns-in_ok-number-in-At-2 c =
    rw c.in-At.is (rw (
      c.in_ok-number-in-At-2.ensures,
      c.in_ok-number-in-At.ensures,
      c.in_ok-word-in-At.ensures,
      c.in_ok-begin-in-At.ensures,
    ) at c.end-in-At.ensures)

pub returns-in_ok-number-in-Ambiguous-4 : goal.returns-in_ok-number-in-Ambiguous-4
unfolding place_line
returns-in_ok-number-in-Ambiguous-4 c =
    rw c.in-Ambiguous.is (rw (
      c.in_ok-number-in-Ambiguous-4.ensures,
      c.in_ok-number-in-Ambiguous-3.ensures,
      c.in_ok-number-in-Ambiguous-2.ensures,
      c.in_ok-number-in-Ambiguous.ensures,
      c.in_ok-word-in-Ambiguous.ensures,
      c.in_ok-begin-in-Ambiguous.ensures,
    ) at c.end-in-Ambiguous.ensures)
