use Rattle.mxf_lines.specs.DescriptionLines.{timecode_line}
use Rattle.mxf_lines.proofs.printing.line.track.TimecodeLineLine.write_fields.Goals as goal

pub returns : goal.returns
unfolding timecode_line
returns c =
    rw (
      c.in_ok-write_to.ensures,
      c.in_ok-write_first.ensures,
      c.in_ok-write_span.ensures,
      c.in_ok-begin.ensures,
      c.duration.ensures,
    )
    at c.end.ensures
