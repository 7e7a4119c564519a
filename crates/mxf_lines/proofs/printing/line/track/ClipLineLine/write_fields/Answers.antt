use Rattle.mxf_lines.specs.DescriptionLines.{clip_line}
use Rattle.mxf_lines.proofs.printing.line.track.ClipLineLine.write_fields.Goals as goal

pub returns : goal.returns
unfolding clip_line
returns c =
    rw (
      c.in_ok-write_to.ensures,
      c.in_ok-write_source.ensures,
      c.in_ok-write_span.ensures,
      c.in_ok-begin.ensures,
      c.duration.ensures,
    )
    at c.end.ensures
