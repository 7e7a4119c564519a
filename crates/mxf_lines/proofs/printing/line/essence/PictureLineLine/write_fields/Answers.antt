use Rattle.mxf_lines.specs.DescriptionLines.{picture_line}
use Rattle.mxf_lines.proofs.printing.line.essence.PictureLineLine.write_fields.Goals as goal

pub returns : goal.returns
unfolding picture_line
returns c =
    rw (
      c.in_ok-write_to.ensures,
      c.in_ok-write_samples.ensures,
      c.in_ok-write_sizes.ensures,
      c.in_ok-begin.ensures,
    )
    at c.end.ensures
