use Rattle.mxf_lines.proofs.printing.line.partition.write_pack.Goals as goal

pub returns : goal.returns
returns c =
    rw (
      c.in_ok-write_parts.ensures,
      c.in_ok-write_places.ensures,
      c.in_ok-word-2.ensures,
      c.in_ok-word.ensures,
      c.pattern.ensures,
      c.numbers-2.ensures,
      c.numbers.ensures,
      c.status.ensures,
      c.part.ensures.part,
    )
    at c.write_pattern.ensures
