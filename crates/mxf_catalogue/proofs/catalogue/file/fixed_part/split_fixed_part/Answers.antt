use Rattle.mxf_klv.proofs.Common.{arith, length-append, length-drop}
use Rattle.mxf_catalogue.proofs.FileBytes.{length-number_bytes}
use Rattle.mxf_catalogue.proofs.FileParts.{fixed_part_split}
use Rattle.mxf_catalogue.proofs.catalogue.file.fixed_part.split_fixed_part.Goals as goal

pub returns-in_err-key-clause-none : goal.returns-in_err-key-clause-none
returns-in_err-key-clause-none c = grind (arith, length-append, length-number_bytes)

pub returns-in_err-width-clause-none : goal.returns-in_err-width-clause-none
returns-in_err-width-clause-none c = grind (arith, length-append, length-drop, length-number_bytes)

pub returns-in_err-length-clause-none : goal.returns-in_err-length-clause-none
returns-in_err-length-clause-none c = grind (arith, length-append, length-drop, length-number_bytes)

pub returns-clause-some : goal.returns-clause-some
returns-clause-some c =
    grind (
      arith,
      fixed_part_split c.args.bytes.now c.in_ok-offset.rest.now c.in_ok-key.key.now c.in_ok-key.rest.now c.in_ok-width.rest.now c.in_ok-length.rest.now c.in_ok-offset.offset c.in_ok-width.width.now c.in_ok-length.length c.in_ok-offset.ensures.some.0 c.in_ok-offset.ensures.some.1,
    )
