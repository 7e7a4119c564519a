use Rattle.mxf_verify.proofs.ToldLaws.{met_by}
use Rattle.mxf_verify.proofs.told_bytes.is_met.Goals as goal

pub returns : goal.returns
returns c =
    met_by c.meets.result c.args.held.now c.args.note.now c.offset.result c.covered_end.result c.offset.ensures.offset
    c.covered_end.ensures.covered c.meets.ensures
