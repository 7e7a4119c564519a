use Rattle.std.proofs.Common.{◌∙◌, sym}
use Rattle.mxf_verify.proofs.ReferenceLaws.{crowded_digested, crowded_disputed}
use Rattle.mxf_verify.proofs.reference.is_crowded.Goals as goal

pub returns-then-is_digested : goal.returns-then-is_digested
returns-then-is_digested c = crowded_disputed c.args.note.now c.args.catalogue.now c.disputes.result
    (sym c.is_digested.ensures ∙ c.if-is_digested.true) c.disputes.ensures

pub returns-else-is_digested : goal.returns-else-is_digested
returns-else-is_digested c = c.if-is_digested.false
    ∙ crowded_digested c.args.note.now c.args.catalogue.now (sym c.is_digested.ensures ∙ c.if-is_digested.false)
