use Rattle.mxf_klv.proofs.Tests.{same_bool}
use Rattle.mxf_verify.proofs.OpposingLaws.{had-by_test}
use Rattle.mxf_verify.proofs.others.is_had.Goals as goal

pub returns : goal.returns
returns c =
    let had = had-by_test c.args.note.now c.args.catalogue.now in
    same_bool _ _ (λ t. had.1 (c.has.ensures.0 t)) (λ t. c.has.ensures.1 (had.0 t))
