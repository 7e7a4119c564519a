use Rattle.std.proofs.lemmas.Bool.{leb-true, le-leb}
use Rattle.mxf_catalogue.proofs.catalogue.note_lists.NoteLists.end_by.Goals as goal

pub returns : goal.returns
returns c =
    let e = c.end.ensures c.args.offset in
    (λ h. e.0 (leb-true _ _ h), λ f. le-leb _ _ (e.1 f))
