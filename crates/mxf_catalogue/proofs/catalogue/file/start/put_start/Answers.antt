use Rattle.mxf_klv.proofs.Common.{Err, ◌∷◌, [], List, ℕ, ap, refl, err_from_is_err_and}
use Rattle.mxf_catalogue.specs.CatalogueFile.{magic, number_bytes}
use Rattle.mxf_catalogue.proofs.FileParts.{fails_in_first, WritesPart-second, number_is}
use Rattle.mxf_catalogue.proofs.catalogue.file.start.put_start.Goals as goal

pub returns-in_err-put : goal.returns-in_err-put
returns-in_err-put g c =
    let p = err_from_is_err_and c.from_residual.result c.from_residual.ensures.1 in
    rw (p.1, p.2) (fails_in_first _ _ _ _ _ _ magic (2 ∷ number_bytes c.args.count) refl c.in_err-put.ensures.written)

pub returns-in_err-put-2 : goal.returns-in_err-put-2
returns-in_err-put-2 g c =
    let p = err_from_is_err_and c.from_residual-in_err-put-2.result c.from_residual-in_err-put-2.ensures.1 in
    rw (p.1, p.2) (WritesPart-second {X = Unit {0}} _ (g.W.Write.contents c.put.new.writer) _ _ _ _
    (Err c.in_err-put-2.field-0.0) _ magic (2 ∷ number_bytes c.args.count) refl
    c.in_ok-put.ensures.written.0 c.in_ok-put.ensures.written.1
    (fails_in_first _ _ _ _ _ _ (2 ∷ []) (number_bytes c.args.count) refl c.in_err-put-2.ensures.written))

pub returns : goal.returns
returns g c = WritesPart-second _ _ _ _ _ _ _ _ magic (2 ∷ number_bytes c.args.count) refl c.in_ok-put.ensures.written.0
    c.in_ok-put.ensures.written.1 (WritesPart-second _ _ _ _ _ _ _ _ (2 ∷ []) c.to_be_bytes.result
    (ap (λ (t : List ℕ). 2 ∷ t) (number_is c.args.count c.args.count c.to_be_bytes.result c.to_be_bytes.ensures refl))
    c.in_ok-put-2.ensures.written.0 c.in_ok-put-2.ensures.written.1 c.put-3.ensures.written)
