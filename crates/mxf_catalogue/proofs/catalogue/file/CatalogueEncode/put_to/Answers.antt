use Rattle.mxf_klv.proofs.Common.{length, ap, sym, ◌++◌, ℕ, ◌≡◌, err_from_is_err_and}
use Rattle.std.specs.Prelude.{flat_map}
use Rattle.mxf_catalogue.specs.CatalogueFile.{file_bytes, note_bytes, start_bytes}
use Rattle.mxf_catalogue.specs.declared.catalogue.file.start.Version.TheVariants.{Two}
use Rattle.mxf_catalogue.proofs.FileParts.{fails_in_first, WritesPart-second}
use Rattle.mxf_catalogue.proofs.catalogue.file.CatalogueEncode.put_to.Goals as goal

pub returns-in_err-put_start : goal.returns-in_err-put_start
returns-in_err-put_start g c =
    let p = err_from_is_err_and c.from_residual.result c.from_residual.ensures.1 in
    let count : c.len.result ≡ length c.args.self.now = c.len.ensures in
    rw (p.1, p.2) (fails_in_first _ _ _ _ _ (file_bytes c.args.self.now) (start_bytes Two c.len.result)
    (flat_map (note_bytes Two) c.args.self.now)
    (ap (λ (n : ℕ). start_bytes Two n ++ flat_map (note_bytes Two) c.args.self.now)
    (sym count)) c.in_err-put_start.ensures)

pub returns : goal.returns
returns g c =
    let notes : c.notes.result ≡ c.args.self.now = c.notes.ensures.notes in
    let count : c.len.result ≡ length c.args.self.now = c.len.ensures in
    WritesPart-second _ _ _ _ _ _ _ (file_bytes c.args.self.now) (start_bytes Two c.len.result)
    (flat_map (note_bytes Two) c.notes.result)
    ((λ i. start_bytes Two (sym count i) ++ flat_map (note_bytes Two) (sym notes i))) c.in_ok-put_start.ensures.0
    c.in_ok-put_start.ensures.1 c.put_notes.ensures
