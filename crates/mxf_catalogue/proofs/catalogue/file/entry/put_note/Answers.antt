use Rattle.mxf_klv.proofs.Common.{◌≡◌, ◌++◌, ◌∷◌, ◌∙◌, [], List, ℕ, ap, append_assoc, sym, err_from_is_err_and}
use Rattle.mxf_klv.proofs.Common.{NoteParts}
use Rattle.mxf_catalogue.specs.CatalogueFile.{fixed_bytes, fixed_part_of, mark_of, note_bytes}
use Rattle.mxf_catalogue.specs.declared.catalogue.file.start.Version.TheVariants.{Two}
use Rattle.mxf_catalogue.proofs.FileParts.{WritesPart-second, fails_in_first}
use Rattle.mxf_catalogue.proofs.catalogue.file.entry.put_note.Goals as goal

-- the bytes of a note are those ahead of what it holds, and then what it holds
note_by : (n : NoteParts) (mark : ℕ) (ahead held : List ℕ) → mark ≡ mark_of n.whole → held ≡ n.held
    → ahead ≡ fixed_bytes (fixed_part_of n) ++ mark ∷ [] → note_bytes Two n ≡ ahead ++ held
note_by n mark ahead held m h a = (λ i. fixed_bytes (fixed_part_of n) ++ (sym m i ∷ sym h i))
    ∙ sym (append_assoc (fixed_bytes (fixed_part_of n)) (mark ∷ []) held) ∙ ap (λ (b : List ℕ). b ++ held) (sym a)

pub returns : goal.returns
returns g c =
    let n = c.args.note.now in
    let ahead = c.bytes_ahead.result in
    WritesPart-second {X = Unit {0}} _ (g.W.Write.contents c.put.new.writer) _ _ _ _ _ _ ahead
    c.mark_and_held-mark.result.1.now
    (note_by n c.mark_and_held-mark.result.0 ahead c.mark_and_held-mark.result.1.now c.mark_and_held-mark.ensures.mark
    c.mark_and_held-mark.ensures.held c.bytes_ahead.ensures)
    c.in_ok-put.ensures.written.0 c.in_ok-put.ensures.written.1 c.put-2.ensures.written

pub returns-in_err-put : goal.returns-in_err-put
returns-in_err-put g c =
    let p = err_from_is_err_and c.from_residual.result c.from_residual.ensures.1 in
    let n = c.args.note.now in
    let ahead = c.bytes_ahead.result in
    rw (p.1, p.2) (fails_in_first _ _ _ _ _ (note_bytes Two n) ahead c.mark_and_held-mark.result.1.now
    (note_by n c.mark_and_held-mark.result.0 ahead c.mark_and_held-mark.result.1.now c.mark_and_held-mark.ensures.mark
    c.mark_and_held-mark.ensures.held c.bytes_ahead.ensures) c.in_err-put.ensures.written)
