use Rattle.mxf_klv.proofs.Common.{◌≡◌, ◌∙◌, ℕ, Bool, ap, cond, sym, note_parts}
use Rattle.mxf_catalogue.proofs.FileParts.{noted}
use Rattle.mxf_catalogue.proofs.catalogue.file.entry.read_value.Goals as goal

pub returns-clause-note : goal.returns-clause-note
returns-clause-note c =
    let f = c.args.fixed in
    let value = c.in_ok-value.value.items in
    let cut = c.split_at.ensures in
    let len = c.in-Ok.ensures.1 in
    let all : c.in-Ok-kept.note ≡ note_parts f.offset c.args.key f.width f.length value = c.in-Ok-kept.ensures.note
    ∙ ap (λ (n : ℕ). note_parts f.offset c.args.key f.width n value)
    (c.in_ok-value.ensures.len ∙ cut.front_len ∙ len) in
    noted f c.in-Ok-kept.note c.args.bytes.now value c.split_at.result.1.now c.args.key c.in-Ok.length c.requires.noted
    (len ∙ sym (ap (λ (b : Bool). cond b f.length 32) c.requires.kept)) c.requires.key all
    (c.in_ok-value.ensures.items ∙ cut.front) cut.back c.if-bytes-length.false
