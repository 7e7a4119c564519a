use Rattle.std.proofs.Common.{◌∙◌}
use Rattle.std.proofs.lemmas.Result.{err_from_is_err_and}
use Rattle.mxf_klv.proofs.KeyAndLengthLaws.{head_at_front, head_short, head_not_ul, head_fault}
use Rattle.mxf_klv.proofs.packet.key_and_length.KeyAndLength.read.Goals as goal
use Rattle.mxf_klv.proofs.packet.key_and_length.KeyAndLength.read.Goals.{then-begins_as_label, else-begins_as_label}

pub returns-in_default : goal.returns-in_default
returns-in_default c =
    let short = c.in_default.ensures.cases in
    elim c.if-begins_as_label.branch [
      | then-begins_as_label w ↦ rw w.result-is
          (head_short c.args.bytes.now short (c.begins_as_label.ensures.0 w.if-begins_as_label.true))
      | else-begins_as_label w ↦ rw w.result-is (head_not_ul c.args.bytes.now
          (λ h. let t = c.begins_as_label.ensures.1 h in let f = w.if-begins_as_label.false in cc))
    ]

pub returns-in_err-ber : goal.returns-in_err-ber
returns-in_err-ber c =
    let p = err_from_is_err_and c.from_residual.result c.from_residual.ensures.1 in
    let k = c.in-Some.ensures.cases in
    rw (p.1, p.2) (head_fault c.args.bytes.now c.in-Some.start.now c.in-Some.rest.now c.in_err-ber.field-0.0 k.0 k.1 k.2
    c.in-Some-from_bytes.ensures.0 c.in_err-ber.ensures)

pub returns : goal.returns
returns c =
    let k = c.in-Some.ensures.cases in
    let label = c.in-Some-from_bytes.ensures in
    head_at_front c.args.bytes.now c.in-Some.start.now c.in-Some.rest.now c.split_at.result.1.now
    c.in-Some-from_bytes.key c.from.result c.in_ok-ber.ber k.0 k.1
    c.split_at.ensures.back (c.from.ensures ∙ c.width.ensures.width) k.2 label.0 label.1 c.in_ok-ber.ensures
