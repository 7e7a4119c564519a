use Rattle.std.proofs.Common.{arith, subst, sym, None, Some}
use Rattle.std.proofs.lemmas.Str.Pattern.{split_after}
use Rattle.mxf_saving.specs.Sources.{IsLength}
use Rattle.mxf_saving.proofs.SourceLaws.{no_colon}
use Rattle.mxf_saving.proofs.source.split_length.Goals as goal

pub returns-in_err-digits : goal.returns-in_err-digits
returns-in_err-digits c =
    rw c.from_residual.ensures (λ digits rest size s.
    split_after 58 c.args.text.now digits rest None c.in_err-digits.ensures.cases (omega arith) s.whole
    (no_colon digits s.extent.digits))

pub returns-in_err-length : goal.returns-in_err-length
returns-in_err-length c =
    let parts = c.in_ok-digits in
    rw c.from_residual-in_err-length.ensures (λ digits rest size s.
    let same = split_after 58 c.args.text.now digits rest (Some (parts.digits, parts.rest)) parts.ensures.cases
    (omega arith) s.whole (no_colon digits s.extent.digits) in
    c.in_err-length.ensures size (subst (λ t. IsLength t c.args.offset size) (sym same.0) s.extent))
