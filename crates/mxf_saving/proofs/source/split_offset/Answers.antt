use Rattle.std.proofs.Common.{arith, subst, sym, None, Some}
use Rattle.std.proofs.lemmas.Str.Pattern.{split_after}
use Rattle.mxf_saving.specs.Sources.{IsOffset}
use Rattle.mxf_saving.proofs.SourceLaws.{no_colon}
use Rattle.mxf_saving.proofs.source.split_offset.Goals as goal

pub returns-in_err-digits : goal.returns-in_err-digits
returns-in_err-digits c =
    rw c.from_residual.ensures (λ digits rest offset s.
    split_after 58 c.args.text.now digits rest None c.in_err-digits.ensures.cases (omega arith) s.whole
    (no_colon digits s.place.digits))

pub returns-in_err-offset : goal.returns-in_err-offset
returns-in_err-offset c =
    let parts = c.in_ok-digits in
    rw c.from_residual-in_err-offset.ensures (λ digits rest offset s.
    let same = split_after 58 c.args.text.now digits rest (Some (parts.digits, parts.rest)) parts.ensures.cases
    (omega arith) s.whole (no_colon digits s.place.digits) in
    c.in_err-offset.ensures offset (subst (λ t. IsOffset t offset) (sym same.0) s.place))
