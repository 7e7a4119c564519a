use Rattle.std.proofs.Common.{take}
use Rattle.mxf_verify.proofs.ByteLaws.{agrees_part}
use Rattle.mxf_verify.proofs.agreement.agree_with_length.Goals as goal

pub returns : goal.returns
returns c =
    let s = c.spelling_of-spelling in
    let part = agrees_part s.result.first (take s.result.used s.result.digits) c.args.at c.args.bytes.now in
    let one = s.ensures.first in
    let spelled = s.ensures.spelled in
    let first = c.agree_from-is_first.ensures in
    let digits = c.agree_from-are_digits.ensures in
    let rest = c.behind.ensures in
    let at = c.saturating_sub.ensures in
    let count = c.saturating_sub-2.ensures in
    rw (← spelled) (rw (part, one) (cc))
