use Rattle.mxf_views.proofs.Common.{◌≡◌, length, length_bytes}
use Rattle.mxf_verify.proofs.ByteLaws.{agrees_part}
use Rattle.mxf_verify.proofs.agreement.agree_with_front.Goals as goal

pub returns : goal.returns
returns c =
    let n = c.args.note.now in
    let part = agrees_part n.key (length_bytes n.width n.length) c.args.at c.args.bytes.now in
    let size : length n.key ≡ 16 = c.offset-offset.ensures.note.label.0 in
    let key = c.key.ensures in
    let label = c.bytes.ensures.bytes in
    let first = c.agree_from-is_key.ensures in
    let second = c.agree_with_length-is_length.ensures in
    let rest = c.behind.ensures in
    let at = c.saturating_sub.ensures in
    let count = c.saturating_sub-2.ensures in
    rw (part, size) (cc)
