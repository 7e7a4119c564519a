use Rattle.mxf_views.proofs.Common.{◌≡◌, not, true, false, and_parts, keeps_value, not-true-false}
use Rattle.mxf_verify.specs.Verifying.{is_digested}
use Rattle.mxf_verify.proofs.reading.is_digest_of.Goals as goal

pub returns-in-Whole : goal.returns-in-Whole
unfolding is_digested
returns-in-Whole c =
    let n = c.args.note.now in
    let shown : keeps_value n ≡ true = c.in-Whole.ensures.0 in
    absurd (not-true-false (keeps_value n) (and_parts n.whole (not (keeps_value n)) c.requires).1 shown)

pub returns-in-Head : goal.returns-in-Head
unfolding is_digested
returns-in-Head c =
    let n = c.args.note.now in
    let shown : n.whole ≡ false = c.in-Head.ensures.0 in
    let whole : n.whole ≡ true = (and_parts n.whole (not (keeps_value n)) c.requires).0 in cc
