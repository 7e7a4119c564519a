use Rattle.mxf_verify.proofs.VerifyingLaws.{both_some, sees_at}
use Rattle.mxf_verify.proofs.verifying.take_bytes.Goals as goal

pub returns-clause-taken : goal.returns-clause-taken
returns-clause-taken g c = both_some (g.R.Read.remaining c.args.from) _ _ _
    (λ bytes tells ends. sees_at c.args.number c.args.offset c.min-offset.result c.in_ok-read.read.end bytes c.args.seen.now
    c.take_bytes.new.self c.in_ok-read.read.told c.min-offset.ensures tells ends c.in_ok-take_bytes.ensures)
    c.in_ok-read.ensures.told c.in_ok-read.ensures.end
