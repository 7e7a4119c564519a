use Rattle.std.proofs.Common.{rules}
use Rattle.mxf_skim.proofs.HeadsRead.{head_added}
use Rattle.mxf_skim.proofs.preferring.add_if_read.Goals as goal

pub returns-in_ok-add : goal.returns-in_ok-add
returns-in_ok-add c = λ h. head_added c.args.read.now c.add.new.self c.args.note.now h (search rules) (search rules)
