use Rattle.std.proofs.Common.{refl}
use Rattle.mxf_hand.specs.Rounds.{round}
use Rattle.mxf_hand.proofs.TakenLaws.{taken_says}
use Rattle.mxf_hand.proofs.laws.rounds_by_definition.Goals as goal

pub returns-clause-taken : goal.returns-clause-taken
returns-clause-taken c = λ h notes n content cover. taken_says h notes content cover n

pub returns-clause-round : goal.returns-clause-round
unfolding round
returns-clause-round c = λ h notes. refl
