use Rattle.mxf_views.proofs.Common.{subst, option_to_list}
use Rattle.mxf_read.specs.Levels.{AreBalanced}
use Rattle.mxf_read.proofs.LevelLaws.{balanced_front}
use Rattle.mxf_read.proofs.gathering.levels.Levels.pop_below_twice.Goals as goal

pub invariant_of-self : goal.invariant_of-self
invariant_of-self c = balanced_front c.pop.new.self.items (option_to_list c.pop.result)
    (subst AreBalanced c.pop.ensures.items c.self.invariant)
