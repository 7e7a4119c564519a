use Rattle.std.proofs.Common.{rules}
use Rattle.mxf_read.proofs.LevelLaws.{adding_all}
use Rattle.mxf_read.proofs.gathering.levels.Levels.merged.Goals as goal

pub returns : goal.returns
returns c = adding_all c.levels.merged c.levels.levels.items c.args.self c.levels.invariant (search rules)
