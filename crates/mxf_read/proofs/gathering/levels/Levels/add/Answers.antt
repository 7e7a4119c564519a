use Rattle.std.proofs.Common.{◌≡◌, [], ◌∷◌, ◌++◌, length, rules, subst, sym}
use Rattle.mxf_read.specs.Levels.{AreBalanced, EndsAbove}
use Rattle.mxf_read.proofs.LevelLaws.{adding_one, adding_last, balanced_last}
use Rattle.mxf_read.proofs.gathering.levels.Levels.add.Goals as goal

pub levels-preserved : goal.levels-preserved
levels-preserved c =
    adding_one c.levels.merged c.merge.new.self c.in-Some.last c.args.catalogue c.levels.self c.pop_below_twice.new.self
    c.args.self.now c.levels.invariant c.in-Some.ensures.taken c.in_ok-merge.ensures.merged

pub invariant_of-self-2 : goal.invariant_of-self-2
invariant_of-self-2 c =
    let kept : c.push.new.self.items ≡ c.self.inside.items.items ++ c.levels.merged ∷ [] = search rules in
    let above : EndsAbove c.self.inside.items.items (length c.levels.merged) =
    subst (λ n. EndsAbove c.self.inside.items.items n) c.len.ensures
    (subst (λ l. EndsAbove l c.len.result) (sym c.self.view_is) c.in_default.ensures.none) in
    subst AreBalanced (sym kept) (balanced_last c.self.inside.items.items c.levels.merged c.self.invariant above)

pub returns : goal.returns
returns c =
    let kept : c.push.new.self.items ≡ c.levels.self ++ c.levels.merged ∷ [] = search rules in
    adding_last c.levels.merged c.args.catalogue c.levels.self c.push.new.self.items c.args.self.now c.levels.invariant
    kept
