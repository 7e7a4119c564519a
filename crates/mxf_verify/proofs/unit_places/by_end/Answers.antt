use Rattle.mxf_views.proofs.Common.{rules, answers_always}
use Rattle.mxf_verify.specs.Touching.{reach_of}
use Rattle.mxf_verify.specs.declared.unit_places.UnitPlace.{UnitPlace}
use Rattle.mxf_verify.proofs.TouchLaws.{end_in_order, members_back}
use Rattle.mxf_verify.proofs.unit_places.by_end.Goals as goal

pub returns-clause-order : goal.returns-clause-order
returns-clause-order c = end_in_order c.sort_unstable_by_key.new.self.items c.reverse.new.self.items
    (c.sort_unstable_by_key.ensures.sorted (λ (p : UnitPlace). (reach_of p, p.unit))
    (answers_always _ _ _ (λ f a r g h. search rules))) c.reverse.ensures.items

pub returns-clause-members : goal.returns-clause-members
returns-clause-members c =
    members_back c.args.places.items c.sort_unstable_by_key.new.self.items c.reverse.new.self.items
    c.sort_unstable_by_key.ensures.permutation c.reverse.ensures.items
