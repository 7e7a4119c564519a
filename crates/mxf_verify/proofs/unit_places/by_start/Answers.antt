use Rattle.mxf_views.proofs.Common.{rules, answers_always}
use Rattle.mxf_verify.specs.declared.unit_places.UnitPlace.{UnitPlace}
use Rattle.mxf_units.proofs.NextPlaceLaws.{permuted}
use Rattle.mxf_verify.proofs.TouchLaws.{begin_in_order}
use Rattle.mxf_verify.proofs.unit_places.by_start.Goals as goal

pub returns-clause-order : goal.returns-clause-order
returns-clause-order c = begin_in_order c.sort_unstable_by_key.new.self.items (c.sort_unstable_by_key.ensures.sorted
    (λ (p : UnitPlace). (p.extent.start, p.unit)) (answers_always _ _ _ (λ f a r g h. search rules)))

pub returns-clause-members : goal.returns-clause-members
returns-clause-members c =
    permuted c.args.places.items c.sort_unstable_by_key.new.self.items c.sort_unstable_by_key.ensures.permutation
