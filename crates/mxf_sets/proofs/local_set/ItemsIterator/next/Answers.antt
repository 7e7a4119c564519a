use Rattle.std.proofs.Common.{◌≡◌, ◌∷◌, ◌∙◌, sym, rules, []}
use Rattle.mxf_sets.specs.Items.{items_of}
use Rattle.mxf_sets.proofs.ItemLemmas.{at_none, at_some}
use Rattle.mxf_sets.proofs.local_set.ItemsIterator.next.Goals as goal

pub returns-in_err-item-clause-steps : goal.returns-in_err-item-clause-steps
returns-in_err-item-clause-steps c =
    let none : c.args.self.now ≡ [] = sym c.self.view_is ∙ (at_none c.self.inside.rest.now c.in_err-item.ensures).0 in
    rw c.from_residual.ensures (none, none)

pub invariant_of-self : goal.invariant_of-self
invariant_of-self c = let a =
    at_some c.self.inside.rest.now c.in_ok-item.after.now c.in_ok-item.item c.in_ok-item.ensures in
    sym a.1 ∙ c.self.invariant

pub returns-clause-steps : goal.returns-clause-steps
returns-clause-steps c = let a =
    at_some c.self.inside.rest.now c.in_ok-item.after.now c.in_ok-item.item c.in_ok-item.ensures in
    sym c.self.view_is ∙ a.0

pub returns-clause-goes : goal.returns-clause-goes
returns-clause-goes c =
    let a = at_some c.self.inside.rest.now c.in_ok-item.after.now c.in_ok-item.item c.in_ok-item.ensures in
    let e : c.args.self.now ≡ c.in_ok-item.item ∷ items_of c.in_ok-item.after.now = sym c.self.view_is ∙ a.0 in
    rw e (search rules)
