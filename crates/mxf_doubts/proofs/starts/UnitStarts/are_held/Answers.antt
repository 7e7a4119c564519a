use Rattle.mxf_views.proofs.Common.{◌∙◌, ◌↔◌, ◌+◌, ◌<◌, ◌≤◌, ℕ, IsTrue, List, NoteParts, same_bool, subst}
use Rattle.mxf_places.specs.Held.{IsHeld}
use Rattle.mxf_units.proofs.RangeLaws.{all_held-says}
use Rattle.mxf_units.specs.Units.{are_all_held}
use Rattle.mxf_doubts.proofs.starts.UnitStarts.are_held.Goals as goal

pub returns : goal.returns
returns c =
    let notes = c.args.self.now in
    let from = c.args.from in
    let to = c.args.to + 1 in
    let held = subst (λ (l : List NoteParts). IsTrue c.are_all_held.result ↔ ((x : ℕ) → from ≤ x → x < to → IsHeld l x))
    (c.self.invariant.0 ∙ c.self.view_is) c.are_all_held.ensures in
    let says = all_held-says notes from to in
    same_bool c.are_all_held.result (are_all_held notes from to) (λ t. says.1 (held.0 t)) (λ t. held.1 (says.0 t))
