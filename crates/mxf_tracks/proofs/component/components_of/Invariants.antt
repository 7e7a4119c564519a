use Rattle.std.proofs.Common.{◌≡◌, ℕ, ◌*◌, ◌^◌, ◌≤◌, List, Option, Some, length}
use Rattle.std.specs.Prelude.{IfSome}
use Rattle.mxf_views.specs.Copies.{sets_of}
use Rattle.mxf_tracks.specs.declared.component.Component.{Component}
use Rattle.mxf_tracks.specs.Walk.{components_from}
use Rattle.mxf_tracks.proofs.WalkLaws.{behind}
use Rattle.mxf_tracks.proofs.component.components_of.Given as goal

-- Those so far and those to come are all, and the start of the next is below what as many durations can be.
pub record AreWalked (items : List Component) (start : Option ℕ) (left all : List Component × List ℕ) : Type 0 where
  pub parts : behind items left ≡ all
  pub bound : IfSome start (λ s. s ≤ length items * 2 ^ 64)

abbrev pub invariant-loop-uid : goal.invariant-loop-uid
invariant-loop-uid l =
    let sets = sets_of l.copy.notes l.copy.partition in
    AreWalked l.items.items l.start (components_from sets l.start l.reached l.uid-iterator)
    (components_from sets (Some 0) l.initial.reached l.fn.references)
