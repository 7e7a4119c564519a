-- What is to come has a misfit if and only if all items have one.
use Rattle.std.proofs.Common.{◌≡◌, not}
use Rattle.std.specs.List.{list_any}
use Rattle.mxf_sets.specs.Items.{ItemParts}
use Rattle.mxf_doubts.specs.Classes.{fits}
use Rattle.mxf_doubts.proofs.classes.has_misfit.Given as goal

abbrev pub invariant-loop-item : goal.invariant-loop-item
invariant-loop-item l =
    list_any (λ (i : ItemParts). not (fits l.class i.tag)) l.item-iterator
    ≡ list_any (λ (i : ItemParts). not (fits l.class i.tag)) l.fn.items
