use Rattle.mxf_views.proofs.Common.{◌≡◌, ◌∙◌, ◌+◌, Bool, false, true, ap, arith, length, sym, not}
use Rattle.std.proofs.Common.{ltb-false}
use Rattle.mxf_references.specs.Identified.{is_of}
use Rattle.mxf_references.proofs.IdentifiedLaws.{absent_at_end, absent_there, one_there, several_there}
use Rattle.mxf_references.proofs.reference.identified.find_sorted.Goals.{in_default-get-via-in-Some-get+else-eq}
use Rattle.mxf_references.proofs.reference.identified.find_sorted.Goals.{in_default-get-via-in_default-get}
use Rattle.mxf_references.proofs.reference.identified.find_sorted.Goals as goal

if_not : (b c : Bool) → c ≡ not b → b ≡ not c
if_not true c e = sym (ap not e)
if_not false c e = sym (ap not e)

pub returns-in_default : goal.returns-in_default
returns-in_default c =
    let at = c.count_below-at in
    absent_at_end c.args.uid.now c.args.sets.now at.result
    record { bound = at.ensures.bound; below = at.ensures.below; above = at.ensures.above }
    (ltb-false at.result (length c.args.sets.now) (sym c.in_default.ensures.lookup.0))

pub returns-then-ne : goal.returns-then-ne
returns-then-ne c =
    let at = c.count_below-at in
    let first = c.in-Some.ensures.lookup in
    absent_there c.args.uid.now c.args.sets.now at.result c.in-Some.first.now
    record { bound = at.ensures.bound; below = at.ensures.below; above = at.ensures.above } c.requires first.3.0
    first.3.1 (if_not (is_of c.args.uid.now c.in-Some.first.now) true c.if-ne.ensures)

pub returns-in-Some-get : goal.returns-in-Some-get
returns-in-Some-get c =
    let at = c.count_below-at in
    let first = c.in-Some.ensures.lookup in
    let second = c.in-Some-get.ensures.lookup in
    several_there c.args.uid.now c.args.sets.now at.result c.in-Some.first.now c.in-Some-get.second.now
    record { bound = at.ensures.bound; below = at.ensures.below; above = at.ensures.above } second.3.0 first.3.1
    second.3.1 (if_not (is_of c.args.uid.now c.in-Some.first.now) false c.if-ne.ensures) (sym c.if-eq.ensures)

pub returns-in_default-get : goal.returns-in_default-get
returns-in_default-get c =
    let at = c.count_below-at in
    let first = c.in-Some.ensures.lookup in
    let uid = c.args.uid.now in
    let sets = c.args.sets.now in
    one_there uid sets at.result c.in-Some.first.now
    record { bound = at.ensures.bound; below = at.ensures.below; above = at.ensures.above } c.requires first.3.0
    first.3.1 (if_not (is_of uid c.in-Some.first.now) false c.if-ne.ensures) (λ l d.
    elim c.in_default-get.branch [
      | in_default-get-via-in-Some-get+else-eq w ↦ ap (is_of uid) (sym (w.in-Some-get.ensures.lookup.3.1 d))
          ∙ sym w.if-eq.ensures
      | in_default-get-via-in_default-get w ↦ absurd (
          let none = ltb-false (at.result + 1) (length sets) (sym w.in_default-get.ensures.lookup.0) in
          omega (arith, none, l))
    ])
