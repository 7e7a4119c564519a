use Rattle.std.proofs.Common.{◌∙◌, ◌++◌, ◌∷◌, [], ◌<◌, ap, arith, length}
use Rattle.mxf_restore.specs.declared.named.NamedPlace.{NamedPlace}
use Rattle.mxf_partial.proofs.NearLaws.{found_all, found_none, found_push, found_skip}
use Rattle.mxf_partial.proofs.NearPlaces.{true_not_false}
use Rattle.mxf_partial.proofs.near.add_at.Goals as goal
use Rattle.mxf_partial.proofs.near.add_at.Goals.{then-has+in_ok-push, else-has}

pub loop-index-init : goal.loop-index-init
loop-index-init c = λ n. found_none c.args.items.now c.args.positions.now c.args.asked.now.items n

pub loop-index-preserved : goal.loop-index-preserved
loop-index-preserved c =
    let l : c.loop-index.index < length c.args.items.now = omega (arith, c.loop-index-test.true) in
    elim c.if-has.branch [
      | then-has+in_ok-push w ↦
          found_push c.args.items.now c.args.positions.now c.loop-index.index c.args.asked.now.items
          c.loop-index.asked.items c.loop-index.invariant l _ c.if-has.asked.items (c.has.ensures.0 w.if-has.true)
          (ap (λ v. v.items) w.asked-is ∙ w.in_ok-push.ensures.items
          ∙ ap (λ (n : NamedPlace). c.loop-index.asked.items ++ n ∷ []) w.named.ensures)
      | else-has w ↦ found_skip c.args.items.now c.args.positions.now c.loop-index.index c.args.asked.now.items
          c.loop-index.asked.items c.loop-index.invariant l c.if-has.asked.items
          (λ h. true_not_false c.has.result (c.has.ensures.1 h) w.if-has.false) (ap (λ v. v.items) w.asked-is)
    ]

pub returns : goal.returns
returns c =
    found_all c.args.items.now c.args.positions.now c.loop-index.index c.args.asked.now.items c.loop-index.asked.items
    (omega (arith, c.loop-index-test.false)) c.loop-index.invariant
