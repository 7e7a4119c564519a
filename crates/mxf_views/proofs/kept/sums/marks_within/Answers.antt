use Rattle.mxf_views.proofs.Common.{◌-◌, ◌<◌, ◌≤◌, arith, get_or, length, In-at}
use Rattle.mxf_views.specs.declared.kept.sums.Mark.{Mark}
use Rattle.mxf_views.proofs.kept.sums.marks_within.Goals as goal

pub returns : goal.returns
returns c = λ notes are.
    let marks = c.args.marks.now in
    let from = c.below-from.result in
    let to = c.up_to-to.result in
    let d : Mark = record { offset = 0; covered = 0; prefaces = 0 } in
    let order : from < to = c.if-to-from.false in
    let within = c.up_to-to.ensures.bound in
    let f : from < length marks = omega (arith, order, within) in
    let l : to - 1 < length marks = omega (arith, order, within) in
    record {
      first_is = are.each (get_or marks from d) (In-at marks from d f);
      last_is = are.each (get_or marks (to - 1) d) (In-at marks (to - 1) d l);
      from = c.below-from.ensures.above from d (omega arith) f;
      order = c.requires from (to - 1) d (omega (arith, order)) l;
      to =
          let below : (get_or marks (to - 1) d).offset ≤ c.saturating_add.result =
          c.up_to-to.ensures.below (to - 1) d (omega arith) (omega (arith, order)) in
          let sum = c.saturating_add.ensures in omega (arith, below, sum);
    }
