use Rattle.mxf_views.proofs.Common.{◌-◌, In, In-at, SegmentAtParts, arith, length, subst, sym}
use Rattle.mxf_units.proofs.repeated.is_said.Goals as goal

pub returns-in-Some : goal.returns-in-Some
returns-in-Some c = λ t.
    let left = c.args.left.now in
    let item = c.in-Some.ensures.item in (
      c.in-Some.last.now,
      subst (λ (s : SegmentAtParts). In s left) (sym item.1)
          (In-at left (length left - 1) c.in-Some.last.now (omega (arith, item.3.0))),
      c.says_all_of.ensures t,
    )
