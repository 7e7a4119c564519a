use Rattle.mxf_views.proofs.Common.{◌<◌, arith, leb-true}
use Rattle.mxf_verify.proofs.FixityLaws.{whole_below_end}
use Rattle.mxf_verify.proofs.verified_units.has_all.Goals as goal

pub returns-else-end-from : goal.returns-else-end-from
returns-else-end-from c =
    let late = c.if-end-from.false in (
      λ h. let early = leb-true c.args.end c.from.result h in absurd (omega (arith, late, early)),
      λ all.
          let some : c.args.start < c.args.end = omega (arith, c.if-end-start.false) in
          let early = whole_below_end c.args.cover.now c.end.result c.args.start c.args.end c.end.ensures some all in
          absurd (omega (arith, late, early, c.from.ensures)),
    )
