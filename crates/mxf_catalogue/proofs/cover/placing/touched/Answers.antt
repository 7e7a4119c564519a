use Rattle.std.proofs.Common.{arith}
use Rattle.mxf_catalogue.specs.Covers.{spanned}
use Rattle.mxf_catalogue.proofs.CoverLaws.{with_run_at, places_in_order}
use Rattle.mxf_catalogue.proofs.cover.placing.touched.Goals as goal

pub split_at-requires-2 : goal.split_at-requires-2
split_at-requires-2 c =
    let o = places_in_order c.args.run c.args.runs.now _ _ c.requires.cover.maximal c.ending_below-from.ensures.bound
    c.ending_below-from.ensures.below c.starting_by-to.ensures.above c.requires.run in
    omega (arith, o, c.split_at.ensures.front_len)

pub returns-clause-order : goal.returns-clause-order
returns-clause-order c = omega arith

pub returns-clause-put : goal.returns-clause-put
returns-clause-put c = grind (arith, with_run_at 0 c.args.run c.args.runs.now, spanned c.args.run)
