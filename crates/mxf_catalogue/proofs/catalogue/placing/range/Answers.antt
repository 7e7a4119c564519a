use Rattle.mxf_klv.proofs.Common.{◌<◌, ◌≤◌, subst, length, AllWithin, end_of, NoteParts}
use Rattle.mxf_catalogue.proofs.Ranges.{in_order, touched_range, other_ranges}
use Rattle.mxf_catalogue.proofs.catalogue.placing.range.Goals as goal

pub returns : goal.returns
returns c =
    let x = c.args.note.now in let xs = c.args.notes.now in
    let la = c.ending_by-from.ensures.bound in let lb = c.starting_below-to.ensures.bound in
    let ends = subst (λ o. AllWithin (λ (n : NoteParts). end_of n ≤ o) xs 0 c.ending_by-from.result)
    c.offset.ensures.offset c.ending_by-from.ensures.below in
    let goes_on = subst (λ o. AllWithin (λ (n : NoteParts). o < end_of n) xs c.ending_by-from.result (length xs))
    c.offset.ensures.offset c.ending_by-from.ensures.above in
    let starts = subst (λ o. AllWithin (λ (n : NoteParts). n.offset < o) xs 0 c.starting_below-to.result)
    c.end.ensures c.starting_below-to.ensures.below in
    let behind = subst (λ o. AllWithin (λ (n : NoteParts). o ≤ n.offset) xs c.starting_below-to.result (length xs))
    c.end.ensures c.starting_below-to.ensures.above in
    record {
      order = in_order x xs _ _ la lb ends goes_on starts behind;
      bound = lb;
      touching = touched_range x xs _ _ la lb ends goes_on starts behind;
      others = other_ranges x xs _ _ la lb ends goes_on starts behind;
    }
