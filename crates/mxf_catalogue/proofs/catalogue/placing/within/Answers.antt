use Rattle.mxf_klv.proofs.Common.{◌∙◌, ◌+◌, ◌<◌, ◌≤◌, ◌≡◌, arith, ap, drop, get_or, length, AllWithin, IsNote, end_of}
use Rattle.mxf_catalogue.proofs.Ranges.{zone_range}
use Rattle.mxf_klv.proofs.Lists.{all-In, In-at}
use Rattle.mxf_catalogue.proofs.catalogue.placing.within.Goals as goal

pub returns : goal.returns
returns c =
    let from = c.starting_below.result in
    let to = c.ending_by-to.result in
    let a = c.min-from.result in
    let e = c.min-from.ensures in
    let l : a ≤ from = omega (arith, e) in
    let m : a ≤ to = omega (arith, e) in
    let cut : (a < from → a ≡ to) = λ (h : a < from). omega (arith, e, h) in
    let xs = c.args.notes.now in
    let end = c.saturating_add.result in
    let high : AllWithin (λ n. end < end_of n → c.args.start + c.args.bytes < end_of n) xs 0 (length xs) = (λ k d _ h g.
    let is = (all-In IsNote xs (get_or xs k d) c.requires.catalogue.members (In-at xs k d h)).within in
    omega (arith, c.saturating_add.ensures, is, g)) in
    c.split_at-2.ensures.back ∙ ap (drop a) c.split_at.ensures.front
    ∙ zone_range c.args.start c.args.bytes end xs a from to l m cut c.ending_by-to.ensures.bound
    (omega (arith, c.saturating_add.ensures)) high
    c.starting_below.ensures.below c.starting_below.ensures.above c.ending_by-to.ensures.below
    c.ending_by-to.ensures.above
