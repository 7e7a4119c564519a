use Rattle.mxf_klv.proofs.Common.{◌∙◌, drop, nat_lt, true, lt-ltb, option_map_or}
use Rattle.std.proofs.lemmas.Bool.{le-ltb}
use Rattle.mxf_klv.proofs.Windows.{window}
use Rattle.mxf_catalogue.proofs.cover.placing.between.Goals as goal

pub returns : goal.returns
returns c =
    let runs = c.args.runs.now in
    let part = window (λ r. nat_lt c.args.from r.end) (λ r. option_map_or (λ e. nat_lt r.start e) c.args.to true) runs
    c.ending_by.result c.starting_below-end.result c.starting_below-end.ensures.bound
    (λ k d l h. le-ltb _ _ (c.ending_by.ensures.below k d l h))
    (λ k d l h. lt-ltb _ _ (c.ending_by.ensures.above k d l h))
    c.starting_below-end.ensures.below c.starting_below-end.ensures.above in
    c.split_at-2.ensures.back ∙ (λ i. drop (c.min-start.ensures i) (c.split_at.ensures.front i)) ∙ part
