use Rattle.mxf_klv.proofs.Common.{◌∙◌, drop, nat_le, nat_lt, true, le-leb, lt-leb, option_map_or}
use Rattle.mxf_klv.proofs.Windows.{window}
use Rattle.mxf_klv.proofs.search.between.Goals as goal

pub returns : goal.returns
returns g c =
    let key = g.T.Keyed.key in
    let part = window (λ x. nat_le c.args.from (key x)) (λ x. option_map_or (λ e. nat_lt (key x) e) c.args.end true)
    c.args.items.now c.below.result c.below_end-to.result c.below_end-to.ensures.bound
    (λ k d l h. lt-leb _ _ (c.below.ensures.below k d l h)) (λ k d l h. le-leb _ _ (c.below.ensures.above k d l h))
    c.below_end-to.ensures.below c.below_end-to.ensures.above in
    c.split_at-2.ensures.back ∙ (λ i. drop (c.min-start.ensures i) (c.split_at.ensures.front i)) ∙ part
