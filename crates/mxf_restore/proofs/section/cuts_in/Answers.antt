use Rattle.mxf_views.proofs.Common.{◌∙◌, drop, nat_lt, true, le-ltb, option_map_or, by_itself, never_falls}
use Rattle.std.proofs.lemmas.Bool.{lt-ltb}
use Rattle.mxf_klv.proofs.Windows.{window}
use Rattle.mxf_restore.proofs.section.cuts_in.Goals as goal

pub up_to-requires : goal.up_to-requires
up_to-requires c = never_falls (λ x. x) c.args.cuts.now (by_itself c.args.cuts.now c.requires)

pub returns : goal.returns
returns c =
    let cuts = c.args.cuts.now in
    let hole = c.args.hole in
    let from = c.up_to.result in
    let to = c.count_below-to.result in
    let part = window (λ x. nat_lt hole.start x) (λ x. option_map_or (λ e. nat_lt x e) hole.end true) cuts from to
    c.count_below-to.ensures.bound
    (λ k d l h. le-ltb _ _ (c.up_to.ensures.below k d l h)) (λ k d l h. lt-ltb _ _ (c.up_to.ensures.above k d l h))
    c.count_below-to.ensures.below c.count_below-to.ensures.above in
    c.split_at-2.ensures.back ∙ (λ i. drop (c.min-from.ensures i) (c.split_at.ensures.front i)) ∙ part
