use Rattle.std.proofs.Common.{◌∙◌, ap, slice_get, List, ℕ}
use Rattle.mxf_klv.proofs.RisingBy.{by_itself, never_falls}
use Rattle.mxf_units.proofs.LeastLaws.{least-first}
use Rattle.mxf_units.proofs.bounds.bound_above.Goals as goal

pub up_to-requires : goal.up_to-requires
up_to-requires c = never_falls (λ x. x) c.args.bounds.now (by_itself c.args.bounds.now c.requires)

pub returns : goal.returns
returns c = c.copied.ensures ∙ c.first.ensures.value ∙ ap (λ (xs : List ℕ). slice_get xs 0) c.split_at.ensures.back
    ∙ least-first c.args.offset c.args.bounds.now c.up_to.result c.up_to.ensures.bound c.requires c.up_to.ensures.below
    c.up_to.ensures.above
