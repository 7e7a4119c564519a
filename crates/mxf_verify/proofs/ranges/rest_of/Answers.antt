use Rattle.mxf_views.proofs.Common.{◌↔◌, ℕ, List, IfOk-weaker, LiesIn, SameOffsets}
use Rattle.mxf_catalogue.specs.declared.run.Run.{Run}
use Rattle.mxf_verify.proofs.RangeLaws.{rest-offsets}
use Rattle.mxf_verify.proofs.ranges.rest_of.Goals as goal

pub returns : goal.returns
returns c =
    let all = c.args.all.now in
    let known = c.args.known.now in
    let whole = c.in_ok-outside.field-0.items in
    IfOk-weaker c.cover_of-2.result (λ (cover : List Run). SameOffsets cover whole)
    (λ (cover : List Run). (at : ℕ) → LiesIn cover at ↔ (LiesIn all at × (LiesIn known at → ⊥)))
    (λ cover same. rest-offsets all known c.in_ok-outside_or_in.field-0.items c.in_ok-others.others whole cover
    c.in_ok-outside_or_in.ensures.offsets c.in_ok-outside_or_in.ensures.below c.in_ok-others.ensures
    c.in_ok-outside.ensures.offsets same) c.cover_of-2.ensures
