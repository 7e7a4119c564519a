use Rattle.mxf_views.proofs.Common.{rules, YieldsList-from_slice, items_from_extend, YieldsList-from_filter_map}
use Rattle.mxf_partial.specs.Questions.{unnamed_run}
use Rattle.mxf_partial.proofs.questions.add_unnamed.Goals as goal

pub returns : goal.returns
returns c =
    let h = items_from_extend c.extend.result c.extend.ensures.ran (YieldsList-from_filter_map _
    (unnamed_run c.args.named.now) (YieldsList-from_slice c.args.unsure.now cc)
    c.filter_map-unnamed.ensures.closure (λ x r q k. search rules)) in search rules
