use Rattle.mxf_views.proofs.Common.{rules, YieldsList-from_first}
use Rattle.std.proofs.lemmas.Iterator.Search.{any_from_yields_List}
use Rattle.mxf_findings.proofs.Common.{◌∙◌, ◌==◌, not}
use Rattle.mxf_findings.proofs.KeptFindings.{other_among_rips}
use Rattle.mxf_findings.proofs.finding.index.has_other_rip.Goals as goal

pub returns : goal.returns
returns c = any_from_yields_List (λ m. not (m.offset == c.args.note.now.offset)) _ _ c.any.result c.any.ensures.ran
    (YieldsList-from_first (λ m. m.now) (λ s. s) _ c.random_index_packs-packs.ensures) (λ x b q k. search rules)
    ∙ other_among_rips c.args.views.now c.args.note.now
