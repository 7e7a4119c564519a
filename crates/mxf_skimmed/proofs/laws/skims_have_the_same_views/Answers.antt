use Rattle.mxf_skimmed.proofs.HeldLaws.{clear_skim}
use Rattle.mxf_skimmed.proofs.ViewLaws.{skim_has_the_same_gaps, skim_has_the_same_views}
use Rattle.mxf_skimmed.proofs.laws.skims_have_the_same_views.Goals as goal

pub returns-clause-views : goal.returns-clause-views
returns-clause-views c = λ saved notes apart. skim_has_the_same_views saved notes (clear_skim saved notes apart)

pub returns-clause-gaps : goal.returns-clause-gaps
returns-clause-gaps c = skim_has_the_same_gaps
