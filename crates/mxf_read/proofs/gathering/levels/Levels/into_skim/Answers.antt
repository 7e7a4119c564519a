use Rattle.std.proofs.Common.{◌∙◌, ap, subst}
use Rattle.mxf_catalogue.specs.Content.{AreReduced, IsContent}
use Rattle.mxf_skim.specs.Preferring.{prefer_read}
use Rattle.mxf_read.proofs.gathering.levels.Levels.into_skim.Goals as goal

pub returns-in-Ok : goal.returns-in-Ok
returns-in-Ok c = record {
  content = subst IsContent c.in_ok-merged.ensures c.laws.ensures.catalogue.content;
  reduced = subst AreReduced c.in_ok-merged.ensures c.laws.ensures.reduced;
  preferred = c.in-Ok.ensures.views ∙ c.in_ok-catalogue.ensures ∙ ap prefer_read c.in_ok-merged.ensures;
}
