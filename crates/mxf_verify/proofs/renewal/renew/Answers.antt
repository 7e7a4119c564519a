use Rattle.mxf_views.proofs.Common.{◌∙◌, ap, reduced_union}
use Rattle.mxf_verify.proofs.RenewalLaws.{renewed-by_added}
use Rattle.mxf_verify.proofs.renewal.renew.Goals as goal

pub returns-clause-catalogue : goal.returns-clause-catalogue
returns-clause-catalogue c = c.in_ok-merge.ensures.merged ∙ ap (reduced_union c.args.new) c.in_ok-added.ensures.added
    ∙ renewed-by_added c.args.old.now c.args.new c.laws.ensures.catalogue.content c.laws.ensures.reduced
