use Rattle.mxf_views.proofs.Common.{◌∙◌, [], ap, sym, nat_cmp, union}
use Rattle.mxf_restore.specs.Sections.{cuts_of}
use Rattle.mxf_restore.proofs.SectionLaws.{free_cuts_among, free_left}
use Rattle.mxf_restore.proofs.section.cuts.Goals as goal

pub returns-clause-cuts : goal.returns-clause-cuts
unfolding cuts_of
returns-clause-cuts c =
    let notes = c.args.holdings.now in
    c.sort_once.ensures.members ∙ ap (union nat_cmp []) (c.in_ok-cuts.ensures ∙ sym (free_left notes c.args.claims.now)
    ∙ ap (free_cuts_among notes) c.requires)
