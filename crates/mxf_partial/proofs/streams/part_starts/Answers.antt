use Rattle.mxf_views.proofs.Common.{◌∙◌, ap, map, subst, List, NoteParts, IsContent}
use Rattle.mxf_partial.specs.StreamTable.{start_of}
use Rattle.mxf_partial.proofs.StreamLaws.{parts_differ, starts_are}
use Rattle.mxf_partial.proofs.streams.part_starts.Goals as goal

pub returns-in_err-starts-clause-differ : goal.returns-in_err-starts-clause-differ
returns-in_err-starts-clause-differ c = parts_differ c.args.units.now.known.notes
    (subst (λ (notes : List NoteParts). IsContent notes) (c.catalogue.ensures ∙ c.views.ensures ∙ c.holdings.ensures)
    c.laws.ensures.catalogue.content)

pub returns-clause-starts : goal.returns-clause-starts
returns-clause-starts c =
    starts_are c.args.units.now.known.notes c.in_ok-starts.starts.items c.sort_once.new.items.items
    (c.in_ok-starts.ensures ∙ ap (map start_of) c.parts.ensures) c.sort_once.ensures.members c.sort_once.ensures.rising

pub returns-clause-differ : goal.returns-clause-differ
returns-clause-differ c = parts_differ c.args.units.now.known.notes
    (subst (λ (notes : List NoteParts). IsContent notes) (c.catalogue.ensures ∙ c.views.ensures ∙ c.holdings.ensures)
    c.laws.ensures.catalogue.content)
