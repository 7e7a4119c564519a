use Rattle.mxf_views.proofs.Common.{◌∙◌, ap, map, sym, RipAtParts}
use Rattle.mxf_views.proofs.NumbersLaws.{listed_alone}
use Rattle.mxf_views.proofs.random_index.RipAt.listed.Goals as goal

pub returns-clause-entries : goal.returns-clause-entries
returns-clause-entries c = c.entries.ensures ∙ sym (listed_alone c.self.inside.partitions.now c.self.inside.rip.entries)
    ∙ ap (λ (r : RipAtParts). map (λ e. e.0) r.entries) c.self.view_is
