use Rattle.mxf_views.proofs.Common.{◌∙◌, ap, map, subst, sym, KeptParts, RiseBy, partitions_of}
use Rattle.mxf_views.specs.Partitions.{in_numbers}
use Rattle.mxf_views.proofs.KeptLaws.{partitions_in_numbers, partitions_rise_by}
use Rattle.mxf_views.proofs.views.Views.partitions_in_numbers.Goals as goal

pub returns-clause-partitions : goal.returns-clause-partitions
returns-clause-partitions c = c.deref.ensures.value ∙ ap (λ (k : KeptParts). k.partitions) c.self.invariant
    ∙ partitions_in_numbers c.self.inside.catalogue ∙ ap (λ notes. map in_numbers (partitions_of notes)) c.self.view_is

pub returns-clause-rising : goal.returns-clause-rising
returns-clause-rising c =
    subst (RiseBy (λ p. p.offset)) (sym (c.deref.ensures.value ∙ ap (λ (k : KeptParts). k.partitions) c.self.invariant))
    (partitions_rise_by c.self.inside.catalogue c.laws.ensures.catalogue.content)
