use Rattle.mxf_views.proofs.Common.{◌≡◌, ◌∙◌, List, ap, subst, SameMembers}
use Rattle.mxf_units.specs.Intervals.{greatest_ends}
use Rattle.mxf_verify.specs.Touching.{back_of, reach_of}
use Rattle.mxf_verify.specs.declared.unit_places.UnitPlace.{UnitPlace}
use Rattle.mxf_verify.proofs.unit_places.UnitPlaces.of.Goals as goal

pub invariant_of-result : goal.invariant_of-result
invariant_of-result c =
    let copied : c.in_ok-from_slice.field-0.items ≡ c.by_start-firsts.result.items =
    c.in_ok-from_slice.ensures.items ∙ c.deref.ensures.value in record {
      begin = c.by_start-firsts.ensures.order;
      reaches_are = c.in_ok-reaches.ensures
          ∙ ap (λ (l : List UnitPlace). greatest_ends reach_of 0 l) c.deref-2.ensures.value;
      end = c.by_end-lasts.ensures.order;
      backs_are = c.in_ok-backs.ensures
          ∙ ap (λ (l : List UnitPlace). greatest_ends back_of 0 l) c.deref-3.ensures.value;
      same = subst (λ (l : List UnitPlace). SameMembers c.by_end-lasts.result.items l) copied
          c.by_end-lasts.ensures.members;
    }
