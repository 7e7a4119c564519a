-- The orders of header metadata.
use Rattle.mxf_views.proofs.Common.{◌≡◌, ◌↔◌, ◌⊎◌, List, [], true, false, ap, filter, flat_map, inl, inr, refl}
use Rattle.mxf_views.proofs.Common.{NoteParts, In, In-filter, In-union, IsRising, IsRising-union, IsTrue}
use Rattle.mxf_places.specs.AtHand.{AtHandParts}
use Rattle.mxf_places.specs.declared.reason.Reason.{Reason}
use Rattle.mxf_places.specs.declared.reason.Reason.TheVariants.{Entry, Footer, Front, Gap, Header, Index, Metadata}
use Rattle.mxf_places.specs.declared.reason.Reason.TheVariants.{Previous, Unit as OfUnit}
use Rattle.mxf_restore.specs.Plan.{order_cmp}
use Rattle.mxf_restore.specs.Sections.{sections_of}
use Rattle.mxf_restore.specs.declared.plan.Order.{Order}
use Rattle.mxf_restore.proofs.PlanLaws.{one_order, order_total}
use Rattle.mxf_partial.specs.Helping.{helping_of}
use Rattle.mxf_partial.specs.MetadataPlans.{IsMetadataOrder, has_metadata, is_of_metadata, metadata_plan}

reason_is : (r : Reason) → has_metadata r ≡ true → (r ≡ Header) ⊎ ((r ≡ Footer) ⊎ (r ≡ Metadata))
reason_is Header e = inl refl
reason_is Footer e = inr (inl refl)
reason_is Metadata e = inr (inr refl)
reason_is Index e = absurd cc
reason_is Entry e = absurd cc
reason_is Previous e = absurd cc
reason_is Gap e = absurd cc
reason_is Front e = absurd cc
reason_is OfUnit e = absurd cc

is_reason : (r : Reason) → (r ≡ Header) ⊎ ((r ≡ Footer) ⊎ (r ≡ Metadata)) → has_metadata r ≡ true
is_reason r (inl e) = ap has_metadata e
is_reason r (inr (inl e)) = ap has_metadata e
is_reason r (inr (inr e)) = ap has_metadata e

abbrev helping : AtHandParts → List NoteParts → List Order
helping at notes = flat_map (helping_of false at notes) (sections_of notes)

pub members : (at : AtHandParts) (notes : List NoteParts) (o : Order)
    → In o (metadata_plan at notes).orders ↔ IsMetadataOrder at notes o
members at notes o =
    let all = In-union order_total one_order o [] (filter is_of_metadata (helping at notes)) in
    let some = In-filter is_of_metadata (helping at notes) o in (
      λ i. elim (all.0 i) [
        | inl none ↦ absurd none
        | inr k ↦ (let s = some.0 k in record { helping = s.0; reason = reason_is o.reason s.1 })
      ],
      λ m. all.1 (inr (some.1 (m.helping, is_reason o.reason m.reason))),
    )

pub rising : (at : AtHandParts) (notes : List NoteParts) → IsRising order_cmp (metadata_plan at notes).orders
rising at notes = IsRising-union order_total one_order [] (filter is_of_metadata (helping at notes)) tt
