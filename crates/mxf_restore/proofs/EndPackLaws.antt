-- Whether a pack is held that stands at the end of a file alone, by the function and by the relation.
use Rattle.mxf_views.proofs.Common.{◌≡◌, ◌↔◌, true, not, IsTrue, List, NoteParts, IsContent, refl, ap, inl, inr}
use Rattle.mxf_views.proofs.Common.{PartitionParts, is_footer, partitions_of, rip_view_of, list_any-In, or_cases}
use Rattle.mxf_views.proofs.Common.{or_left, or_right}
use Rattle.mxf_sets.specs.declared.pack.part.PackPart.{PackPart}
use Rattle.mxf_sets.specs.declared.pack.part.PackPart.TheVariants.{Body, Footer, Header}
use Rattle.mxf_views.specs.Partitions.{IsPartition}
use Rattle.mxf_views.specs.RandomIndex.{IsClearRip}
use Rattle.mxf_views.specs.declared.random_index.RipView.{RipView}
use Rattle.mxf_views.specs.declared.random_index.RipView.TheVariants.{Absent, Several, Unreadable, One}
use Rattle.mxf_views.proofs.PartitionLaws.{partitions_are}
use Rattle.mxf_views.proofs.RandomIndexLaws.{rip_view_iff}
use Rattle.mxf_restore.specs.EndPacks.{HasEndPack, has_end_pack, has_footer, is_absent}

footer_is : (part : PackPart) → is_footer part ≡ true → part ≡ Footer
footer_is Header e = absurd cc
footer_is Body e = absurd cc
footer_is Footer e = refl

module _ (notes : List NoteParts) where
  abbrev IsFooterHeld : Type 0
  IsFooterHeld = (p : PartitionParts) × IsPartition notes p × (p.pack.part ≡ Footer)

  footer_there : has_footer (partitions_of notes) ≡ true → IsFooterHeld
  footer_there t =
      let s = (list_any-In (λ (p : PartitionParts). is_footer p.pack.part) (partitions_of notes)).0 t in
      (s.0, (partitions_are notes s.0).0 s.1, footer_is s.0.pack.part s.2)

  footer_found : IsFooterHeld → has_footer (partitions_of notes) ≡ true
  footer_found s =
      (list_any-In (λ (p : PartitionParts). is_footer p.pack.part) (partitions_of notes)).1
      (s.0, (partitions_are notes s.0).1 s.1, ap is_footer s.2)

  module _ (content : IsContent notes) where
    rip_there : (v : RipView) → rip_view_of notes ≡ v → not (is_absent v) ≡ true
        → (n : NoteParts) × IsClearRip notes n
    rip_there Absent e t = absurd cc
    rip_there Several e t = let s = (rip_view_iff notes Several content).0 e in (s.one, s.one_held)
    rip_there (Unreadable offset) e t =
        let s = (rip_view_iff notes (Unreadable offset) content).0 e in (s.0, s.1.held)
    rip_there (One r) e t = let s = (rip_view_iff notes (One r) content).0 e in (s.0, s.1.held)

    rip_found : (v : RipView) → rip_view_of notes ≡ v → (n : NoteParts) → IsClearRip notes n
        → not (is_absent v) ≡ true
    rip_found Absent e n k = absurd ((rip_view_iff notes Absent content).0 e n k)
    rip_found Several e n k = refl
    rip_found (Unreadable offset) e n k = refl
    rip_found (One r) e n k = refl

    pub end_pack_says : IsTrue (has_end_pack notes) ↔ HasEndPack notes
    unfolding has_end_pack
    end_pack_says =
        let footer = has_footer (partitions_of notes) in
        let rip = not (is_absent (rip_view_of notes)) in (
          λ t. elim (or_cases footer rip t) [
            | inl u ↦ inl (footer_there u)
            | inr u ↦ inr (rip_there (rip_view_of notes) refl u)
          ],
          λ h. elim h [
            | inl s ↦ or_left footer rip (footer_found s)
            | inr s ↦ or_right footer rip (rip_found (rip_view_of notes) refl s.0 s.1)
          ],
        )
