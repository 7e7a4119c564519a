use Rattle.mxf_views.proofs.Common.{◌∙◌, List, subst, NoteParts}
use Rattle.mxf_map.specs.Layers.{AreOffsets, BeginsPartition, BeginsRandomIndex, LiesInZone}
use Rattle.mxf_sets.specs.declared.pack.part.PackPart.TheVariants as parts
use Rattle.mxf_places.specs.declared.stretch.Zone.TheVariants as zones
use Rattle.mxf_map.proofs.map.layers.Layers.of.Goals as goal

pub invariant_of-result : goal.invariant_of-result
invariant_of-result c =
    let views = c.views-views.ensures in record {
      headers_are = subst (λ (notes : List NoteParts). AreOffsets (BeginsPartition notes parts.Header)
          c.in_ok-headers.headers) views c.in_ok-headers.ensures;
      footers_are = subst (λ (notes : List NoteParts). AreOffsets (BeginsPartition notes parts.Footer)
          c.in_ok-footers.footers) views c.in_ok-footers.ensures;
      bodies_are = subst (λ (notes : List NoteParts). AreOffsets (BeginsPartition notes parts.Body)
          c.in_ok-bodies.bodies) views c.in_ok-bodies.ensures;
      random_index_is = subst (λ (notes : List NoteParts). AreOffsets (BeginsRandomIndex notes)
          c.in_ok-random_index.random_index) (c.catalogue.ensures ∙ views) c.in_ok-random_index.ensures;
      missing_is = c.in_ok-missing.ensures;
      metadata_is = subst (λ (notes : List NoteParts). AreOffsets (LiesInZone notes zones.Metadata)
          c.in_ok-metadata.metadata) (c.catalogue-2.ensures ∙ views) c.in_ok-metadata.ensures;
      index_is = subst (λ (notes : List NoteParts). AreOffsets (LiesInZone notes zones.Index) c.in_ok-index.index)
          (c.catalogue-3.ensures ∙ views) c.in_ok-index.ensures;
    }
