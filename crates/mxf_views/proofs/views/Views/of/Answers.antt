use Rattle.mxf_views.proofs.Common.{List, refl, ◌↔◌, ◌∙◌, ap, inl, inr, head_note, NoteParts, In, AreReduced, has_note}
use Rattle.mxf_views.proofs.Common.{IsLocated, file_bytes, written_file, In-located}
use Rattle.mxf_catalogue.specs.Reduced.{IsKnown}
use Rattle.mxf_views.proofs.RunLaws.{IsTheRun-from_set}
use Rattle.mxf_views.proofs.views.Views.of.Goals as goal

known_own : (notes : List NoteParts) (n : NoteParts) → has_note notes n ↔ IsKnown head_note (has_note notes) n
known_own notes n = (
  inl,
  λ h. elim h [
    | inl k ↦ k
    | inr s ↦ inr (elim s.1 [ inl i ↦ (s.0, i, s.2) | inr t ↦ (t.0, t.1, ap head_note t.2 ∙ s.2) ])
  ],
)

located_own : (notes : List NoteParts) → AreReduced notes → (n : NoteParts) → In n notes ↔ IsLocated (has_note notes) n
located_own notes r n = In-located (has_note notes) notes r (known_own notes) n

pub returns-in-Ok-clause-run : goal.returns-in-Ok-clause-run
returns-in-Ok-clause-run c =
    let laws = c.laws.ensures in
    IsTheRun-from_set (has_note c.args.catalogue) c.args.catalogue (located_own c.args.catalogue laws.reduced) (
      _,
      written_file c.args.catalogue laws.catalogue laws.reduced laws.bound (file_bytes c.args.catalogue) refl,
    )
