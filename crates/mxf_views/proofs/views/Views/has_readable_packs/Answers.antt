use Rattle.mxf_views.proofs.Common.{◌≡◌, ◌∙◌, ◌==◌, ◌&&◌, Bool, true, false, List, [], ◌∷◌, ap, refl, cons_option}
use Rattle.mxf_views.proofs.Common.{filter_map, arith, eqb-true, false_from_ne_true, length, list_all, not, suc}
use Rattle.mxf_views.proofs.Common.{NoteParts, clear_notes, KeptParts, is_no_unreadable_pack}
use Rattle.mxf_views.specs.Kept.{offset_if}
use Rattle.mxf_views.proofs.views.Views.has_readable_packs.Goals as goal

none_kept : (test : NoteParts → Bool) (ns : List NoteParts)
    → (length (filter_map (λ n. offset_if (not (test n)) n) ns) == 0) ≡ list_all test ns
none_kept test [] = refl
none_kept test (n ∷ ns) = elim (test n) as (λ b. (length (cons_option (offset_if (not b) n)
    (filter_map (λ n. offset_if (not (test n)) n) ns)) == 0) ≡ (b && list_all test ns)) [
      | true ↦ none_kept test ns
      | false ↦ false_from_ne_true (suc _ == 0) (λ t. let e = eqb-true (suc _) 0 t in omega (arith, e))
    ]

pub returns : goal.returns
returns c =
    let number = c.self.inside.kept.unreadable_packs.ok.0
    ∙ ap (λ (k : KeptParts). length k.unreadable) c.self.invariant in
    c.is_empty.ensures ∙ ap (λ n. n == 0) number ∙ none_kept is_no_unreadable_pack (clear_notes c.self.inside.catalogue)
    ∙ ap (λ notes. list_all is_no_unreadable_pack (clear_notes notes)) c.self.view_is
