use Rattle.mxf_views.proofs.Common.{◌≡◌, Bool, true, false, List, [], ◌∷◌, ◌∙◌, ap, refl, arith, leb-true}
use Rattle.mxf_views.proofs.Common.{◌&&◌, nat_le, filter, NoteParts, end_of, clear_notes, is_set_note, zone_of, lies_in}
use Rattle.mxf_views.proofs.copy.sets.no_sets.Goals as goal

not_both : (a b : Bool) → (b ≡ true → ⊥) → (a && b) ≡ false
not_both true true h = absurd (h refl)
not_both true false h = refl
not_both false b h = refl

-- no packet lies in no byte
no_zone : (notes : List NoteParts) → zone_of 0 0 notes ≡ []
no_zone [] = refl
no_zone (n ∷ notes) = grind (arith, lies_in, not_both, nat_le, end_of, leb-true, no_zone notes)

pub returns-clause-none : goal.returns-clause-none
returns-clause-none c = c.of.ensures.sets ∙ ap (filter is_set_note)
    (c.clear_within.ensures.notes ∙ no_zone (clear_notes c.args.catalogue.now))
