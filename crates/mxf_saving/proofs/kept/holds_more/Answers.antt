use Rattle.mxf_klv.proofs.Common.{◌≡◌, ◌<◌, ℕ, Bool, true, false, List, [], ◌∷◌, NoteParts, In, arith, length, refl, rules}
use Rattle.mxf_klv.proofs.Lists.{Contains-from_In, In-at}
use Rattle.mxf_klv.proofs.Tests.{not_true}
use Rattle.mxf_catalogue.specs.Content.{has_note}
use Rattle.std.specs.List.{HoldsAt}
use Rattle.std.specs.Prelude.{not}
use Rattle.std.proofs.Common.{get_or}
use Rattle.std.proofs.lemmas.Bool.{MatchBool-at_false, MatchBool-at_true}
use Rattle.std.proofs.lemmas.Iterator.{cases_from_all}
use Rattle.std.proofs.lemmas.Iterator.Consumers.{YieldsList-from_first}
use Rattle.std.proofs.lemmas.List.Elements.{All-contains, All-from_all_within}
use Rattle.mxf_saving.proofs.kept.holds_more.Goals as goal

there_is : (P : NoteParts → Type 0) (xs : List NoteParts) → (k : ℕ) × (k < length xs) × HoldsAt P xs k
    → (n : NoteParts) × In n xs × P n
there_is P [] s = absurd (omega (arith, s.1))
there_is P (x ∷ xs) s = (get_or (x ∷ xs) s.0 x, In-at (x ∷ xs) s.0 x s.1, s.2 x)

turned : (b : Bool) → not b ≡ true → b ≡ false
turned true e = absurd cc
turned false e = refl

pub returns : goal.returns
returns c =
    let notes = c.args.before.now in
    let there = has_note c.args.after.now in
    let cases = cases_from_all _ _ c.all.result there (λ n. there n → ⊥) c.all.ensures.ran
    (YieldsList-from_first (λ m. m.now) (λ s. s) notes c.notes.ensures.notes) (λ x q k. search rules)
    (λ x q k. search rules) in (
      λ t. there_is (λ n. there n → ⊥) notes (MatchBool-at_false _ _ (turned c.all.result t) cases),
      λ s. not_true c.all.result (λ u.
          s.2 (All-contains there notes s.0 (All-from_all_within there notes (MatchBool-at_true _ _ u cases))
          (Contains-from_In s.0 notes s.1))),
    )
