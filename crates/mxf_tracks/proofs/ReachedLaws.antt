-- The offsets of a set in order, with one more.
use Rattle.mxf_views.proofs.Common.{◌≡◌, ℕ, List, [], ◌∷◌, refl, ap, cond}
use Rattle.std.proofs.Common.{nat_cmp, Less, Equal, Greater}
use Rattle.std.specs.Ordering.{is_lt, is_eq, match_ordering}
use Rattle.std.specs.BTreeSet.{insert_key}
use Rattle.mxf_tracks.specs.Targets.{with_reached}

pub inserted : (offset : ℕ) (reached : List ℕ) → insert_key nat_cmp reached offset ≡ with_reached offset reached
inserted offset [] = refl
inserted offset (o ∷ os) =
    elim (nat_cmp offset o) as (λ c. match_ordering c (offset ∷ o ∷ os) (o ∷ os) (o ∷ insert_key nat_cmp os offset)
    ≡ cond (is_lt c) (offset ∷ o ∷ os) (cond (is_eq c) (o ∷ os) (o ∷ with_reached offset os))) [
      | Less ↦ refl
      | Equal ↦ refl
      | Greater ↦ ap (λ l. o ∷ l) (inserted offset os)
    ]
