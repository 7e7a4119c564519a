-- Readings that found no packet, by where they began and the end that they were asked up to.
use Rattle.mxf_views.proofs.Common.{◌≡◌, ℕ, List, [], ◌∷◌, Option, None, Some, ap, cond, refl, subst, sym, is_at}
use Rattle.mxf_views.proofs.Common.{lookup, option_cmp, is_eq, nat_cmp, ordering_then, Ordering, Less, Equal, Greater}
use Rattle.mxf_views.proofs.Common.{NoteParts}
use Rattle.std.specs.Prelude.{IfSome}
use Rattle.std.specs.BTreeMap.{insert_entry}
use Rattle.std.specs.Ordering.{match_ordering}
use Rattle.std.proofs.lemmas.Map.Lookups.{CmpEqualImpliesEq, exact_pairs, exact_unsigned}
use Rattle.mxf_hand.specs.Noting.{IsReading}
use Rattle.mxf_hand.specs.Barren.{AreAllBarren, IsBarren}
use Rattle.mxf_hand.specs.Hand.{HandBytes, read_bytes}

-- The order of readings in a table.
abbrev pub asked_cmp : ℕ × Option ℕ → ℕ × Option ℕ → Ordering
asked_cmp a b = ordering_then (nat_cmp a.0 b.0) (option_cmp nat_cmp a.1 b.1)

-- Options are told apart where their values are.
exact_options : {A : Type 0} (P : A → A → Ordering) → CmpEqualImpliesEq P → CmpEqualImpliesEq (option_cmp P)
exact_options P exact None None e = refl
exact_options P exact None (Some y) e = absurd cc
exact_options P exact (Some x) None e = absurd cc
exact_options P exact (Some x) (Some y) e = ap (λ z. Some z) (exact x y e)

-- It tells all apart.
one_reading : CmpEqualImpliesEq asked_cmp
one_reading = exact_pairs nat_cmp (option_cmp nat_cmp) exact_unsigned (exact_options nat_cmp exact_unsigned)

-- What a table has is barren.
pub found_barren : (h : HandBytes) (entries : List ((ℕ × Option ℕ) × Option NoteParts)) (from : ℕ) (end : Option ℕ)
    → AreAllBarren h entries
    → IfSome (lookup (is_at (asked_cmp (from, end))) entries) (IsReading h.scan from (read_bytes h end from) [])
found_barren h [] from end all = tt
found_barren h (e ∷ entries) from end all = elim (asked_cmp (from, end) e.0) as (λ o. asked_cmp (from, end) e.0 ≡ o
    → IfSome (cond (is_eq o) (Some e.1) (lookup (is_at (asked_cmp (from, end))) entries))
    (IsReading h.scan from (read_bytes h end from) [])) [
      | Less ↦ λ _. found_barren h entries from end all.1
      | Equal ↦ λ same. subst (λ (k : ℕ × Option ℕ). IsReading h.scan k.0 (read_bytes h k.1 k.0) [] e.1)
          (sym (one_reading (from, end) e.0 same)) all.0
      | Greater ↦ λ _. found_barren h entries from end all.1
    ] refl

-- One more is kept.
pub kept_barren : (h : HandBytes) (entries : List ((ℕ × Option ℕ) × Option NoteParts)) (key : ℕ × Option ℕ)
    (head : Option NoteParts) → AreAllBarren h entries → IsBarren h (key, head)
    → AreAllBarren h (insert_entry asked_cmp entries key head)
kept_barren h [] key head all is = (is, tt)
kept_barren h (e ∷ entries) key head all is = elim (asked_cmp key e.0) as (λ o. asked_cmp key e.0 ≡ o
    → AreAllBarren h (match_ordering o ((key, head) ∷ e ∷ entries) ((e.0, head) ∷ entries)
    (e ∷ insert_entry asked_cmp entries key head))) [
      | Less ↦ λ _. (is, all)
      | Equal ↦ λ same. (subst (λ (k : ℕ × Option ℕ). IsBarren h (k, head)) (one_reading key e.0 same) is, all.1)
      | Greater ↦ λ _. (all.0, kept_barren h entries key head all.1 is)
    ] refl
