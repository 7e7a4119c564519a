-- What is held and disputed of ranges.
use Rattle.mxf_views.proofs.Common.{◌≡◌, ◌∙◌, ◌↔◌, ◌⊎◌, ◌<◌, ◌≤◌, ◌+◌, ◌-◌, ℕ, zero, suc, Bool, true, false, IsTrue}
use Rattle.mxf_views.proofs.Common.{List, [], ◌∷◌, refl, sym, ap, inl, inr, arith, min, ◌||◌, ◌++◌, append_assoc}
use Rattle.mxf_views.proofs.Common.{filter_map, nat_le, Option, None, Some, and_from, and_parts, cases_lt}
use Rattle.mxf_views.proofs.Common.{false_from_ne_true, leb-true, cons_option, list_all, list_any, range_with_len}
use Rattle.mxf_views.proofs.Common.{NoteParts, covered_end, either, length, length-map-range_with_len, map, map-append}
use Rattle.mxf_views.proofs.Common.{same_bool}
use Rattle.mxf_places.specs.Held.{IsDisputedAt, IsHeld, held_end, is_disputed_at, is_held}
use Rattle.mxf_places.specs.AtHand.{KnownParts, has_offset}
use Rattle.mxf_places.proofs.AtHandLaws.{has_offset-says}
use Rattle.mxf_places.proofs.HeldLaws.{held_end-bound, is_disputed_at-says, is_held-says}
use Rattle.mxf_units.specs.Ranges.{units_from}
use Rattle.mxf_units.specs.Units.{IsKnown, UnitsParts, are_all_held, are_all_known, is_any_disputed, is_any_known}
use Rattle.mxf_units.specs.Units.{is_known, unit_of}

pub either-says : (a b : Bool) → (a || b) ≡ true → (a ≡ true) ⊎ (b ≡ true)
either-says true b e = inl refl
either-says false b e = inr e

all-range : (p : ℕ → Bool) (a n : ℕ)
    → (list_all p (range_with_len a n) ≡ true) ↔ ((x : ℕ) → a ≤ x → x < a + n → p x ≡ true)
all-range p a zero = (λ h x l r. absurd (omega arith), λ f. refl)
all-range p a (suc n) = grind (arith, and_parts, list_all, range_with_len, cases_lt, and_from, all-range p (a + 1) n)

any-range : (p : ℕ → Bool) (a n : ℕ)
    → (list_any p (range_with_len a n) ≡ true) ↔ ((x : ℕ) × (p x ≡ true) × (a ≤ x) × (x < a + n))
any-range p a zero = (λ h. absurd cc, λ s. let l = s.2 in let r = s.3 in absurd (omega (arith, l, r)))
any-range p a (suc n) = grind (arith, list_any, range_with_len, cases_lt, either, any-range p (a + 1) n)

pub all-says : (p : ℕ → Bool) (P : ℕ → Type 0) → ((x : ℕ) → IsTrue (p x) ↔ P x) → (from to : ℕ)
    → IsTrue (list_all p (range_with_len from (to - from))) ↔ ((x : ℕ) → from ≤ x → x < to → P x)
all-says p P says from to = grind (arith, all-range)

pub any-says : (p : ℕ → Bool) (P : ℕ → Type 0) → ((x : ℕ) → IsTrue (p x) ↔ P x) → (from to : ℕ)
    → IsTrue (list_any p (range_with_len from (to - from))) ↔ ((x : ℕ) × P x × (from ≤ x) × (x < to))
any-says p P says from to = grind (arith, any-range)

pub all_held-says : (notes : List NoteParts) (from to : ℕ)
    → IsTrue (are_all_held notes from to) ↔ ((x : ℕ) → from ≤ x → x < to → IsHeld notes x)
unfolding are_all_held
all_held-says notes from to = all-says (is_held notes) (IsHeld notes) (is_held-says notes) from to

pub any_disputed-says : (notes : List NoteParts) (from to : ℕ)
    → IsTrue (is_any_disputed notes from to) ↔ ((x : ℕ) × IsDisputedAt notes x × (from ≤ x) × (x < to))
unfolding is_any_disputed
any_disputed-says notes from to =
    any-says (is_disputed_at notes) (IsDisputedAt notes) (is_disputed_at-says notes) from to

is_known-says : (known : KnownParts) (x : ℕ) → IsTrue (is_known known x) ↔ IsKnown known x
is_known-says known x = grind (arith, is_held-says, has_offset-says, either-says, is_held, has_offset, either)

pub all_known-says : (known : KnownParts) (from to : ℕ)
    → IsTrue (are_all_known known from to) ↔ ((x : ℕ) → from ≤ x → x < to → IsKnown known x)
unfolding are_all_known
all_known-says known from to = all-says (is_known known) (IsKnown known) (is_known-says known) from to

pub any_known-says : (known : KnownParts) (from to : ℕ)
    → IsTrue (is_any_known known from to) ↔ ((x : ℕ) × IsKnown known x × (from ≤ x) × (x < to))
unfolding is_any_known
any_known-says known from to = any-says (is_known known) (IsKnown known) (is_known-says known) from to

-- ---- offsets that all lie below an end

pub held-below : (notes : List NoteParts) (x : ℕ) → IsHeld notes x → x < held_end notes
held-below notes x h =
    let a = (held_end-bound notes (held_end notes)).0 (omega arith) h.0 h.1 in
    let b : x + 1 ≤ covered_end h.0 = h.2.before in omega (arith, a, b)

pub disputed-below : (notes : List NoteParts) (x : ℕ) → IsDisputedAt notes x → x < held_end notes
disputed-below notes x h = held-below notes x (h.0, h.1, h.3)

module _ (P : ℕ → Type 0) (from to : ℕ) where
  abbrev pub All : Type 0
  All = (x : ℕ) → from ≤ x → x < to → P x

  abbrev pub Any : ℕ → Type 0
  Any end = (x : ℕ) × P x × (from ≤ x) × (x < end)

  pub all-empty : (t : Bool) → IsTrue t ↔ All → to ≤ from → t ≡ true
  all-empty t says h = says.1 (λ x l r. absurd (omega (arith, l, r, h)))

  pub all-past : (t : Bool) (end : ℕ) → IsTrue t ↔ All → ((x : ℕ) → P x → x < end) → from < to → end < to → t ≡ false
  all-past t end says below some past = grind (arith, false_from_ne_true)

  pub any-past : (t : Bool) (end : ℕ) → IsTrue t ↔ Any to → ((x : ℕ) → P x → x < end) → end ≤ from → t ≡ false
  any-past t end says below far = grind (arith, false_from_ne_true)

  pub any-within : (b t : Bool) (least end : ℕ) → IsTrue t ↔ Any to → ((x : ℕ) → P x → x < end) → least ≡ min to end
      → IsTrue b ↔ Any least → b ≡ t
  any-within b t least end says below e near = grind (arith, same_bool)

pub lt-leb : (a b : ℕ) → b < a → nat_le a b ≡ false
lt-leb a b l = grind (arith, nat_le, leb-true)

-- ---- places of a range of units

range-first : (a b : ℕ) → a < b → range_with_len a (b - a) ≡ a ∷ range_with_len (a + 1) (b - (a + 1))
range-first a b l = let e : b - a ≡ suc (b - (a + 1)) = omega arith in ap (range_with_len a) e

pub placed-step : {K : Type 0} (f : ℕ → Option K) (xs whole : List K) (a b : ℕ) (p : K) → a < b → Some p ≡ f a
    → xs ++ filter_map f (range_with_len a (b - a)) ≡ whole
    → (xs ++ p ∷ []) ++ filter_map f (range_with_len (a + 1) (b - (a + 1))) ≡ whole
placed-step f xs whole a b p l e h = grind (arith, filter_map, range_with_len, append_assoc, cons_option, range-first)

pub skipped-step : {K : Type 0} (f : ℕ → Option K) (xs whole : List K) (a b : ℕ) → a < b → None ≡ f a
    → xs ++ filter_map f (range_with_len a (b - a)) ≡ whole
    → xs ++ filter_map f (range_with_len (a + 1) (b - (a + 1))) ≡ whole
skipped-step f xs whole a b l e h = grind (arith, filter_map, range_with_len, cons_option, range-first)

-- ---- units one after another

range_append : (a m n : ℕ) → range_with_len a m ++ range_with_len (a + m) n ≡ range_with_len a (m + n)
range_append a zero n =
    let same : a + 0 ≡ a = omega arith in
    let none : n ≡ 0 + n = omega arith in
    ap (λ x. range_with_len x n) same ∙ ap (range_with_len a) none
range_append a (suc m) n =
    let here : a + suc m ≡ (a + 1) + m = omega arith in
    let more : suc m + n ≡ suc (m + n) = omega arith in
    ap (λ l. a ∷ l) (ap (λ x. range_with_len (a + 1) m ++ range_with_len x n) here ∙ range_append (a + 1) m n)
    ∙ sym (ap (range_with_len a) more)

pub units_length : (u : UnitsParts) (first count : ℕ) → length (units_from u first count) ≡ count
units_length u first count = length-map-range_with_len (unit_of u.known u.index_sid) first count

-- those from one up to another, and those from that on
pub units_append : (u : UnitsParts) (from first count : ℕ) → from ≤ first
    → units_from u from (first - from) ++ units_from u first count ≡ units_from u from (first - from + count)
units_append u from first count low =
    let unit = unit_of u.known u.index_sid in
    let met : from + (first - from) ≡ first = omega arith in
    sym (map-append unit (range_with_len from (first - from)) (range_with_len first count))
    ∙ ap (map unit) (ap (λ x. range_with_len from (first - from) ++ range_with_len x count) (sym met)
    ∙ range_append from (first - from) count)
