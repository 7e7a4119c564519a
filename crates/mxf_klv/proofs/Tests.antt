-- Tests, what is there or not, and orderings.
use Rattle.mxf_klv.proofs.Common.{◌≡◌, ◌≢◌, ◌↔◌, ◌⊎◌, ◌&&◌, ◌||◌, ◌==◌, ◌<◌, ◌≤◌, ℕ, Bool, true, false, cond, not}
use Rattle.mxf_klv.proofs.Common.{IsTrue, Option, Some, None, is_some, refl, arith, eqb-true, eq-eqb, nat_lt, ltb-true}
use Rattle.mxf_klv.proofs.Common.{lt-ltb}
use Rattle.std.proofs.Common.{is_none, option_map, Ordering, Less, Equal, Greater, is_lt, nat_cmp}

pub not_true : (b : Bool) → (b ≡ true → ⊥) → not b ≡ true
not_true b h = grind arith

pub not-true-false : (b : Bool) → not b ≡ true → b ≡ true → ⊥
not-true-false b h k = cc

pub same_bool : (a b : Bool) → (IsTrue a → IsTrue b) → (IsTrue b → IsTrue a) → a ≡ b
same_bool a b h k = grind arith

pub either : (a b : Bool) → (a ≡ true) ⊎ (b ≡ true) → (a || b) ≡ true
either a b h = grind arith

pub all_three : (a b c : Bool) → a ≡ true → b ≡ true → c ≡ true → (a && b && c) ≡ true
all_three a b c h k e = cc

pub three_parts : (a b c : Bool) → (a && b && c) ≡ true → (a ≡ true) × (b ≡ true) × (c ≡ true)
three_parts a b c h = grind arith

pub not_both : (m n : Bool) → (m ≡ true → n ≡ true → ⊥) → (m && n) ≡ false
not_both m n h = grind arith

pub equals_itself : (a b : ℕ) → IsTrue (a == b) ↔ (a ≡ b)
equals_itself a b = (eqb-true a b, eq-eqb a b)

pub not_equal : (a b : ℕ) → (not (a == b) ≡ true) ↔ (a ≢ b)
not_equal a b = (λ h e. not-true-false (a == b) h (eq-eqb a b e), λ h. not_true (a == b) (λ t. h (eqb-true a b t)))

-- ---- what is there

pub none_some : {A : Type 0} (o : Option A) (x : A) → o ≡ None → o ≡ Some x → ⊥
none_some o x e f = cc (e, f)

pub none_if : {A : Type 0} (o : Option A) → is_some o ≡ false → o ≡ None
none_if o h = grind arith

pub none_says : {A : Type 0} (o : Option A) → is_none o ≡ true → o ≡ None
none_says o h = grind arith

pub some_is : {K : Type 0} (o : Option K) → is_some o ≡ true → (x : K) × (o ≡ Some x)
some_is o h = grind arith

pub is_some-map : {A B : Type 0} (f : A → B) (o : Option A) → is_some (option_map f o) ≡ is_some o
is_some-map f o = grind arith

pub guarded : {A : Type 0} (b : Bool) (o : Option A) (x : A) → cond b o None ≡ Some x → (b ≡ true) × (o ≡ Some x)
guarded b o x h = grind arith

-- ---- orderings

pub less_from_test : (o : Ordering) → is_lt o ≡ true → o ≡ Less
less_from_test o h = grind arith

pub less_from_lt : (a b : ℕ) → a < b → nat_cmp a b ≡ Less
less_from_lt a b h = rw (lt-ltb a b h) refl

pub lt_from_less : (a b : ℕ) → nat_cmp a b ≡ Less → a < b
lt_from_less a b e =
    elim (nat_lt a b) as (λ t. nat_lt a b ≡ t → a < b) [
      | true ↦ λ t. ltb-true a b t
      | false ↦ λ t. absurd (no t e)
    ] refl
  where
    no : nat_lt a b ≡ false → nat_cmp a b ≡ Less → ⊥
    no t = rw t (elim (a == b) as (λ s. cond s Equal Greater ≡ Less → ⊥) [ true ↦ λ q. cc (q) | false ↦ λ q. cc (q) ])

-- In a pair of places the first is the second, or stands below it.
pub by_places : (P : ℕ → ℕ → Type 0) (i j : ℕ) → i ≤ j → ((k : ℕ) → P k k) → (i < j → P i j) → P i j
by_places P i j l same less = grind arith
