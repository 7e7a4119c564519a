-- Notes that are picked by a test: lists, sums and counts of them.
use Rattle.mxf_klv.proofs.Common.{Bool, List, [], ap, arith, cond, count_by, false, filter, inl, inr, nat_lt, not, refl}
use Rattle.mxf_klv.proofs.Common.{true, ℕ, ◌&&◌, ◌++◌, ◌+◌, ◌<◌, ◌==◌, ◌||◌, ◌∷◌, ◌≡◌, ◌≤◌, sum_by-cons, AllByRecursion}
use Rattle.mxf_klv.proofs.Common.{NoteParts, PacketParts, In}
use Rattle.std.specs.Prelude.{sum_by}
use Rattle.mxf_klv.proofs.Counts.{count_by-cons, tally}

pub left_first : (p : NoteParts → Bool) (n : NoteParts) (ns ms : List NoteParts) → p n ≡ false → filter p ns ≡ ms
    → filter p (n ∷ ns) ≡ ms
left_first p n ns ms t e = rw t e

pub kept_first : (p : NoteParts → Bool) (n : NoteParts) (ns ms : List NoteParts) → p n ≡ true → filter p ns ≡ ms
    → filter p (n ∷ ns) ≡ n ∷ ms
kept_first p n ns ms t e = rw t (ap (λ l. n ∷ l) e)

pub weighed : (f : NoteParts → ℕ) (p : NoteParts → Bool) (n : NoteParts) (ns : List NoteParts)
    → sum_by f (filter p (n ∷ ns)) ≡ cond (p n) (f n) 0 + sum_by f (filter p ns)
weighed f p n ns = grind (arith, sum_by-cons)

pub tally_fits : (b : Bool) → tally b ≤ 1
tally_fits b = grind arith

pub filter_twice : (p q : NoteParts → Bool) (ns : List NoteParts)
    → ((n : NoteParts) → In n ns → p n ≡ true → q n ≡ true) → filter p (filter q ns) ≡ filter p ns
filter_twice p q [] f = refl
filter_twice p q (n ∷ ns) f = grind (arith, filter_twice p q ns (λ m h. f m (inr h)))

-- Where each that passes one test passes another, no more are counted by it.
pub count_le : (p q : NoteParts → Bool) (ns : List NoteParts) → ((n : NoteParts) → p n ≡ true → q n ≡ true)
    → count_by p ns ≤ count_by q ns
count_le p q [] f = omega arith
count_le p q (n ∷ ns) f = grind (arith, count_by-cons, count_le p q ns f)

-- One more note is counted.
pub next_tally : (test : NoteParts → Bool) (count one total : ℕ) (n : NoteParts) (left rest : List NoteParts)
    → left ≡ n ∷ rest → count + count_by test left ≡ total → one ≡ tally (test n)
    → count + one + count_by test rest ≡ total
next_tally test count one total n left rest e same is = grind (arith, count_by-cons)

-- what is behind the first
pub behind : (x n : NoteParts) (xs ys : List NoteParts) → (In n xs → n ≡ x → ⊥) → (In n (x ∷ xs) → In n (x ∷ ys))
    → In n xs → In n ys
behind x n xs ys f g h = elim (g (inr h)) [ inl e ↦ absurd (f h e) | inr k ↦ k ]

pub all-right : (P : PacketParts → Type 0) (xs ys : List PacketParts) → AllByRecursion P (xs ++ ys)
    → AllByRecursion P ys
all-right P [] ys a = a
all-right P (x ∷ xs) ys a = all-right P xs ys a.1

-- Of two in different partitions one stands above the other exactly where the other doesn't stand above it.
pub one_above : (s t p q : ℕ) → p < q
    → (nat_lt s t || ((s == t) && nat_lt p q)) ≡ not (nat_lt t s || ((t == s) && nat_lt q p))
one_above s t p q h = grind arith
