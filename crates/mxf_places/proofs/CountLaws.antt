-- How many offsets of a range lie in runs, and how many of these pass a test.
use Rattle.mxf_views.proofs.Common.{◌≡◌, ◌∙◌, ◌<◌, ◌≤◌, ◌+◌, ◌-◌, ℕ, zero, suc, Bool, true, false, ◌&&◌, ◌||◌, not}
use Rattle.mxf_views.proofs.Common.{cond, List, [], ◌∷◌, Some, filter, count_by, max, min, nat_le, nat_lt, inl, inr}
use Rattle.mxf_views.proofs.Common.{refl, sym, ap, arith, lt-ltb, ltb-true, and_from, and_left, and_parts, cases_lt}
use Rattle.mxf_views.proofs.Common.{false_from_ne_true, false≢true, range_with_len, count_by-cons, range-all, range-le}
use Rattle.mxf_views.proofs.Common.{range-none, range-same, range-split, tally, is_between, AreMaximal, starts_above}
use Rattle.mxf_catalogue.specs.declared.run.Run.{Run}
use Rattle.std.proofs.Common.{leb-true, le-leb, ltb-false}
use Rattle.mxf_places.specs.AtHand.{has_offset, outside_below}
use Rattle.mxf_places.proofs.AtHandLaws.{has_offset-says}

-- What passes a test, where it passes exactly one of two others.
range-sum : (p a b : ℕ → Bool) (s n : ℕ) → ((x : ℕ) → s ≤ x → x < s + n → tally (p x) ≡ tally (a x) + tally (b x))
    → count_by p (range_with_len s n) ≡ count_by a (range_with_len s n) + count_by b (range_with_len s n)
range-sum p a b s zero f = refl
range-sum p a b s (suc n) f =
    let ih = range-sum p a b (s + 1) n (λ x l h. f x (omega (arith, l)) (omega (arith, h))) in
    let one = f s (omega arith) (omega arith) in
    let c1 = count_by-cons p s (range_with_len (s + 1) n) in
    let c2 = count_by-cons a s (range_with_len (s + 1) n) in
    let c3 = count_by-cons b s (range_with_len (s + 1) n) in omega (arith, ih, one, c1, c2, c3)

-- What passes a test passes another too, or doesn't.
with_other : (p q : ℕ → Bool) (s n : ℕ) → count_by p (range_with_len s n)
    ≡ count_by (λ x. q x && p x) (range_with_len s n) + count_by (λ x. p x && not (q x)) (range_with_len s n)
with_other p q s n = range-sum p (λ x. q x && p x) (λ x. p x && not (q x)) s n (λ x l h. by (p x) (q x))
  where
    by : (a b : Bool) → tally a ≡ tally (b && a) + tally (a && not b)
    by true true = refl
    by true false = refl
    by false true = refl
    by false false = refl

abbrev in_run : Run → ℕ → Bool
in_run r x = nat_le r.start x && nat_lt x r.end

-- The offsets of a run in a range.
run_counted : (q : ℕ → Bool) (r : Run) (s e : ℕ) → count_by (λ x. in_run r x && q x) (range_with_len s (e - s))
    ≡ count_by q (range_with_len (max r.start s) (min r.end e - max r.start s))
run_counted q r s e =
    let p = λ (x : ℕ). in_run r x && q x in
    let a = max r.start s in
    let b = min r.end e in
    elim (cases_lt a b) [
      | inl l ↦ (
          let parts : e - s ≡ (a - s) + ((b - a) + (e - b)) = omega (arith, l) in
          let at1 : s + (a - s) ≡ a = omega arith in
          let at2 : a + (b - a) ≡ b = omega (arith, l) in
          let s1 = range-split p s (a - s) ((b - a) + (e - b)) in
          let s2 = range-split p a (b - a) (e - b) in
          let z1 = range-none p s (a - s) (λ x m h. out x (λ i k. omega (arith, h, i, m))) in
          let z2 = range-same p q a (b - a) (λ x m h. inside x (omega (arith, m)) (omega (arith, h, l))) in
          let z3 = range-none p b (e - b) (λ x m h. out x (λ i k. omega (arith, h, k, m, l))) in
          let g1 = ap (λ (k : ℕ). count_by p (range_with_len s k)) parts in
          let g2 = ap (λ (k : ℕ). count_by p (range_with_len k ((b - a) + (e - b)))) at1 in
          let g3 = ap (λ (k : ℕ). count_by p (range_with_len k (e - b))) at2 in
          omega (arith, s1, s2, z1, z2, z3, g1, g2, g3))
      | inr l ↦ (
          let none = range-none p s (e - s) (λ x m h. out x (λ i k. omega (arith, h, i, k, m, l))) in
          let zero : b - a ≡ 0 = omega (arith, l) in
          none ∙ ap (λ (k : ℕ). count_by q (range_with_len a k)) (sym zero))
    ]
  where
    out : (x : ℕ) → (r.start ≤ x → x < r.end → ⊥) → (in_run r x && q x) ≡ false
    out x f = and_left (in_run r x) (q x) (false_from_ne_true (in_run r x) (λ t.
        let u = and_parts (nat_le r.start x) (nat_lt x r.end) t in f (leb-true _ _ u.0) (ltb-true _ _ u.1)))

    inside : (x : ℕ) → r.start ≤ x → x < r.end → (in_run r x && q x) ≡ q x
    inside x l h = ap (λ b. b && q x) (and_from (nat_le r.start x) (nat_lt x r.end) (le-leb _ _ l) (lt-ltb _ _ h))

-- How many offsets of each run, from one offset up to another, pass a test.
abbrev pub passing : (ℕ → Bool) → List Run → ℕ → ℕ → ℕ
passing q [] s e = 0
passing q (r ∷ runs) s e =
    count_by q (range_with_len (max r.start s) (min r.end e - max r.start s)) + passing q runs s e

pub passing_counted : (q : ℕ → Bool) (low : ℕ) (runs : List Run) → AreMaximal low runs → (s e : ℕ)
    → passing q runs s e ≡ count_by (λ x. has_offset runs x && q x) (range_with_len s (e - s))
passing_counted q low [] m s e = sym (range-none (λ x. false) s (e - s) (λ x l h. refl))
passing_counted q low (r ∷ runs) m s e =
    let ih = passing_counted q (r.end + 1) runs m.2 s e in
    let one = run_counted q r s e in
    let sum = range-sum (λ x. has_offset (r ∷ runs) x && q x) (λ x. in_run r x && q x) (λ x. has_offset runs x && q x)
    s (e - s) (λ x l h. parts (in_run r x) (has_offset runs x) (q x) (apart x)) in omega (arith, ih, one, sum)
  where
    apart : (x : ℕ) → in_run r x ≡ true → has_offset runs x ≡ false
    apart x t =
        let u = and_parts (nat_le r.start x) (nat_lt x r.end) t in
        let before = ltb-true x r.end u.1 in
        false_from_ne_true (has_offset runs x) (λ h.
        let k = (has_offset-says runs x).0 h in
        let above = starts_above (r.end + 1) runs k.0 m.2 k.1 in
        let from : k.0.start ≤ x = k.2.from in omega (arith, above, from, before))

    parts : (a h t : Bool) → (a ≡ true → h ≡ false) → tally ((a || h) && t) ≡ tally (a && t) + tally (h && t)
    parts false true true f = refl
    parts false true false f = refl
    parts false false t f = refl
    parts true true t f = absurd (false≢true (sym (f refl)))
    parts true false true f = refl
    parts true false false f = refl

-- How many offsets of runs lie between two offsets.
abbrev pub within : List Run → ℕ → ℕ → ℕ
within [] s e = 0
within (r ∷ runs) s e = (min r.end e - max r.start s) + within runs s e

within-passing : (runs : List Run) (s e : ℕ) → within runs s e ≡ passing (λ x. true) runs s e
within-passing [] s e = refl
within-passing (r ∷ runs) s e =
    let ih = within-passing runs s e in
    let all = range-all (λ x. true) (max r.start s) (min r.end e - max r.start s) (λ x l h. refl) in
    omega (arith, ih, all)

pub within_counted : (low : ℕ) (runs : List Run) → AreMaximal low runs → (s e : ℕ)
    → within runs s e ≡ count_by (has_offset runs) (range_with_len s (e - s))
within_counted low runs m s e = within-passing runs s e ∙ passing_counted (λ x. true) low runs m s e
    ∙ range-same (λ x. has_offset runs x && true) (has_offset runs) s (e - s) (λ x l h. and_true (has_offset runs x))
  where
    and_true : (b : Bool) → (b && true) ≡ b
    and_true true = refl
    and_true false = refl

pub within-between : (runs : List Run) (s e : ℕ) → within (filter (is_between s (Some e)) runs) s e ≡ within runs s e
within-between [] s e = refl
within-between (r ∷ runs) s e =
    let ih = within-between runs s e in
    let kept = filter (is_between s (Some e)) runs in
    elim (nat_lt s r.end) as (λ b. nat_lt s r.end ≡ b
    → within (cond (b && nat_lt r.start e) (r ∷ kept) kept) s e ≡ within (r ∷ runs) s e) [
      | false ↦ λ t. let before = ltb-false s r.end t in omega (arith, ih, before)
      | true ↦ λ t. elim (nat_lt r.start e) as (λ b. nat_lt r.start e ≡ b
          → within (cond b (r ∷ kept) kept) s e ≡ within (r ∷ runs) s e) [
            | false ↦ λ u. let behind = ltb-false r.start e u in omega (arith, ih, behind)
            | true ↦ λ u. omega (arith, ih)
          ] refl
    ] refl

pub passing-most : (q : ℕ → Bool) (low : ℕ) (runs : List Run) → AreMaximal low runs → (s e : ℕ)
    → passing q runs s e ≤ e - s
passing-most q low runs m s e =
    let same = passing_counted q low runs m s e in
    let most = range-le (λ x. has_offset runs x && q x) s (e - s) in omega (arith, same, most)

pub within-most : (low : ℕ) (runs : List Run) → AreMaximal low runs → (s e : ℕ) → within runs s e ≤ e - s
within-most low runs m s e =
    let same = within-passing runs s e in
    let most = passing-most (λ x. true) low runs m s e in omega (arith, same, most)

-- What lies in runs below an end lies in others too, or doesn't.
pub outside_parts : (hand runs : List Run) (end : ℕ) → count_by (has_offset hand) (range_with_len 0 (end - 0))
    ≡ count_by (λ x. has_offset runs x && has_offset hand x) (range_with_len 0 end) + outside_below hand runs end
outside_parts hand runs end =
    let all : end - 0 ≡ end = omega arith in
    ap (λ (n : ℕ). count_by (has_offset hand) (range_with_len 0 n)) all
    ∙ with_other (has_offset hand) (has_offset runs) 0 end
