-- Candidates that further bytes don't reach.
use Rattle.mxf_views.proofs.Common.{◌≡◌, ◌+◌, ◌-◌, ◌<◌, ◌≤◌, ◌&&◌, ℕ, zero, suc, Bool, true, false, cond}
use Rattle.mxf_views.proofs.Common.{List, [], ◌∷◌, ◌++◌, length, take, drop, map, get_or, set, refl, sym, ap, ◌∙◌}
use Rattle.mxf_views.proofs.Common.{arith, or_right, drop_all, get_or-map, length-map, take_all, AllWithin}
use Rattle.mxf_views.proofs.Common.{IsNonDecreasingBy, NoteParts, covered_end, end_of}
use Rattle.std.proofs.lemmas.List.{length-set}
use Rattle.mxf_verify.specs.Verifying.{front_size, held_size}
use Rattle.mxf_verify.specs.Agreeing.{agrees_on, part_of}
use Rattle.mxf_verify.specs.Candidates.{AreSettled, also, compared, notes_of, offset_of}
use Rattle.mxf_verify.specs.declared.candidate.Candidate.{Candidate}
use Rattle.mxf_verify.proofs.ByteLaws.{agrees_none}

-- a note's bytes reach to where what it covers ends
pub covered_by_size : (n : NoteParts) → covered_end n ≡ n.offset + held_size n
covered_by_size n = elim n.whole as (λ b. cond b (end_of n) (n.offset + 16 + n.width)
    ≡ n.offset + cond b (front_size n + n.length) (front_size n)) [ true ↦ omega arith | false ↦ omega arith ]

-- key and length are among them
pub front_within : (n : NoteParts) → front_size n ≤ held_size n
front_within n = grind arith

-- no byte comes of a note that was passed
pub part_behind : (n : NoteParts) (at : ℕ) (bytes : List ℕ) → covered_end n ≤ at → part_of n at bytes ≡ []
unfolding part_of
part_behind n at bytes h = grind (arith, covered_by_size)

-- nor of one that begins where they end, or behind
pub part_ahead : (n : NoteParts) (at : ℕ) (bytes : List ℕ) → at + length bytes ≤ n.offset → part_of n at bytes ≡ []
unfolding part_of
part_ahead n at bytes h = ap (take (held_size n - (at - n.offset))) (drop_all (n.offset - at) bytes (omega arith))
    ∙ take_all (held_size n - (at - n.offset)) [] (omega arith)

-- of no byte nothing else is said
pub agrees_on_none : (n : NoteParts) (seen : ℕ) → agrees_on n seen [] ≡ true
unfolding agrees_on
agrees_on_none n seen = grind (arith, drop_all, agrees_none, or_right)

pub and_true : (b : Bool) → (b && true) ≡ b
and_true true = refl
and_true false = refl

-- a candidate of which no byte came stays as it is
pub compared_none : (at : ℕ) (bytes : List ℕ) (c : Candidate) → part_of c.note.now at bytes ≡ []
    → compared at bytes c ≡ c
unfolding compared
compared_none at bytes c e = grind (arith, agrees_on_none, and_true)

-- where a function leaves the first elements as they are, the list with these changed is the list
pub front_stays : {K : Type 0} (f : K → K) (xs : List K) (at : ℕ) → AllWithin (λ x. f x ≡ x) xs 0 at
    → xs ≡ map f (take at xs) ++ drop at xs
front_stays f xs zero a = refl
front_stays f [] (suc at) a = refl
front_stays f (x ∷ xs) (suc at) a = λ i. sym (a 0 x (omega arith) (omega arith)) i
    ∷ front_stays f xs at (λ k d l h. a (suc k) d (omega arith) (omega arith)) i

-- where it leaves all behind them as they are, the list with these changed is the list with all changed
pub rest_stays : {K : Type 0} (f : K → K) (xs : List K) (at : ℕ) → AllWithin (λ x. f x ≡ x) xs at (length xs)
    → map f (take at xs) ++ drop at xs ≡ map f xs
rest_stays f [] zero a = refl
rest_stays f [] (suc at) a = refl
rest_stays f (x ∷ xs) zero a = λ i. sym (a 0 x (omega arith) (omega arith)) i
    ∷ rest_stays f xs zero (λ k d l h. a (suc k) d (omega arith) (omega arith)) i
rest_stays f (x ∷ xs) (suc at) a =
    ap (λ l. f x ∷ l) (rest_stays f xs at (λ k d l h. a (suc k) d (omega arith) (omega arith)))

-- comparing leaves the notes, and where they begin and end
pub compared_offset : (at : ℕ) (bytes : List ℕ) (c : Candidate) → offset_of (compared at bytes c) ≡ offset_of c
unfolding compared
compared_offset at bytes c = refl

pub compared_end : (at : ℕ) (bytes : List ℕ) (c : Candidate)
    → covered_end (compared at bytes c).note.now ≡ covered_end c.note.now
unfolding compared
compared_end at bytes c = refl

-- so candidates that were compared rise as before
pub rises_compared : (at : ℕ) (bytes : List ℕ) (cs : List Candidate) → IsNonDecreasingBy offset_of cs
    → IsNonDecreasingBy offset_of (map (compared at bytes) cs)
rises_compared at bytes cs r i j d l h =
    let f = compared at bytes in
    let size = length-map cs f in
    let a = ap offset_of (get_or-map f cs i d d (omega (arith, size))) ∙ compared_offset at bytes (get_or cs i d) in
    let b = ap offset_of (get_or-map f cs j d d (omega (arith, size))) ∙ compared_offset at bytes (get_or cs j d) in
    omega (arith, a, b, r i j d l (omega (arith, size)))

-- and the first so many have ended by any offset behind
pub settled_compared : (settled before at : ℕ) (bytes : List ℕ) (cs : List Candidate) → AreSettled settled before cs
    → before ≤ at → AreSettled settled at (map (compared before bytes) cs)
settled_compared settled before at bytes cs s h =
    let f = compared before bytes in
    let size = length-map cs f in
    let within : settled ≤ length cs = s.within in record {
      within = omega (arith, size);
      ended = λ k d l m.
          let e = ap (λ (c : Candidate). covered_end c.note.now) (get_or-map f cs k d d (omega arith))
          ∙ compared_end before bytes (get_or cs k d) in
          omega (arith, e, s.ended k d l m);
    }

-- a candidate in the place of one of which the function says the same
pub kept_at : {X : Type 0} (f : Candidate → X) (cs : List Candidate) (i : ℕ) (x d e : Candidate) (k : ℕ) → i < length cs
    → f x ≡ f (get_or cs i d) → f (get_or (set cs i x) k e) ≡ f (get_or cs k e)
kept_at f [] i x d e k h s = absurd (omega arith)
kept_at f (c ∷ cs) zero x d e zero h s = s
kept_at f (c ∷ cs) zero x d e (suc k) h s = refl
kept_at f (c ∷ cs) (suc i) x d e zero h s = refl
kept_at f (c ∷ cs) (suc i) x d e (suc k) h s = kept_at f cs i x d e k (omega arith) s

-- candidates rise as before, and as many have ended, where one says something else of the same note
pub rises_said : (cs : List Candidate) (i : ℕ) (is_same : Bool) (d : Candidate) → i < length cs
    → IsNonDecreasingBy offset_of cs → IsNonDecreasingBy offset_of (set cs i (also is_same (get_or cs i d)))
unfolding also
rises_said cs i is_same d h r j k e l m =
    let x = also is_same (get_or cs i d) in
    let size = length-set cs i x in
    let a = kept_at offset_of cs i x d e j h refl in
    let b = kept_at offset_of cs i x d e k h refl in
    omega (arith, a, b, r j k e l (omega (arith, size)))

pub settled_said : (settled at : ℕ) (cs : List Candidate) (i : ℕ) (is_same : Bool) (d : Candidate) → i < length cs
    → AreSettled settled at cs → AreSettled settled at (set cs i (also is_same (get_or cs i d)))
unfolding also
settled_said settled at cs i is_same d h s =
    let x = also is_same (get_or cs i d) in
    let size = length-set cs i x in
    let within : settled ≤ length cs = s.within in record {
      within = omega (arith, size);
      ended = λ k e l m.
          let a = kept_at (λ (c : Candidate). covered_end c.note.now) cs i x d e k h refl in
          omega (arith, a, s.ended k e l m);
    }

-- comparing, and saying something else, leaves the notes
pub notes_compared : (at : ℕ) (bytes : List ℕ) (cs : List Candidate)
    → notes_of (map (compared at bytes) cs) ≡ notes_of cs
unfolding compared
notes_compared at bytes [] = refl
notes_compared at bytes (c ∷ cs) = ap (λ l. c.note ∷ l) (notes_compared at bytes cs)

pub notes_said : (cs : List Candidate) (i : ℕ) (is_same : Bool) (d : Candidate)
    → notes_of (set cs i (also is_same (get_or cs i d))) ≡ notes_of cs
unfolding also
notes_said [] i is_same d = refl
notes_said (c ∷ cs) zero is_same d = refl
notes_said (c ∷ cs) (suc i) is_same d = ap (λ l. c.note ∷ l) (notes_said cs i is_same d)
