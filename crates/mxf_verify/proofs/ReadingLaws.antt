-- Reads of a source, one after another.
use Rattle.mxf_views.proofs.Common.{◌≡◌, ℕ, zero, suc, List, [], ◌∷◌, ◌++◌, Option, None, Some, true, false, IsTrue}
use Rattle.mxf_views.proofs.Common.{inl, inr, length-append, get_or-take, take}
use Rattle.mxf_views.proofs.Common.{◌+◌, ◌-◌, ◌<◌, ◌≤◌, get_or, length, filter, map, refl, ap, arith, ◌∙◌, subst}
use Rattle.mxf_views.proofs.Common.{sym, append_assoc, NoteParts, covered_end, AllWithin, cases_lt, true≢false}
use Rattle.mxf_views.proofs.Common.{get_or_default, get_or-map, length-map, drop_all}
use Rattle.sha2.specs.Hashers.{Holds256}
use Rattle.sha2.specs.Sha256.{sha256}
use Rattle.sha2.specs.declared.Sha256.{Sha256}
use denote.Bor.{Bor}
use Rattle.mxf_verify.specs.Agreeing.{value_part}
use Rattle.mxf_verify.specs.Hashing.{Digests}
use Rattle.mxf_verify.specs.Verifying.{is_digested}
use Rattle.mxf_verify.specs.Taking.{HasTaken, value_in}
use Rattle.mxf_verify.proofs.TakingLaws.{as_many, notes_taken, same_note, told_over, value_more, value_none}
use Rattle.mxf_verify.proofs.CandidateLaws.{covered_by_size}
use Rattle.mxf_verify.specs.Candidates.{IsAtDigested, notes_of}
use Rattle.mxf_verify.specs.declared.candidate.Candidate.{Candidate}
use Rattle.mxf_verify.specs.declared.comparison.Comparison.{Comparison}
use Rattle.mxf_verify.specs.SourceReads.{AreApart, AreValuesOf, HasCompared, HasDigested, HasRead, IsNext, Reads}
use Rattle.mxf_verify.specs.SourceReads.{Says, StandApart, Tells, digested_from}
use Rattle.mxf_verify.specs.declared.reading.Reading.{Reading}

pub Reads-trans : (a b c : Reading) (first second : List ℕ) → Reads a b first → Reads b c second
    → Reads a c (first ++ second)
Reads-trans a b c first second f s offset bytes notes h =
    subst (λ (l : List ℕ). HasRead offset l l notes c) (append_assoc bytes first second)
    (s offset (bytes ++ first) notes (f offset bytes notes h))

-- ---- candidates and their notes

-- some element of a list that has one
pub some_of : {X : Type 0} (xs : List X) → 0 < length xs → X
some_of [] h = absurd (omega arith)
some_of (x ∷ xs) h = x

-- candidates with the same notes have the same note at a place
pub note_of_same : (cs ds : List Candidate) (i : ℕ) (d : Candidate) → notes_of cs ≡ notes_of ds → i < length cs
    → (get_or cs i d).note ≡ (get_or ds i d).note
note_of_same cs ds i d e h =
    let count = length-map cs (λ (c : Candidate). c.note) in
    let again = length-map ds (λ (c : Candidate). c.note) in
    let same = ap length e in
    sym (get_or-map (λ (c : Candidate). c.note) cs i d d.note h) ∙ ap (λ l. get_or l i d.note) e
    ∙ get_or-map (λ (c : Candidate). c.note) ds i d d.note (omega arith)

pub as_many_notes : (cs ds : List Candidate) → notes_of cs ≡ notes_of ds → length cs ≡ length ds
as_many_notes cs ds e = grind (arith, length-map)

-- the note of a candidate at a place is the note there
pub candidate_note : (cs : List Candidate) (k : ℕ) (c : Candidate) → k < length cs → c ≡ get_or cs k c
    → get_or (notes_of cs) k c.note ≡ c.note
candidate_note cs k c few is =
    get_or-map (λ (x : Candidate). x.note) cs k c c.note few ∙ sym (ap (λ (x : Candidate). x.note) is)

-- so the same place is that of one that knows a digest
pub at_digested : (cs ds : List Candidate) (place : ℕ) → notes_of ds ≡ notes_of cs → IsAtDigested place cs
    → IsAtDigested place ds
at_digested cs ds place e h d few =
    let count = as_many_notes ds cs e in
    subst (λ (r : Bor NoteParts). IsTrue (is_digested r.now)) (sym (note_of_same ds cs place d e few)) (h d (omega arith))

-- what is so of the note of each candidate of a range is so of each of the notes
pub notes_between : (P : Bor NoteParts → Type 0) (cs : List Candidate) (from to : ℕ) → to ≤ length cs
    → AllWithin (λ c. P c.note) cs from to → AllWithin P (notes_of cs) from to
notes_between P cs from to few a k e l m =
    let d = some_of cs (omega arith) in
    subst P (sym (get_or-map (λ (c : Candidate). c.note) cs k d e (omega arith))) (a k d l m)

-- the notes of candidates stand apart as these do
pub stand_apart : (cs : List Candidate) → AreApart cs → StandApart (notes_of cs)
stand_apart cs apart i j e l m digested =
    let count = length-map cs (λ (c : Candidate). c.note) in
    let few : j < length cs = omega (arith, m, count) in
    let d = some_of cs (omega arith) in
    let a = get_or-map (λ (c : Candidate). c.note) cs i d e (omega arith) in
    let b = get_or-map (λ (c : Candidate). c.note) cs j d e few in
    let own = subst (λ (r : Bor NoteParts). IsTrue (is_digested r.now)) a digested in
    let first = ap (λ (r : Bor NoteParts). covered_end r.now) a in
    let second = ap (λ (r : Bor NoteParts). r.now.offset) b in
    omega (arith, apart i j d l few own, first, second)

-- the next candidate's note is the next of the notes
pub next_within : (offset : ℕ) (bytes : List ℕ) (notes : List (Bor NoteParts)) (r : Reading) (n : Bor NoteParts)
    → HasTaken offset bytes r.next notes r.comparison → IsNext r n → r.next < length notes
next_within offset bytes notes r n h next =
    let count = as_many offset bytes r.next notes r.comparison h in
    omega (arith, count, next.within)

pub next_named : (offset : ℕ) (bytes : List ℕ) (notes : List (Bor NoteParts)) (r : Reading) (n e : Bor NoteParts)
    → HasTaken offset bytes r.next notes r.comparison → IsNext r n → get_or notes r.next e ≡ n
next_named offset bytes notes r n e h next =
    let items = r.comparison.candidates.items in
    let d = some_of items (omega (arith, next.within)) in
    sym (same_note offset bytes r.next notes r.comparison h d e (next_within offset bytes notes r n h next))
    ∙ next.named d

-- it knows a digest
pub next_digested : (r : Reading) (n : Bor NoteParts) → IsNext r n → IsTrue (is_digested n.now)
next_digested r n next =
    let d = some_of r.comparison.candidates.items (omega (arith, next.within)) in
    subst (λ (x : Bor NoteParts). IsTrue (is_digested x.now)) (next.named d) (r.digested d next.within)

-- ---- notes that know no digest

-- a note that knows no digest has nothing more to be told
pub passed_over : (offset : ℕ) (bytes : List ℕ) (k : ℕ) (notes : List (Bor NoteParts)) (c : Comparison)
    (e : Bor NoteParts)
    → k < length notes → is_digested (get_or notes k e).now ≡ false → HasTaken offset bytes k notes c
    → HasTaken offset bytes (k + 1) notes c
passed_over offset bytes k notes c e few none h = grind (arith, told_over, cases_lt, get_or_default, true≢false)

-- nor have several
pub passed_all : (offset : ℕ) (bytes : List ℕ) (k count : ℕ) (notes : List (Bor NoteParts)) (c : Comparison)
    → k + count ≤ length notes → AllWithin (λ r. is_digested r.now ≡ false) notes k (k + count)
    → HasTaken offset bytes k notes c → HasTaken offset bytes (k + count) notes c
passed_all offset bytes k zero notes c few none h =
    let same : k ≡ k + 0 = omega arith in subst (λ (j : ℕ). HasTaken offset bytes j notes c) same h
passed_all offset bytes k (suc count) [] c few none h = absurd (omega arith)
passed_all offset bytes k (suc count) (r ∷ notes) c few none h =
    let same : k + count + 1 ≡ k + suc count = omega arith in
    subst (λ (j : ℕ). HasTaken offset bytes j (r ∷ notes) c) same
    (passed_over offset bytes (k + count) (r ∷ notes) c r (omega arith) (none (k + count) r (omega arith) (omega arith))
    (passed_all offset bytes k count (r ∷ notes) c (omega arith) (λ j d l m. none j d l (omega arith)) h))

pub passed_to : (offset : ℕ) (bytes : List ℕ) (from to : ℕ) (notes : List (Bor NoteParts)) (c : Comparison) → from ≤ to
    → to ≤ length notes → AllWithin (λ r. is_digested r.now ≡ false) notes from to
    → HasTaken offset bytes from notes c → HasTaken offset bytes to notes c
passed_to offset bytes from to notes c l few none h =
    let same : from + (to - from) ≡ to = omega arith in
    subst (λ (j : ℕ). HasTaken offset bytes j notes c) same
    (passed_all offset bytes from (to - from) notes c (omega arith) (λ j d m q. none j d m (omega arith)) h)

-- those that know one are the same from behind them on
pub from_passed : (notes : List (Bor NoteParts)) (from to : ℕ) → from ≤ to
    → AllWithin (λ r. is_digested r.now ≡ false) notes from to → digested_from to notes ≡ digested_from from notes
from_passed [] from to l none =
    ap (filter (λ (x : Bor NoteParts). is_digested x.now)) (drop_all to [] (omega arith) ∙ sym (drop_all from [] (omega arith)))
from_passed (r ∷ notes) zero zero l none = refl
from_passed (r ∷ notes) (suc from) zero l none = absurd (omega arith)
from_passed (r ∷ notes) zero (suc to) l none =
    let own : is_digested r.now ≡ false = none 0 r (omega arith) (omega arith) in
    from_passed notes zero to (omega arith) (λ j d l m. none (suc j) d (omega arith) (omega arith)) ∙ sym (rw own refl)
from_passed (r ∷ notes) (suc from) (suc to) l none =
    from_passed notes from to (omega arith) (λ j d l m. none (suc j) d (omega arith) (omega arith))

pub passed_one : (notes : List (Bor NoteParts)) (k : ℕ) (e : Bor NoteParts) → k < length notes
    → is_digested (get_or notes k e).now ≡ false → digested_from (k + 1) notes ≡ digested_from k notes
passed_one notes k e few none = from_passed notes k (k + 1) (omega arith) (λ j d l m.
    let same : k ≡ j = omega arith in
    subst (λ (i : ℕ). is_digested (get_or notes i d).now ≡ false) same
    (subst (λ (x : Bor NoteParts). is_digested x.now ≡ false) (get_or_default notes k e d few) none))

-- one that knows a digest is the first of them
pub from_digested : (notes : List (Bor NoteParts)) (k : ℕ) (e : Bor NoteParts) → k < length notes
    → is_digested (get_or notes k e).now ≡ true → digested_from k notes ≡ get_or notes k e ∷ digested_from (k + 1) notes
from_digested [] k e few digested = absurd (omega arith)
from_digested (r ∷ notes) zero e few digested = rw digested refl
from_digested (r ∷ notes) (suc k) e few digested =
    let same : suc k + 1 ≡ suc (k + 1) = omega arith in
    from_digested notes k e (omega arith) digested
    ∙ ap (λ (j : ℕ). get_or notes k e ∷ digested_from j (r ∷ notes)) (sym same)

-- ---- a digest is compared

-- and nothing came yet of later values
pub went_on : (offset : ℕ) (front bytes : List ℕ) (notes : List (Bor NoteParts)) (next : ℕ) (c : Comparison)
    (new : Reading) (e : Bor NoteParts)
    → HasCompared offset front bytes notes next c → next < length notes → IsTrue (is_digested (get_or notes next e).now)
    → next < new.next → HasTaken offset bytes new.next notes new.comparison → new.hasher ≡ None
    → HasRead offset front bytes notes new
went_on offset front bytes notes next c new e h few digested later taken none = record {
  compared = record { apart = h.apart; taken = taken; left = λ j x l m. h.left j x (omega arith) m };
  digest = subst (HasDigested offset front new.next notes) (sym none) (λ j x l m q.
      let own = subst (λ (r : Bor NoteParts). IsTrue (is_digested r.now)) (get_or_default notes next e x few) digested in
      let behind = h.left next x (omega arith) few own in
      let apart = h.apart next j x (omega arith) m own in
      value_none (get_or notes j x).now offset front (omega (arith, behind, apart)));
}

-- what came of the next value
pub came : (offset : ℕ) (front bytes : List ℕ) (notes : List (Bor NoteParts)) (r : Reading) (e : Bor NoteParts)
    → HasRead offset front bytes notes r → r.next < length notes → IsTrue (is_digested (get_or notes r.next e).now)
    → Digests r.hasher (value_in (get_or notes r.next e).now offset front)
came offset front bytes notes r e h few digested = elim r.hasher as (λ o. HasDigested offset front r.next notes o
    → Digests o (value_in (get_or notes r.next e).now offset front)) [
      | None ↦ λ d. d r.next e (omega arith) few digested
      | Some hasher ↦ λ d. d.1 e
    ] h.digest

-- and with further bytes
pub came_more : (offset at : ℕ) (front more bytes : List ℕ) (notes : List (Bor NoteParts)) (r : Reading)
    (e : Bor NoteParts)
    → HasRead offset front bytes notes r → r.next < length notes → offset + length front ≡ at
    → value_in (get_or notes r.next e).now offset (front ++ more)
    ≡ value_in (get_or notes r.next e).now offset front ++ value_part (get_or notes r.next e).now at more
came_more offset at front more bytes notes r e h few is =
    let n = (get_or notes r.next e).now in
    value_more n offset front more (h.compared.taken.behind r.next e (omega arith) few)
    ∙ ap (λ (k : ℕ). value_in n offset front ++ value_part n k more) is

-- ---- all notes that end with the bytes are compared

-- the next one ends behind them
pub begun : (offset : ℕ) (front bytes : List ℕ) (notes : List (Bor NoteParts)) (old new : Reading) (hasher : Sha256)
    (e : Bor NoteParts)
    → HasRead offset front bytes notes old → old.next < length notes → IsTrue (is_digested (get_or notes old.next e).now)
    → offset + length bytes < covered_end (get_or notes old.next e).now → new.next ≡ old.next
    → new.comparison ≡ old.comparison → new.hasher ≡ Some hasher
    → Holds256 hasher (value_in (get_or notes old.next e).now offset bytes) → HasRead offset bytes bytes notes new
begun offset front bytes notes old new hasher e h few digested behind next same is holds =
    let taken = subst (λ (c : Comparison). HasTaken offset bytes old.next notes c) (sym same) h.compared.taken in
    let all : AllWithin (λ x. IsTrue (is_digested x.now) → offset + length bytes < covered_end x.now) notes old.next
    (length notes) =
    λ j x l m q.
    let there = get_or_default notes old.next e x few in
    let own = subst (λ (r : Bor NoteParts). IsTrue (is_digested r.now)) there digested in
    let end = ap (λ (r : Bor NoteParts). covered_end r.now) there in
    let size = covered_by_size (get_or notes j x).now in
    elim (cases_lt old.next j) [
      | inl low ↦ omega (arith, behind, end, size, h.compared.apart old.next j x low m own)
      | inr high ↦ (
          let is : j ≡ old.next = omega arith in
          subst (λ (i : ℕ). offset + length bytes < covered_end (get_or notes i x).now) (sym is)
          (omega (arith, behind, end)))
    ] in
    let read : HasRead offset bytes bytes notes new = record {
      compared = record {
        apart = h.compared.apart;
        taken = subst (λ (k : ℕ). HasTaken offset bytes k notes new.comparison) (sym next) taken;
        left = λ j x l m. all j x (omega (arith, next, l)) m;
      };
      digest = subst (HasDigested offset bytes new.next notes) (sym is) (
        omega (arith, next, few),
        λ x. subst (λ (k : ℕ). Holds256 hasher (value_in (get_or notes k x).now offset bytes)) (sym next)
            (subst (λ (r : Bor NoteParts). Holds256 hasher (value_in r.now offset bytes))
            (get_or_default notes old.next e x few) holds),
      );
    } in read

-- ---- the values of several notes

-- if there is a value, there is a note
pub values_within : (at : ℕ) (bytes : List ℕ) (notes : List (Bor NoteParts)) (k : ℕ) (v : List ℕ)
    (values : List (List ℕ)) → AreValuesOf at bytes (digested_from k notes) (v ∷ values) → k < length notes
values_within at bytes notes k v values are = elim (cases_lt k (length notes)) as (λ _. k < length notes) [
  | inl low ↦ low
  | inr high ↦ absurd (subst (λ (l : List (Bor NoteParts)). AreValuesOf at bytes l (v ∷ values))
      (ap (filter (λ (x : Bor NoteParts). is_digested x.now)) (drop_all k notes high)) are)
]

-- it is the first of them, and it ends with the bytes
pub first_value : (at : ℕ) (bytes : List ℕ) (notes : List (Bor NoteParts)) (k : ℕ) (e : Bor NoteParts) (v : List ℕ)
    (values : List (List ℕ)) → AreValuesOf at bytes (digested_from k notes) (v ∷ values) → k < length notes
    → is_digested (get_or notes k e).now ≡ true
    → (covered_end (get_or notes k e).now ≤ at + length bytes) × (v ≡ value_part (get_or notes k e).now at bytes)
    × AreValuesOf at bytes (digested_from (k + 1) notes) values
first_value at bytes notes k e v values are few digested =
    subst (λ (l : List (Bor NoteParts)). AreValuesOf at bytes l (v ∷ values)) (from_digested notes k e few digested) are

-- a digest of what the bytes have of the next value, of which nothing came before, tells more
pub one_told : (at : ℕ) (more : List ℕ) (start now new : Reading) (digest v : List ℕ) (e : Bor NoteParts)
    → Tells at more start now → now.hasher ≡ None → Says now new digest
    → now.next < length (notes_of now.comparison.candidates.items)
    → IsTrue (is_digested (get_or (notes_of now.comparison.candidates.items) now.next e).now)
    → covered_end (get_or (notes_of now.comparison.candidates.items) now.next e).now ≤ at + length more
    → v ≡ value_part (get_or (notes_of now.comparison.candidates.items) now.next e).now at more → digest ≡ sha256 v
    → Tells at more start new
one_told at more start now new digest v e told none says few digested ends is_value is_digest offset front notes is h =
    let read = told offset front notes is h in
    let same = notes_taken offset (front ++ more) now.next notes now.comparison read.compared.taken in
    let here = ap (λ (l : List (Bor NoteParts)). get_or l now.next e) same in
    let within : now.next < length notes = omega (arith, few, ap length same) in
    let own = subst (λ (x : Bor NoteParts). IsTrue (is_digested x.now)) here digested in
    let empty : value_in (get_or notes now.next e).now offset front ≡ [] =
    subst (λ (o : Option Sha256). Digests o (value_in (get_or notes now.next e).now offset front)) none
    (came offset front (front ++ more) notes now e read within own) in
    let all = came_more offset at front more (front ++ more) notes now e read within is in
    let end = ap (λ (x : Bor NoteParts). covered_end x.now) here in
    let both = length-append front more in
    says offset front (front ++ more) notes e read.compared (omega (arith, ends, is, both, end))
    (is_digest ∙ ap sha256 (is_value ∙ ap (λ (x : Bor NoteParts). value_part x.now at more) here
    ∙ sym (all ∙ ap (λ (l : List ℕ). l ++ value_part (get_or notes now.next e).now at more) empty)))

-- the digests of values that were digested at once
pub digest_at : (values : List (Bor (List ℕ))) (found : List (List ℕ)) (i : ℕ) (d : List ℕ) → i < length values
    → take (length values) found ≡ map (λ (v : Bor (List ℕ)). sha256 v.now) values
    → get_or found i d ≡ sha256 (get_or (map (λ (v : Bor (List ℕ)). v.now) values) i d)
digest_at values found i d few e =
    let x = some_of values (omega arith) in
    sym (get_or-take (length values) found i d few) ∙ ap (λ (l : List (List ℕ)). get_or l i d) e
    ∙ get_or-map (λ (v : Bor (List ℕ)). sha256 v.now) values i x d few
    ∙ ap sha256 (sym (get_or-map (λ (v : Bor (List ℕ)). v.now) values i x d few))

-- one more value
pub one_more : (values : List (Bor (List ℕ))) (v : Bor (List ℕ)) (more : List (List ℕ))
    → map (λ (x : Bor (List ℕ)). x.now) values ++ (v.now ∷ more)
    ≡ map (λ (x : Bor (List ℕ)). x.now) (values ++ (v ∷ [])) ++ more
one_more [] v more = refl
one_more (x ∷ values) v more = ap (λ (l : List (List ℕ)). x.now ∷ l) (one_more values v more)
