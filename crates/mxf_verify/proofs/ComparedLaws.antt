-- What was compared with the bytes of a source.
use Rattle.mxf_views.proofs.Common.{◌≡◌, ◌↔◌, ◌⊎◌, ◌+◌, ◌-◌, ◌<◌, ◌≤◌, not, ℕ, zero, suc, true, false}
use Rattle.mxf_views.proofs.Common.{IsTrue, List, [], ◌∷◌, ◌++◌, Option, None, Some, IfSome, length, take, drop, get_or}
use Rattle.mxf_views.proofs.Common.{map, refl, sym, ap, ◌∙◌, subst, arith, inl, inr, append-nil, or_right, drop_all}
use Rattle.mxf_views.proofs.Common.{drop-map, get_or-drop, get_or-take, length-drop, length-map, length-take, take-map}
use Rattle.mxf_views.proofs.Common.{take_all, take-append_seam, AllWithin, IsNonDecreasingBy, Consumes, IsAtEnd}
use Rattle.mxf_views.proofs.Common.{NoteParts, IsNote, covered_end}
use denote.Bor.{Bor}
use Rattle.mxf_verify.specs.Agreeing.{agrees_with}
use Rattle.mxf_verify.specs.Candidates.{notes_of, offset_of}
use Rattle.mxf_verify.specs.Compared.{AreSame, ComparesBytes}
use Rattle.mxf_verify.specs.Taking.{HasTaken, agreeing, has_digest, told}
use Rattle.mxf_verify.specs.SourceReads.{AreApart, HasDigested, HasRead, ReadsSource}
use Rattle.mxf_verify.specs.Verifying.{IsAmong, IsSaidBy, held_in, is_digested}
use Rattle.mxf_verify.specs.declared.candidate.Candidate.{Candidate}
use Rattle.mxf_verify.specs.declared.compared.Compared.{Compared}
use Rattle.mxf_verify.specs.declared.comparison.Comparison.{Comparison}
use Rattle.mxf_verify.specs.declared.reading.Reading.{Reading}
use Rattle.mxf_verify.proofs.ByteLaws.{agrees_none}
use Rattle.mxf_verify.proofs.CandidateLaws.{and_true, covered_by_size, front_within}
use Rattle.mxf_verify.proofs.ReadingLaws.{notes_between, passed_to, stand_apart}
use Rattle.mxf_verify.proofs.SaidLaws.{said_told}
use Rattle.mxf_verify.proofs.TakingLaws.{all_held, notes_taken, value_none}

-- no byte says anything else
agrees_with_none : (n : NoteParts) → agrees_with n [] ≡ true
unfolding agrees_with
agrees_with_none n = grind (arith, agrees_none, drop_all, or_right)

agreeing_none : (offset : ℕ) (c : Candidate) → c.is_same ≡ true → c ≡ agreeing offset [] c.note
unfolding agreeing held_in
agreeing_none offset c same = grind (arith, drop_all, take_all, agrees_with_none)

-- candidates with which nothing was compared agree with no byte
pub fresh_agree : (offset : ℕ) (cs : List Candidate) → AllWithin (λ c. c.is_same ≡ true) cs 0 (length cs)
    → cs ≡ map (agreeing offset []) (notes_of cs)
fresh_agree offset [] fresh = refl
fresh_agree offset (c ∷ cs) fresh = λ i. agreeing_none offset c (fresh 0 c (omega arith) (omega arith)) i
    ∷ fresh_agree offset cs (λ k d l h. fresh (suc k) d (omega arith) (omega arith)) i

told_same : (offset : ℕ) (bytes : List ℕ) (r : Bor NoteParts) → IsNote r.now → IsAmong r.now offset bytes
    → IsTrue (told offset bytes r).is_same ↔ IsSaidBy r.now (held_in r.now offset bytes)
unfolding told
told_same offset bytes r is among = said_told r.now (held_in r.now offset bytes) is (all_held r.now offset bytes among)

-- where no digest is known, nothing is left to tell
agreeing_same : (offset : ℕ) (bytes : List ℕ) (r : Bor NoteParts) → IsNote r.now
    → (IsTrue (is_digested r.now) → offset + length bytes < covered_end r.now) → IsAmong r.now offset bytes
    → IsTrue (agreeing offset bytes r).is_same ↔ IsSaidBy r.now (held_in r.now offset bytes)
unfolding agreeing
agreeing_same offset bytes r is left among =
    let n = r.now in
    let held = held_in n offset bytes in
    let s = said_told n held is (all_held n offset bytes among) in
    elim (is_digested n) as (λ b. is_digested n ≡ b → IsTrue (agrees_with n held) ↔ IsSaidBy n held) [
      | true ↦ λ e. absurd (omega (arith, left e, among.to))
      | false ↦ grind (arith, agrees_with, n, held, not, is_digested, has_digest, and_true, s)
    ] refl

-- of what was read to its end each candidate says whether its bytes are what its note says
pub told_are_same : (offset : ℕ) (bytes : List ℕ) (digested : ℕ) (notes : List (Bor NoteParts))
    → AllWithin (λ r. IsNote r.now) notes 0 (length notes)
    → AllWithin (λ r. IsTrue (is_digested r.now) → offset + length bytes < covered_end r.now) notes digested
    (length notes) → AreSame offset bytes (map (told offset bytes) (take digested notes)
    ++ map (agreeing offset bytes) (drop digested notes))
unfolding told agreeing
told_are_same offset bytes zero [] are left k d l h among = absurd (omega arith)
told_are_same offset bytes (suc digested) [] are left k d l h among = absurd (omega arith)
told_are_same offset bytes zero (r ∷ notes) are left zero d l h among =
    agreeing_same offset bytes r (are 0 r (omega arith) (omega arith)) (left 0 r (omega arith) (omega arith)) among
told_are_same offset bytes zero (r ∷ notes) are left (suc k) d l h among =
    told_are_same offset bytes zero notes (λ j x m q. are (suc j) x (omega arith) (omega arith))
    (λ j x m q. left (suc j) x (omega arith) (omega arith)) k d (omega arith) (omega arith) among
told_are_same offset bytes (suc digested) (r ∷ notes) are left zero d l h among =
    told_same offset bytes r (are 0 r (omega arith) (omega arith)) among
told_are_same offset bytes (suc digested) (r ∷ notes) are left (suc k) d l h among =
    told_are_same offset bytes digested notes (λ j x m q. are (suc j) x (omega arith) (omega arith))
    (λ j x m q. left (suc j) x (omega arith) (omega arith)) k d (omega arith) (omega arith) among

read_are_same : (offset : ℕ) (bytes : List ℕ) (notes : List (Bor NoteParts)) (r : Reading)
    → AllWithin (λ x. IsNote x.now) notes 0 (length notes) → HasRead offset bytes bytes notes r
    → AreSame offset bytes r.comparison.candidates.items
read_are_same offset bytes notes r are h =
    subst (AreSame offset bytes) (sym h.compared.taken.candidates)
    (told_are_same offset bytes r.next notes are h.compared.left)

-- what is so of the note of each candidate is so of each of the notes
pub notes_within : (P : Bor NoteParts → Type 0) (cs : List Candidate) → AllWithin (λ c. P c.note) cs 0 (length cs)
    → AllWithin P (notes_of cs) 0 (length (notes_of cs))
notes_within P [] a k d l h = absurd (omega arith)
notes_within P (c ∷ cs) a zero d l h = a 0 c (omega arith) (omega arith)
notes_within P (c ∷ cs) a (suc k) d l h =
    notes_within P cs (λ j x m q. a (suc j) x (omega arith) (omega arith)) k d (omega arith) (omega arith)

-- nothing came yet
pub none_taken : (offset : ℕ) (c : Comparison)
    → AllWithin (λ x. x.is_same ≡ true) c.candidates.items 0 (length c.candidates.items)
    → AllWithin (λ x. offset ≤ offset_of x) c.candidates.items 0 (length c.candidates.items) → c.at ≡ offset
    → HasTaken offset [] 0 (notes_of c.candidates.items) c
none_taken offset c fresh behind at = record {
  candidates = fresh_agree offset c.candidates.items fresh;
  at = omega (arith, at);
  behind = notes_within (λ r. offset ≤ r.now.offset) c.candidates.items behind;
  ended = λ k d l h q. absurd (omega arith);
}

-- so far no digest was compared, and the first note that knows one is next
none_read : (offset : ℕ) (r : Reading)
    → AllWithin (λ x. x.is_same ≡ true) r.comparison.candidates.items 0 (length r.comparison.candidates.items)
    → AllWithin (λ x. offset ≤ offset_of x) r.comparison.candidates.items 0 (length r.comparison.candidates.items)
    → r.comparison.at ≡ offset → AreApart r.comparison.candidates.items
    → r.next ≤ length r.comparison.candidates.items
    → AllWithin (λ x. is_digested x.note.now ≡ false) r.comparison.candidates.items 0 r.next → r.hasher ≡ None
    → HasRead offset [] [] (notes_of r.comparison.candidates.items) r
none_read offset r fresh behind at apart within undigested none =
    let cs = r.comparison.candidates.items in
    let notes = notes_of cs in
    let count = length-map cs (λ (x : Candidate). x.note) in
    let begun = notes_within (λ x. offset ≤ x.now.offset) cs behind in record {
      compared = record {
        apart = stand_apart cs apart;
        taken = passed_to offset [] 0 r.next notes r.comparison (omega arith) (omega (arith, count, within))
            (notes_between (λ x. is_digested x.now ≡ false) cs 0 r.next within undigested)
            (none_taken offset r.comparison fresh behind at);
        left = λ j x l m q. omega (
          arith,
          begun j x (omega arith) m,
          covered_by_size (get_or notes j x).now,
          front_within (get_or notes j x).now,
        );
      };
      digest = subst (HasDigested offset [] r.next notes) (sym none) (λ j x l m q.
          value_none (get_or notes j x).now offset [] (omega (arith, begun j x (omega arith) m)));
    }

-- what came is the front of the source
pub front_came : (before after : Option (List ℕ)) (more : List ℕ) (limit : ℕ) → Consumes before after more
    → length more ≤ limit → (length more ≡ limit) ⊎ IsAtEnd after → IfSome before (λ bytes. more ≡ take limit bytes)
front_came None after more limit c within ended = tt
front_came (Some bytes) None more limit c within ended = absurd c
front_came (Some bytes) (Some rest) more limit c within (inl full) =
    sym (ap (take limit) c ∙ ap (λ k. take k (more ++ rest)) (sym full) ∙ take-append_seam more rest)
front_came (Some bytes) (Some rest) more limit c within (inr none) =
    let all : bytes ≡ more = c ∙ ap (λ l. more ++ l) none ∙ append-nil more in
    sym (ap (take limit) all ∙ take_all limit more within)

-- what stands in a slice stands so much further on in the list
part_place : {X : Type 0} (xs : List X) (first count k : ℕ) (d : X) → k < length (take count (drop first xs))
    → get_or (take count (drop first xs)) k d ≡ get_or xs (first + k) d
part_place xs first count k d h =
    let size = length-take count (drop first xs) in
    get_or-take count (drop first xs) k d (omega (arith, h, size)) ∙ get_or-drop first xs k d

part_within : {X : Type 0} (xs : List X) (first count k : ℕ) → k < length (take count (drop first xs))
    → first + k < length xs
part_within xs first count k h = omega (arith, length-take count (drop first xs), length-drop first xs)

-- what is so of all elements from a place on is so of those of a slice from there
pub slice_within : {X : Type 0} (P : X → Type 0) (xs : List X) (first count : ℕ) → AllWithin P xs first (length xs)
    → AllWithin P (take count (drop first xs)) 0 (length (take count (drop first xs)))
slice_within P xs first count a k d l h =
    subst P (sym (part_place xs first count k d h)) (a (first + k) d (omega arith) (part_within xs first count k h))

-- a slice of candidates rises, and stands apart, as all do
pub part_rises : (cs : List Candidate) (first count : ℕ) → IsNonDecreasingBy offset_of cs
    → IsNonDecreasingBy offset_of (take count (drop first cs))
part_rises cs first count r i j d l h = grind (arith, part_place, part_within)

pub part_apart : (cs : List Candidate) (first count : ℕ) → AreApart cs → AreApart (take count (drop first cs))
part_apart cs first count r i j d l h q = grind (arith, part_place, part_within)

-- what was read of a source by the candidates from a place on
pub compares_bytes : (all : List Candidate) (offset limit first last : ℕ) (before after : Option (List ℕ))
    (old new : Reading) (c : Compared)
    → AllWithin (λ x. x.is_same ≡ true) all 0 (length all) → AllWithin (λ x. IsNote x.note.now) all 0 (length all)
    → AllWithin (λ x. offset_of x < offset) all 0 first → AllWithin (λ x. offset ≤ offset_of x) all first (length all)
    → AllWithin (λ x. offset + limit ≤ offset_of x) all last (length all) → first ≤ last → last ≤ length all
    → old.comparison.candidates.items ≡ take (last - first) (drop first all) → old.comparison.at ≡ offset
    → AreApart all → old.next ≤ length old.comparison.candidates.items
    → AllWithin (λ x. is_digested x.note.now ≡ false) old.comparison.candidates.items 0 old.next → old.hasher ≡ None
    → ReadsSource before after old new (offset + limit)
    → c.first ≡ first → c.candidates.items ≡ new.comparison.candidates.items → c.end ≡ new.comparison.at
    → IfSome before (λ bytes. ComparesBytes all offset (offset + limit) (take limit bytes) c)
compares_bytes all offset limit first last None after old new c fresh are lower upper behind l m items at apart inside undigested none r place same end = tt
compares_bytes all offset limit first last
    (Some bytes) after old new c fresh are lower upper behind l m items at apart inside undigested none r place same end =
    let part = take (last - first) (drop first all) in
    let is_fresh = subst (λ cs. AllWithin (λ x. x.is_same ≡ true) cs 0 (length cs)) (sym items)
    (slice_within (λ x. x.is_same ≡ true) all first (last - first) (λ k d l h. fresh k d (omega arith) h)) in
    let is_ahead = subst (λ cs. AllWithin (λ x. offset ≤ offset_of x) cs 0 (length cs)) (sym items)
    (slice_within (λ x. offset ≤ offset_of x) all first (last - first) upper) in
    let are_notes = subst (λ cs. AllWithin (λ (x : Candidate). IsNote x.note.now) cs 0 (length cs)) (sym items)
    (slice_within (λ x. IsNote x.note.now) all first (last - first) (λ k d l h. are k d (omega arith) h)) in
    let notes = notes_of old.comparison.candidates.items in
    let are_apart = subst AreApart (sym items) (part_apart all first (last - first) apart) in
    let read = r.reads offset [] notes
    (none_read offset old is_fresh is_ahead at are_apart inside undigested none) in
    let within : length r.more ≤ limit = omega (arith, r.within, r.at, at) in
    let ended : (length r.more ≡ limit) ⊎ IsAtEnd after =
    elim r.ended as (λ _. (length r.more ≡ limit) ⊎ IsAtEnd after) [
      | inl e ↦ inl (omega (arith, e, r.at, at))
      | inr e ↦ inr e
    ] in
    let came = front_came (Some bytes) after r.more limit r.consumed within ended in
    let named : notes_of c.candidates.items ≡ notes =
    ap notes_of same ∙ notes_taken offset r.more new.next notes new.comparison read.compared.taken in
    let size : length part ≡ last - first =
    omega (arith, length-take (last - first) (drop first all), length-drop first all) in
    let count : length c.candidates.items ≡ last - first =
    sym (length-map c.candidates.items (λ (x : Candidate). x.note)) ∙ ap length named
    ∙ length-map old.comparison.candidates.items (λ (x : Candidate). x.note) ∙ ap length items ∙ size in record {
      part = named ∙ ap notes_of items ∙ sym (take-map (λ (x : Candidate). x.note) (last - first) (drop first all))
          ∙ ap (take (last - first)) (sym (drop-map (λ (x : Candidate). x.note) first all))
          ∙ ap (λ k. take k (drop first (notes_of all))) (sym count)
          ∙ ap (λ k. take (length c.candidates.items) (drop k (notes_of all))) (sym place);
      before = subst (λ k. AllWithin (λ x. offset_of x < offset) all 0 k) (sym place) lower;
      from = subst (λ k. AllWithin (λ x. offset ≤ offset_of x) all k (length all)) (sym place) upper;
      behind = λ k d p q. behind k d (omega (arith, place, count, p)) q;
      same = subst (AreSame offset (take limit bytes)) (sym same)
          (subst (λ b. AreSame offset b new.comparison.candidates.items) came
          (read_are_same offset r.more notes new
          (notes_within (λ x. IsNote x.now) old.comparison.candidates.items are_notes) read));
      at = end ∙ r.at ∙ ap (λ k. k + length r.more) at ∙ ap (λ b. offset + length b) came;
    }
