-- Candidates after further bytes.
use denote.Bor.{Bor}
use Rattle.std.proofs.Common.{◌≡◌, ◌+◌, ◌-◌, ◌<◌, ◌≤◌, ◌&&◌, ℕ, zero, suc, Bool, true, false, IsTrue, List}
use Rattle.std.proofs.Common.{[], ◌∷◌, ◌++◌, length, take, drop, map, get_or, set, refl, sym, ap, ◌∙◌}
use Rattle.std.proofs.Common.{append-nil, min, arith, inl, inr}
use Rattle.std.proofs.lemmas.Bool.{cases_lt}
use Rattle.std.proofs.lemmas.List.{drop_all, get_or_default, length-append, length-drop, length-map, length-take}
use Rattle.std.proofs.lemmas.List.{take_all}
use Rattle.std.specs.List.{AllWithin}
use Rattle.std.specs.Str.{bytes_eq}
use Rattle.sha2.specs.Sha256.{sha256}
use Rattle.mxf_klv.specs.Parts.{NoteParts}
use Rattle.mxf_klv.specs.Note.{covered_end}
use Rattle.mxf_verify.specs.Verifying.{IsAmong, front_size, held_in, held_size, is_digested}
use Rattle.mxf_verify.specs.Agreeing.{agrees_on, agrees_with, part_of, value_part}
use Rattle.mxf_verify.specs.Candidates.{also, compared, notes_of}
use Rattle.mxf_verify.specs.Taking.{HasTaken, agreeing, has_digest, told, value_in}
use Rattle.mxf_verify.specs.declared.comparison.Comparison.{Comparison}
use Rattle.mxf_verify.specs.declared.candidate.Candidate.{Candidate}
use Rattle.mxf_verify.proofs.ByteLaws.{drop_of_append, take_of_append}
use Rattle.mxf_verify.proofs.AgreementLaws.{agrees_with_append}
use Rattle.mxf_verify.proofs.CandidateLaws.{agrees_on_none, and_true, compared_none, covered_by_size, front_within}
use Rattle.mxf_verify.proofs.CandidateLaws.{part_behind}

-- what a note holds of bytes and further ones
pub held_append : (n : NoteParts) (offset : ℕ) (bytes more : List ℕ) → offset ≤ n.offset
    → held_in n offset (bytes ++ more) ≡ held_in n offset bytes ++ part_of n (offset + length bytes) more
unfolding held_in part_of
held_append n offset bytes more h = grind (arith, length-drop, drop_of_append, take_of_append)

-- how much of what it holds came
pub held_length : (n : NoteParts) (offset : ℕ) (bytes : List ℕ) → offset ≤ n.offset
    → length (held_in n offset bytes) ≡ min (held_size n) (offset + length bytes - n.offset)
unfolding held_in
held_length n offset bytes h = grind (arith, length-drop, length-take)

-- of a note that lies wholly in them all came
pub all_held : (n : NoteParts) (offset : ℕ) (bytes : List ℕ) → IsAmong n offset bytes
    → length (held_in n offset bytes) ≡ held_size n
all_held n offset bytes among = omega (arith, held_length n offset bytes among.from, covered_by_size n, among.to)

-- what is said of the part by how much came before, or by where it lies
same_on : (n : NoteParts) (offset : ℕ) (bytes more : List ℕ) → offset ≤ n.offset
    → agrees_on n (length (held_in n offset bytes)) (part_of n (offset + length bytes) more)
    ≡ agrees_on n (offset + length bytes - n.offset) (part_of n (offset + length bytes) more)
same_on n offset bytes more h = grind (arith, held_length, covered_by_size, cases_lt, part_behind, agrees_on_none)

pub agreed_append : (n : NoteParts) (offset : ℕ) (bytes more : List ℕ) → offset ≤ n.offset
    → agrees_with n (held_in n offset (bytes ++ more)) ≡ (agrees_with n (held_in n offset bytes)
    && agrees_on n (offset + length bytes - n.offset) (part_of n (offset + length bytes) more))
agreed_append n offset bytes more h = grind (arith, held_append, agrees_with_append, same_on)

pub agreeing_taken : (offset : ℕ) (bytes more : List ℕ) (r : Bor NoteParts) → offset ≤ r.now.offset
    → compared (offset + length bytes) more (agreeing offset bytes r) ≡ agreeing offset (bytes ++ more) r
unfolding compared agreeing
agreeing_taken offset bytes more r h = grind (arith, agreed_append)

-- what is told of a note that has no digest is how the bytes agree
told_undigested : (offset : ℕ) (bytes : List ℕ) (r : Bor NoteParts) → is_digested r.now ≡ false
    → told offset bytes r ≡ agreeing offset bytes r
unfolding told agreeing
told_undigested offset bytes r e = grind (arith, and_true)

pub told_taken : (offset : ℕ) (bytes more : List ℕ) (r : Bor NoteParts) → offset ≤ r.now.offset
    → (IsTrue (is_digested r.now) → covered_end r.now ≤ offset + length bytes)
    → compared (offset + length bytes) more (told offset bytes r) ≡ told offset (bytes ++ more) r
unfolding told
told_taken offset bytes more r h ended =
    grind (arith, part_behind, held_append, append-nil, compared_none, told_undigested, agreeing_taken)

-- the first so many of the candidates, with what is told of them, and the others
pub candidates_taken : (offset : ℕ) (bytes more : List ℕ) (digested : ℕ) (notes : List (Bor NoteParts))
    → AllWithin (λ r. offset ≤ r.now.offset) notes 0 (length notes)
    → AllWithin (λ r. IsTrue (is_digested r.now) → covered_end r.now ≤ offset + length bytes) notes 0 digested
    → map (compared (offset + length bytes) more)
    (map (told offset bytes) (take digested notes) ++ map (agreeing offset bytes) (drop digested notes))
    ≡ map (told offset (bytes ++ more)) (take digested notes)
    ++ map (agreeing offset (bytes ++ more)) (drop digested notes)
candidates_taken offset bytes more zero [] behind ended = refl
candidates_taken offset bytes more (suc k) [] behind ended = refl
candidates_taken offset bytes more zero (r ∷ notes) behind ended = λ i.
    agreeing_taken offset bytes more r (behind 0 r (omega arith) (omega arith)) i
    ∷ candidates_taken offset bytes more zero notes (λ j d l h. behind (suc j) d (omega arith) (omega arith))
    (λ j d l h. absurd (omega arith)) i
candidates_taken offset bytes more (suc k) (r ∷ notes) behind ended = λ i.
    told_taken offset bytes more r (behind 0 r (omega arith) (omega arith)) (ended 0 r (omega arith) (omega arith)) i
    ∷ candidates_taken offset bytes more k notes (λ j d l h. behind (suc j) d (omega arith) (omega arith))
    (λ j d l h. ended (suc j) d (omega arith) (omega arith)) i

-- what is known of the candidates after further bytes
pub taken_more : (offset : ℕ) (bytes : List ℕ) (digested : ℕ) (notes : List (Bor NoteParts)) (old new : Comparison)
    (more : List ℕ) → HasTaken offset bytes digested notes old
    → new.candidates.items ≡ map (compared old.at more) old.candidates.items → new.at ≡ old.at + length more
    → HasTaken offset (bytes ++ more) digested notes new
taken_more offset bytes digested notes old new more h e at = grind (arith, length-append, candidates_taken)

-- the note of the candidate at a place is the note there
pub note_at : (offset : ℕ) (bytes : List ℕ) (k : ℕ) (notes : List (Bor NoteParts)) (d : Candidate) (e : Bor NoteParts)
    → k < length notes
    → (get_or (map (told offset bytes) (take k notes) ++ map (agreeing offset bytes) (drop k notes)) k d).note
    ≡ get_or notes k e
unfolding agreeing
note_at offset bytes k [] d e h = absurd (omega arith)
note_at offset bytes zero (r ∷ notes) d e h = refl
note_at offset bytes (suc k) (r ∷ notes) d e h = note_at offset bytes k notes d e (omega arith)

also_digest : (offset : ℕ) (bytes : List ℕ) (r : Bor NoteParts) (is_same : Bool) → is_digested r.now ≡ true
    → is_same ≡ has_digest r.now (held_in r.now offset bytes)
    → also is_same (agreeing offset bytes r) ≡ told offset bytes r
unfolding also agreeing told
also_digest offset bytes r is_same digested e = grind arith

-- one more has told its digest
pub told_next : (offset : ℕ) (bytes : List ℕ) (k : ℕ) (notes : List (Bor NoteParts)) (is_same : Bool) (d : Candidate)
    (e : Bor NoteParts) → k < length notes → is_digested (get_or notes k e).now ≡ true
    → is_same ≡ has_digest (get_or notes k e).now (held_in (get_or notes k e).now offset bytes)
    → set (map (told offset bytes) (take k notes) ++ map (agreeing offset bytes) (drop k notes)) k
    (also is_same (get_or (map (told offset bytes) (take k notes) ++ map (agreeing offset bytes) (drop k notes)) k d))
    ≡ map (told offset bytes) (take (k + 1) notes) ++ map (agreeing offset bytes) (drop (k + 1) notes)
told_next offset bytes k [] is_same d e h digested same = absurd (omega arith)
told_next offset bytes zero (r ∷ notes) is_same d e h digested same = λ i.
    also_digest offset bytes r is_same digested same i ∷ map (agreeing offset bytes) notes
told_next offset bytes (suc k) (r ∷ notes) is_same d e h digested same =
    grind (arith, told_next offset bytes k notes is_same d e (omega arith) digested same)

-- of a value there is what came before, and what further bytes have of it
pub value_more : (n : NoteParts) (offset : ℕ) (bytes more : List ℕ) → offset ≤ n.offset
    → value_in n offset (bytes ++ more) ≡ value_in n offset bytes ++ value_part n (offset + length bytes) more
unfolding value_in value_part
value_more n offset bytes more h =
    let f = front_size n in
    let held = held_in n offset bytes in
    let part = part_of n (offset + length bytes) more in
    let came = held_length n offset bytes h in
    let front = front_within n in
    let seen : f - length held ≡ f - (offset + length bytes - n.offset) = omega (arith, came, front) in
    ap (drop f) (held_append n offset bytes more h) ∙ drop_of_append f held part ∙ ap (λ k. drop f held ++ drop k part) seen

-- nothing of one that begins where the bytes end, or behind
pub value_none : (n : NoteParts) (offset : ℕ) (bytes : List ℕ) → offset + length bytes ≤ n.offset
    → value_in n offset bytes ≡ []
unfolding value_in held_in
value_none n offset bytes h =
    ap (λ l. drop (front_size n) (take (held_size n) l)) (drop_all (n.offset - offset) bytes (omega arith))
    ∙ ap (drop (front_size n)) (take_all (held_size n) [] (omega arith)) ∙ drop_all (front_size n) [] (omega arith)

-- the digest of the value is the one that the note knows, or isn't
pub digest_same : (n : NoteParts) (offset : ℕ) (bytes digest : List ℕ) → digest ≡ sha256 (value_in n offset bytes)
    → bytes_eq digest n.held ≡ has_digest n (held_in n offset bytes)
unfolding value_in has_digest
digest_same n offset bytes digest e = ap (λ v. bytes_eq v n.held) e

count_of : (offset : ℕ) (bytes : List ℕ) (k : ℕ) (notes : List (Bor NoteParts))
    → length (map (told offset bytes) (take k notes) ++ map (agreeing offset bytes) (drop k notes)) ≡ length notes
count_of offset bytes zero [] = refl
count_of offset bytes (suc k) [] = refl
count_of offset bytes zero (r ∷ notes) = ap (λ n. suc n) (length-map notes (agreeing offset bytes))
count_of offset bytes (suc k) (r ∷ notes) = ap (λ n. suc n) (count_of offset bytes k notes)

-- there are as many candidates as notes
pub as_many : (offset : ℕ) (bytes : List ℕ) (k : ℕ) (notes : List (Bor NoteParts)) (c : Comparison)
    → HasTaken offset bytes k notes c → length c.candidates.items ≡ length notes
as_many offset bytes k notes c h = ap length h.candidates ∙ count_of offset bytes k notes

-- each candidate has the note at its place
pub same_note : (offset : ℕ) (bytes : List ℕ) (k : ℕ) (notes : List (Bor NoteParts)) (c : Comparison)
    → HasTaken offset bytes k notes c → (d : Candidate) (e : Bor NoteParts) → k < length notes
    → (get_or c.candidates.items k d).note ≡ get_or notes k e
same_note offset bytes k notes c h d e few =
    ap (λ l. (get_or l k d).note) h.candidates ∙ note_at offset bytes k notes d e few

-- the digest of the note at a place was compared, all of which came
pub digest_said : (offset : ℕ) (bytes : List ℕ) (k : ℕ) (notes : List (Bor NoteParts)) (old new : Comparison)
    (is_same : Bool) (d : Candidate) (e : Bor NoteParts) → HasTaken offset bytes k notes old → k < length notes
    → IsTrue (is_digested (get_or notes k e).now) → covered_end (get_or notes k e).now ≤ offset + length bytes
    → is_same ≡ has_digest (get_or notes k e).now (held_in (get_or notes k e).now offset bytes)
    → new.candidates.items ≡ set old.candidates.items k (also is_same (get_or old.candidates.items k d))
    → new.at ≡ old.at → HasTaken offset bytes (k + 1) notes new
digest_said offset bytes k notes old new is_same d e h within digested ends same said at = record {
  candidates = said ∙ ap (λ (l : List Candidate). set l k (also is_same (get_or l k d))) h.candidates
      ∙ told_next offset bytes k notes is_same d e within digested same;
  at = at ∙ h.at;
  behind = h.behind;
  ended = λ j x l m q. elim (cases_lt j k) [
    | inl low ↦ h.ended j x l low q
    | inr high ↦ (
        let last : j ≡ k = omega (arith, high, m) in
        let there : get_or notes k e ≡ get_or notes j x =
        get_or_default notes k e x within ∙ ap (λ i. get_or notes i x) (sym last) in
        let end = ap (λ (r : Bor NoteParts). covered_end r.now) there in
        omega (arith, end, ends))
  ];
}

-- one that knows no digest has told all
pub told_over : (offset : ℕ) (bytes : List ℕ) (k : ℕ) (notes : List (Bor NoteParts)) (e : Bor NoteParts)
    → k < length notes → is_digested (get_or notes k e).now ≡ false
    → map (told offset bytes) (take k notes) ++ map (agreeing offset bytes) (drop k notes)
    ≡ map (told offset bytes) (take (k + 1) notes) ++ map (agreeing offset bytes) (drop (k + 1) notes)
told_over offset bytes k [] e h none = absurd (omega arith)
told_over offset bytes zero (r ∷ notes) e h none = λ i.
    sym (told_undigested offset bytes r none) i ∷ map (agreeing offset bytes) notes
told_over offset bytes (suc k) (r ∷ notes) e h none = grind (arith, told_over offset bytes k notes e (omega arith) none)

-- the notes are those that it began with
notes_told : (offset : ℕ) (bytes : List ℕ) (digested : ℕ) (notes : List (Bor NoteParts))
    → notes_of (map (told offset bytes) (take digested notes) ++ map (agreeing offset bytes) (drop digested notes))
    ≡ notes
unfolding told agreeing
notes_told offset bytes zero [] = refl
notes_told offset bytes (suc digested) [] = refl
notes_told offset bytes zero (r ∷ notes) = ap (λ l. r ∷ l) (notes_told offset bytes zero notes)
notes_told offset bytes (suc digested) (r ∷ notes) = ap (λ l. r ∷ l) (notes_told offset bytes digested notes)

pub notes_taken : (offset : ℕ) (bytes : List ℕ) (digested : ℕ) (notes : List (Bor NoteParts)) (c : Comparison)
    → HasTaken offset bytes digested notes c → notes_of c.candidates.items ≡ notes
notes_taken offset bytes digested notes c h = ap notes_of h.candidates ∙ notes_told offset bytes digested notes
