-- Timecodes as they are written, and as they are read.
use Rattle.std.proofs.Common.{◌≡◌, ◌+◌, ◌-◌, ◌*◌, ◌<◌, ◌≤◌, ◌&&◌, ◌==◌, ◌∙◌, ℕ, Bool, true, false, List, [], ◌∷◌, length}
use Rattle.std.proofs.Common.{refl, sym, ap, subst, arith, get_or, take, take_all, codes}
use Rattle.std.specs.Prelude.{◌||◌, ◌++◌, if◌then◌else◌, nat_le, nat_lt, not, Option, Some, None}
use Rattle.std.specs.Char.{digit_value, is_ascii_digit}
use Rattle.std.specs.Int.{IsInRange}
use Rattle.std.specs.Option.{option_and_then, option_map}
use Rattle.std.specs.Str.Parse.{AllDigits, digits_value}
use Rattle.std.proofs.lemmas.Bool.{and_parts, both_ways, eqb-true, le-ltb, leb-true, ltb-false, not-false, or_from}
use Rattle.std.proofs.lemmas.Bool.{or_parts}
use Rattle.std.proofs.lemmas.Str.{digit_value_digit}
use Rattle.std.proofs.lemmas.Str.Parse.{digit_at}
use Rattle.std.proofs.lemmas.Int.Digits.{digits_value_more}
use Rattle.mxf_timed.specs.TimecodeWords.{IsNumber, IsWritten, are_digits, are_separated, number_in, word_by, word_in}
use Rattle.mxf_timed.specs.TimecodeWords.{word_of}
use Rattle.mxf_timed.specs.declared.timecode_word.TimecodeWord.{TimecodeWord}

in_range : (c : ℕ) → is_ascii_digit c ≡ true → IsInRange 48 57 c
in_range c e =
    let p = and_parts (nat_le 48 c) (nat_le c 57) e in (leb-true 48 c p.0, leb-true c 57 p.1)

small : (c : ℕ) → is_ascii_digit c ≡ true → digit_value c < 10
small c e =
    let r = in_range c e in
    let v = digit_value_digit c r in omega (arith, r, v)

all_digits : (ds : List ℕ) → are_digits ds ≡ true → AllDigits 10 ds
all_digits [] e = tt
all_digits (d ∷ ds) e =
    let p = and_parts (is_ascii_digit d) (are_digits ds) e in (small d p.0, all_digits ds p.1)

-- One more digit.
pub one_more : (ds : List ℕ) (i : ℕ) → are_digits ds ≡ true → i < length ds
    → digits_value 10 (take i ds) * 10 + (get_or ds i 0 - 48) ≡ digits_value 10 (take (i + 1) ds)
one_more ds i e h =
    let r = digit_at ds i (all_digits ds e) h in
    let v = digit_value_digit (get_or ds i 0) r in
    let m = digits_value_more 10 ds i h in
    omega (arith, r, v, m)

pub digit_small : (ds : List ℕ) (i : ℕ) → are_digits ds ≡ true → i < length ds → get_or ds i 0 - 48 < 10
digit_small ds i e h =
    let r = digit_at ds i (all_digits ds e) h in omega (arith, r)

-- ---- what is read is what is written

number_some : (ds : List ℕ) (n : ℕ) → number_in ds ≡ Some n → IsNumber ds n
number_some ds n = elim (are_digits ds) as (λ b. are_digits ds ≡ b
    → (if b then Some (digits_value 10 ds) else None) ≡ Some n → IsNumber ds n) [
      | true ↦ λ d e. record { each = d; value = cc }
      | false ↦ λ d e. absurd cc
    ] refl

number_is : (ds : List ℕ) (n : ℕ) → IsNumber ds n → number_in ds ≡ Some n
number_is ds n h = ap (λ b. if b then Some (digits_value 10 ds) else None) h.each ∙ ap (λ n. Some n) h.value

-- The digits spell the numbers of the timecode.
record AreNumbers (drop : Bool) (hours minutes seconds frames : List ℕ) (w : TimecodeWord) : Type 0 where
  hours_are : IsNumber hours w.hours
  minutes_are : IsNumber minutes w.minutes
  seconds_are : IsNumber seconds w.seconds
  frames_are : IsNumber frames w.frames
  drop_is : w.is_drop ≡ drop

word_by_some : (drop : Bool) (hours minutes seconds frames : List ℕ) (w : TimecodeWord)
    → word_by drop hours minutes seconds frames ≡ Some w → AreNumbers drop hours minutes seconds frames w
word_by_some drop hours minutes seconds frames w =
    elim (number_in hours) as (λ a. number_in hours ≡ a
    → option_and_then (λ h. option_and_then (λ m. option_and_then (λ s. option_map (word_of drop h m s)
    (number_in frames)) (number_in seconds)) (number_in minutes)) a ≡ Some w
    → AreNumbers drop hours minutes seconds frames w) [
      | None ↦ λ _ x. absurd cc
      | Some h ↦ λ eh. elim (number_in minutes) as (λ a. number_in minutes ≡ a
          → option_and_then (λ m. option_and_then (λ s. option_map (word_of drop h m s)
          (number_in frames)) (number_in seconds)) a ≡ Some w → AreNumbers drop hours minutes seconds frames w) [
            | None ↦ λ _ x. absurd cc
            | Some m ↦ λ em. elim (number_in seconds) as (λ a. number_in seconds ≡ a
                → option_and_then (λ s. option_map (word_of drop h m s) (number_in frames)) a ≡ Some w
                → AreNumbers drop hours minutes seconds frames w) [
                  | None ↦ λ _ x. absurd cc
                  | Some s ↦ λ es. elim (number_in frames) as (λ a. number_in frames ≡ a
                      → option_map (word_of drop h m s) a ≡ Some w
                      → AreNumbers drop hours minutes seconds frames w) [
                        | None ↦ λ _ x. absurd cc
                        | Some f ↦ λ ef x.
                            let is : word_of drop h m s f ≡ w = cc in
                            subst (λ w. AreNumbers drop hours minutes seconds frames w) is (record {
                              hours_are = number_some hours h eh;
                              minutes_are = number_some minutes m em;
                              seconds_are = number_some seconds s es;
                              frames_are = number_some frames f ef;
                              drop_is = refl;
                            })
                      ] refl
                ] refl
          ] refl
    ] refl

word_by_is : (hours minutes seconds frames : List ℕ) (w : TimecodeWord)
    → AreNumbers w.is_drop hours minutes seconds frames w → word_by w.is_drop hours minutes seconds frames ≡ Some w
word_by_is hours minutes seconds frames w h =
    ap (λ a. option_and_then (λ h. option_and_then (λ m. option_and_then (λ s. option_map (word_of w.is_drop h m s)
    (number_in frames)) (number_in seconds)) (number_in minutes)) a) (number_is hours w.hours h.hours_are)
    ∙ ap (λ a. option_and_then (λ m. option_and_then (λ s. option_map (word_of w.is_drop w.hours m s)
    (number_in frames)) (number_in seconds)) a) (number_is minutes w.minutes h.minutes_are)
    ∙ ap (λ a. option_and_then (λ s. option_map (word_of w.is_drop w.hours w.minutes s) (number_in frames)) a)
    (number_is seconds w.seconds h.seconds_are)
    ∙ ap (λ a. option_map (word_of w.is_drop w.hours w.minutes w.seconds) a)
    (number_is frames w.frames h.frames_are)

all_behind : (n : ℕ) (xs : List ℕ) → n ≡ length xs + 9 → take (n - 9) xs ≡ xs
all_behind n xs e = take_all (n - 9) xs (omega (arith, e))

guarded : (t : Bool) (o : Option TimecodeWord) (w : TimecodeWord) → (if t then None else o) ≡ Some w
    → (t ≡ false) × (o ≡ Some w)
guarded true o w e = absurd cc
guarded false o w e = (refl, e)

separated : (i : ℕ) (drop : Bool) (rest : List ℕ) → drop ≡ (i == 59) → (i == 58 || i == 59) ≡ true
    → i ∷ rest ≡ (if drop then codes ";" else codes ":") ++ rest
separated i true rest e s = ap (λ i. i ∷ rest) (eqb-true i 59 (sym e))
separated i false rest e s = elim (i == 58) as (λ t. (i == 58) ≡ t → i ∷ rest ≡ codes ":" ++ rest) [
  | true ↦ λ f. ap (λ i. i ∷ rest) (eqb-true i 58 f)
  | false ↦ λ f. absurd (both_ways (i == 58 || i == 59) (or_from (i == 58) (i == 59) f (sym e)) s)
] refl

read_of : (a b c d e f g h i : ℕ) (rest : List ℕ) (w : TimecodeWord)
    → word_in (a ∷ b ∷ c ∷ d ∷ e ∷ f ∷ g ∷ h ∷ i ∷ rest) ≡ Some w
    → IsWritten (a ∷ b ∷ c ∷ d ∷ e ∷ f ∷ g ∷ h ∷ i ∷ rest) w
read_of a b c d e f g h i rest w x =
    let text = a ∷ b ∷ c ∷ d ∷ e ∷ f ∷ g ∷ h ∷ i ∷ rest in
    let behind = take (length text - 9) rest in
    let given = guarded (nat_lt (length text) 11 || nat_lt 14 (length text) || not (are_separated text))
    (word_by (i == 59) (a ∷ b ∷ []) (d ∷ e ∷ []) (g ∷ h ∷ []) behind) w x in
    let tests = or_parts (nat_lt (length text) 11 || nat_lt 14 (length text)) (not (are_separated text)) given.0 in
    let bounds = or_parts (nat_lt (length text) 11) (nat_lt 14 (length text)) tests.0 in
    let low = ltb-false (length text) 11 bounds.0 in
    let high = ltb-false 14 (length text) bounds.1 in
    let between = and_parts (c == 58 && f == 58) (i == 58 || i == 59) (not-false (are_separated text) tests.1) in
    let colons = and_parts (c == 58) (f == 58) between.0 in
    let first = eqb-true c 58 colons.0 in
    let second = eqb-true f 58 colons.1 in
    let numbers = word_by_some (i == 59) (a ∷ b ∷ []) (d ∷ e ∷ []) (g ∷ h ∷ []) behind w given.1 in
    let same : behind ≡ rest = all_behind (length text) rest (omega arith) in
    let third = separated i w.is_drop rest numbers.drop_is between.1 in
    record {
      hours = a ∷ b ∷ [];
      minutes = d ∷ e ∷ [];
      seconds = g ∷ h ∷ [];
      frames = rest;
      text_is = λ j. a ∷ b ∷ first j ∷ d ∷ e ∷ second j ∷ g ∷ h ∷ third j;
      hours_are = numbers.hours_are;
      minutes_are = numbers.minutes_are;
      seconds_are = numbers.seconds_are;
      frames_are = subst (λ ds. IsNumber ds w.frames) same numbers.frames_are;
      two_hours = refl;
      two_minutes = refl;
      two_seconds = refl;
      some_frames = omega (arith, low);
      few_frames = omega (arith, high);
    }

pub read_is_written : (text : List ℕ) (w : TimecodeWord) → word_in text ≡ Some w → IsWritten text w
read_is_written (a ∷ b ∷ c ∷ d ∷ e ∷ f ∷ g ∷ h ∷ i ∷ rest) w x = read_of a b c d e f g h i rest w x
read_is_written _ w x = absurd cc

-- A list of two is that of its members.
record IsPair (xs : List ℕ) : Type 0 where
  first : ℕ
  second : ℕ
  same : xs ≡ first ∷ second ∷ []

pair : (xs : List ℕ) → length xs ≡ 2 → IsPair xs
pair (a ∷ b ∷ []) e = record { first = a; second = b; same = refl }
pair _ e = absurd (omega (arith, e))

-- What stands before the frames.
abbrev mark : Bool → ℕ
mark drop = if drop then 59 else 58

marked : (drop : Bool) (rest : List ℕ) → (if drop then codes ";" else codes ":") ++ rest ≡ mark drop ∷ rest
marked true rest = refl
marked false rest = refl

mark_tells : (drop : Bool) → (mark drop == 59) ≡ drop
mark_tells true = refl
mark_tells false = refl

mark_fits : (drop : Bool) → (mark drop == 58 || mark drop == 59) ≡ true
mark_fits true = refl
mark_fits false = refl

abbrev laid : ℕ → ℕ → ℕ → ℕ → ℕ → ℕ → ℕ → List ℕ → List ℕ
laid a b d e g h i rest = a ∷ b ∷ 58 ∷ d ∷ e ∷ 58 ∷ g ∷ h ∷ i ∷ rest

written_of : (a b d e g h : ℕ) (rest : List ℕ) (w : TimecodeWord)
    → AreNumbers w.is_drop (a ∷ b ∷ []) (d ∷ e ∷ []) (g ∷ h ∷ []) rest w → 2 ≤ length rest → length rest ≤ 5
    → word_in (laid a b d e g h (mark w.is_drop) rest) ≡ Some w
written_of a b d e g h rest w numbers some few =
    let text = laid a b d e g h (mark w.is_drop) rest in
    let low = le-ltb (length text) 11 (omega (arith, some)) in
    let high = le-ltb 14 (length text) (omega (arith, few)) in
    let fits : not (are_separated text) ≡ false = ap not (mark_fits w.is_drop) in
    let test = or_from (nat_lt (length text) 11 || nat_lt 14 (length text)) (not (are_separated text))
    (or_from (nat_lt (length text) 11) (nat_lt 14 (length text)) low high) fits in
    let same : take (length text - 9) rest ≡ rest = all_behind (length text) rest (omega arith) in
    ap (λ t. if t then None else word_by (mark w.is_drop == 59) (a ∷ b ∷ []) (d ∷ e ∷ []) (g ∷ h ∷ [])
    (take (length text - 9) rest)) test
    ∙ ap (λ drop. word_by drop (a ∷ b ∷ []) (d ∷ e ∷ []) (g ∷ h ∷ []) (take (length text - 9) rest))
    (mark_tells w.is_drop)
    ∙ ap (λ ds. word_by w.is_drop (a ∷ b ∷ []) (d ∷ e ∷ []) (g ∷ h ∷ []) ds) same
    ∙ word_by_is (a ∷ b ∷ []) (d ∷ e ∷ []) (g ∷ h ∷ []) rest w numbers

pub written_is_read : (text : List ℕ) (w : TimecodeWord) → IsWritten text w → word_in text ≡ Some w
written_is_read text w h =
    let hours = pair h.hours h.two_hours in
    let minutes = pair h.minutes h.two_minutes in
    let seconds = pair h.seconds h.two_seconds in
    let laid_is : text ≡ laid hours.first hours.second minutes.first minutes.second seconds.first seconds.second
    (mark w.is_drop) h.frames =
    h.text_is ∙ (λ j. hours.same j ++ (codes ":" ++ (minutes.same j ++ (codes ":" ++ (seconds.same j
    ++ marked w.is_drop h.frames j))))) in
    ap word_in laid_is
    ∙ written_of hours.first hours.second minutes.first minutes.second seconds.first seconds.second h.frames w (record {
      hours_are = subst (λ ds. IsNumber ds w.hours) hours.same h.hours_are;
      minutes_are = subst (λ ds. IsNumber ds w.minutes) minutes.same h.minutes_are;
      seconds_are = subst (λ ds. IsNumber ds w.seconds) seconds.same h.seconds_are;
      frames_are = h.frames_are;
      drop_is = refl;
    }) h.some_frames h.few_frames
