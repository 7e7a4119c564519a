-- The lines of a text are what stands before its first line feed, and the lines behind that.
use Rattle.std.proofs.Common.{◌≡◌, ℕ, suc, ◌+◌, ◌<◌, ◌==◌, nat_lt, Bool, true, false, List, [], ◌∷◌, ◌++◌, length, take}
use Rattle.std.proofs.Common.{drop, filter, refl, ap, sym, ◌∙◌, arith, append_assoc}
use Rattle.std.specs.List.{slice_split, onto_first, before_first, after_first, position_or_len}
use Rattle.mxf_commands.specs.Lists.{naming_lines}

-- the place is the first, or one behind that in the rest
place_here : (p : ℕ → Bool) (x : ℕ) (xs : List ℕ) → p x ≡ true → position_or_len p (x ∷ xs) ≡ 0
place_here p x xs e = rw e refl

place_behind : (p : ℕ → Bool) (x : ℕ) (xs : List ℕ) → p x ≡ false
    → position_or_len p (x ∷ xs) ≡ 1 + position_or_len p xs
place_behind p x xs e = rw e refl

pub split_turn : (p : ℕ → Bool) (xs : List ℕ) → position_or_len p xs < length xs
    → slice_split p xs ≡ before_first p xs ∷ slice_split p (after_first p xs)
split_turn p [] h = absurd (omega (arith, h))
split_turn p (x ∷ xs) h = turn (λ k. split_turn p xs k) (p x) refl where
  turn : (position_or_len p xs < length xs → slice_split p xs ≡ before_first p xs ∷ slice_split p (after_first p xs))
      → (b : Bool) → p x ≡ b → slice_split p (x ∷ xs) ≡ before_first p (x ∷ xs) ∷ slice_split p (after_first p (x ∷ xs))
  turn again true e = rw e refl
  turn again false e =
      let place = place_behind p x xs e in
      let to : position_or_len p (x ∷ xs) ≡ suc (position_or_len p xs) = omega (arith, place) in
      let from : position_or_len p (x ∷ xs) + 1 ≡ suc (position_or_len p xs + 1) = omega (arith, place) in
      let before : before_first p (x ∷ xs) ≡ x ∷ before_first p xs = ap (λ (k : ℕ). take k (x ∷ xs)) to in
      let after : after_first p (x ∷ xs) ≡ after_first p xs = ap (λ (k : ℕ). drop k (x ∷ xs)) from in
      let split : slice_split p (x ∷ xs) ≡ onto_first x (slice_split p xs) = rw e refl in
      rw (split, before, after) (ap (onto_first x) (again (omega (arith, h, place))))

pub split_end : (p : ℕ → Bool) (xs : List ℕ) → position_or_len p xs ≡ length xs → slice_split p xs ≡ xs ∷ []
split_end p [] h = refl
split_end p (x ∷ xs) h = end (λ k. split_end p xs k) (p x) refl where
  end : (position_or_len p xs ≡ length xs → slice_split p xs ≡ xs ∷ []) → (b : Bool) → p x ≡ b
      → slice_split p (x ∷ xs) ≡ (x ∷ xs) ∷ []
  end again true e = absurd (omega (arith, h, place_here p x xs e))
  end again false e = rw e (ap (onto_first x) (again (omega (arith, h, place_behind p x xs e))))

abbrev is_line_feed : ℕ → Bool
is_line_feed b = b == 10

abbrev names : List ℕ → Bool
names line = nat_lt 0 (length line)

filter_first : (x : List ℕ) (xs : List (List ℕ)) → filter names (x ∷ xs) ≡ filter names (x ∷ []) ++ filter names xs
filter_first x xs = first (names x) refl where
  first : (b : Bool) → names x ≡ b → filter names (x ∷ xs) ≡ filter names (x ∷ []) ++ filter names xs
  first true e = rw e refl
  first false e = rw e refl

-- what a line adds, and what the rest has
pub naming_turn : (old new : List (List ℕ)) (rest line behind : List ℕ) (all : List (List ℕ))
    → (line ≡ before_first is_line_feed rest) × (behind ≡ after_first is_line_feed rest)
    × (position_or_len is_line_feed rest < length rest)
    → new ≡ old ++ filter names (line ∷ []) → old ++ naming_lines rest ≡ all → new ++ naming_lines behind ≡ all
naming_turn old new rest line behind all (a, b, h) pushed so_far =
    let split = ap (filter names) (split_turn is_line_feed rest h) in
    let first = filter_first (before_first is_line_feed rest) (slice_split is_line_feed
    (after_first is_line_feed rest)) in
    let turn : naming_lines rest ≡ filter names (line ∷ []) ++ naming_lines behind = rw (a, b) (split ∙ first) in
    ap (λ (t : List (List ℕ)). t ++ naming_lines behind) pushed
    ∙ append_assoc old (filter names (line ∷ [])) (naming_lines behind)
    ∙ ap (λ (t : List (List ℕ)). old ++ t) (sym turn) ∙ so_far

-- what is added at the end
pub naming_end : (old new : List (List ℕ)) (rest : List ℕ) (all : List (List ℕ))
    → position_or_len is_line_feed rest ≡ length rest → new ≡ old ++ filter names (rest ∷ [])
    → old ++ naming_lines rest ≡ all → new ≡ all
naming_end old new rest all h pushed so_far =
    let turn : naming_lines rest ≡ filter names (rest ∷ []) = ap (filter names) (split_end is_line_feed rest h) in
    pushed ∙ ap (λ (t : List (List ℕ)). old ++ t) (sym turn) ∙ so_far
