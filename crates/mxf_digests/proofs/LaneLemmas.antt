-- What holds of each of four words side by side.
use Rattle.std.proofs.Common.{◌≡◌, ℕ, zero, suc, ◌<◌, ◌-◌, ◌*◌, ◌/◌, ◌%◌, ◌^◌, List, [], ◌∷◌, length, slice_index}
use Rattle.std.proofs.Common.{slice_index_or, slice_set, bit_or, arith, refl, ◌∙◌, w32}
use Rattle.std.proofs.lemmas.Simd.{get_or-zip2, length-zip2}
use Rattle.std.proofs.Math.ListN.{get_or-map}
use Rattle.std.proofs.lemmas.List.{length-map, map-set}
use Rattle.std.specs.Int.{rotate_right}
use Rattle.std.specs.Simd.Lanes.{zip2, Each1}
use Rattle.mxf_digests.specs.Lanes.{lane}
use mir.Val.{Fits}

-- what holds of each of the four lanes
pub below_four : (P : ℕ → Type 0) → P 0 → P 1 → P 2 → P 3 → (j : ℕ) → j < 4 → P j
below_four P p0 p1 p2 p3 zero h = p0
below_four P p0 p1 p2 p3 (suc zero) h = p1
below_four P p0 p1 p2 p3 (suc (suc zero)) h = p2
below_four P p0 p1 p2 p3 (suc (suc (suc zero))) h = p3
below_four P p0 p1 p2 p3 (suc (suc (suc (suc n)))) h = absurd (omega arith)

-- what holds of each list of four words
four_words : (P : List ℕ → Type 0) → ((a b c d : ℕ) → P (a ∷ b ∷ c ∷ d ∷ [])) → (x : List ℕ) → length x ≡ 4 → P x
four_words P p (a ∷ b ∷ c ∷ d ∷ []) long = p a b c d
four_words P p [] long = absurd (omega arith)
four_words P p (a ∷ []) long = absurd (omega arith)
four_words P p (a ∷ b ∷ []) long = absurd (omega arith)
four_words P p (a ∷ b ∷ c ∷ []) long = absurd (omega arith)
four_words P p (a ∷ b ∷ c ∷ d ∷ e ∷ x) long = absurd (omega arith)

-- an operation on two vectors is done lane by lane
pub at_lane : (f : ℕ → ℕ → ℕ) (x y : List ℕ) (j : ℕ) → length x ≡ 4 → length y ≡ 4 → j < 4
    → slice_index (zip2 f x y) j ≡ f (slice_index x j) (slice_index y j)
at_lane f x y j hx hy h = get_or-zip2 f x y j 0 0 0 (omega arith) (omega arith)

pub four_lanes : (f : ℕ → ℕ → ℕ) (x y : List ℕ) → length x ≡ 4 → length y ≡ 4 → length (zip2 f x y) ≡ 4
four_lanes f x y hx hy = length-zip2 f x y (omega arith) ∙ hx

word_below : (a : ℕ) → Fits w32 a → a < 2 ^ 32
word_below a fits = omega arith

-- a lane holds a word
pub lane_fits : (x : List ℕ) (j : ℕ) → length x ≡ 4 → Each1 (Fits w32) x → j < 4 → slice_index x j < 2 ^ 32
lane_fits x j long fits h =
    four_words (λ x. Each1 (Fits w32) x → (j : ℕ) → j < 4 → slice_index x j < 2 ^ 32) (λ a b c d f.
    below_four (λ j. slice_index (a ∷ b ∷ c ∷ d ∷ []) j < 2 ^ 32)
    (word_below a f.0) (word_below b f.1.0) (word_below c f.1.1.0) (word_below d f.1.1.1.0)) x long fits j h

-- a shift of each lane
abbrev Shifts : ℕ → List ℕ → Type 0
Shifts count x = (j : ℕ) → j < 4
    → slice_index (zip2 (λ a n. a / 2 ^ n) x (count ∷ count ∷ count ∷ count ∷ [])) j ≡ slice_index x j / 2 ^ count

pub shifted_right : (count : ℕ) → count < 32 → (x : List ℕ) → length x ≡ 4 → Shifts count x
shifted_right count high =
    four_words (Shifts count) (λ a b c d. below_four _ refl refl refl refl)

-- two shifts of each lane and an or are a rotation
abbrev Rotates : ℕ → List ℕ → Type 0
Rotates count x = (j : ℕ) → j < 4
    → slice_index (zip2 bit_or
    (zip2 (λ a n. a / 2 ^ n) x (count ∷ count ∷ count ∷ count ∷ []))
    (zip2 (λ a n. a * 2 ^ n % 2 ^ 32) x ((32 - count) ∷ (32 - count) ∷ (32 - count) ∷ (32 - count) ∷ []))) j
    ≡ rotate_right w32 (slice_index x j) count

pub shifts_rotate : (count : ℕ) → 0 < count → count < 32 → (x : List ℕ) → length x ≡ 4 → Rotates count x
shifts_rotate count low high =
    let right : count % 32 ≡ count = omega arith in
    let left : (32 - count) % 32 ≡ 32 - count = omega arith in
    four_words (Rotates count) (λ a b c d.
    below_four _ (rw (right, left) refl) (rw (right, left) refl) (rw (right, left) refl) (rw (right, left) refl))

-- word k of message j
pub word_of_lane : (x : List (List ℕ)) (j k : ℕ) → slice_index (lane j x) k ≡ slice_index (slice_index_or x k []) j
word_of_lane x j k = get_or-map (λ v. slice_index v j) x k []

pub length-lane : (x : List (List ℕ)) (j : ℕ) → length (lane j x) ≡ length x
length-lane x j = length-map x (λ v. slice_index v j)

-- a vector that is written is a word of each message
pub lane-set : (x : List (List ℕ)) (j k : ℕ) (v : List ℕ)
    → lane j (slice_set x k v) ≡ slice_set (lane j x) k (slice_index v j)
lane-set x j k v = map-set (λ v. slice_index v j) x k v

-- one word for each message
pub same_in_each : (a j : ℕ) → j < 4 → slice_index (a ∷ a ∷ a ∷ a ∷ []) j ≡ a
same_in_each a = below_four (λ j. slice_index (a ∷ a ∷ a ∷ a ∷ []) j ≡ a) refl refl refl refl

-- the eight words of a hash value
pub lane_of_eight : (x : List (List ℕ)) (j : ℕ) → length x ≡ 8 → lane j x
    ≡ slice_index (slice_index_or x 0 []) j ∷ slice_index (slice_index_or x 1 []) j
    ∷ slice_index (slice_index_or x 2 []) j ∷ slice_index (slice_index_or x 3 []) j
    ∷ slice_index (slice_index_or x 4 []) j ∷ slice_index (slice_index_or x 5 []) j
    ∷ slice_index (slice_index_or x 6 []) j ∷ slice_index (slice_index_or x 7 []) j ∷ []
lane_of_eight (a ∷ b ∷ c ∷ d ∷ e ∷ f ∷ g ∷ h ∷ []) j long = refl
lane_of_eight [] j long = absurd (omega arith)
lane_of_eight (a ∷ []) j long = absurd (omega arith)
lane_of_eight (a ∷ b ∷ []) j long = absurd (omega arith)
lane_of_eight (a ∷ b ∷ c ∷ []) j long = absurd (omega arith)
lane_of_eight (a ∷ b ∷ c ∷ d ∷ []) j long = absurd (omega arith)
lane_of_eight (a ∷ b ∷ c ∷ d ∷ e ∷ []) j long = absurd (omega arith)
lane_of_eight (a ∷ b ∷ c ∷ d ∷ e ∷ f ∷ []) j long = absurd (omega arith)
lane_of_eight (a ∷ b ∷ c ∷ d ∷ e ∷ f ∷ g ∷ []) j long = absurd (omega arith)
lane_of_eight (a ∷ b ∷ c ∷ d ∷ e ∷ f ∷ g ∷ h ∷ i ∷ x) j long = absurd (omega arith)
