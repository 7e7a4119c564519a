-- How the hash value of a lane follows its message, and how the lanes follow the queue.
use Rattle.std.proofs.Common.{◌≡◌, ◌≢◌, ℕ, ◌<◌, ◌≤◌, ◌+◌, ◌-◌, ◌%◌, ◌^◌, List, [], length, map, min, slice_index}
use Rattle.std.proofs.Common.{slice_index_or, slice_set, arith, refl, sym, ap, ◌∙◌, inl, inr, length-set}
use Rattle.std.proofs.lemmas.Bool.{cases_eq, cases_lt}
use Rattle.std.proofs.Math.ListN.{get_or-map}
use Rattle.std.proofs.lemmas.List.{ext_get_or, get_or-set_other, get_or-set_same, get_or_default, length-map}
use Rattle.std.proofs.lemmas.Simd.{map-map}
use Rattle.sha2.specs.Sha256.{compress, digest_bytes, hash_after, initial_hash_256, padded_message, sha256}
use Rattle.sha2.proofs.Absorbing256.{hash_after_next}
use Rattle.mxf_digests.specs.Blocks.{block_count, block_of}
use Rattle.mxf_digests.specs.Lanes.{lane}
use Rattle.mxf_digests.specs.Queue.{HasTaken, IsHashing, IsUnderWay, left, message}
use Rattle.mxf_digests.specs.declared.lanes.Lanes.{Lanes}

small : (n k count : ℕ) → n + k ≤ count → count < 2 ^ 64 → (n + k) % 2 ^ 64 ≡ n + k
small n k count room fits = omega arith

-- one block more of a value
step_of : (v b old new : List ℕ) (n step steps : ℕ) → block_count v < 2 ^ 64 → step < steps → n + steps ≤ block_count v
    → ((n + step) % 2 ^ 64 < block_count v → b ≡ block_of v ((n + step) % 2 ^ 64))
    → old ≡ hash_after initial_hash_256 (padded_message v) (n + step) → new ≡ compress old b
    → new ≡ hash_after initial_hash_256 (padded_message v) (n + (step + 1))
step_of v b old new n step steps fits low room block held compressed =
    let count : ℕ = block_count v in
    let at : (n + step) % 2 ^ 64 ≡ n + step = small n step count (omega arith) fits in
    let this : b ≡ block_of v (n + step) = rw at at (block (omega arith)) in
    let next : n + (step + 1) ≡ n + step + 1 = omega arith in
    compressed ∙ rw (next, hash_after_next initial_hash_256 (padded_message v) (n + step), held, this) refl

-- the same of the message that the value is
pub one_step : (m v b old new : List ℕ) (n step steps : ℕ) → v ≡ m → block_count v < 2 ^ 64 → step < steps
    → n + steps ≤ block_count m
    → ((n + step) % 2 ^ 64 < block_count v → b ≡ block_of v ((n + step) % 2 ^ 64))
    → old ≡ hash_after initial_hash_256 (padded_message m) (n + step) → new ≡ compress old b
    → new ≡ hash_after initial_hash_256 (padded_message m) (n + (step + 1))
one_step m v b old new n step steps same fits low room block held compressed =
    let back : m ≡ v = sym same in
    rw back (step_of v b old new n step steps fits low (rw back at room) block (rw back at held) compressed)

-- what a lane has taken after some steps
pub taken_more : (m v h : List ℕ) (n step steps : ℕ) → v ≡ m → block_count v < 2 ^ 64 → step ≡ steps
    → n + steps ≤ block_count m
    → h ≡ hash_after initial_hash_256 (padded_message m) (n + step) → HasTaken m ((n + steps) % 2 ^ 64) h
taken_more m v h n step steps same fits end room held =
    let count : block_count m < 2 ^ 64 = rw same at fits in
    let at : (n + steps) % 2 ^ 64 ≡ n + steps = small n steps (block_count m) room count in
    rw at (room, rw end at held)

-- ---- the queue

-- a lane that is given the next message
pub refilled : (ms : List (List ℕ)) (before after : Lanes) (old new : List (List ℕ)) (place next after_next : ℕ)
    (ds : List (List ℕ))
    → after_next ≡ min (length ms) (next + 1) → place < 4 → length before.value ≡ 4 → length before.done ≡ 4
    → length ds ≡ length ms → next ≤ length ms
    → ((j : ℕ) → j < 4 → j ≢ place → IsUnderWay ms before old j)
    → ((i : ℕ) → i < next → ((j : ℕ) → j < 4 → j ≢ place → slice_index before.value j ≢ i)
    → slice_index_or ds i [] ≡ sha256 (message ms i))
    → after.value ≡ slice_set before.value place next → after.done ≡ slice_set before.done place 0
    → lane place new ≡ initial_hash_256 → ((j : ℕ) → j ≢ place → lane j new ≡ lane j old)
    → IsHashing ms after new after_next ds
unfolding hash_after
refilled ms before after old new place next after_next ds en at four_values four_counts long low way hashed ev ed
    begun others =
    let value_here : slice_index after.value place ≡ next =
    rw ev (get_or-set_same before.value place next 0 (omega arith)) in
    let done_here : slice_index after.done place ≡ 0 = rw ed (get_or-set_same before.done place 0 0 (omega arith)) in
    let value_there : (j : ℕ) → j ≢ place → slice_index after.value j ≡ slice_index before.value j =
    λ j ne. rw ev (get_or-set_other before.value place j next 0 ne) in
    let done_there : (j : ℕ) → j ≢ place → slice_index after.done j ≡ slice_index before.done j =
    λ j ne. rw ed (get_or-set_other before.done place j 0 0 ne) in
    record {
      long = long;
      low = omega arith;
      under_way = λ j small. elim (cases_eq j place) [
        | inl e ↦ rw (e, value_here, done_here, begun) (λ busy. (omega arith, refl))
        | inr ne ↦ rw (value_there j ne, done_there j ne, others j ne) (way j small ne)
      ];
      hashed = λ i below away. elim (cases_lt i next) [
        | inl lt ↦ hashed i lt (λ j small ne e. away j small (value_there j ne ∙ e))
        | inr ge ↦
            let is : next ≡ i = omega arith in
            absurd (away place at (value_here ∙ is))
      ];
    }

fits_in : (n count steps least : ℕ) → n ≤ count → steps ≡ least → least ≤ count - n → n + steps ≤ count
fits_in n count steps least low es first = omega arith

reaches : (n count steps : ℕ) → n ≤ count → steps ≡ count - n → n + steps ≡ count
reaches n count steps low es = omega arith

too_far : (i n : ℕ) → i ≡ n → (next : ℕ) → i < next → next ≤ n → ⊥
too_far i n e next below low = omega arith

-- the digest of a message all of whose blocks are taken
digest_is : (m h d : List ℕ) → h ≡ hash_after initial_hash_256 (padded_message m) (block_count m)
    → d ≡ digest_bytes h 8 → d ≡ sha256 m
unfolding sha256
digest_is m h d eh ed = ed ∙ ap (λ (x : List ℕ). digest_bytes x 8) eh

-- a lane ends its message, and is given the next one
pub value_ended : (ms : List (List ℕ)) (before advanced after : Lanes) (old middle new : List (List ℕ))
    (ds : List (List ℕ)) (place next after_next steps : ℕ) (d : List ℕ)
    → after_next ≡ min (length ms) (next + 1) → place < 4 → length before.value ≡ 4 → length advanced.done ≡ 4
    → slice_index before.value place < length ms
    → ((j : ℕ) → j < 4 → slice_index before.value j < length ms → left ms before place ≤ left ms before j)
    → IsHashing ms before old next ds → steps ≡ left ms before place → advanced.value ≡ before.value
    → ((j : ℕ) → j < 4 → slice_index before.done j + steps ≤ block_count (message ms (slice_index before.value j))
    → slice_index advanced.done j ≡ slice_index before.done j + steps)
    → ((j : ℕ) → j < 4 → slice_index before.done j + steps ≤ block_count (message ms (slice_index before.value j))
    → IsUnderWay ms before old j → IsUnderWay ms advanced middle j)
    → d ≡ digest_bytes (lane place middle) 8
    → after.value ≡ slice_set advanced.value place next → after.done ≡ slice_set advanced.done place 0
    → lane place new ≡ initial_hash_256 → ((j : ℕ) → j ≢ place → lane j new ≡ lane j middle)
    → IsHashing ms after new after_next (slice_set ds (slice_index before.value place) d)
value_ended ms before advanced after old middle new ds place next after_next steps d en at four_values four_counts
    busy first held es same done taken ed ev ec begun others =
    let index : ℕ = slice_index before.value place in
    let value_of : (j : ℕ) → slice_index advanced.value j ≡ slice_index before.value j =
    λ j. ap (λ (x : List ℕ). slice_index x j) same in
    let room : (j : ℕ) → j < 4 → slice_index before.value j < length ms
    → slice_index before.done j + steps ≤ block_count (message ms (slice_index before.value j)) =
    λ j small is. fits_in (slice_index before.done j) (block_count (message ms (slice_index before.value j))) steps
    (left ms before place)
    (held.under_way j small is).0 es (first j small is) in
    let under_way : (j : ℕ) → j < 4 → IsUnderWay ms advanced middle j =
    λ j small is. let was : slice_index before.value j < length ms = rw (value_of j) at is in
    taken j small (room j small was) (held.under_way j small) is in
    let all : slice_index advanced.done place ≡ block_count (message ms index) =
    done place at (room place at busy)
    ∙ reaches (slice_index before.done place) (block_count (message ms index)) steps (held.under_way place at busy).0
    es in
    let busy_then : slice_index advanced.value place < length ms = rw (value_of place) busy in
    let whole : HasTaken (message ms index) (block_count (message ms index)) (lane place middle) =
    rw (value_of place, all) at (under_way place at busy_then) in
    let digest : d ≡ sha256 (message ms index) = digest_is (message ms index) (lane place middle) d whole.1 ed in
    let wide : index < length ds = omega (arith, held.long) in
    refilled ms advanced after middle new place next after_next (slice_set ds index d) en at
    (ap length same ∙ four_values) four_counts
    (length-set ds index d ∙ held.long) held.low (λ j small ne. under_way j small)
    (λ i below away. elim (cases_eq i index) [
      | inl e ↦ rw e (get_or-set_same ds index d [] wide ∙ digest)
      | inr ne ↦ get_or-set_other ds index i d [] ne ∙ held.hashed i below (λ j small e. elim (cases_eq j place) [
        | inl ej ↦ absurd (ne (sym (rw ej at e)))
        | inr nej ↦ away j small nej (value_of j ∙ e)
      ])
    ])
    ev ec begun others

-- a lane that is idle is given the next message
pub first_filled : (ms : List (List ℕ)) (before after : Lanes) (old new : List (List ℕ)) (place next after_next : ℕ)
    (ds : List (List ℕ))
    → after_next ≡ min (length ms) (next + 1) → place < 4 → length before.value ≡ 4 → length before.done ≡ 4
    → IsHashing ms before old next ds → slice_index before.value place ≡ length ms
    → after.value ≡ slice_set before.value place next → after.done ≡ slice_set before.done place 0
    → lane place new ≡ initial_hash_256 → ((j : ℕ) → j ≢ place → lane j new ≡ lane j old)
    → IsHashing ms after new after_next ds
first_filled ms before after old new place next after_next ds en at four_values four_counts held idle ev ec begun
    others =
    refilled ms before after old new place next after_next ds en at four_values four_counts held.long held.low
    (λ j small ne. held.under_way j small)
    (λ i below away. held.hashed i below (λ j small e. elim (cases_eq j place) [
      | inl ej ↦ absurd (too_far i (length ms) (sym (rw ej at e) ∙ idle) next below held.low)
      | inr nej ↦ away j small nej e
    ]))
    ev ec begun others

-- digests are those of all messages if each is
pub all_hashed : {V : Type 0} (items : V → List ℕ) (vs : List V) (ds : List (List ℕ)) → length ds ≡ length vs
    → ((i : ℕ) → i < length vs → slice_index_or ds i [] ≡ sha256 (message (map items vs) i))
    → ds ≡ map (λ v. sha256 (items v)) vs
all_hashed items vs ds long hashed =
    let count : length (map sha256 (map items vs)) ≡ length ds = length-map (map items vs) sha256
    ∙ length-map vs items ∙ sym long in
    ext_get_or (sha256 []) ds (map sha256 (map items vs)) (sym count)
    (λ i small. get_or_default ds i (sha256 []) [] small ∙ hashed i (omega arith)
    ∙ sym (get_or-map sha256 (map items vs) i []))
    ∙ map-map sha256 items vs

-- the next message but one, or the end of the messages
pub least_of : (next n k after_next : ℕ) → n ≡ k → after_next ≡ min k (next + 1) → after_next ≡ min n (next + 1)
least_of next n k after_next same e = rw same e

pub still_idle : (j place : ℕ) → place + 1 ≤ j → j ≢ place
still_idle j place high e = omega arith
