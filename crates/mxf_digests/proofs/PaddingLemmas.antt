-- The bytes of a message's last blocks.
use Rattle.std.proofs.Common.{◌≡◌, ℕ, suc, ◌<◌, ◌≤◌, ◌+◌, ◌-◌, ◌*◌, ◌/◌, ◌%◌, ◌^◌, List, ◌∷◌, ◌++◌, length, take, drop}
use Rattle.std.proofs.Common.{replicate, slice_set, arith, refl, sym, ap, ◌∙◌, append_assoc, length-append, length-drop}
use Rattle.std.proofs.Common.{w64}
use Rattle.std.proofs.Math.Seq.{take-append-add}
use Rattle.std.proofs.lemmas.List.{drop-append-le, drop-drop, drop-replicate, drop-take, set-append_right}
use Rattle.std.proofs.lemmas.List.{take-append-le, take-replicate, take-take, length-replicate}
use Rattle.std.proofs.lemmas.Slice.{take-put_mid}
use Rattle.std.specs.Int.{to_be_bytes}
use Rattle.sha2.specs.Sha256.{padding}
use Rattle.mxf_digests.specs.Blocks.{block_count, block_of}
use borrow.Rule.Slice.PartMut.{put_mid}

-- a bit 1 after the last bytes, in 128 bytes that are zeros from there on
marked : (rest : List ℕ) (r : ℕ) → length rest ≡ r → r < 64
    → slice_set (rest ++ drop {A = ℕ} r (replicate 128 0)) r 0x80 ≡ rest ++ (0x80 ∷ replicate (127 - r) 0)
marked rest r e h =
    let count : 128 - r ≡ suc (127 - r) = omega arith in
    let zeros : drop {A = ℕ} r (replicate 128 0) ≡ 0 ∷ replicate (127 - r) 0 = drop-replicate r 128 0
    ∙ ap (λ (n : ℕ). replicate n 0) count in
    let here : r - r ≡ 0 = omega arith in
    set-append_right rest (drop {A = ℕ} r (replicate 128 0)) r r 0x80 e (omega arith) ∙ rw (zeros, here) refl

-- as many zeros as are wanted
fewer_zeros : (rest : List ℕ) (r z n : ℕ) → length rest ≡ r → n ≡ r + 1 + z → r + z ≤ 127
    → take n (rest ++ (0x80 ∷ replicate (127 - r) 0)) ≡ rest ++ (0x80 ∷ replicate z 0)
fewer_zeros rest r z n e en h =
    let count : n ≡ length rest + suc z = omega arith in
    rw count (take-append-add rest (0x80 ∷ replicate (127 - r) 0) (suc z)
    ∙ ap (λ (zs : List ℕ). rest ++ (0x80 ∷ zs)) (take-replicate z (127 - r) 0 (omega arith)))

length_marked : (rest be : List ℕ) (z : ℕ)
    → length (rest ++ (0x80 ∷ (replicate z 0 ++ be))) ≡ length rest + 1 + z + length be
length_marked rest be z =
    omega (
      arith,
      length-append rest (0x80 ∷ (replicate z 0 ++ be)),
      length-append (replicate z 0) be,
      length-replicate {A = ℕ} z 0,
    )

-- the last bytes, the bit 1, zeros, and the length
ended : (rest xs be : List ℕ) (r z k end : ℕ) → length rest ≡ r → r < 64 → r + z ≤ 127
    → xs ≡ slice_set (rest ++ drop {A = ℕ} r (replicate 128 0)) r 0x80 → end ≡ r + 1 + z + length be → length be ≡ 8
    → take (length (rest ++ (0x80 ∷ (replicate z 0 ++ be))))
    (put_mid (end - 8) k xs be) ≡ rest ++ (0x80 ∷ (replicate z 0 ++ be))
ended rest xs be r z k end long low room ex ee eight =
    let same : xs ≡ rest ++ (0x80 ∷ replicate (127 - r) 0) = ex ∙ marked rest r long low in
    let wide : length xs ≡ r + 1 + (127 - r) =
    omega (
      arith,
      ap length same,
      length-append rest (0x80 ∷ replicate (127 - r) 0),
      length-replicate {A = ℕ}
          (127 - r) 0,
    ) in
    let whole : length (rest ++ (0x80 ∷ (replicate z 0 ++ be))) ≡ end = omega (arith, length_marked rest be z) in
    let front : take (end - 8) xs ≡ rest ++ (0x80 ∷ replicate z 0) =
    rw same (fewer_zeros rest r z (end - 8) long (omega arith) room) in
    rw whole (take-put_mid (end - 8) k xs be end (omega arith) (omega arith)
    ∙ rw front (append_assoc rest (0x80 ∷ replicate z 0) be))

-- the same, with the zeros and the length of the padding
pub padded_rest : (rest xs be : List ℕ) (n k end : ℕ) → length rest ≡ n % 64
    → xs ≡ slice_set (rest ++ drop {A = ℕ} (length rest) (replicate 128 0)) (length rest) 0x80
    → be ≡ to_be_bytes w64 (n * 8 % 2 ^ 64)
    → end ≡ length rest + 9 + (119 - n % 64) % 64
    → take (length (rest ++ padding n)) (put_mid (end - 8) k xs be) ≡ rest ++ padding n
padded_rest rest xs be n k end at ex eb ee =
    let eight : length be ≡ 8 = ap length eb in
    let z : ℕ = (119 - n % 64) % 64 in
    rw (← eb) (ended rest xs be (length rest) z k end refl (omega arith) (omega arith) ex (omega arith) eight)

-- a block of the message's own bytes
pub own_block : (m x : List ℕ) (i k : ℕ) → i < length m / 64 → k ≡ 64 → x ≡ take k (drop (64 * i) m) → x ≡ block_of m i
own_block m x i k h ek ex =
    let same : 64 * i ≡ i * 64 = omega arith in
    let fits : 64 ≤ length (drop (i * 64) m) = omega (arith, length-drop (i * 64) m) in
    let low : i * 64 ≤ length m = omega arith in
    ex ∙ rw (
      ek,
      same,
      drop-append-le (i * 64) m (padding (length m)) low,
      take-append-le 64 (drop (i * 64) m)
          (padding (length m)) fits,
    ) refl

-- 64 bytes of a front are those of the whole
front_block : (xs tail : List ℕ) (a : ℕ) → take (length xs) tail ≡ xs → a + 64 ≤ length xs
    → take 64 (drop a tail) ≡ take 64 (drop a xs)
front_block xs tail a e h =
    sym (drop-take a 64 tail) ∙ ap (drop a) (sym (take-take (a + 64) (length xs) tail h) ∙ ap (take (a + 64)) e)
    ∙ drop-take a 64 xs

-- a block of the last bytes with their padding
pub last_block : (m tail rest x : List ℕ) (i w k : ℕ) → w ≡ length m / 64 → w ≤ i → i < block_count m → k ≡ 64
    → rest ≡ drop (64 * w) m → take (length (rest ++ padding (length m))) tail ≡ rest ++ padding (length m)
    → x ≡ take k (drop (64 * (i - w)) tail) → x ≡ block_of m i
last_block m tail rest x i w k ew low h ek er et ex =
    let p : List ℕ = padding (length m) in
    let n : ℕ = length m in
    let len : length (m ++ p) ≡ n + length p = length-append m p in
    let left : length (rest ++ p) ≡ n - 64 * w + length p = length-append rest p
    ∙ ap (λ (k : ℕ). k + length p) (ap length er ∙ length-drop (64 * w) m) in
    let split : i * 64 ≡ 64 * w + 64 * (i - w) = omega arith in
    let fits : 64 * w ≤ n = omega arith in
    let whole : drop (i * 64) (m ++ p) ≡ drop (64 * (i - w)) (rest ++ p) =
    rw (split, ← drop-drop (64 * (i - w)) (64 * w) (m ++ p), drop-append-le (64 * w) m p fits, er) refl in
    ex ∙ rw (ek, whole) (front_block (rest ++ p) tail (64 * (i - w)) et (omega arith))
