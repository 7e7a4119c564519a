-- What is written is read back, and what is read is written as it stood.
use Rattle.std.proofs.Common.{◌≡◌, ℕ, zero, suc, ◌+◌, ◌-◌, ◌*◌, ◌^◌, ◌<◌, ◌≤◌, List, [], ◌∷◌, ◌++◌, length, take, drop}
use Rattle.std.proofs.Common.{Ok, refl, sym, ap, subst, ◌∙◌, arith, inl, inr, length-append}
use Rattle.std.proofs.lemmas.Nat.{div-mul-add}
use Rattle.std.proofs.lemmas.Bool.{cond-true, cond-false, eq-eqb, ne_eqb, cases_lt}
use Rattle.std.proofs.lemmas.List.{take_at, drop_at, take_all, length-take, get_or-drop, get_or-take, get_or_past}
use Rattle.std.proofs.lemmas.List.{append-nil}
use Rattle.std.specs.Int.{byte_at}
use Rattle.byteorder.specs.Endian.{big_number, big_bytes}
use Rattle.byteorder.specs.Numbers.{big_from-cons, big_from-lt, big_number-reads_back, length-bytes_high_first}
use Rattle.mxf_klv.specs.Bytes.{AreBytes}
use Rattle.mxf_klv.specs.Parts.{CanSpell, PacketParts}
use Rattle.mxf_klv.specs.Ber.{IsSpelledLength, ReadsLength, length_bytes}
use Rattle.mxf_klv.specs.Packet.{IsPacket, ReadsPacket, packet_bytes, size_of}
use Rattle.mxf_klv.proofs.LengthLemmas.{wide_spelled}
use Rattle.mxf_klv.proofs.PieceLaws.{length-spelled}

-- ---- numbers

byte_at-lt : (k n : ℕ) → byte_at k n < 256
byte_at-lt k n = grind arith

bytes-big_bytes : (n x : ℕ) → AreBytes (big_bytes n x)
bytes-big_bytes zero x i = omega arith
bytes-big_bytes (suc n) x zero = byte_at-lt n x
bytes-big_bytes (suc n) x (suc i) = bytes-big_bytes n x i

same_parts : (a b m r s : ℕ) → r < m → s < m → a * m + r ≡ b * m + s → (a ≡ b) × (r ≡ s)
same_parts a b m r s p q e = grind (arith, div-mul-add b m s q)

-- bytes of one number are one
same_bytes : (n : ℕ) (xs ys : List ℕ) → length xs ≡ n → length ys ≡ n → AreBytes xs → AreBytes ys
    → big_number n xs ≡ big_number n ys → xs ≡ ys
same_bytes zero [] [] p q h k e = refl
same_bytes zero [] (y ∷ ys) p q h k e = absurd (omega arith)
same_bytes zero (x ∷ xs) ys p q h k e = absurd (omega arith)
same_bytes (suc n) [] ys p q h k e = absurd (omega arith)
same_bytes (suc n) (x ∷ xs) [] p q h k e = absurd (omega arith)
same_bytes (suc n) (x ∷ xs) (y ∷ ys) p q h k e =
    let hs : AreBytes xs = λ i. h (suc i) in
    let ks : AreBytes ys = λ i. k (suc i) in
    let f : x * 256 ^ n + big_number n xs ≡ y * 256 ^ n + big_number n ys =
    ap (λ (t : ℕ). x * 256 ^ n + t) (sym (big_from-cons 0 n x xs)) ∙ e ∙ ap (λ (t : ℕ). y * 256 ^ n + t)
    (big_from-cons 0 n y ys) in
    let parts = same_parts x y (256 ^ n) (big_number n xs) (big_number n ys) (big_from-lt 0 n xs hs)
    (big_from-lt 0 n ys ks) f in
    let heads : x ≡ y = parts.0 in
    let tails : xs ≡ ys = same_bytes n xs ys (omega arith) (omega arith) hs ks parts.1 in
    cc

-- the bytes that a number was read from are those that it is written as
pub bytes_again : (n : ℕ) (xs : List ℕ) → length xs ≡ n → AreBytes xs → xs ≡ big_bytes n (big_number n xs)
bytes_again n xs len h =
    same_bytes n xs (big_bytes n (big_number n xs)) len (length-bytes_high_first n (big_number n xs)) h
    (bytes-big_bytes n (big_number n xs))
    (sym (ap (big_number n) (sym (append-nil (big_bytes n (big_number n xs)))) ∙ big_number-reads_back n
    (big_number n xs) [] (big_from-lt 0 n xs h)))

-- ---- lengths

one_byte : (w v : ℕ) → w ≡ 1 → length_bytes w v ≡ v ∷ []
one_byte w v e = cond-true _ _ _ (eq-eqb w 1 e)

more_bytes : (w v : ℕ) → 2 ≤ w → length_bytes w v ≡ (127 + w) ∷ big_bytes (w - 1) v
more_bytes w v h = cond-false _ _ _ (ne_eqb w 1 (λ e. omega arith))

-- what is written for a length stands for it
pub length_bytes-spelled : (w v : ℕ) → CanSpell w v → IsSpelledLength (length_bytes w v) w v
length_bytes-spelled w v (inl s) = rw (one_byte w v s.0) (inl (s.0, s.1, refl, refl))
length_bytes-spelled w v (inr s) =
    let less : w - 1 + 1 ≡ w = omega arith in
    let all : take (w - 1) (big_bytes (w - 1) v) ≡ big_bytes (w - 1) v = take_all (w - 1) (big_bytes (w - 1) v)
    (omega (arith, length-bytes_high_first (w - 1) v)) in
    rw (more_bytes w v s.0) (subst (λ (t : List ℕ). IsSpelledLength ((127 + w) ∷ t) w v) all
    (wide_spelled w v (w - 1) (big_bytes (w - 1) v) [] (sym less) (omega arith) (omega arith) s.2
    (sym (append-nil (big_bytes (w - 1) v)))))

-- what stands for a length is what is written for it
pub spelled-length_bytes : (bytes : List ℕ) (w v : ℕ) → AreBytes bytes → IsSpelledLength bytes w v
    → bytes ≡ length_bytes w v
spelled-length_bytes [] w v h p = absurd p
spelled-length_bytes (f ∷ rest) w v h (inl s) = cc
spelled-length_bytes (f ∷ rest) w v h (inr s) = grind (arith, bytes_again (w - 1) rest s.3 (λ i. h (suc i)))

pub length_read_back : (w v : ℕ) (more : List ℕ) → CanSpell w v → ReadsLength (length_bytes w v ++ more)
    (Ok (record { width = w; value = v }))
length_read_back w v more c = grind (arith, length_bytes-spelled)

-- the front of bytes is bytes
pub AreBytes-take : (n : ℕ) (bytes : List ℕ) → AreBytes bytes → AreBytes (take n bytes)
AreBytes-take n bytes h i = grind (arith, get_or-take, get_or_past, length-take)

-- so is what is left of bytes
pub AreBytes-drop : (n : ℕ) (bytes : List ℕ) → AreBytes bytes → AreBytes (drop n bytes)
AreBytes-drop n bytes h i = rw get_or-drop (h (n + i))

pub length_written_back : (bytes : List ℕ) (w v : ℕ) → AreBytes bytes → ReadsLength bytes
    (Ok (record { width = w; value = v })) → take w bytes ≡ length_bytes w v
length_written_back bytes w v h p = spelled-length_bytes (take w bytes) w v (AreBytes-take w bytes h) p

-- ---- packets

pub packet_read_back : (packet : PacketParts) (more : List ℕ) → IsPacket packet → ReadsPacket
    (packet_bytes packet ++ more) (Ok (packet, size_of packet))
packet_read_back p more is =
    grind (
      arith,
      length_bytes-spelled p.width (length p.value) is.width,
      length-spelled (packet_bytes p) p,
      length-append (packet_bytes p) more,
      take_at (packet_bytes p) more (size_of p),
    )

AreBytes-front : (key spelled value bytes : List ℕ) → bytes ≡ key ++ (spelled ++ value) → AreBytes bytes
    → AreBytes spelled
AreBytes-front key spelled value bytes e h i =
    elim (cases_lt i (length spelled)) [
      | inl lt ↦
          let after : take (length spelled) (drop (length key) bytes) ≡ spelled = ap
          (λ (t : List ℕ). take (length spelled) (drop (length key) t)) e ∙ ap (take (length spelled))
          (drop_at key (spelled ++ value) (length key) refl) ∙ take_at spelled value (length spelled) refl in
          rw (← after) (rw (get_or-take (length spelled) (drop (length key) bytes) i 0 lt, get_or-drop)
          (h (length key + i)))
      | inr le ↦ rw (get_or_past spelled i 0 le) (omega arith)
    ]

pub packet_written_back : (bytes : List ℕ) (packet : PacketParts) (size : ℕ) → AreBytes bytes → ReadsPacket bytes
    (Ok (packet, size)) → take size bytes ≡ packet_bytes packet
packet_written_back bytes p size h r =
    let s = r.1 in
    s.whole ∙ ap (λ (t : List ℕ). p.key ++ (t ++ p.value)) (spelled-length_bytes s.spelled p.width (length p.value)
    (AreBytes-front p.key s.spelled p.value (take size bytes) s.whole (AreBytes-take size bytes h)) s.width)
