-- Facts on the packets of a piece.
use Rattle.mxf_klv.proofs.Common.{◌≡◌, ℕ, zero, suc, ◌+◌, ◌<◌, ◌≤◌, true, cond, List, [], ◌∷◌, ◌++◌, length, take, drop}
use Rattle.mxf_klv.proofs.Common.{Result, Ok, Err, None, Some, refl, sym, ap, subst, ◌∙◌, arith, inl, inr}
use Rattle.mxf_klv.proofs.Common.{length-append, option_map_or, result_ok, le-leb, and_from, cases_lt, cond-true}
use Rattle.mxf_klv.proofs.Common.{take_at, drop_at, length-take, bytes_eq-Decides, LengthParts, PacketParts}
use Rattle.mxf_klv.proofs.Common.{label_start, BeginsAsLabel, begins_as_label, IsSpelledLength, ReadsLength}
use Rattle.mxf_klv.proofs.Common.{IsSpelledPacket, ReadsPacket, size_of, greatest_end, BeginsWithNone, IsPiece}
use Rattle.mxf_klv.proofs.Common.{length_at, head_at, end_with, packet_at, packets_in, rest_in, stop_of, GoesOn, EndsAt}
use Rattle.mxf_klv.proofs.Common.{BeginsWithKeyAndLength}
use Rattle.mxf_klv.specs.declared.ber.BerFault.{BerFault}
use Rattle.mxf_klv.specs.declared.packet.PacketFault.{PacketFault}
use Rattle.mxf_klv.specs.declared.piece.Stop.{Stop}
use Rattle.std.proofs.Common.{length-drop, take-append-drop}
use Rattle.std.specs.Option.{option_and_then}
use Rattle.mxf_klv.specs.PieceReading.{fits_at, packet_with, packets_by, rest_by}
use Rattle.mxf_klv.proofs.LengthLemmas.{one_reading, wide_found}
use Rattle.mxf_klv.proofs.KeyAndLengthLaws.{head_of, head_in, head-begins, head-length, head-packet, head-size}
use Rattle.mxf_klv.proofs.PacketLemmas.{same_packet}
use Rattle.mxf_klv.proofs.PacketLaw.{one_packet_reading}

-- ---- choices

-- ---- lengths

abbrev made : ℕ → ℕ → LengthParts
made w v = record { width = w; value = v }

-- the length that is given stands at the front
pub length_at-stands : (bytes : List ℕ) (l : LengthParts) → length_at bytes ≡ Some l → ReadsLength bytes (Ok l)
length_at-stands bytes l h = grind (arith, wide_found)

pub some_length : (bytes : List ℕ) (w v : ℕ) → IsSpelledLength (take w bytes) w v → length_at bytes ≡ None → ⊥
some_length bytes w v h k = grind (arith, length-take)

same_length : (bytes : List ℕ) (l m : LengthParts) → ReadsLength bytes (Ok l) → ReadsLength bytes (Ok m) → l ≡ m
same_length bytes l m p q = let e : Ok l ≡ Ok m = one_reading bytes (Ok l) (Ok m) p q in cc

-- what a reader of lengths reads is what is given
pub length_at-read : (bytes : List ℕ) (r : Result LengthParts BerFault) → ReadsLength bytes r
    → length_at bytes ≡ result_ok r
length_at-read bytes (Ok l) p =
    elim (length_at bytes) as (λ o. length_at bytes ≡ o → o ≡ Some l) [
      | None ↦ λ e. absurd (some_length bytes l.width l.value p e)
      | Some m ↦ λ e. ap (λ (x : LengthParts). Some x) (same_length bytes m l (length_at-stands bytes m e) p)
    ] refl
length_at-read bytes (Err f) p = grind arith

-- ---- packets

pub begins-test : (bytes : List ℕ) → BeginsAsLabel bytes → begins_as_label bytes ≡ true
begins-test bytes h = (bytes_eq-Decides (take 4 bytes) (take (length bytes) label_start)).1 h

pub test-begins : (bytes : List ℕ) → begins_as_label bytes ≡ true → BeginsAsLabel bytes
test-begins bytes h = (bytes_eq-Decides (take 4 bytes) (take (length bytes) label_start)).0 h

-- a spelled packet has as many bytes as it says
pub length-spelled : (bytes : List ℕ) (p : PacketParts) → IsSpelledPacket bytes p → length bytes ≡ size_of p
length-spelled bytes p s = grind (arith, length-append)

-- what is given as the length of a head is that of one
pub head_at-stands : (bytes : List ℕ) (l : LengthParts) → head_at bytes ≡ Some l
    → BeginsWithKeyAndLength bytes (take 16 bytes) l (drop l.width (drop 16 bytes))
unfolding head_at
head_at-stands bytes l e = grind (arith, head_of bytes l, length_at-stands (drop 16 bytes) l)

-- and that of each head is given
pub head_at-head : (bytes key : List ℕ) (l : LengthParts) (after : List ℕ) → BeginsWithKeyAndLength bytes key l after
    → head_at bytes ≡ Some l
unfolding head_at
head_at-head bytes key l after h =
    let size = head-size h in
    cond-true _ _ _ (and_from _ _ (begins-test bytes (head-begins h)) (le-leb 16 (length bytes) (omega arith)))
    ∙ length_at-read (drop 16 bytes) (Ok l) (head-length h)

-- what is given stands at the front and ends where it may
pub record Stands (offset : ℕ) (bytes : List ℕ) (p : PacketParts) : Type 0 where
  pub room : size_of p ≤ length bytes
  pub spelled : IsSpelledPacket (take (size_of p) bytes) p
  pub within : offset + size_of p ≤ greatest_end

packet_with-size : (bytes : List ℕ) (l : LengthParts) → 16 + l.width + l.value ≤ length bytes → size_of
    (packet_with bytes l) ≡ 16 + l.width + l.value
packet_with-size bytes l h = grind (arith, length-drop, length-take)

pub packet_at-stands : (offset : ℕ) (bytes : List ℕ) (p : PacketParts) → packet_at offset bytes ≡ Some p
    → Stands offset bytes p
unfolding packet_at
packet_at-stands offset bytes p e = grind (arith, head-packet, head_at-stands, length-drop, packet_with-size)

-- two packets at one front are one
same_front : (m n : ℕ) (bytes : List ℕ) (p q : PacketParts) → IsSpelledPacket (take m bytes) p → IsSpelledPacket
    (take n bytes) q → p ≡ q
same_front m n bytes p q s t = (same_packet (take m bytes) (take n bytes) (drop m bytes) (drop n bytes) p q s t
    (take-append-drop m bytes ∙ sym (take-append-drop n bytes))).1

-- a packet that stands at the front and ends where it may is given
pub packet_at-given : (offset : ℕ) (bytes front after : List ℕ) (p : PacketParts) → IsSpelledPacket front p
    → bytes ≡ front ++ after → offset + size_of p ≤ greatest_end → packet_at offset bytes ≡ Some p
unfolding packet_at
packet_at-given offset bytes front after p s is within =
    let size = length-spelled front p s in
    let whole = ap length is in
    let long : size_of p ≤ length bytes = omega (arith, size, whole, length-append front after) in
    let l = made p.width (length p.value) in
    let head : head_at bytes ≡ Some l = head_at-head bytes p.key l (p.value ++ after)
    (subst (λ (t : List ℕ). BeginsWithKeyAndLength t p.key l (p.value ++ after)) (sym is) (head_in front after p s)) in
    let test : fits_at offset bytes l ≡ true = and_from _ _ (le-leb (16 + l.width + l.value) (length bytes) long)
    (le-leb (end_with offset l) greatest_end within) in
    let given : packet_at offset bytes ≡ Some (packet_with bytes l) =
    ap (option_and_then (λ l. cond (fits_at offset bytes l) (Some (packet_with bytes l)) None)) head
    ∙ cond-true _ _ _ test in
    let t = packet_at-stands offset bytes (packet_with bytes l) given in
    let cut : take (size_of p) bytes ≡ front = ap (take (size_of p)) is ∙ take_at front after (size_of p) size in
    let same : packet_with bytes l ≡ p = same_front (size_of (packet_with bytes l)) (size_of p) bytes
    (packet_with bytes l) p t.spelled (subst (λ (u : List ℕ). IsSpelledPacket u p) (sym cut) s) in
    given ∙ ap (λ (x : PacketParts). Some x) same

-- where none is given none stands
pub packet_at-none : (offset : ℕ) (bytes : List ℕ) → packet_at offset bytes ≡ None → BeginsWithNone offset bytes
packet_at-none offset bytes e front after p s is =
    elim (cases_lt greatest_end (offset + size_of p)) [
      | inl far ↦ far
      | inr within ↦ (let g : packet_at offset bytes ≡ Some p =
          packet_at-given offset bytes front after p s is within in absurd cc)
    ]

-- and the other way
pub none-packet_at : (offset : ℕ) (bytes : List ℕ) → BeginsWithNone offset bytes → packet_at offset bytes ≡ None
none-packet_at offset bytes none =
    elim (packet_at offset bytes) as (λ o. packet_at offset bytes ≡ o → o ≡ None) [
      | None ↦ λ e. refl
      | Some p ↦ λ e.
          let s = packet_at-stands offset bytes p e in
          let far : greatest_end < offset + size_of p = none (take (size_of p) bytes)
          (drop (size_of p) bytes) p s.spelled (sym (take-append-drop (size_of p) bytes)) in
          let within = s.within in
          absurd (omega arith)
    ] refl

abbrev read_as : PacketParts → ℕ → Result (PacketParts × ℕ) PacketFault
read_as p n = Ok (p, n)

-- where a fault is read no packet is given
pub packet_at-fault : (offset : ℕ) (bytes : List ℕ) (f : PacketFault) → ReadsPacket bytes (Err f)
    → packet_at offset bytes ≡ None
packet_at-fault offset bytes f r =
    elim (packet_at offset bytes) as (λ o. packet_at offset bytes ≡ o → o ≡ None) [
      | None ↦ λ e. refl
      | Some p ↦ λ e.
          let s = packet_at-stands offset bytes p e in
          let n : read_as p (size_of p) ≡ Err f = one_packet_reading bytes (Ok (p, size_of p)) (Err f)
          (s.room, s.spelled) r in
          absurd cc
    ] refl

-- ---- pieces

shorter : (offset : ℕ) (bytes : List ℕ) (p : PacketParts) → packet_at offset bytes ≡ Some p
    → length (drop (size_of p) bytes) + 16 ≤ length bytes
shorter offset bytes p e = omega (arith, packet_at-stands offset bytes p e, length-drop (size_of p) bytes)

pub none_at_end : (offset : ℕ) (bytes : List ℕ) → length bytes ≤ 0 → packet_at offset bytes ≡ None
none_at_end offset bytes h =
    elim (packet_at offset bytes) as (λ o. packet_at offset bytes ≡ o → o ≡ None) [
      | None ↦ λ e. refl
      | Some p ↦ λ e. (let less = shorter offset bytes p e in absurd (omega arith))
    ] refl

-- enough turns are enough
packets_enough : (n m offset : ℕ) (bytes : List ℕ) → length bytes ≤ n → length bytes ≤ m
    → packets_by n offset bytes ≡ packets_by m offset bytes
packets_enough zero zero offset bytes p q = refl
packets_enough zero (suc m) offset bytes p q = rw (none_at_end offset bytes p) refl
packets_enough (suc n) zero offset bytes p q = rw (none_at_end offset bytes q) refl
packets_enough (suc n) (suc m) offset bytes p q = grind (arith, shorter, packets_enough n m)

rest_enough : (n m offset : ℕ) (bytes : List ℕ) → length bytes ≤ n → length bytes ≤ m
    → rest_by n offset bytes ≡ rest_by m offset bytes
rest_enough zero zero offset bytes p q = refl
rest_enough zero (suc m) offset bytes p q = rw (none_at_end offset bytes p) refl
rest_enough (suc n) zero offset bytes p q = rw (none_at_end offset bytes q) refl
rest_enough (suc n) (suc m) offset bytes p q = grind (arith, shorter, rest_enough n m)

-- one packet after another
pub packets_in-some : (offset : ℕ) (bytes : List ℕ) (p : PacketParts) → packet_at offset bytes ≡ Some p
    → packets_in offset bytes ≡ p ∷ packets_in (offset + size_of p) (drop (size_of p) bytes)
unfolding packets_in
packets_in-some offset bytes p e = grind (arith, packets_enough, shorter)

pub packets_in-none : (offset : ℕ) (bytes : List ℕ) → packet_at offset bytes ≡ None → packets_in offset bytes ≡ []
unfolding packets_in
packets_in-none offset bytes e = grind arith

pub rest_in-some : (offset : ℕ) (bytes : List ℕ) (p : PacketParts) → packet_at offset bytes ≡ Some p
    → rest_in offset bytes ≡ rest_in (offset + size_of p) (drop (size_of p) bytes)
unfolding rest_in
rest_in-some offset bytes p e = grind (arith, rest_enough, shorter)

pub rest_in-none : (offset : ℕ) (bytes : List ℕ) → packet_at offset bytes ≡ None → rest_in offset bytes ≡ bytes
unfolding rest_in
rest_in-none offset bytes e = grind arith

-- ---- the law

laid_again : (offset : ℕ) (bytes : List ℕ) (p : PacketParts) (ps : List PacketParts) (rest : List ℕ)
    → Stands offset bytes p → IsPiece (offset + size_of p) (drop (size_of p) bytes) ps rest → IsPiece offset bytes
    (p ∷ ps) rest
laid_again offset bytes p ps rest s i = grind (arith, take-append-drop)

some_by : (n offset : ℕ) (bytes : List ℕ) → length bytes ≤ n → IsPiece offset bytes (packets_by n offset bytes)
    (rest_by n offset bytes)
some_by zero offset bytes h = record { laid = refl; ended = packet_at-none offset bytes (none_at_end offset bytes h) }
some_by (suc n) offset bytes h =
    elim (packet_at offset bytes) as
    (λ o. packet_at offset bytes ≡ o → IsPiece offset bytes
    (option_map_or (λ x. x ∷ packets_by n (offset + size_of x) (drop (size_of x) bytes)) o [])
    (option_map_or (λ x. rest_by n (offset + size_of x) (drop (size_of x) bytes)) o bytes)) [
      | None ↦ λ e. record { laid = refl; ended = packet_at-none offset bytes e }
      | Some x ↦ λ e.
          (let less = shorter offset bytes x e in laid_again offset bytes x _ _ (packet_at-stands offset bytes x e)
          (some_by n (offset + size_of x) (drop (size_of x) bytes) (omega arith)))
    ] refl

-- each piece has packets and a rest
pub some_piece : (offset : ℕ) (bytes : List ℕ) → IsPiece offset bytes (packets_in offset bytes) (rest_in offset bytes)
unfolding packets_in rest_in
some_piece offset bytes = some_by (length bytes) offset bytes (omega arith)

-- and no others
pub one_piece : (offset : ℕ) (bytes : List ℕ) (packets : List PacketParts) (rest : List ℕ)
    → IsPiece offset bytes packets rest → (packets ≡ packets_in offset bytes) × (rest ≡ rest_in offset bytes)
one_piece offset bytes [] rest i =
    let none = none-packet_at offset bytes (subst (BeginsWithNone offset) (sym i.laid) i.ended) in
    (sym (packets_in-none offset bytes none), sym i.laid ∙ sym (rest_in-none offset bytes none))
one_piece offset bytes (p ∷ ps) rest i =
    grind (
      arith,
      drop_at,
      length-spelled,
      packet_at-given,
      packets_in-some,
      rest_in-some,
      one_piece (offset + size_of p) (drop (size_of p) bytes) ps rest,
    )

-- ---- the code

-- the packet that is given is the first of the piece
pub goes_on : (offset : ℕ) (bytes : List ℕ) (p : PacketParts) (size : ℕ) → packet_at offset bytes ≡ Some p
    → size ≡ size_of p → GoesOn offset bytes p size
goes_on offset bytes p size e is =
    grind (arith, packet_at-stands offset bytes p e, packets_in-some offset bytes p e, rest_in-some offset bytes p e)

pub ends_at : (offset : ℕ) (bytes : List ℕ) (stop : Stop) → packet_at offset bytes ≡ None
    → stop ≡ stop_of offset bytes → EndsAt offset bytes stop
ends_at offset bytes stop e is = grind (arith, packets_in-none, rest_in-none)
