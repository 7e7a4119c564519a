-- The stop of a rest is the one that `stop_of` gives.
use Rattle.mxf_klv.proofs.Common.{◌≡◌, ℕ, ◌+◌, ◌<◌, ◌≤◌, Bool, true, false, cond, not, nat_lt, List, [], ◌∷◌, ◌++◌}
use Rattle.mxf_klv.proofs.Common.{length, take, drop, Err, Ok, Result, IfOk, ok_or, SomeIff, Option, None, Some, refl}
use Rattle.mxf_klv.proofs.Common.{sym, ap, subst, ◌∙◌, arith, inl, inr, ◌⊎◌, ◌↔◌, ltb-true, lt-ltb, cases_lt}
use Rattle.mxf_klv.proofs.Common.{false_from_ne_true, both_ways, option_map_or, LengthParts, PacketParts, packet_parts}
use Rattle.mxf_klv.proofs.Common.{BeginsAsLabel, begins_as_label, IsCutLength, ReadsLength, IsCutPacket, size_of}
use Rattle.mxf_klv.proofs.Common.{BeginsWithKeyAndLength, HasNoKeyAndLength, ReadsKeyAndLength, greatest_end}
use Rattle.mxf_klv.proofs.Common.{BeginsWithNone, IsPiece, IsStop, end_after, EndsAt, GoesOn, head_at, length_at}
use Rattle.mxf_klv.proofs.Common.{packet_at, end_with, stop_of, stop_in, IsOpen}
use Rattle.mxf_klv.specs.declared.packet.PacketFault.{PacketFault}
use Rattle.mxf_klv.specs.declared.piece.Stop.{Stop}
use Rattle.mxf_klv.specs.declared.piece.Stop.TheVariants.{End, NotUl, BadLength, TooFar, Truncated, NoStart}
use Rattle.std.proofs.Common.{nat_eq, IfErr, length-take, take-append-drop}
use Rattle.std.proofs.lemmas.Bool.{eqb-true, eq-eqb}
use Rattle.mxf_klv.specs.Piece.{EndsTooFar}
use Rattle.mxf_klv.specs.PieceReading.{is_bad_length, ends_too_far, IsNoHead}
use Rattle.mxf_klv.proofs.LengthLemmas.{one_reading}
use Rattle.mxf_klv.proofs.KeyAndLengthLaws.{head_of, head-begins, head-cut, head-length, head-packet, head-size}
use Rattle.mxf_klv.proofs.KeyAndLengthLaws.{head_in, no_head}
use Rattle.mxf_klv.proofs.PacketLemmas.{key_cut, label_of, length_cut}
use Rattle.mxf_klv.proofs.PacketLaw.{cut_begins, no_fault_cut}
use Rattle.mxf_klv.proofs.PieceLaws.{begins-test, test-begins, ends_at, goes_on, head_at-head, head_at-stands}
use Rattle.mxf_klv.proofs.PieceLaws.{length_at-read, length_at-stands, none-packet_at, one_piece, packet_at-fault}
use Rattle.mxf_klv.proofs.PieceLaws.{packet_at-given, packet_at-none}
use Rattle.mxf_klv.specs.declared.ber.BerFault.TheVariants as lengths
use Rattle.mxf_klv.specs.declared.packet.PacketFault.TheVariants as faults

-- ---- the tests

bad-reads : (xs : List ℕ) → is_bad_length xs ≡ true
    → ReadsLength xs (Err lengths.Indefinite) ⊎ ReadsLength xs (Err lengths.TooWide)
bad-reads xs h = grind arith

-- where no length is given and none is at fault, one is cut
cut_else : (xs : List ℕ) → is_bad_length xs ≡ false → length_at xs ≡ None → IsCutLength xs
cut_else xs h k = grind arith

far-is : (offset : ℕ) (bytes : List ℕ) → ends_too_far offset bytes ≡ true → EndsTooFar offset bytes
far-is offset bytes e = elim (head_at bytes) as (λ o. head_at bytes ≡ o
    → option_map_or (λ l. nat_lt greatest_end (end_with offset l)) o false ≡ true → EndsTooFar offset bytes) [
      | None ↦ λ h f. absurd cc
      | Some l ↦ λ h f. (
        take 16 bytes,
        l,
        drop l.width (drop 16 bytes),
        head_at-stands bytes l h,
        ltb-true greatest_end (end_with offset l) f,
      )
    ] refl e

is-far : (offset : ℕ) (bytes : List ℕ) → EndsTooFar offset bytes → ends_too_far offset bytes ≡ true
is-far offset bytes (key, l, after, h, far) =
    ap (λ (o : Option LengthParts). option_map_or (λ l. nat_lt greatest_end (end_with offset l)) o false)
    (head_at-head bytes key l after h) ∙ lt-ltb greatest_end (end_with offset l) far

pub no-bytes : (bytes : List ℕ) → nat_eq (length bytes) 0 ≡ true → bytes ≡ []
no-bytes [] e = refl
no-bytes (x ∷ xs) e = let none = eqb-true (length (x ∷ xs)) 0 e in absurd (omega arith)

some-bytes : (bytes : List ℕ) → (bytes ≡ [] → ⊥) → nat_eq (length bytes) 0 ≡ false
some-bytes bytes n = false_from_ne_true _ (λ e. n (no-bytes bytes e))

-- ---- the choice among them

abbrev choice : Bool → Bool → Bool → Bool → ℕ → Stop
choice none begins bad far offset = cond none End (cond (not begins) (NotUl offset)
    (cond bad (BadLength offset) (cond far (TooFar offset) (Truncated offset))))

by_cases : (P : Stop → Type 0) (none begins bad far : Bool) (offset : ℕ) → (none ≡ true → P End)
    → (begins ≡ false → P (NotUl offset)) → (begins ≡ true → bad ≡ true → P (BadLength offset))
    → (far ≡ true → P (TooFar offset))
    → (none ≡ false → begins ≡ true → bad ≡ false → far ≡ false → P (Truncated offset))
    → P (choice none begins bad far offset)
by_cases P none begins bad far offset h k e p q = grind arith

too_far : (none begins bad far : Bool) (offset : ℕ) → none ≡ false → begins ≡ true → bad ≡ false → far ≡ true
    → choice none begins bad far offset ≡ TooFar offset
too_far none begins bad far offset p q r s = rw (p, q, r, s) refl

-- ---- the law

-- a rest that is neither at fault nor too long is cut
cut : (offset : ℕ) (rest : List ℕ) → BeginsWithNone offset rest → BeginsAsLabel rest → is_bad_length
    (drop 16 rest) ≡ false → (EndsTooFar offset rest → ⊥) → IsCutPacket rest
cut offset rest none begins sound near =
    elim (cases_lt (length rest) 16) [
      | inl short ↦ key_cut rest begins short
      | inr long ↦ elim (length_at (drop 16 rest)) as (λ o. length_at (drop 16 rest) ≡ o → IsCutPacket rest) [
        | None ↦ λ e. length_cut rest (drop 16 rest) refl begins long (cut_else (drop 16 rest) sound e)
        | Some l ↦ λ e.
            let after = drop l.width (drop 16 rest) in
            let head : BeginsWithKeyAndLength rest (take 16 rest) l after =
            head_of rest l (label_of rest begins long) (length_at-stands (drop 16 rest) l e) in
            elim (cases_lt (length after) l.value) [
              | inl short ↦ head-cut head short
              | inr whole ↦
                  let p = packet_parts (take 16 rest) l.width (take l.value after) in
                  let size = 16 + l.width + l.value in
                  let read = head-packet head whole in
                  let far : greatest_end < offset + size_of p =
                  none (take size rest) (drop size rest) p read.1 (sym (take-append-drop size rest)) in
                  absurd (near (take 16 rest, l, after, head, omega (arith, length-take l.value after)))
            ]
      ] refl
    ]

-- the stop that is given is one
stop-is : (offset : ℕ) (rest : List ℕ) → BeginsWithNone offset rest → IsStop offset rest (stop_of offset rest)
unfolding stop_of
stop-is offset rest none =
    by_cases (IsStop offset rest) (nat_eq (length rest) 0) (begins_as_label rest) (is_bad_length (drop 16 rest))
    (ends_too_far offset rest) offset (λ e. no-bytes rest e) (λ e. (refl, λ h. both_ways _ e (begins-test rest h)))
    (λ e f. (
      refl,
      elim (bad-reads (drop 16 rest) f) [ inl p ↦ inl (test-begins rest e, p) | inr p ↦ inr (test-begins rest e, p) ],
    )) (λ e. (refl, far-is offset rest e)) (λ a b c d.
    let near : EndsTooFar offset rest → ⊥ = λ h. both_ways _ d (is-far offset rest h) in (
      refl,
      (λ e. both_ways _ a (eq-eqb (length rest) 0 (ap length e))),
      cut offset rest none (test-begins rest b) c near,
      near,
    ))

-- no length is at fault where a head or a cut packet stands
sound_head : (bytes key after : List ℕ) (l : LengthParts) → BeginsWithKeyAndLength bytes key l after
    → ReadsLength (drop 16 bytes) (Err lengths.Indefinite) ⊎ ReadsLength (drop 16 bytes) (Err lengths.TooWide) → ⊥
sound_head bytes key after l head p =
    elim p [
      | inl q ↦ no_head bytes lengths.Indefinite q key after l head
      | inr q ↦ no_head bytes lengths.TooWide q key after l head
    ]

sound_cut : (bytes : List ℕ) → IsCutPacket bytes
    → ReadsLength (drop 16 bytes) (Err lengths.Indefinite) ⊎ ReadsLength (drop 16 bytes) (Err lengths.TooWide) → ⊥
sound_cut bytes c p =
    omega (arith, no_fault_cut bytes lengths.Indefinite (λ h. cc) c, no_fault_cut bytes lengths.TooWide (λ h. cc) c)

-- each stop is the one that is given
pub stop-given : (offset : ℕ) (rest : List ℕ) (stop : Stop) → IsStop offset rest stop → stop_of offset rest ≡ stop
unfolding stop_of
stop-given offset rest End is = ap (stop_of offset) is
stop-given offset rest (NotUl place) (at, n) = grind arith
stop-given offset rest (BadLength place) (at, fault) = grind arith
stop-given offset rest (TooFar place) (at, far) =
    let (key, l, after, head, above) = far in
    let size = head-size head in
    too_far _ _ _ _ offset (some-bytes rest (λ e. (let none = ap length e in omega arith)))
    (begins-test rest (head-begins head))
    (false_from_ne_true _ (λ e. sound_head rest key after l head (bad-reads (drop 16 rest) e))) (is-far offset rest far)
    ∙ ap (λ (x : ℕ). TooFar x) (sym at)
stop-given offset rest (Truncated place) (at, some, cut, near) =
    grind (arith, cut_begins, far-is, some-bytes, sound_cut)
stop-given offset rest (NoStart place) is = absurd is

pub one_stop : (offset : ℕ) (rest : List ℕ) (stop : Stop) → BeginsWithNone offset rest
    → (stop_of offset rest ≡ stop) ↔ IsStop offset rest stop
one_stop offset rest stop none = grind (arith, stop-given, stop-is)

pub one_stop_in : (offset : ℕ) (bytes : List ℕ) (packets : List PacketParts) (rest : List ℕ) (stop : Stop)
    → IsPiece offset bytes packets rest → (stop_in offset bytes ≡ stop) ↔ IsStop (end_after offset packets) rest stop
one_stop_in offset bytes packets rest stop i = grind (arith, one_piece, one_stop)

pub one_length_at : (bytes : List ℕ) (l : LengthParts) → (length_at bytes ≡ Some l) ↔ ReadsLength bytes (Ok l)
one_length_at bytes l = (length_at-stands bytes l, length_at-read bytes (Ok l))

-- ---- the exits of `next_packet`

-- no packet that fits stands at the front, and this is the stop
pub record Stopped (offset : ℕ) (bytes : List ℕ) (stop : Stop) : Type 0 where
  pub none : BeginsWithNone offset bytes
  pub is : IsStop offset bytes stop

pub stops : (offset : ℕ) (bytes : List ℕ) (stop : Stop) → Stopped offset bytes stop
    → (packet_at offset bytes ≡ None) × (stop ≡ stop_of offset bytes)
stops offset bytes stop s = (none-packet_at offset bytes s.none, sym (stop-given offset bytes stop s.is))

pub ends : (offset : ℕ) (bytes : List ℕ) (stop : Stop) → Stopped offset bytes stop → EndsAt offset bytes stop
ends offset bytes stop s = ends_at offset bytes stop (none-packet_at offset bytes s.none)
    (sym (stop-given offset bytes stop s.is))

pub at_end : (offset : ℕ) (bytes : List ℕ) → nat_eq (length bytes) 0 ≡ true → Stopped offset bytes End
at_end offset bytes e = grind (arith, no-bytes)

-- a fault of the head
abbrev stop_for : ℕ → PacketFault → Stop
stop_for offset faults.NotUl = NotUl offset
stop_for offset faults.Indefinite = BadLength offset
stop_for offset faults.TooWide = BadLength offset
stop_for offset faults.Short = Truncated offset

is_stop_for : (offset : ℕ) (bytes : List ℕ) (f : PacketFault) → (bytes ≡ [] → ⊥) → ReadsKeyAndLength bytes (Err f)
    → IsStop offset bytes (stop_for offset f)
is_stop_for offset bytes faults.NotUl some r = (refl, r.0)
is_stop_for offset bytes faults.Indefinite some r = (refl, inl r.0)
is_stop_for offset bytes faults.TooWide some r = (refl, inr r.0)
is_stop_for offset bytes faults.Short some r = (refl, some, r.0, λ far. r.1 far.0 far.2 far.1 far.3)

pub at_fault : (offset : ℕ) (bytes : List ℕ) (f g : PacketFault) → nat_eq (length bytes) 0 ≡ false → f ≡ g
    → ReadsKeyAndLength bytes (Err f) → Stopped offset bytes (stop_for offset g)
at_fault offset bytes f g some same r =
    let read : ReadsKeyAndLength bytes (Err g) = subst (λ (x : PacketFault). ReadsKeyAndLength bytes (Err x)) same r in
    record {
      none = packet_at-none offset bytes (packet_at-fault offset bytes g read.0);
      is = is_stop_for offset bytes g (λ e. both_ways _ some (eq-eqb (length bytes) 0 (ap length e))) read;
    }

-- two heads of the same bytes have one length
same_length : (bytes j k a b : List ℕ) (l m : LengthParts) → BeginsWithKeyAndLength bytes j l a
    → BeginsWithKeyAndLength bytes k m b → l ≡ m
same_length bytes j k a b l m h i =
    let e : Ok l ≡ Ok m = one_reading (drop 16 bytes) (Ok l) (Ok m) (head-length h) (head-length i) in
    cc

-- a packet that ends too far on
pub at_far : (offset : ℕ) (bytes key after : List ℕ) (l : LengthParts) → BeginsWithKeyAndLength bytes key l after
    → greatest_end < offset + (16 + l.width + l.value) → Stopped offset bytes (TooFar offset)
at_far offset bytes key after l h far = record {
  none = λ front rest p s is.
      let other = subst (λ (t : List ℕ). BeginsWithKeyAndLength t p.key
      (record { width = p.width; value = length p.value }) (p.value ++ rest)) (sym is) (head_in front rest p s) in
      let same = same_length bytes key p.key after (p.value ++ rest) l _ h other in
      let width : l.width ≡ p.width = ap (λ (m : LengthParts). m.width) same in
      let value : l.value ≡ length p.value = ap (λ (m : LengthParts). m.value) same in
      omega arith;
  is = (refl, (key, l, after, h, far));
}

-- a value that is cut
pub at_cut : (offset : ℕ) (bytes key after : List ℕ) (l : LengthParts) → BeginsWithKeyAndLength bytes key l after
    → offset + (16 + l.width + l.value) ≤ greatest_end → length after < l.value → Stopped offset bytes
    (Truncated offset)
at_cut offset bytes key after l h near short = record {
  none = packet_at-none offset bytes (packet_at-fault offset bytes faults.Short (head-cut h short));
  is = (
    refl,
    (λ e. let size = head-size h in let len = ap length e in omega arith),
    head-cut h short,
    λ far.
        let same = same_length bytes key far.0 after far.2 l far.1 h far.3 in
        let width : l.width ≡ far.1.width = ap (λ (m : LengthParts). m.width) same in
        let value : l.value ≡ far.1.value = ap (λ (m : LengthParts). m.value) same in
        let above = far.4 in
        omega arith,
  );
}

-- what the clauses of `next_packet` say of an answer
pub record Answers (offset : ℕ) (bytes : List ℕ) (r : Result (PacketParts × ℕ) Stop) : Type 0 where
  pub packet : IfOk r (λ x. (packet_at offset bytes ≡ Some x.0) × (x.1 ≡ size_of x.0))
  pub none : IfErr r (λ stop. (packet_at offset bytes ≡ None) × (stop ≡ stop_of offset bytes))
  pub goes_on : IfOk r (λ x. GoesOn offset bytes x.0 x.1)
  pub ends : IfErr r (EndsAt offset bytes)

abbrev given : PacketParts → ℕ → Result (PacketParts × ℕ) Stop
given p size = Ok (p, size)

at_packet : (offset : ℕ) (bytes key after : List ℕ) (l : LengthParts) → BeginsWithKeyAndLength bytes key l after
    → offset + (16 + l.width + l.value) ≤ greatest_end → l.value ≤ length after
    → Answers offset bytes (given (packet_parts key l.width (take l.value after)) (16 + l.width + l.value))
at_packet offset bytes key after l h near whole =
    let p = packet_parts key l.width (take l.value after) in
    let size = 16 + l.width + l.value in
    let read = head-packet h whole in
    let is : size ≡ size_of p = omega (arith, length-take l.value after) in
    let stands : packet_at offset bytes ≡ Some p =
    packet_at-given offset bytes (take size bytes) (drop size bytes) p read.1 (sym (take-append-drop size bytes))
    (omega arith) in
    record { packet = (stands, is); none = tt; goes_on = goes_on offset bytes p size stands is; ends = tt }

-- the last exit: the packet, or its value is cut
pub at_value : (offset : ℕ) (bytes key after : List ℕ) (l : LengthParts) (r : Option (PacketParts × ℕ))
    → BeginsWithKeyAndLength bytes key l after → offset + (16 + l.width + l.value) ≤ greatest_end
    → SomeIff r (l.value ≤ length after) (packet_parts key l.width (take l.value after), 16 + l.width + l.value)
    → Answers offset bytes (ok_or r (Truncated offset))
at_value offset bytes key after l None h near cut =
    grind (
      arith,
      at_cut offset bytes key after l h near (omega (arith, cut)),
      stops offset bytes (Truncated offset),
      ends offset bytes (Truncated offset),
    )
at_value offset bytes key after l (Some x) h near whole =
    grind (arith, at_packet offset bytes key after l h near whole.0)

-- ---- the exits of `next_key_and_length`

pub no_head_for : (offset : ℕ) (bytes : List ℕ) (stop : Stop) → Stopped offset bytes stop
    → (IsOpen stop → HasNoKeyAndLength bytes) → IsNoHead offset bytes stop
no_head_for offset bytes stop s cut = grind (arith, stops)

pub end_has_no_head : (bytes : List ℕ) → nat_eq (length bytes) 0 ≡ true → HasNoKeyAndLength bytes
end_has_no_head bytes e = grind arith

pub fault_has_no_head : (bytes : List ℕ) (f : PacketFault) → ReadsKeyAndLength bytes (Err f) → HasNoKeyAndLength bytes
fault_has_no_head bytes f r = r.1
