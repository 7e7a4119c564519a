-- What bytes begin with is one thing: a packet, or one of the faults.
use Rattle.mxf_klv.proofs.Common.{◌≡◌, ℕ, ◌≤◌, List, [], ◌∷◌, ◌++◌, length, take, drop, Result, Ok, Err, refl, sym, ap}
use Rattle.mxf_klv.proofs.Common.{subst, ◌∙◌, arith, length-append, append_assoc, take_all, take-append-drop}
use Rattle.mxf_klv.proofs.Common.{length-take, drop-append-le, LengthParts, PacketParts, label_start, BeginsAsLabel}
use Rattle.mxf_klv.proofs.Common.{ReadsLength, IsSpelledPacket, IsCutPacket, ReadsPacket}
use Rattle.mxf_klv.specs.declared.ber.BerFault.{BerFault}
use Rattle.mxf_klv.specs.declared.packet.PacketFault.{PacketFault}
use Rattle.std.proofs.lemmas.List.{append-nil}
use Rattle.mxf_klv.proofs.LengthLemmas.{one_reading}
use Rattle.mxf_klv.proofs.KeyAndLengthLaws.{head_in, head-length}
use Rattle.mxf_klv.proofs.PacketLemmas.{same_packet}
use Rattle.mxf_klv.specs.declared.ber.BerFault.TheVariants as lengths
use Rattle.mxf_klv.specs.declared.packet.PacketFault.TheVariants as faults

-- what begins a text that begins as a label begins as a label
begins_front : (bytes more : List ℕ) → take 4 (bytes ++ more) ≡ label_start → BeginsAsLabel bytes
begins_front bytes more e = grind (arith, take_all)

start4 : (text rest : List ℕ) (p : PacketParts) → IsSpelledPacket text p → take 4 (text ++ rest) ≡ label_start
start4 text rest p s = grind arith

-- a fault of the first byte alone stays, whatever follows
stays : (xs more : List ℕ) (e : BerFault) → (e ≡ lengths.Short → ⊥) → ReadsLength xs (Err e) → ReadsLength
    (xs ++ more) (Err e)
stays xs more lengths.Short n p = absurd (n refl)
stays [] more lengths.Indefinite n p = absurd cc
stays (f ∷ rest) more lengths.Indefinite n p = p
stays [] more lengths.TooWide n p = absurd p
stays (f ∷ rest) more lengths.TooWide n p = p

some_long : (xs : List ℕ) (e : BerFault) → (e ≡ lengths.Short → ⊥) → ReadsLength (drop 16 xs) (Err e) → 16 ≤ length xs
some_long xs e n p = grind arith

two_lengths : (xs : List ℕ) (l : LengthParts) (e : BerFault) → ReadsLength xs (Ok l) → ReadsLength xs (Err e) → ⊥
two_lengths xs l e p q = let same = one_reading xs (Ok l) (Err e) p q in cc

-- where a packet stands there is no fault of its length
no_fault : (text rest bytes : List ℕ) (p : PacketParts) (e : BerFault) → text ++ rest ≡ bytes → IsSpelledPacket text p
    → ReadsLength (drop 16 bytes) (Err e) → ⊥
no_fault text rest bytes p e is s q = two_lengths (drop 16 bytes) (record { width = p.width; value = length p.value }) e
    (subst (λ (t : List ℕ). ReadsLength (drop 16 t) (Ok (record { width = p.width; value = length p.value }))) is
    (head-length (head_in text rest p s))) q

-- nor in the beginning of one
pub no_fault_cut : (bytes : List ℕ) (e : BerFault) → (e ≡ lengths.Short → ⊥) → IsCutPacket bytes → ReadsLength
    (drop 16 bytes) (Err e) → ⊥
no_fault_cut bytes e n c q =
    let long = some_long bytes e n q in
    let more : ReadsLength (drop 16 (bytes ++ c.more)) (Err e) = subst (λ (t : List ℕ). ReadsLength t (Err e))
    (sym (drop-append-le 16 bytes c.more long)) (stays (drop 16 bytes) c.more e n q) in
    no_fault (bytes ++ c.more) [] (bytes ++ c.more) c.packet e (append-nil (bytes ++ c.more)) c.spells more

ok_begins : (bytes : List ℕ) (p : PacketParts) (size : ℕ) → IsSpelledPacket (take size bytes) p → BeginsAsLabel bytes
ok_begins bytes p size s = begins_front bytes []
    (ap (take 4) (append-nil bytes ∙ sym (take-append-drop size bytes)) ∙ start4 (take size bytes)
    (drop size bytes) p s)

pub cut_begins : (bytes : List ℕ) → IsCutPacket bytes → BeginsAsLabel bytes
cut_begins bytes c = grind (arith, begins_front)

-- a whole packet is not the beginning of another
not_cut : (bytes : List ℕ) (p : PacketParts) (size : ℕ) → size ≤ length bytes → IsSpelledPacket (take size bytes) p
    → IsCutPacket bytes → ⊥
not_cut bytes p size within s c =
    let whole : take size bytes ++ (drop size bytes ++ c.more) ≡ (bytes ++ c.more) ++ [] = sym
    (append_assoc (take size bytes) (drop size bytes) c.more) ∙ ap (λ (t : List ℕ). t ++ c.more)
    (take-append-drop size bytes) ∙ sym (append-nil (bytes ++ c.more)) in
    let same = same_packet (take size bytes) (bytes ++ c.more)
    (drop size bytes ++ c.more) [] p c.packet s c.spells whole in
    let lens = ap length same.0 in
    let some = c.some in
    omega (arith, lens, length-take size bytes, length-append bytes c.more)

ok_excludes : (bytes : List ℕ) (p : PacketParts) (size : ℕ) → size ≤ length bytes → IsSpelledPacket
    (take size bytes) p → (e : PacketFault) → ReadsPacket bytes (Err e) → ⊥
ok_excludes bytes p size within s faults.NotUl q = q (ok_begins bytes p size s)
ok_excludes bytes p size within s faults.Indefinite q = no_fault (take size bytes)
    (drop size bytes) bytes p lengths.Indefinite (take-append-drop size bytes) s q.1
ok_excludes bytes p size within s faults.TooWide q = no_fault (take size bytes)
    (drop size bytes) bytes p lengths.TooWide (take-append-drop size bytes) s q.1
ok_excludes bytes p size within s faults.Short q = not_cut bytes p size within s q

other_faults : (bytes : List ℕ) → ReadsLength (drop 16 bytes) (Err lengths.Indefinite) → ReadsLength (drop 16 bytes)
    (Err lengths.TooWide) → ⊥
other_faults bytes p q = let same = one_reading (drop 16 bytes) (Err lengths.Indefinite) (Err lengths.TooWide) p q in cc

one_fault : (bytes : List ℕ) (d e : PacketFault) → ReadsPacket bytes (Err d) → ReadsPacket bytes (Err e) → d ≡ e
one_fault bytes faults.NotUl faults.NotUl p q = refl
one_fault bytes faults.NotUl faults.Indefinite p q = absurd (p q.0)
one_fault bytes faults.NotUl faults.TooWide p q = absurd (p q.0)
one_fault bytes faults.NotUl faults.Short p q = absurd (p (cut_begins bytes q))
one_fault bytes faults.Indefinite faults.NotUl p q = absurd (q p.0)
one_fault bytes faults.Indefinite faults.Indefinite p q = refl
one_fault bytes faults.Indefinite faults.TooWide p q = absurd (other_faults bytes p.1 q.1)
one_fault bytes faults.Indefinite faults.Short p q = absurd (no_fault_cut bytes lengths.Indefinite (λ h. cc) q p.1)
one_fault bytes faults.TooWide faults.NotUl p q = absurd (q p.0)
one_fault bytes faults.TooWide faults.Indefinite p q = absurd (other_faults bytes q.1 p.1)
one_fault bytes faults.TooWide faults.TooWide p q = refl
one_fault bytes faults.TooWide faults.Short p q = absurd (no_fault_cut bytes lengths.TooWide (λ h. cc) q p.1)
one_fault bytes faults.Short faults.NotUl p q = absurd (q (cut_begins bytes p))
one_fault bytes faults.Short faults.Indefinite p q = absurd (no_fault_cut bytes lengths.Indefinite (λ h. cc) p q.1)
one_fault bytes faults.Short faults.TooWide p q = absurd (no_fault_cut bytes lengths.TooWide (λ h. cc) p q.1)
one_fault bytes faults.Short faults.Short p q = refl

pub one_packet_reading : (bytes : List ℕ) (r s : Result (PacketParts × ℕ) PacketFault) → ReadsPacket bytes r
    → ReadsPacket bytes s → r ≡ s
one_packet_reading bytes (Ok (p, m)) (Ok (q, n)) s t =
    grind (
      arith,
      same_packet (take m bytes) (take n bytes) (drop m bytes) (drop n bytes) p q s.1 t.1
          (take-append-drop m bytes ∙ sym (take-append-drop n bytes)),
      length-take m bytes,
      length-take n bytes,
    )
one_packet_reading bytes (Ok (p, m)) (Err e) s t = absurd (ok_excludes bytes p m s.0 s.1 e t)
one_packet_reading bytes (Err d) (Ok (q, n)) s t = absurd (ok_excludes bytes q n t.0 t.1 d s)
one_packet_reading bytes (Err d) (Err e) s t = ap (λ (x : PacketFault). Err x) (one_fault bytes d e s t)
