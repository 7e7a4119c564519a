-- The packets of bytes, and the notes of a reference that says what they are.
use Rattle.mxf_views.proofs.Common.{◌≡◌, ◌+◌, ◌-◌, ◌<◌, ◌≤◌, ◌∙◌, ℕ, true, List, [], ◌∷◌, ◌++◌, Some, length}
use Rattle.mxf_views.proofs.Common.{take, drop, cond, refl, sym, ap, subst, inl, inr, arith, append_assoc, cases_lt}
use Rattle.mxf_views.proofs.Common.{drop_all, drop-drop, drop_at, length-take, take-append-drop, take_at}
use Rattle.mxf_views.proofs.Common.{IsSpelledLength, length_bytes, AreBytes, IsCovered, IsNote, end_of, greatest_end}
use Rattle.mxf_views.proofs.Common.{keeps, note_of, IsSpelledPacket, size_of, NoteParts, PacketParts}
use Rattle.mxf_views.proofs.Common.{packet_parts, AreLaid, end_after, notes_from, head_at, heads_at, notes_in}
use Rattle.mxf_views.proofs.Common.{packet_at, packets_in, rest_in, stop_in, stop_of, In, spelled_len, ends_at, goes_on}
use Rattle.mxf_views.proofs.Common.{length-spelled, none_at_end, packet_at-given, some_piece, length_bytes-spelled}
use Rattle.mxf_views.proofs.Common.{spelled-length_bytes}
use Rattle.mxf_klv.specs.declared.piece.Stop.TheVariants.{End}
use Rattle.std.proofs.Math.ListN.{length-append, length-drop}
use Rattle.std.proofs.lemmas.List.{append-nil}
use Rattle.sha2.specs.Sha256.{sha256}
use Rattle.mxf_klv.specs.NoteOrder.{same_parts}
use Rattle.mxf_klv.proofs.StopLaws.{one_stop_in}
use Rattle.mxf_klv.proofs.RoundTrips.{AreBytes-drop, AreBytes-take}
use Rattle.mxf_verify.specs.Verifying.{IsAmong, IsSaidBy, front_size, held_in, held_size}

-- ---- what a note says of bytes is a packet

module _ (n : NoteParts) (bytes : List ℕ) (is : IsNote n) (whole : n.whole ≡ true) (said : IsSaidBy n bytes)
    (size : length bytes ≡ held_size n) where
  whole_size : held_size n ≡ front_size n + n.length
  whole_size = ap (λ b. cond b (front_size n + n.length) (front_size n)) whole

  value : List ℕ
  value = drop (front_size n) bytes

  value_length : length value ≡ n.length
  unfolding value
  value_length = omega (arith, length-drop (front_size n) bytes, whole_size, size)

  pub said_is_spelled : IsSpelledPacket bytes (packet_parts n.key n.width (drop (front_size n) bytes))
  unfolding value
  said_is_spelled = record {
    spelled = length_bytes n.width n.length;
    label = is.label;
    width = subst (IsSpelledLength (length_bytes n.width n.length) n.width) (sym value_length)
        (length_bytes-spelled n.width n.length is.width);
    whole = sym (take-append-drop (front_size n) bytes) ∙ ap (λ l. l ++ value) said.front
        ∙ append_assoc n.key (length_bytes n.width n.length) value;
  }

  pub said_size : size_of (packet_parts n.key n.width (drop (front_size n) bytes)) ≡ held_size n
  unfolding value
  said_size = omega (arith, value_length, whole_size)

  pub said_note : note_of n.offset (packet_parts n.key n.width (drop (front_size n) bytes)) ≡ n
  unfolding value
  said_note = grind (arith, value, value_length, same_parts)

-- ---- bytes that are said, read from the front

-- Notes of packets that were read whole, one after another from an offset on.
abbrev pub AreNotesLaid : ℕ → List NoteParts → Type 0
AreNotesLaid at [] = Unit {0}
AreNotesLaid at (n ∷ ns) = (n.offset ≡ at) × (n.whole ≡ true) × AreNotesLaid (end_of n) ns

-- Where they end.
abbrev pub laid_end : ℕ → List NoteParts → ℕ
laid_end at [] = at
laid_end at (n ∷ ns) = laid_end (end_of n) ns

pub laid_end_above : (at : ℕ) (ns : List NoteParts) → AreNotesLaid at ns → at ≤ laid_end at ns
laid_end_above at [] laid = omega arith
laid_end_above at (n ∷ ns) laid =
    let ih = laid_end_above (end_of n) ns laid.2 in let e : n.offset ≡ at = laid.0 in omega arith

pub laid_end_each : (at : ℕ) (ns : List NoteParts) (n : NoteParts) → AreNotesLaid at ns → In n ns
    → end_of n ≤ laid_end at ns
laid_end_each at [] n laid i = absurd i
laid_end_each at (m ∷ ns) n laid (inl e) =
    let ih = laid_end_above (end_of m) ns laid.2 in
    let same : end_of n ≡ end_of m = ap end_of e in omega arith
laid_end_each at (m ∷ ns) n laid (inr i) = laid_end_each (end_of m) ns n laid.2 i

pub laid_end_within : (at bound : ℕ) (ns : List NoteParts) → at ≤ bound
    → ((n : NoteParts) → In n ns → end_of n ≤ bound) → laid_end at ns ≤ bound
laid_end_within at bound [] h each = h
laid_end_within at bound (n ∷ ns) h each =
    laid_end_within (end_of n) bound ns (each n (inl refl)) (λ m i. each m (inr i))

no_heads : (at : ℕ) → heads_at at [] ≡ []
unfolding heads_at head_at
no_heads at = refl

end_stop : (at : ℕ) → End ≡ stop_of at []
unfolding stop_of
end_stop at = refl

dropped : (xs : List ℕ) (a b c : ℕ) → a + b ≡ c → drop b (drop a xs) ≡ drop c xs
dropped xs a b c e = drop-drop b a xs ∙ ap (λ k. drop k xs) e

-- what a note holds of bytes from the first on
held_front : (m : NoteParts) (xs : List ℕ) (k : ℕ) → m.offset ≡ k → held_in m 0 xs ≡ take (held_size m) (drop k xs)
unfolding held_in
held_front m xs k e =
    let z : m.offset - 0 ≡ k = omega arith in ap (λ j. take (held_size m) (drop j xs)) z

pub read_said : (all : List ℕ) (at : ℕ) (ns : List NoteParts) → AreNotesLaid at ns
    → ((n : NoteParts) → In n ns → IsNote n × IsSaidBy n (held_in n 0 all)) → laid_end at ns ≡ length all
    → length all ≤ greatest_end → (notes_in at (drop at all) ≡ ns) × (stop_in at (drop at all) ≡ End)
read_said all at [] laid each e within =
    let none : drop at all ≡ [] = drop_all at all (omega arith) in
    let read = ends_at at [] End (none_at_end at [] (omega arith)) (end_stop at) in
    subst (λ l. (notes_in at l ≡ []) × (stop_in at l ≡ End)) (sym none) (read.notes ∙ no_heads at, read.stop)
read_said all at (n ∷ ns) laid each e within =
    let bytes = drop at all in
    let own = each n (inl refl) in
    let offset : n.offset ≡ at = laid.0 in
    let sized : held_size n ≡ front_size n + n.length =
    ap (λ b. cond b (front_size n + n.length) (front_size n)) laid.1 in
    let reach = laid_end_above (end_of n) ns laid.2 in
    let front = take (held_size n) bytes in
    let there : held_in n 0 all ≡ front = held_front n all at offset in
    let long : length front ≡ held_size n = omega (arith, length-take (held_size n) bytes, length-drop at all) in
    let said : IsSaidBy n front = subst (IsSaidBy n) there own.1 in
    let p = packet_parts n.key n.width (drop (front_size n) front) in
    let spelled = said_is_spelled n front own.0 laid.1 said long in
    let size : size_of p ≡ held_size n = said_size n front own.0 laid.1 said long in
    let given : packet_at at bytes ≡ Some p = packet_at-given at bytes front (drop (held_size n) bytes) p spelled
    (sym (take-append-drop (held_size n) bytes)) (omega arith) in
    let next = goes_on at bytes p (held_size n) given (sym size) in
    let note : note_of at p ≡ n = ap (λ k. note_of k p) (sym offset) ∙ said_note n front own.0 laid.1 said long in
    let behind : drop (held_size n) bytes ≡ drop (end_of n) all =
    dropped all at (held_size n) (end_of n) (omega arith) in
    let place : at + held_size n ≡ end_of n = omega arith in
    let ih = read_said all (end_of n) ns laid.2 (λ m i. each m (inr i)) e within in (
      next.notes ∙ ap (λ l. note_of at p ∷ l) (ap (λ l. notes_in (at + held_size n) l) behind
          ∙ ap (λ k. notes_in k (drop (end_of n) all)) place ∙ ih.0) ∙ ap (λ x. x ∷ ns) note,
      next.stop ∙ ap (λ l. stop_in (at + held_size n) l) behind
          ∙ ap (λ k. stop_in k (drop (end_of n) all)) place ∙ ih.1,
    )

-- ---- packets that are laid, beside their notes

held_as : (k : ℕ) (q : PacketParts) (xs : List ℕ) → held_in (note_of k q) 0 xs ≡ take (size_of q) (drop k xs)
unfolding held_in
held_as k q xs = let z : k - 0 ≡ k = omega arith in ap (λ j. take (size_of q) (drop j xs)) z

reached : (k size : ℕ) (xs front after : List ℕ) → length front ≡ size → drop k xs ≡ front ++ after → 16 ≤ size
    → k + size ≤ length xs
reached k size xs front after l e some =
    let all = ap length e in omega (arith, all, length-drop k xs, length-append front after)

spelled_bytes : (xs : List ℕ) (k : ℕ) (front after : List ℕ) (q : PacketParts) (t : IsSpelledPacket front q)
    → drop k xs ≡ front ++ after → AreBytes xs → AreBytes t.spelled
spelled_bytes xs k front after q t e are =
    let width = spelled_len t.spelled q.width (length q.value) t.width in
    let whole : take (length front) (drop k xs) ≡ front = ap (take (length front)) e
    ∙ take_at front after (length front) refl in
    let tail : drop 16 front ≡ t.spelled ++ q.value = ap (drop 16) t.whole
    ∙ drop_at q.key (t.spelled ++ q.value) 16 t.label.0 in
    let part : take q.width (drop 16 front) ≡ t.spelled = ap (take q.width) tail
    ∙ take_at t.spelled q.value q.width width in
    subst AreBytes part (AreBytes-take q.width (drop 16 front) (AreBytes-drop 16 front
    (subst AreBytes whole (AreBytes-take (length front) (drop k xs) (AreBytes-drop k xs are)))))

-- what stands in bytes for the note of a packet that stands there
laid_said : (all : List ℕ) (at : ℕ) (ps : List PacketParts) → AreBytes all → AreLaid at (drop at all) ps []
    → (n : NoteParts) → In n (notes_from at ps) → IsAmong n 0 all × IsSaidBy n (held_in n 0 all)
laid_said all at [] are laid n i = absurd i
laid_said all at (p ∷ ps) are (front, after, s, is, within, laid) n (inr i) =
    let left : after ≡ drop (at + size_of p) all = sym (sym (drop-drop (size_of p) at all) ∙ ap (drop (size_of p)) is
    ∙ drop_at front after (size_of p) (length-spelled front p s)) in
    laid_said all (at + size_of p) ps are (subst (λ l. AreLaid (at + size_of p) l ps []) left laid) n i
laid_said all at (p ∷ ps) are (front, after, s, is, within, laid) n (inl e) =
    let m = note_of at p in
    let size = length-spelled front p s in
    let width = spelled_len s.spelled p.width (length p.value) s.width in
    let label = s.label.0 in
    let held : held_in m 0 all ≡ front =
    held_as at p all ∙ ap (take (size_of p)) is ∙ take_at front after (size_of p) size in
    let whole = ap length is in
    let reach = reached at (size_of p) all front after size is (omega arith) in
    let ahead : IsAmong m 0 all = record { from = omega arith; to = omega (arith, reach) } in
    let spelling : s.spelled ≡ length_bytes p.width (length p.value) =
    spelled-length_bytes s.spelled p.width (length p.value) (spelled_bytes all at front after p s is are) s.width in
    let ahead_value : take (16 + p.width) front ≡ p.key ++ s.spelled =
    ap (take (16 + p.width)) (s.whole ∙ sym (append_assoc p.key s.spelled p.value))
    ∙ take_at (p.key ++ s.spelled) p.value (16 + p.width)
    (omega (arith, length-append p.key s.spelled, width, label)) in
    let value : drop (16 + p.width) front ≡ p.value =
    ap (drop (16 + p.width)) (s.whole ∙ sym (append_assoc p.key s.spelled p.value))
    ∙ drop_at (p.key ++ s.spelled) p.value (16 + p.width)
    (omega (arith, length-append p.key s.spelled, width, label)) in
    let said : IsSaidBy m front = record {
      front = ahead_value ∙ ap (λ l. p.key ++ l) spelling;
      value = λ w. ap (λ v. cond (keeps p.key (length p.value)) v (sha256 v)) value;
    } in
    subst (λ x. IsAmong x 0 all × IsSaidBy x (held_in x 0 all)) (sym e) (ahead, subst (IsSaidBy m) (sym held) said)

-- each byte of packets that are laid is one of their notes
laid_covers : (all : List ℕ) (at : ℕ) (ps : List PacketParts) → AreLaid at (drop at all) ps [] → (x : ℕ) → at ≤ x
    → x < length all → (n : NoteParts) × In n (notes_from at ps) × IsCovered n x
laid_covers all at [] laid x from to =
    let none : length (drop at all) ≡ 0 = ap length laid in absurd (omega (arith, none, length-drop at all))
laid_covers all at (p ∷ ps) (front, after, s, is, within, laid) x from to =
    elim (cases_lt x (at + size_of p)) [
      | inl l ↦ (note_of at p, inl refl, record { from = from; before = omega arith })
      | inr past ↦ (
          let left : after ≡ drop (at + size_of p) all = sym
          (sym (drop-drop (size_of p) at all) ∙ ap (drop (size_of p)) is
          ∙ drop_at front after (size_of p) (length-spelled front p s)) in
          let h = laid_covers all (at + size_of p) ps
          (subst (λ l. AreLaid (at + size_of p) l ps []) left laid) x past to in
          (h.0, inr h.1, h.2))
    ]

-- where a piece ends with its last packet, its notes are those of its packets, and these are all its bytes
pub read_all : (bytes : List ℕ) → AreBytes bytes → stop_in 0 bytes ≡ End
    → ((n : NoteParts) → In n (notes_in 0 bytes) → IsAmong n 0 bytes × IsSaidBy n (held_in n 0 bytes))
    × ((x : ℕ) → x < length bytes → (n : NoteParts) × In n (notes_in 0 bytes) × IsCovered n x)
read_all bytes are stop =
    let ps = packets_in 0 bytes in
    let piece = some_piece 0 bytes in
    let none : rest_in 0 bytes ≡ [] = (one_stop_in 0 bytes ps (rest_in 0 bytes) End piece).0 stop in
    let laid : AreLaid 0 bytes ps [] = subst (λ r. AreLaid 0 bytes ps r) none piece.laid in
    let notes : notes_in 0 bytes ≡ notes_from 0 ps = ap (λ r. notes_from 0 ps ++ heads_at (end_after 0 ps) r) none
    ∙ ap (λ l. notes_from 0 ps ++ l) (no_heads (end_after 0 ps)) ∙ append-nil (notes_from 0 ps) in (
      λ n i. laid_said bytes 0 ps are laid n (subst (In n) notes i),
      λ x h.
          let c = laid_covers bytes 0 ps laid x (omega arith) h in
          (c.0, subst (In c.0) (sym notes) c.1, c.2),
    )
