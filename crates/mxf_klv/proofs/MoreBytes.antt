-- A piece to which more bytes come: the packets that stood stay, and so does a stop behind which it can't go on.
use Rattle.mxf_klv.proofs.Common.{◌≡◌, ℕ, ◌+◌, ◌-◌, ◌<◌, ◌≤◌, List, [], ◌∷◌, ◌++◌, length, take, drop, None, Some, Err}
use Rattle.mxf_klv.proofs.Common.{refl, sym, ap, subst, ◌∙◌, arith, inl, inr, append_assoc, append-nil, length-append}
use Rattle.mxf_klv.proofs.Common.{length-drop, slice_get, IsSomeAnd, take_at, take_all, take-take, drop-append-le}
use Rattle.mxf_klv.proofs.Common.{nil_from_length, take-append-add, cases_lt, LengthParts, PacketParts, packet_parts}
use Rattle.mxf_klv.proofs.Common.{label_start, BeginsAsLabel, IsSpelledLength, IsCutPacket, IsSpelledPacket}
use Rattle.mxf_klv.proofs.Common.{ReadsPacket, size_of, BeginsWithKeyAndLength, HasNoKeyAndLength, greatest_end}
use Rattle.mxf_klv.proofs.Common.{note_of, BeginsWithNone, IsStop, end_after, notes_from, IsOpen, packet_at, packets_in}
use Rattle.mxf_klv.proofs.Common.{rest_in, stop_in, stop_of}
use Rattle.mxf_klv.specs.declared.packet.PacketFault.{PacketFault}
use Rattle.mxf_klv.specs.declared.piece.Stop.{Stop}
use Rattle.mxf_klv.specs.declared.piece.Stop.TheVariants.{End, NotUl, BadLength, TooFar, Truncated, NoStart}
use Rattle.std.proofs.Common.{length-take}
use Rattle.mxf_klv.specs.Piece.{AreLaid}
use Rattle.mxf_klv.proofs.KeyAndLengthLaws.{head_in, head-size}
use Rattle.mxf_klv.proofs.PieceLaws.{none-packet_at, one_piece, packet_at-fault, packet_at-given, packet_at-none}
use Rattle.mxf_klv.proofs.PieceLaws.{packets_in-none, packets_in-some, rest_in-none, rest_in-some, some_piece}
use Rattle.mxf_klv.proofs.PieceLaws.{none_at_end}
use Rattle.mxf_klv.proofs.StopLaws.{Stopped, at_far, one_stop, stops}
use Rattle.mxf_klv.specs.declared.packet.PacketFault.TheVariants as faults

-- ---- lists

take_past : (n : ℕ) (xs ys : List ℕ) (k : ℕ) → length xs ≡ k → k ≤ n → take n (xs ++ ys) ≡ xs ++ take (n - k) ys
take_past n xs ys k e h = grind (arith, take-append-add xs ys (n - k))

take_both : (n : ℕ) (r x : List ℕ) → take (length r) (take n (r ++ x)) ≡ take n r
take_both n r x = grind (arith, length-take, take-take, take_all, take_at)

nothing_taken : (n : ℕ) (xs : List ℕ) → take (n - n) xs ≡ []
nothing_taken n xs = let none : n - n ≡ 0 = omega arith in ap (λ (k : ℕ). take k xs) none

-- ---- the seam

end_after-append : (o : ℕ) (ps qs : List PacketParts) → end_after o (ps ++ qs) ≡ end_after (end_after o ps) qs
end_after-append o [] qs = refl
end_after-append o (p ∷ ps) qs = end_after-append (o + size_of p) ps qs

-- the notes of more packets stand behind those before
pub notes_from-append : (o : ℕ) (ps qs : List PacketParts)
    → notes_from o (ps ++ qs) ≡ notes_from o ps ++ notes_from (end_after o ps) qs
notes_from-append o [] qs = refl
notes_from-append o (p ∷ ps) qs = grind (arith, notes_from-append (o + size_of p) ps qs)

laid_more : (o : ℕ) (m r b s : List ℕ) (ps qs : List PacketParts) → AreLaid o m ps r
    → AreLaid (end_after o ps) (r ++ b) qs s → AreLaid o (m ++ b) (ps ++ qs) s
laid_more o m r b s [] qs a h = subst (λ (t : List ℕ). AreLaid o (t ++ b) qs s) (sym a) h
laid_more o m r b s (p ∷ ps) qs a h =
    let (front, after, spelled, is, within, laid) = a in (
      front,
      after ++ b,
      spelled,
      ap (λ (t : List ℕ). t ++ b) is ∙ append_assoc front after b,
      within,
      laid_more (o + size_of p) after r b s ps qs laid h,
    )

-- What more bytes make of a piece, by its packets and its rest.
pub record Joined (o : ℕ) (m b : List ℕ) : Type 0 where
  pub packets : packets_in o (m ++ b) ≡ packets_in o m ++ packets_in (end_after o (packets_in o m)) (rest_in o m ++ b)
  pub rest : rest_in o (m ++ b) ≡ rest_in (end_after o (packets_in o m)) (rest_in o m ++ b)

pub seam : (o : ℕ) (m b : List ℕ) → Joined o m b
seam o m b =
    let ps = packets_in o m in
    let r = rest_in o m in
    let at = end_after o ps in
    let i = some_piece o m in
    let j = some_piece at (r ++ b) in
    let one = one_piece o (m ++ b) (ps ++ packets_in at (r ++ b)) (rest_in at (r ++ b)) (record {
      laid = laid_more o m r b (rest_in at (r ++ b)) ps (packets_in at (r ++ b)) i.laid j.laid;
      ended = subst (λ (e : ℕ). BeginsWithNone e (rest_in at (r ++ b)))
          (sym (end_after-append o ps (packets_in at (r ++ b)))) j.ended;
    }) in
    record { packets = sym one.0; rest = sym one.1 }

-- the next packet isn't whole
pub none_more : (o : ℕ) (m b : List ℕ) → packet_at (end_after o (packets_in o m)) (rest_in o m ++ b) ≡ None
    → (packets_in o (m ++ b) ≡ packets_in o m) × (rest_in o (m ++ b) ≡ rest_in o m ++ b)
none_more o m b e =
    let s = seam o m b in
    let at = end_after o (packets_in o m) in
    let t = rest_in o m ++ b in (
      s.packets ∙ ap (λ (qs : List PacketParts). packets_in o m ++ qs) (packets_in-none at t e)
          ∙ append-nil (packets_in o m),
      s.rest ∙ rest_in-none at t e,
    )

-- What is known where one packet more is whole, and nil_from_length behind it has come.
pub record OneMore (o : ℕ) (m b : List ℕ) (p : PacketParts) : Type 0 where
  pub notes : notes_from o (packets_in o (m ++ b))
      ≡ notes_from o (packets_in o m) ++ note_of (end_after o (packets_in o m)) p ∷ []
  pub at : end_after o (packets_in o (m ++ b)) ≡ end_after o (packets_in o m) + size_of p
  pub rest : rest_in o (m ++ b) ≡ []

pub one_more : (o : ℕ) (m b : List ℕ) (p : PacketParts)
    → packet_at (end_after o (packets_in o m)) (rest_in o m ++ b) ≡ Some p → size_of p ≡ length (rest_in o m ++ b)
    → OneMore o m b p
one_more o m b p e whole =
    let s = seam o m b in
    let ps = packets_in o m in
    let at = end_after o ps in
    let t = rest_in o m ++ b in
    let after = drop (size_of p) t in
    let none : packet_at (at + size_of p) after ≡ None = none_at_end (at + size_of p) after (omega (
      arith,
      length-drop (size_of p) t,
    )) in
    let packets : packets_in o (m ++ b) ≡ ps ++ p ∷ [] =
    s.packets ∙ ap (λ (qs : List PacketParts). ps ++ qs) (packets_in-some at t p e)
    ∙ ap (λ (qs : List PacketParts). ps ++ p ∷ qs) (packets_in-none (at + size_of p) after none) in
    record {
      notes = ap (notes_from o) packets ∙ notes_from-append o ps (p ∷ []);
      at = ap (end_after o) packets ∙ end_after-append o ps (p ∷ []);
      rest = s.rest ∙ rest_in-some at t p e ∙ rest_in-none (at + size_of p) after none ∙ nil_from_length after (omega
          (arith, length-drop (size_of p) t));
    }

-- ---- heads

pub more_head : (r key : List ℕ) (l : LengthParts) (after x : List ℕ) → BeginsWithKeyAndLength r key l after
    → BeginsWithKeyAndLength (r ++ x) key l (after ++ x)
more_head r key l after x h = grind (arith, append_assoc)

-- where there is no whole key and length there is no packet
pub no_head_no_packet : (at : ℕ) (r : List ℕ) → HasNoKeyAndLength r → packet_at at r ≡ None
no_head_no_packet at r none = none-packet_at at r (λ front after p s is.
    absurd (none p.key (p.value ++ after) (record { width = p.width; value = length p.value })
    (subst (λ (t : List ℕ). BeginsWithKeyAndLength t p.key (record { width = p.width; value = length p.value }) (p.value
    ++ after)) (sym is) (head_in front after p s))))

-- A value that has come whole makes a packet, behind which nil_from_length has come.
pub record IsWholePacket (at : ℕ) (r key : List ℕ) (l : LengthParts) (after : List ℕ) : Type 0 where
  pub stands : packet_at at r ≡ Some (packet_parts key l.width after)
  pub size : size_of (packet_parts key l.width after) ≡ length r

pub whole_value : (at : ℕ) (r key : List ℕ) (l : LengthParts) (after : List ℕ) → BeginsWithKeyAndLength r key l after
    → at + (16 + l.width + l.value) ≤ greatest_end → length after ≡ l.value → IsWholePacket at r key l after
whole_value at r key l after h near e =
    let size = head-size h in
    let p = packet_parts key l.width after in
    let spelled : IsSpelledPacket r p = record {
      spelled = h.spelled;
      label = h.label;
      width = subst (λ (n : ℕ). IsSpelledLength h.spelled l.width n) (sym e) h.width;
      whole = h.whole;
    }
    in
    record { stands = packet_at-given at r r [] p spelled (sym (append-nil r)) (omega arith); size = omega arith }

-- ---- what has come of a head

-- the window on the front of what is to come has a head that what had come lacked
pub record IsHeadNow (r x key : List ℕ) (l : LengthParts) : Type 0 where
  pub below : length r < 16 + l.width
  pub room : 16 + l.width ≤ length r + length x
  pub begins : BeginsWithKeyAndLength (r ++ take (16 + l.width - length r) x) key l []

head_front : (r key : List ℕ) (l : LengthParts) (after : List ℕ) (n : ℕ) → BeginsWithKeyAndLength r key l after
    → 16 + l.width ≤ n → BeginsWithKeyAndLength (take n r) key l (take (n - (16 + l.width)) after)
head_front r key l after n h long =
    grind (
      arith,
      length-append key h.spelled,
      append_assoc key h.spelled after,
      take_past n (key ++ h.spelled) after (16 + l.width),
      append_assoc key h.spelled (take (n - (16 + l.width)) after),
    )

pub head_now : (r x key : List ℕ) (count : ℕ) (l : LengthParts) (after : List ℕ) → HasNoKeyAndLength r
    → BeginsWithKeyAndLength (r ++ take count x) key l after → IsHeadNow r x key l
head_now r x key count l after none h =
    let y = take count x in
    let used = 16 + l.width - length r in
    let size = head-size h in
    let both = length-append r y in
    let most = length-take count x in
    elim (cases_lt (length r) (16 + l.width)) [
      | inl below ↦ record {
        below = below;
        room = omega arith;
        begins =
            let front = head_front (r ++ y) key l after (16 + l.width) h (omega arith) in
            let cut : take (16 + l.width) (r ++ y) ≡ r ++ take used x =
            take_past (16 + l.width) r y (length r) refl (omega arith)
            ∙ ap (λ (t : List ℕ). r ++ t) (take-take used count x (omega arith)) in
            let emptied : take (16 + l.width - (16 + l.width)) after ≡ [] = nothing_taken (16 + l.width) after in
            subst (λ (t : List ℕ). BeginsWithKeyAndLength t key l []) cut
            (subst (λ (t : List ℕ). BeginsWithKeyAndLength (take (16 + l.width) (r ++ y)) key l t) emptied front);
      }
      | inr long ↦ absurd (none key (take (length r - (16 + l.width)) after) l
          (subst (λ (t : List ℕ). BeginsWithKeyAndLength t key l (take (length r - (16 + l.width)) after))
          (take_at r y (length r) refl) (head_front (r ++ y) key l after (length r) h long)))
    ]

-- the stop of a rest that begins with no key and length
pub stop_is : (at : ℕ) (r : List ℕ) (s : Stop) → HasNoKeyAndLength r → stop_of at r ≡ s → IsStop at r s
stop_is at r s none e = (one_stop at r s (packet_at-none at r (no_head_no_packet at r none))).0 e

pub spelled_width : (spelled : List ℕ) (w v : ℕ) → IsSpelledLength spelled w v → w ≤ 9
spelled_width spelled w v h = grind arith

few_cut : (r : List ℕ) → HasNoKeyAndLength r → IsCutPacket r → length r ≤ 24
few_cut r none c =
    let p = c.packet in
    let s = c.spells in
    let l : LengthParts = record { width = p.width; value = length p.value } in
    let h : BeginsWithKeyAndLength (r ++ c.more) p.key l p.value =
    record { spelled = s.spelled; label = s.label; width = s.width; whole = s.whole } in
    let nine = spelled_width s.spelled p.width (length p.value) s.width in
    elim (cases_lt (length r) (16 + p.width)) [
      | inl below ↦ omega arith
      | inr long ↦ absurd (none p.key (take (length r - (16 + p.width)) p.value) l
          (subst (λ (t : List ℕ). BeginsWithKeyAndLength t p.key l (take (length r - (16 + p.width)) p.value))
          (take_at r c.more (length r) refl) (head_front (r ++ c.more) p.key l p.value (length r) h long)))
    ]

-- bytes that may go on and have no head are few
pub few_without_head : (at : ℕ) (r : List ℕ) → HasNoKeyAndLength r → IsOpen (stop_of at r) → length r ≤ 24
few_without_head at r none cut =
    elim (stop_of at r) as (λ s. stop_of at r ≡ s → IsOpen s → length r ≤ 24) [
      | End ↦ λ e o. (let is = stop_is at r End none e in let len = ap length is in omega arith)
      | Truncated place ↦ λ e o. few_cut r none (stop_is at r (Truncated place) none e).2
      | NotUl place ↦ λ e o. absurd o
      | BadLength place ↦ λ e o. absurd o
      | TooFar place ↦ λ e o. absurd o
      | NoStart place ↦ λ e o. absurd o
    ] refl cut

-- ---- a stop behind which the piece can't go on

-- More bytes leave such a stop as it is.
pub record Stays (at : ℕ) (r x : List ℕ) : Type 0 where
  pub none : packet_at at (r ++ x) ≡ None
  pub stop : stop_of at (r ++ x) ≡ stop_of at r

begins_less : (r x : List ℕ) → BeginsAsLabel (r ++ x) → BeginsAsLabel r
begins_less r x h =
    let both = length-append r x in
    sym (take_both 4 r x) ∙ ap (take (length r)) h ∙ take-take (length r) (length (r ++ x)) label_start (omega arith)

stays_by : (at : ℕ) (r x : List ℕ) (s : Stop) → stop_of at r ≡ s → Stopped at (r ++ x) s → Stays at r x
stays_by at r x s e t = let w = stops at (r ++ x) s t in record { none = w.0; stop = sym w.1 ∙ sym e }

stays_fault : (at : ℕ) (r x : List ℕ) (f : PacketFault) (s : Stop) → stop_of at r ≡ s → ReadsPacket (r ++ x) (Err f)
    → IsStop at (r ++ x) s → Stays at r x
stays_fault at r x f s e reads is =
    stays_by at r x s e (record { none = packet_at-none at (r ++ x) (packet_at-fault at (r ++ x) f reads); is = is })

long_begins : (r x : List ℕ) → BeginsAsLabel r → 4 ≤ length r → BeginsAsLabel (r ++ x)
long_begins r x h long = grind (arith, take_all)

first_of : (xs ys : List ℕ) (b : ℕ) → slice_get xs 0 ≡ Some b → slice_get (xs ++ ys) 0 ≡ Some b
first_of [] ys b e = absurd cc
first_of (x ∷ xs) ys b e = e

some_first : (xs : List ℕ) (b : ℕ) → slice_get xs 0 ≡ Some b → (n : ℕ) → length xs ≡ n - 16 → 16 < n
some_first [] b e n l = absurd cc
some_first (x ∷ xs) b e n l = omega (arith, l)

past_16 : (r : List ℕ) (b : ℕ) → slice_get (drop 16 r) 0 ≡ Some b → 16 < length r
past_16 r b e = some_first (drop 16 r) b e (length r) (length-drop 16 r)

-- the first byte of a length stays
first_stays : (r x : List ℕ) (b : ℕ) → slice_get (drop 16 r) 0 ≡ Some b
    → (16 < length r) × (slice_get (drop 16 (r ++ x)) 0 ≡ Some b)
first_stays r x b e =
    let long : 16 < length r = past_16 r b e in
    (long, ap (λ (t : List ℕ). slice_get t 0) (drop-append-le 16 r x (omega arith)) ∙ first_of (drop 16 r) x b e)

wide_stays : (r x : List ℕ) → BeginsAsLabel r → IsSomeAnd (slice_get (drop 16 r) 0) (λ first. 136 < first)
    → ReadsPacket (r ++ x) (Err faults.TooWide)
wide_stays r x begins h = grind (arith, long_begins)

pub stays : (at : ℕ) (r x : List ℕ) (s : Stop) → packet_at at r ≡ None → stop_of at r ≡ s → ¬ IsOpen s → Stays at r x
stays at r x End none e o = absurd (o tt)
stays at r x (Truncated place) none e o = absurd (o tt)
stays at r x (NotUl place) none e o =
    let is = (one_stop at r (NotUl place) (packet_at-none at r none)).0 e in
    let not : ¬ BeginsAsLabel (r ++ x) = λ h. is.1 (begins_less r x h) in
    stays_fault at r x faults.NotUl (NotUl place) e not (is.0, not)
stays at r x (BadLength place) none e o =
    grind (
      arith,
      one_stop at r (BadLength place) (packet_at-none at r none),
      first_stays r x 128,
      stays_fault at r x faults.Indefinite (BadLength place) e,
      wide_stays r x,
      stays_fault at r x faults.TooWide (BadLength place) e,
    )
stays at r x (TooFar place) none e o =
    let is = (one_stop at r (TooFar place) (packet_at-none at r none)).0 e in
    let (key, l, after, h, far) = is.1 in
    let same : TooFar at ≡ TooFar place = ap (λ (n : ℕ). TooFar n) (sym is.0) in
    stays_by at r x (TooFar at) (e ∙ sym same) (at_far at (r ++ x) key (after ++ x) l (more_head r key l after x h) far)
stays at r x (NoStart place) none e o = absurd ((one_stop at r (NoStart place) (packet_at-none at r none)).0 e)

-- the same of a whole piece: its packets and its stop
pub stop_stays : (o : ℕ) (m x : List ℕ) → ¬ IsOpen (stop_in o m)
    → (packets_in o (m ++ x) ≡ packets_in o m) × (stop_in o (m ++ x) ≡ stop_in o m)
stop_stays o m x final =
    let at = end_after o (packets_in o m) in
    let r = rest_in o m in
    let none = none-packet_at at r (some_piece o m).ended in
    let s = stays at r x (stop_in o m) none refl final in
    let j = none_more o m x s.none in (
      j.0,
      ap (λ (ps : List PacketParts). stop_of (end_after o ps) (rest_in o (m ++ x))) j.0 ∙ ap (stop_of at) j.1 ∙ s.stop,
    )
