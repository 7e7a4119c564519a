-- The head of a packet, and what stands behind it.
use Rattle.mxf_klv.proofs.Common.{Option, None, Some, SomeIff, ok_or, ◌≡◌, ℕ, ◌+◌, ◌-◌, ◌<◌, ◌≤◌, List, ◌++◌, length}
use Rattle.mxf_klv.proofs.Common.{take, drop, replicate, Ok, Err, sym, ap, subst, ◌∙◌, arith, length-append}
use Rattle.mxf_klv.proofs.Common.{append_assoc, take_at, drop_at, take_all, take-append-drop, take-take, length-take}
use Rattle.mxf_klv.proofs.Common.{length-replicate, LengthParts, PacketParts, packet_parts, label_start, IsLabel}
use Rattle.mxf_klv.proofs.Common.{BeginsAsLabel, ReadsLength, IsSpelledPacket, IsCutPacket, ReadsPacket, packet_fault}
use Rattle.mxf_klv.proofs.Common.{BeginsWithKeyAndLength, HasNoKeyAndLength, ReadsKeyAndLength}
use Rattle.mxf_klv.specs.declared.ber.BerFault.{BerFault}
use Rattle.mxf_klv.proofs.LengthLemmas.{spelled_len, one_reading}
use Rattle.mxf_klv.proofs.PacketLemmas.{key_cut, length_fault}
use Rattle.mxf_klv.specs.declared.packet.PacketFault.TheVariants as faults

-- a label and a whole length behind it are a head
pub head_of : (bytes : List ℕ) (l : LengthParts) → IsLabel (take 16 bytes) → ReadsLength (drop 16 bytes) (Ok l)
    → BeginsWithKeyAndLength bytes (take 16 bytes) l (drop l.width (drop 16 bytes))
head_of bytes l label spells = grind (arith, take-append-drop)

module _ {bytes key : List ℕ} {l : LengthParts} {after : List ℕ} (h : BeginsWithKeyAndLength bytes key l after) where
  pub head-past_key : drop 16 bytes ≡ h.spelled ++ after
  head-past_key = ap (drop 16) h.whole ∙ drop_at key (h.spelled ++ after) 16 h.label.0

  pub head-width : length h.spelled ≡ l.width
  head-width = spelled_len h.spelled l.width l.value h.width

  -- the number of its bytes and of those after it
  pub head-size : length bytes ≡ 16 + l.width + length after
  head-size = grind (arith, length-append)

  -- the length stands at place 16
  pub head-length : ReadsLength (drop 16 bytes) (Ok l)
  head-length = grind (arith, head-past_key, take_at)

  pub head-begins : BeginsAsLabel bytes
  head-begins = grind (arith, take_all)

  regrouped : (xs ys : List ℕ) → key ++ (h.spelled ++ (xs ++ ys)) ≡ (key ++ (h.spelled ++ xs)) ++ ys
  regrouped xs ys = simp append_assoc

  -- the packet, where its value is whole
  pub head-packet : l.value ≤ length after
      → ReadsPacket bytes (Ok (packet_parts key l.width (take l.value after), 16 + l.width + l.value))
  head-packet room =
      let value = take l.value after in
      let front = key ++ (h.spelled ++ value) in
      let len : length value ≡ l.value = omega (arith, length-take l.value after) in
      let size : length front ≡ 16 + l.width + l.value =
      omega (arith, head-width, h.label.0, length-append key (h.spelled ++ value), length-append h.spelled value) in
      let all : bytes ≡ front ++ drop l.value after =
      h.whole ∙ ap (λ (t : List ℕ). key ++ (h.spelled ++ t)) (sym (take-append-drop l.value after)) ∙ regrouped value
      (drop l.value after) in
      let whole : take (16 + l.width + l.value) bytes ≡ front = ap (take (16 + l.width + l.value)) all ∙ take_at front
      (drop l.value after) (16 + l.width + l.value) size in
      let long = head-size in
      (omega arith, record { spelled = h.spelled; label = h.label; width = rw len h.width; whole = whole })

  -- and the cut packet, where its value is cut
  pub head-cut : length after < l.value → IsCutPacket bytes
  head-cut short =
      let more = replicate (l.value - length after) 0 in
      let lens : length more ≡ l.value - length after = length-replicate (l.value - length after) 0 in
      let len : length (after ++ more) ≡ l.value = omega (arith, length-append after more) in
      record {
        more = more;
        packet = packet_parts key l.width (after ++ more);
        some = omega arith;
        spells = record {
          spelled = h.spelled;
          label = h.label;
          width = rw len h.width;
          whole = ap (λ (t : List ℕ). t ++ more) h.whole ∙ simp append_assoc;
        };
      }

-- the head of a packet, whatever follows
pub head_in : (text rest : List ℕ) (p : PacketParts) → IsSpelledPacket text p
    → BeginsWithKeyAndLength (text ++ rest) p.key (record { width = p.width; value = length p.value }) (p.value ++ rest)
head_in text rest p s = grind (arith, append_assoc)

-- where key and length are as the code reads them
pub head_at_front : (bytes start rest after key : List ℕ) (w : ℕ) (l : LengthParts) → start ≡ take 16 bytes
    → rest ≡ drop 16 bytes
    → after ≡ drop w rest → w ≡ l.width → length rest + 16 ≡ length bytes → take 4 start ≡ label_start → key ≡ start
    → ReadsLength rest (Ok l) → BeginsWithKeyAndLength bytes key l after
head_at_front bytes start rest after key w l start-is rest-is after-is w-is size begins key-is reads =
    grind (arith, head_of bytes l)

-- sixteen bytes or more that begin as a label
pub begins_long : (bytes : List ℕ) → take 4 bytes ≡ label_start → 16 ≤ length bytes → BeginsAsLabel bytes
begins_long bytes e long = e ∙ sym (take_all (length bytes) label_start (omega arith))

-- where the length is at fault there is no head
pub no_head : (bytes : List ℕ) (e : BerFault) → ReadsLength (drop 16 bytes) (Err e) → HasNoKeyAndLength bytes
no_head bytes e p key after l h = let same = one_reading (drop 16 bytes) (Ok l) (Err e) (head-length h) p in cc

pub no_head_short : (bytes : List ℕ) → length bytes < 16 → HasNoKeyAndLength bytes
no_head_short bytes short key after l h = let size = head-size h in omega arith

pub no_head_begins : (bytes : List ℕ) → ¬ BeginsAsLabel bytes → HasNoKeyAndLength bytes
no_head_begins bytes n key after l h = n (head-begins h)

-- the exits of the reader of heads
pub head_short : (bytes : List ℕ) → length bytes < 16 → BeginsAsLabel bytes → ReadsKeyAndLength bytes (Err faults.Short)
head_short bytes short h = (key_cut bytes h short, no_head_short bytes short)

pub head_not_ul : (bytes : List ℕ) → ¬ BeginsAsLabel bytes → ReadsKeyAndLength bytes (Err faults.NotUl)
head_not_ul bytes n = (n, no_head_begins bytes n)

pub head_fault : (bytes start rest : List ℕ) (e : BerFault) → start ≡ take 16 bytes → rest ≡ drop 16 bytes
    → length rest + 16 ≡ length bytes
    → take 4 start ≡ label_start → ReadsLength rest (Err e) → ReadsKeyAndLength bytes (Err (packet_fault e))
head_fault bytes start rest e start-is rest-is size begins reads =
    let at : ReadsLength (drop 16 bytes) (Err e) = subst (λ (t : List ℕ). ReadsLength t (Err e)) rest-is reads in (
      length_fault bytes e
          (begins_long bytes (sym (ap (take 4) start-is ∙ take-take 4 16 bytes (omega arith)) ∙ begins) (omega arith))
          (omega arith) at,
      no_head bytes e at,
    )

-- what `read_packet` makes of a head: the packet, or its value is cut
pub value_read : (bytes key after : List ℕ) (l : LengthParts) (r : Option (PacketParts × ℕ))
    → BeginsWithKeyAndLength bytes key l after
    → SomeIff r (l.value ≤ length after) (packet_parts key l.width (take l.value after), 16 + l.width + l.value)
    → ReadsPacket bytes (ok_or r faults.Short)
value_read bytes key after l None h cut = head-cut h (omega (arith, cut))
value_read bytes key after l (Some x) h whole = grind (arith, head-packet h whole.0)
