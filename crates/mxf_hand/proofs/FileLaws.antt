-- Of a file's bytes only packets of the file are put together.
use Rattle.mxf_views.proofs.Common.{◌≡◌, ◌∙◌, ◌≤◌, ◌<◌, ◌+◌, ◌-◌, ◌&&◌, ◌++◌, ℕ, zero, suc, true, false, not, List, []}
use Rattle.mxf_views.proofs.Common.{◌∷◌, ◌==◌, Option, Some, ap, arith, cond, drop, filter, inl, inr, length}
use Rattle.mxf_views.proofs.Common.{append_assoc, get_or, length-append, map, refl, subst, sym, take}
use Rattle.mxf_views.proofs.Common.{take-append_seam, and_parts, cases_lt, length-map-range_with_len, same_Some}
use Rattle.mxf_views.proofs.Common.{slice_get-get_or, slice_get, range_with_len, LengthParts, NoteParts}
use Rattle.mxf_views.proofs.Common.{PacketParts, head_parts, packet_parts, BeginsWithKeyAndLength, covered_end, end_of}
use Rattle.mxf_views.proofs.Common.{head_note, note_of, size_of, AreLaid, BeginsWithCut, end_after, notes_from, rest_in}
use Rattle.mxf_views.proofs.Common.{In, spelled_len, In-append, In-filter, In-flat_map, In-map, notes_from-append, seam}
use Rattle.mxf_views.proofs.Common.{head_at-head, length-spelled, some_piece, spelled-length_bytes, has_note, IsCover}
use Rattle.mxf_views.proofs.Common.{LiesIn, has-reduced_union}
use Rattle.std.proofs.Common.{take-append-drop}
use Rattle.std.proofs.lemmas.List.{get_or-append_right, get_or_append_left, get_or_past}
use Rattle.mxf_klv.specs.Piece.{BeginsWithNone}
use Rattle.mxf_klv.specs.PieceReading.{packets_in as packets_of_piece}
use Rattle.mxf_klv.proofs.KeyAndLengthLaws.{head_in}
use Rattle.mxf_klv.proofs.PieceLaws.{one_piece}
use Rattle.mxf_hand.specs.Given.{bytes_between}
use Rattle.mxf_hand.specs.Noting.{cut_heads, packet_notes}
use Rattle.mxf_read.proofs.Pieces.{heads_few}
use Rattle.mxf_places.proofs.AtHandLaws.{has_offsets-says}
use Rattle.mxf_places.specs.Heads.{heads_to, is_head_to, start_of}
use Rattle.mxf_restore.specs.Sections.{sections_of}
use Rattle.mxf_restore.specs.declared.section.Section.{Section}
use Rattle.mxf_hand.specs.File.{AreBytesOfFile, AreOfFile, BeginAtPackets, IsAllAtHand, IsBoundary, IsOfFile}
use Rattle.mxf_hand.specs.Hand.{HandBytes, is_value_at_hand, packet_of, read_bytes, read_packets, read_to}
use Rattle.mxf_hand.specs.Heads.{fits, fitting}
use Rattle.mxf_hand.specs.Rounds.{heads_taken, is_taken, made_in, packets_in, put_together, read_heads_in}
use Rattle.mxf_hand.specs.Rounds.{read_heads_of, read_in, round, rounds, taken_in}
use Rattle.mxf_hand.specs.Sections.{ends_within, from_of, heads_of, made_by, made_of, packets_of, read_from}
use Rattle.mxf_hand.specs.declared.found.CutHead.{CutHead}
use Rattle.mxf_skim.specs.declared.scan.Scan.TheVariants.{Full}
use Rattle.mxf_hand.proofs.ClearLaws.{cut_head}
use Rattle.mxf_hand.proofs.HandLaws.{at_fits, read_lies}
use Rattle.mxf_hand.proofs.ScanLaws.{full_notes, full_packet}
use Rattle.std.proofs.lemmas.Bool.{not-true}
use Rattle.mxf_hand.proofs.PacketPlaces.{behind_place, first_below, front_of, laid_size}
use Rattle.mxf_places.proofs.LaidPlaces.{ends_below}

-- ---- bytes of a list, from an offset on

-- Behind a front the numbers go on.
pub behind_front : (xs ys : List ℕ) (i k : ℕ) → k ≡ length xs + i → slice_get (xs ++ ys) k ≡ slice_get ys i
behind_front [] ys i k e = ap (slice_get ys) (let is : k ≡ i = omega (arith, e) in is)
behind_front (x ∷ xs) ys i zero e = absurd (omega (arith, e))
behind_front (x ∷ xs) ys i (suc k) e = behind_front xs ys i k (omega (arith, e))

-- What a function says of so many offsets are the first bytes of a list.
front_is : (n q : ℕ) (f : ℕ → ℕ) (bytes : List ℕ)
    → ((i : ℕ) → i < n → slice_get bytes i ≡ Some (f (q + i))) → take n bytes ≡ map f (range_with_len q n)
front_is zero q f bytes all = refl
front_is (suc n) q f [] all = absurd (let none = all 0 (omega arith) in cc)
front_is (suc n) q f (b ∷ bytes) all =
    let start : q + 0 ≡ q = omega arith in
    let first : b ≡ f q = same_Some b (f (q + 0)) (all 0 (omega arith)) ∙ ap f start in
    let rest = front_is n (q + 1) f bytes (λ i l.
    let next : q + suc i ≡ q + 1 + i = omega arith in
    all (suc i) (omega arith) ∙ ap (λ (k : ℕ). Some (f k)) next) in
    λ i. first i ∷ rest i

-- ---- packets that are laid

-- Behind some packets lie the others.
pub record LaidBehind (o : ℕ) (bytes : List ℕ) (front back : List PacketParts) : Type 0 where
  pub before : List ℕ
  pub behind : List ℕ
  pub joined : bytes ≡ before ++ behind
  pub reached : o + length before ≡ end_after o front
  pub laid : AreLaid (end_after o front) behind back []

pub laid_behind : (o : ℕ) (bytes : List ℕ) (front back : List PacketParts) → AreLaid o bytes (front ++ back) []
    → LaidBehind o bytes front back
laid_behind o bytes [] back laid = record {
  before = [];
  behind = bytes;
  joined = refl;
  reached = omega arith;
  laid = laid;
}
laid_behind o bytes (p ∷ front) back (f, after, spelled, joined, within, laid) =
    let rest = laid_behind (o + size_of p) after front back laid in
    record {
      before = f ++ rest.before;
      behind = rest.behind;
      joined = joined ∙ ap (λ (t : List ℕ). f ++ t) rest.joined ∙ sym (append_assoc f rest.before rest.behind);
      reached = let size = length-spelled f p spelled in
          let reached = rest.reached in
          let both = length-append f rest.before in omega (arith, size, reached, both);
      laid = rest.laid;
    }

-- Where a note of packets that are laid stands.
pub record StandsIn (o : ℕ) (l : List PacketParts) (n : NoteParts) : Type 0 where
  pub front : List PacketParts
  pub packet : PacketParts
  pub back : List PacketParts
  pub parts : l ≡ front ++ packet ∷ back
  pub is : n ≡ note_of (end_after o front) packet

pub stands_in : (o : ℕ) (l : List PacketParts) (n : NoteParts) → In n (notes_from o l) → StandsIn o l n
stands_in o [] n i = absurd i
stands_in o (p ∷ l) n (inl e) = record { front = []; packet = p; back = l; parts = refl; is = e }
stands_in o (p ∷ l) n (inr i) =
    let s = stands_in (o + size_of p) l n i in
    record {
      front = p ∷ s.front;
      packet = s.packet;
      back = s.back;
      parts = ap (λ (t : List PacketParts). p ∷ t) s.parts;
      is = s.is;
    }

none_left : (at : ℕ) → BeginsWithNone at []
none_left at front after p spelled e = grind (arith, length-spelled, length-append)

-- Bytes begin with one key.
one_key : {bytes key other after rest : List ℕ} {l m : LengthParts} → BeginsWithKeyAndLength bytes key l after
    → BeginsWithKeyAndLength bytes other m rest → key ≡ other
one_key {bytes} {key} {other} {after} {rest} a b =
    let first : length key ≡ 16 = a.label.0 in
    let second : length other ≡ 16 = b.label.0 in
    sym (take-append_seam key (a.spelled ++ after)) ∙ (λ i. take (first i) (sym a.whole i))
    ∙ (λ i. take (sym second i) (b.whole i)) ∙ take-append_seam other (b.spelled ++ rest)

-- ---- a reading of packets that are laid

module _ (q : ℕ) (read more behind : List ℕ) (back : List PacketParts) (joined : behind ≡ read ++ more)
    (laid : AreLaid q behind back []) where
  abbrev packets : List PacketParts
  packets = packets_of_piece q read

  abbrev at : ℕ
  at = end_after q packets

  abbrev others : List PacketParts
  others = packets_of_piece at (rest_in q read ++ more)

  whole_is : (back ≡ packets_of_piece q behind) × ([] ≡ rest_in q behind)
  whole_is = one_piece q behind back [] (record { laid = laid; ended = none_left (end_after q back) })

  parts_are : back ≡ packets ++ others
  parts_are = whole_is.0 ∙ ap (packets_of_piece q) joined ∙ (seam q read more).packets

  notes_are : notes_from q back ≡ notes_from q packets ++ notes_from at others
  notes_are = ap (notes_from q) parts_are ∙ notes_from-append q packets others

  -- Its packets are among them.
  read_packet : (n : NoteParts) → In n (packet_notes q read) → In n (notes_from q back)
  read_packet n i = subst (In n) (sym notes_are) ((In-append n (notes_from q packets) (notes_from at others)).1 (inl i))

  others_laid : AreLaid at (rest_in q read ++ more) others []
  others_laid = grind (arith, whole_is, joined, seam, some_piece)

  -- What ends at or below its end it has whole.
  read_whole : (m : NoteParts) → In m (notes_from q back) → end_of m ≤ q + length read → In m (packet_notes q read)
  read_whole m i reached =
      elim ((In-append m (notes_from q packets) (notes_from at others)).0 (subst (In m) notes_are i)) [
        | inl k ↦ k
        | inr k ↦ absurd (not_among others refl k)
      ]
    where
      not_among : (l : List PacketParts) → others ≡ l → In m (notes_from at l) → ⊥
      not_among [] is k = k
      not_among (p ∷ l) is k =
          let there = subst (λ l. AreLaid at (rest_in q read ++ more) l []) is others_laid in
          let (front, after, spelled, joined, within, laid) = there in
          let piece = some_piece q read in
          let size = length-spelled front p spelled in
          let total = laid_size q read packets (rest_in q read) piece.laid in
          let below = first_below at p l m k in
          let few : length front ≤ length (rest_in q read) = omega (arith, size, total, below, reached) in
          let ahead = front_of (rest_in q read) more front after joined few in
          let above = piece.ended front (drop (length front) (rest_in q read)) p spelled ahead in
          omega (arith, above, within)

  -- The head that it ends with is that of one of them.
  read_head : (n : NoteParts) → In n (cut_heads q read) → (m : NoteParts) × In m (notes_from q back) × (head_note m ≡ n)
  read_head n i =
      elim (heads_few at (rest_in q read)) [
        | inl none ↦ absurd (subst (In n) none i)
        | inr s ↦ elim (subst (In n) s.1 i) [
          | inl e ↦
              let found = head_among others refl s.0 s.2 in (
                found.0,
                subst (In found.0) (sym notes_are) ((In-append found.0 (notes_from q packets) (notes_from at others)).1
                    (inr found.1)),
                found.2 ∙ sym e,
              )
          | inr none ↦ absurd none
        ]
      ]
    where
      head_among : (l : List PacketParts) → others ≡ l → (n : NoteParts) → BeginsWithCut at (rest_in q read) n
          → (m : NoteParts) × In m (notes_from at others) × (head_note m ≡ n)
      head_among [] is n cut =
          let all : length (rest_in q read ++ more) ≡ 0 =
          ap length (subst (λ l. AreLaid at (rest_in q read ++ more) l []) is others_laid) in
          let both = length-append (rest_in q read) more in
          let key : length cut.key ≡ 16 = cut.stands.label.0 in
          let whole = ap length cut.stands.whole in
          let parts = length-append cut.key (cut.stands.spelled ++ cut.after) in
          absurd (omega (arith, all, both, key, whole, parts))
      head_among (p ∷ l) is n cut =
          let (front, after, spelled, joined, within, laid) =
          subst (λ l. AreLaid at (rest_in q read ++ more) l []) is others_laid in
          let one = head_in front after p spelled in
          let other : BeginsWithKeyAndLength (rest_in q read ++ more) cut.key cut.length (cut.after ++ more) = record {
            spelled = cut.stands.spelled;
            label = cut.stands.label;
            width = cut.stands.width;
            whole = ap (λ (t : List ℕ). t ++ more) cut.stands.whole
                ∙ append_assoc cut.key (cut.stands.spelled ++ cut.after) more
                ∙ ap (λ (t : List ℕ). cut.key ++ t) (append_assoc cut.stands.spelled cut.after more);
          } in
          let here : BeginsWithKeyAndLength (rest_in q read ++ more) p.key
          (record { width = p.width; value = length p.value })
          (p.value ++ after) = subst (λ t. BeginsWithKeyAndLength t p.key
          (record { width = p.width; value = length p.value }) (p.value ++ after)) (sym joined) one in
          let lengths : cut.length ≡ record { width = p.width; value = length p.value } =
          same_Some cut.length (record { width = p.width; value = length p.value })
          (sym (head_at-head (rest_in q read ++ more) cut.key cut.length (cut.after ++ more) other)
          ∙ head_at-head (rest_in q read ++ more) p.key (record { width = p.width; value = length p.value })
          (p.value ++ after) here) in
          let keys : cut.key ≡ p.key = one_key other here in (
            note_of at p,
            subst (λ l. In (note_of at p) (notes_from at l)) (sym is) (inl refl),
            (λ i. head_parts at (sym keys i) (sym lengths i).width (sym lengths i).value) ∙ sym cut.head,
          )

-- ---- a file, and bytes of it

pub end_more : (o : ℕ) (front : List PacketParts) (p : PacketParts)
    → end_after o (front ++ p ∷ []) ≡ end_after o front + size_of p
end_more o [] p = refl
end_more o (k ∷ front) p = end_more (o + size_of k) front p

module _ (l : List PacketParts) (bytes : List ℕ) (h : HandBytes) (laid : AreLaid 0 bytes l []) (cover : IsCover h.runs)
    (is_file : (x : ℕ) → LiesIn h.runs x → slice_get bytes x ≡ Some (h.byte x)) (full : h.scan ≡ Full) where
  -- All values are read.
  all_read : (end : Option ℕ) (q : ℕ) → read_packets h end q ≡ packet_notes q (read_bytes h end q)
  all_read end q = full_notes h.scan (packet_notes q (read_bytes h end q)) full

  pub laid_from : (front back : List PacketParts) → l ≡ front ++ back → LaidBehind 0 bytes front back
  laid_from front back e = laid_behind 0 bytes front back (subst (λ l. AreLaid 0 bytes l []) e laid)

  pub reads_front : (front back : List PacketParts) (e : l ≡ front ++ back) (end : Option ℕ) (q : ℕ)
      → end_after 0 front ≡ q → (laid_from front back e).behind
      ≡ read_bytes h end q ++ drop (read_to h.runs end q - q) (laid_from front back e).behind
  reads_front front back e end q at =
      let b = laid_from front back e in
      let n = read_to h.runs end q - q in
      let reached = b.reached in
      let first = front_is n q h.byte b.behind (λ i less.
      sym (behind_front b.before b.behind i (q + i) (omega (arith, reached, at)))
      ∙ ap (λ (t : List ℕ). slice_get t (q + i)) (sym b.joined)
      ∙ is_file (q + i) (read_lies h.runs end q (q + i) (omega arith) (omega (arith, less)))) in
      sym (take-append-drop n b.behind) ∙ ap (λ (t : List ℕ). t ++ drop n b.behind) first

  among_file : (front back : List PacketParts) (m : NoteParts) → l ≡ front ++ back
      → In m (notes_from (end_after 0 front) back) → In m (notes_from 0 l)
  among_file front back m e i =
      subst (λ l. In m (notes_from 0 l)) (sym e) (subst (In m) (sym (notes_from-append 0 front back))
      ((In-append m (notes_from 0 front) (notes_from (end_after 0 front) back)).1 (inr i)))

  packet_of_file : (end : Option ℕ) (q : ℕ) (n : NoteParts) → IsBoundary l q
      → In n (read_packets h end q) → IsOfFile l n
  packet_of_file end q n (front, back, e, at) i =
      let b = laid_from front back e in
      let behind = subst (λ q. AreLaid q b.behind back []) at b.laid in
      let j = read_packet q (read_bytes h end q) (drop (read_to h.runs end q - q) b.behind) b.behind back
      (reads_front front back e end q at) behind n (subst (In n) (all_read end q) i) in
      inl (among_file front back n e (subst (λ q. In n (notes_from q back)) (sym at) j))

  head_of_file : (end : Option ℕ) (q : ℕ) (n : NoteParts) → IsBoundary l q → In n (cut_heads q (read_bytes h end q))
      → IsOfFile l n
  head_of_file end q n (front, back, e, at) i =
      let b = laid_from front back e in
      let behind = subst (λ q. AreLaid q b.behind back []) at b.laid in
      let j = read_head q (read_bytes h end q) (drop (read_to h.runs end q - q) b.behind) b.behind back
      (reads_front front back e end q at) behind n i in
      inr (j.0, among_file front back j.0 e (subst (λ q. In j.0 (notes_from q back)) (sym at) j.1), j.2)

  -- A reading has all packets that end at or below its end.
  pub packet_read : (end : Option ℕ) (q : ℕ) (m : NoteParts) → IsBoundary l q → In m (notes_from 0 l) → q ≤ m.offset
      → end_of m ≤ read_to h.runs end q → In m (read_packets h end q)
  packet_read end q m (front, back, e, at) i from reached =
      let b = laid_from front back e in
      let behind = subst (λ q. AreLaid q b.behind back []) at b.laid in
      let size = length-map-range_with_len h.byte q (read_to h.runs end q - q) in
      subst (In m) (sym (all_read end q))
      (read_whole q (read_bytes h end q) (drop (read_to h.runs end q - q) b.behind) b.behind back
      (reads_front front back e end q at) behind m (behind_place l q front back m e at i from)
      (omega (arith, size, from, reached)))

  -- Where the file's bytes are at hand, the head of each of its packets fits.
  pub head_fits : IsAllAtHand l h → (m : NoteParts) → In m (notes_from 0 l) → fits h (head_note m) ≡ true
  head_fits all m i =
      let s = stands_in 0 l m i in
      let ends = ends_below 0 l m i in
      let end : end_of m ≡ end_of (note_of (end_after 0 s.front) s.packet) = ap end_of s.is in
      subst (λ n. fits h (head_note n) ≡ true) (sym s.is)
      (fits_there (end_after 0 s.front) s.packet s.front s.back refl s.parts (omega (arith, ends, end)))
    where
      fits_there : (q : ℕ) (p : PacketParts) (front back : List PacketParts) → end_after 0 front ≡ q
          → l ≡ front ++ p ∷ back → q + 16 + p.width + length p.value ≤ end_after 0 l
          → fits h (head_note (note_of q p)) ≡ true
      fits_there q p front back at e ends =
          let b = laid_from front (p ∷ back) e in
          let (f, after, spelled, joined, within, rest) = b.laid in
          let head = p.key ++ spelled.spelled in
          let behind = p.value ++ after in
          let whole : bytes ≡ b.before ++ (head ++ behind) =
          b.joined ∙ ap (λ (t : List ℕ). b.before ++ t) (joined ∙ ap (λ (t : List ℕ). t ++ after) spelled.whole
          ∙ append_assoc p.key (spelled.spelled ++ p.value) after
          ∙ ap (λ (t : List ℕ). p.key ++ t) (append_assoc spelled.spelled p.value after)
          ∙ sym (append_assoc p.key spelled.spelled (p.value ++ after))) in
          let key : length p.key ≡ 16 = spelled.label.0 in
          let width = spelled_len spelled.spelled p.width (length p.value) spelled.width in
          let both = length-append p.key spelled.spelled in
          let reached = b.reached in
          let size : length b.before ≡ q = omega (arith, reached, at) in
          let there : (i : ℕ) → i < 16 + p.width → h.byte (q + i) ≡ get_or head i 0 =
          λ i less. same_Some (h.byte (q + i)) (get_or head i 0)
          (sym (is_file (q + i) (all (q + i) (omega (arith, less, ends))).0)
          ∙ ap (λ (t : List ℕ). slice_get t (q + i)) whole
          ∙ behind_front b.before (head ++ behind) i (q + i) (omega (arith, size))
          ∙ slice_get-get_or (head ++ behind) i 0
          (let more = length-append head behind in omega (arith, more, both, key, width, less))
          ∙ ap (λ (k : ℕ). Some k) (get_or_append_left head behind 0 i (omega (arith, both, key, width, less)))) in
          let small : (i : ℕ) → get_or spelled.spelled i 0 < 256 =
          λ i. elim (cases_lt i p.width) [
            | inl less ↦
                let byte = there (16 + i) (omega (arith, less)) in
                let part = get_or-append_right p.key spelled.spelled 16 (16 + i) 0 key (omega arith) in
                let index : 16 + i - 16 ≡ i = omega arith in
                let is : get_or spelled.spelled i 0 ≡ h.byte (q + (16 + i)) =
                ap (λ (k : ℕ). get_or spelled.spelled k 0) (sym index) ∙ sym part ∙ sym byte in
                let low = (all (q + (16 + i)) (omega (arith, less, ends))).1 in omega (arith, is, low)
            | inr more ↦
                let past = get_or_past spelled.spelled i 0 (omega (arith, width, more)) in omega (arith, past)
          ] in
          let same = spelled-length_bytes spelled.spelled p.width (length p.value) small spelled.width in
          at_fits h (head_note (note_of q p)) (λ x from before lies.
          let place : x ≡ q + (x - q) = omega (arith, from) in
          ap h.byte place ∙ there (x - q) (omega (arith, from, before))
          ∙ ap (λ (t : List ℕ). get_or (p.key ++ t) (x - q) 0) same)

  -- Behind a packet of the file the next begins.
  ends_at_boundary : (m : NoteParts) → In m (notes_from 0 l) → IsBoundary l (end_of m)
  ends_at_boundary m i =
      let s = stands_in 0 l m i in
      let end : end_of m ≡ end_of (note_of (end_after 0 s.front) s.packet) = ap end_of s.is in
      let more = end_more 0 s.front s.packet in (
        s.front ++ s.packet ∷ [],
        s.back,
        s.parts ∙ sym (append_assoc s.front (s.packet ∷ []) s.back),
        omega (arith, end, more),
      )

  -- The packet of a head of the file is the file's.
  pub made_of_file : (a : NoteParts) → IsOfFile l a → a.whole ≡ false
      → ((x : ℕ) → covered_end a ≤ x → x < end_of a → LiesIn h.runs x) → In (packet_of h a) (notes_from 0 l)
  made_of_file a (inl i) head lies =
      let s = stands_in 0 l a i in
      absurd (let whole : a.whole ≡ true = ap (λ (n : NoteParts). n.whole) s.is in cc (whole, head))
  made_of_file a (inr (m, i, of)) head lies =
      let s = stands_in 0 l m i in
      let q = end_after 0 s.front in
      let p = s.packet in
      let is_head : a ≡ head_note (note_of q p) = sym of ∙ ap head_note s.is in
      subst (λ n. In n (notes_from 0 l)) (s.is ∙ sym (value_is q p s.front s.back refl s.parts
      (subst (λ (n : NoteParts). (x : ℕ) → covered_end n ≤ x → x < end_of n → LiesIn h.runs x) is_head lies))
      ∙ ap (packet_of h) (sym is_head)) i
    where
      value_is : (q : ℕ) (p : PacketParts) (front back : List PacketParts) → end_after 0 front ≡ q
          → l ≡ front ++ p ∷ back
          → ((x : ℕ) → q + 16 + p.width ≤ x → x < q + 16 + p.width + length p.value → LiesIn h.runs x)
          → packet_of h (head_note (note_of q p)) ≡ note_of q p
      value_is q p front back at e lies =
          let b = laid_from front (p ∷ back) e in
          let (f, after, spelled, joined, within, rest) = b.laid in
          let start = q + 16 + p.width in
          let ahead = b.before ++ (p.key ++ spelled.spelled) in
          let whole : bytes ≡ ahead ++ (p.value ++ after) =
          b.joined ∙ ap (λ (t : List ℕ). b.before ++ t) (joined ∙ ap (λ (t : List ℕ). t ++ after) spelled.whole
          ∙ append_assoc p.key (spelled.spelled ++ p.value) after
          ∙ ap (λ (t : List ℕ). p.key ++ t) (append_assoc spelled.spelled p.value after)
          ∙ sym (append_assoc p.key spelled.spelled (p.value ++ after)))
          ∙ sym (append_assoc b.before (p.key ++ spelled.spelled) (p.value ++ after)) in
          let key : length p.key ≡ 16 = spelled.label.0 in
          let width = spelled_len spelled.spelled p.width (length p.value) spelled.width in
          let reached = b.reached in
          let one = length-append b.before (p.key ++ spelled.spelled) in
          let two = length-append p.key spelled.spelled in
          let size : length ahead ≡ start = omega (arith, key, width, reached, one, two, at) in
          let value = front_is (length p.value) start h.byte (p.value ++ after) (λ i less.
          sym (behind_front ahead (p.value ++ after) i (start + i) (omega (arith, size)))
          ∙ ap (λ (t : List ℕ). slice_get t (start + i)) (sym whole)
          ∙ is_file (start + i) (lies (start + i) (omega arith) (omega (arith, less)))) in
          let count : start + length p.value - start ≡ length p.value = omega arith in
          full_packet h.scan p.key (length p.value)
          (note_of q (packet_parts p.key p.width (bytes_between h.byte start (start + length p.value)))) full
          ∙ ap (λ (k : ℕ). note_of q (packet_parts p.key p.width (map h.byte (range_with_len start k)))) count
          ∙ ap (λ (v : List ℕ). note_of q (packet_parts p.key p.width v)) (sym value ∙ take-append_seam p.value after)

  -- ---- a round

  module _ (notes : List NoteParts) (of : AreOfFile l notes) (begin : BeginAtPackets l notes) where
    -- A head that fits is one of the notes.
    fitted : (first : ℕ) (m : NoteParts) → In m (fitting h notes first) → In m notes × (m.whole ≡ false)
    fitted first m i =
        let k = (In-filter (λ a. (a.offset == start_of notes first) && fits h a) (heads_to first notes) m).0 i in
        let j = (In-filter (is_head_to first) notes m).0 k.0 in
        (j.0, not-true m.whole (and_parts (not m.whole) (covered_end m == first) j.1).0)

    -- Behind the packet of a note the next begins.
    pub behind_note : (m : NoteParts) → IsOfFile l m → IsBoundary l (end_of m)
    behind_note m (inl i) = ends_at_boundary m i
    behind_note m (inr (k, i, e)) =
        let end : end_of (head_note k) ≡ end_of m = ap end_of e in
        subst (IsBoundary l) end (ends_at_boundary k i)

    from_by : (first q : ℕ) (heads : List NoteParts) → ((m : NoteParts) → In m heads → In m notes)
        → IsBoundary l (start_of notes first) → read_from (start_of notes first) heads ≡ Some q → IsBoundary l q
    from_by first q [] all start e = subst (IsBoundary l) (same_Some (start_of notes first) q e) start
    from_by first q (m ∷ []) all start e =
        subst (IsBoundary l) (same_Some (end_of m) q e) (behind_note m (of m (all m (inl refl))))
    from_by first q (m ∷ k ∷ heads) all start e = absurd cc

    -- A section is read from where a packet begins.
    from_boundary : (p : Section) (q : ℕ) → In p (sections_of notes) → from_of h notes p ≡ Some q → IsBoundary l q
    from_boundary p q i e = from_by p.first q (fitting h notes p.first) (λ m k. (fitted p.first m k).0) (begin p i) e

    packets_of_file : (p : Section) (m : NoteParts) → In p (sections_of notes) → In m (packets_of h notes p)
        → IsOfFile l m
    packets_of_file p m i k = grind (arith, packet_of_file, from_boundary)

    heads_of_file : (p : Section) (m : NoteParts) → In p (sections_of notes) → In m (heads_of h notes p) → IsOfFile l m
    heads_of_file p m i k = grind (arith, head_of_file, from_boundary)

    -- The value of the head is at hand.
    value_lies : (a : NoteParts) → is_value_at_hand h a ≡ true → (x : ℕ) → covered_end a ≤ x → x < end_of a
        → LiesIn h.runs x
    value_lies a t = grind (arith, and_parts, has_offsets-says)

    made_by_file : (end : Option ℕ) (heads : List NoteParts) (m : NoteParts)
        → ((a : NoteParts) → In a heads → In a notes × (a.whole ≡ false)) → In m (made_by h end heads) → IsOfFile l m
    made_by_file end [] m all k = absurd k
    made_by_file end (a ∷ []) m all k =
        elim (is_value_at_hand h a && ends_within end a) as (λ b. is_value_at_hand h a && ends_within end a ≡ b
        → In m (cond b (packet_of h a ∷ []) []) → IsOfFile l m) [
          | true ↦ λ t j. elim j [
            | inl e ↦
                let is = all a (inl refl) in
                let made = made_of_file a (of a is.0) is.1 (value_lies a (and_parts _ _ t).0) in
                inl (subst (λ n. In n (notes_from 0 l)) (sym e) made)
            | inr none ↦ absurd none
          ]
          | false ↦ λ t j. absurd j
        ] refl k
    made_by_file end (a ∷ b ∷ heads) m all k = absurd k

    taken_of_file : (m : NoteParts) → In m (taken_in h notes (sections_of notes)) → IsOfFile l m
    taken_of_file m i =
        let sections = sections_of notes in
        let read = read_in h notes sections in
        elim ((In-append m (packets_in h notes sections)
        (made_in h notes sections ++ heads_taken h notes sections)).0 i) [
          | inl k ↦ let p = (In-flat_map (packets_of h notes) sections m).0 k in packets_of_file p.0 m p.1 p.2
          | inr more ↦ elim ((In-append m (made_in h notes sections) (heads_taken h notes sections)).0 more) [
            | inl k ↦
                let p = (In-flat_map (made_of h notes) sections m).0 k in
                made_by_file p.0.hole.end (fitting h notes p.0.first) m (fitted p.0.first) p.2
            | inr k ↦
                let c = (In-map (λ (c : CutHead). c.note)
                (filter (is_taken read) (read_heads_in h notes sections)) m).0 k in
                let f = (In-filter (is_taken read) (read_heads_in h notes sections) c.0).0 c.1 in
                let p = (In-flat_map (read_heads_of h notes) sections c.0).0 f.0 in
                let j = (In-map (λ a. cut_head a p.0.hole.end) (heads_of h notes p.0) c.0).0 p.2 in
                let is : m ≡ j.0 = c.2 ∙ ap (λ (c : CutHead). c.note) j.2 in
                subst (IsOfFile l) (sym is) (heads_of_file p.0 j.0 p.1 j.1)
          ]
        ]

    -- The head of what the file has it has too.
    head_too : (n y : NoteParts) → IsOfFile l y → head_note y ≡ n → IsOfFile l n
    head_too n y (inl i) e = inr (y, i, e)
    head_too n y (inr (k, i, f)) e = inr (k, i, ap head_note f ∙ e)

    pub has_of_file : (some : List NoteParts) (n : NoteParts) → AreOfFile l some → has_note some n → IsOfFile l n
    has_of_file some n all (inl i) = all n i
    has_of_file some n all (inr (y, i, e)) = head_too n y (all y i) e

    pub round_of_file : AreOfFile l (round h notes)
    unfolding round
    round_of_file n i =
        let taken = taken_in h notes (sections_of notes) in
        elim ((has-reduced_union n notes taken).0 (inl i)) [
          | inl k ↦ has_of_file notes n of k
          | inr k ↦ has_of_file taken n taken_of_file k
        ]

  -- ---- rounds

  rounds_of_file : (count : ℕ) (notes : List NoteParts) → AreOfFile l notes
      → ((k : ℕ) → BeginAtPackets l (rounds k h notes)) → AreOfFile l (rounds count h notes)
  unfolding rounds
  rounds_of_file zero notes of begin = of
  rounds_of_file (suc count) notes of begin =
      rounds_of_file count (round h notes) (round_of_file notes of (begin 0)) (λ k. begin (suc k))

  pub all_of_file : (notes : List NoteParts) → AreOfFile l notes → ((k : ℕ) → BeginAtPackets l (rounds k h notes))
      → AreOfFile l (put_together h notes)
  unfolding put_together
  all_of_file notes of begin = rounds_of_file 64 notes of begin

pub of_one_file : (packets : List PacketParts) (h : HandBytes) (notes : List NoteParts) → AreBytesOfFile packets h
    → AreOfFile packets notes → ((k : ℕ) → BeginAtPackets packets (rounds k h notes))
    → AreOfFile packets (put_together h notes)
of_one_file packets h notes f of begin = all_of_file packets f.bytes h f.laid f.cover f.alike f.read notes of begin
