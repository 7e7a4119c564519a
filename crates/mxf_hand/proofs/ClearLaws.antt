-- What is clear stays clear: what is put together lies in holes, and where heads are.
use Rattle.mxf_views.proofs.Common.{◌≡◌, ◌∙◌, ◌≤◌, ◌<◌, ◌+◌, ◌-◌, ◌&&◌, ◌++◌, ◌⊎◌, ℕ, zero, suc, true, false, not, List}
use Rattle.mxf_views.proofs.Common.{[], ◌∷◌, ◌==◌, Option, None, Some, ap, arith, cond, eqb-true, filter, find, inl}
use Rattle.mxf_views.proofs.Common.{inr, length, length-append, refl, subst, sym, and_parts, cases_lt, leb-true}
use Rattle.mxf_views.proofs.Common.{same_Some, option_map_or, NoteParts, PacketParts, IsInSpan, covered_end, end_of}
use Rattle.mxf_views.proofs.Common.{head_note, note_of, packet_parts, size_of, AreLaid, notes_from, rest_in}
use Rattle.mxf_views.proofs.Common.{In, In-append}
use Rattle.mxf_views.proofs.Common.{In-filter, In-flat_map, In-map, found-In, length-spelled, some_piece, end_up}
use Rattle.mxf_views.proofs.Common.{AreReduced, IsContent, reduced_union, IsClear, SharesByte, after}
use Rattle.mxf_views.proofs.Common.{AreReduced-reduced_union, has-reduced_union, same_note, covers_below_end}
use Rattle.mxf_klv.specs.PieceReading.{packets_in as packets_of_piece}
use Rattle.mxf_catalogue.proofs.ClearLaws.{held_whole}
use Rattle.mxf_catalogue.proofs.PartLaws.{with_whole}
use Rattle.mxf_hand.specs.Given.{bytes_between}
use Rattle.mxf_hand.specs.Noting.{cut_heads, packet_notes}
use Rattle.mxf_read.proofs.Pieces.{head_begins, heads_few}
use Rattle.mxf_places.specs.AtHand.{LiesInRange}
use Rattle.mxf_places.specs.Heads.{heads_to, is_head_to, start_of}
use Rattle.mxf_restore.specs.Sections.{AreSections, sections_of}
use Rattle.mxf_restore.specs.declared.section.Section.{Section}
use Rattle.mxf_restore.proofs.SectionCover.{are_sections}
use Rattle.mxf_hand.specs.Hand.{HandBytes, is_value_at_hand, packet_of, read_bytes, read_heads, read_packets, read_to}
use Rattle.mxf_hand.specs.Heads.{fits, fitting}
use Rattle.mxf_hand.specs.Rounds.{heads_taken, is_taken, made_in, packets_in, put_together, read_heads_in}
use Rattle.mxf_hand.specs.Rounds.{read_heads_of, read_in, round, rounds, taken_in}
use Rattle.mxf_hand.specs.Sections.{ends_within, from_of, heads_of, made_by, made_of, packets_of, read_from}
use Rattle.mxf_hand.specs.declared.found.CutHead.{CutHead}
use Rattle.mxf_hand.proofs.FitLaws.{read_count}
use Rattle.mxf_read.proofs.Scans.{noted_end as noted_end_if}
use Rattle.mxf_read.specs.ValueSoFar.{passes}
use Rattle.mxf_hand.proofs.NotingLaws.{covered_head}
use Rattle.mxf_hand.proofs.ScanLaws.{if_offset, stands_for}
use Rattle.std.proofs.lemmas.Bool.{not-true}
use Rattle.mxf_hand.proofs.HistoryLaws.{round_content, round_reduced}

-- The head of a packet that is cut in a hole.
abbrev pub cut_head : NoteParts → Option ℕ → CutHead
cut_head n end = record { note = n; hole_end = end }

-- ---- readings

-- A packet of a piece ends with it at the latest.
laid_end : (offset : ℕ) (bytes : List ℕ) (packets : List PacketParts) (rest : List ℕ) (n : NoteParts)
    → AreLaid offset bytes packets rest → In n (notes_from offset packets) → end_of n ≤ offset + length bytes
laid_end offset bytes [] rest n laid i = absurd i
laid_end offset bytes (p ∷ packets) rest n (front, behind, spelled, joined, within, laid) i =
    let size : length front ≡ size_of p = length-spelled front p spelled in
    let all : length bytes ≡ length (front ++ behind) = ap length joined in
    let both = length-append front behind in
    elim i [
      | inl e ↦ let is : end_of n ≡ end_of (note_of offset p) = ap end_of e in omega (arith, size, all, both, is)
      | inr j ↦
          let k = laid_end (offset + size_of p) behind packets rest n laid j in omega (arith, size, all, both, k)
    ]

noted_end : (offset : ℕ) (bytes : List ℕ) (n : NoteParts) → In n (packet_notes offset bytes)
    → end_of n ≤ offset + length bytes
noted_end offset bytes n i =
    laid_end offset bytes (packets_of_piece offset bytes) (rest_in offset bytes) n (some_piece offset bytes).laid i

-- The head that a reading ends with begins where its packets end.
cut_begins : (offset : ℕ) (bytes : List ℕ) (n : NoteParts) → In n (cut_heads offset bytes) → offset ≤ n.offset
cut_begins offset bytes n i = grind (arith, heads_few, head_begins, end_up)

-- A reading goes no further than its end.
read_within : (h : HandBytes) (end from : ℕ) → read_to h.runs (Some end) from ≤ end
    ⊎ (read_to h.runs (Some end) from ≡ from)
read_within h end from = grind arith

read_below : (h : HandBytes) (end : Option ℕ) (from x : ℕ) → from ≤ x → x < from + (read_to h.runs end from - from)
    → (end ≡ None) ⊎ ((e : ℕ) × (end ≡ Some e) × (x < e))
read_below h None from x low high = inl refl
read_below h (Some e) from x low high = grind (arith, read_within)

-- A packet that ends in a hole has no offset behind it.
hole_below : (end : Option ℕ) (m : NoteParts) (x : ℕ) → ends_within end m ≡ true → x < end_of m
    → (end ≡ None) ⊎ ((e : ℕ) × (end ≡ Some e) × (x < e))
hole_below None m x w high = inl refl
hole_below (Some e) m x w high = inr (e, refl, let le : end_of m ≤ e = leb-true _ _ w in omega (arith, le, high))

-- ---- a clear note, and notes that share no byte with it

-- What is added of notes that share no byte with a clear one leaves it clear.
stays : (a b : List NoteParts) (n : NoteParts) → AreReduced a → IsClear n a
    → ((m : NoteParts) → In m b → SharesByte m n → ⊥) → IsClear n (reduced_union a b)
stays a b n reduced c apart =
    let has = λ (m : NoteParts). has-reduced_union m a b in
    let all = AreReduced-reduced_union a b reduced in
    let held = held_whole (reduced_union a b) n c.whole ((has n).1 (inl (inl c.held))) in
    record {
      held = held;
      whole = c.whole;
      undisputed = λ d. elim ((has d.0).0 (inl d.1)) [
        | inl in_a ↦ elim in_a [
          | inl i ↦ c.undisputed (d.0, i, d.2, d.3)
          | inr s ↦ elim (same_note s.0 n) [
            | inl e ↦ all d.0 d.1 (n, held, (λ q. d.2 (sym q)), ap head_note (sym e) ∙ s.2)
            | inr ne ↦ c.undisputed
                (s.0, s.1, ne, with_whole s.0 n (subst (λ (y : NoteParts). SharesByte y n) (sym s.2) d.3))
          ]
        ]
        | inr in_b ↦ elim in_b [
          | inl i ↦ apart d.0 i d.3
          | inr s ↦ apart s.0 s.1 (with_whole s.0 n (subst (λ (y : NoteParts). SharesByte y n) (sym s.2) d.3))
        ]
      ];
    }

module _ (notes : List NoteParts) (content : IsContent notes) (n : NoteParts) (clear : IsClear n notes) where
  sections_are : AreSections notes (sections_of notes)
  sections_are = are_sections notes content

  -- The packet of a head shares no byte with a clear one.
  head_apart : (m : NoteParts) → In m notes → m.whole ≡ false → SharesByte m n → ⊥
  head_apart m i head s = grind arith

  -- A clear note has no byte in a hole.
  none_in_hole : (p : Section) (x : ℕ) → In p (sections_of notes) → IsInSpan n x → LiesInRange p.hole x → ⊥
  none_in_hole p x i s l =
      (sections_are.holes p i).none_held x l (
        n,
        clear.held,
        record {
          from = s.from;
          before = let whole : n.whole ≡ true = clear.whole in
              let is : covered_end n ≡ end_of n = ap (λ b. cond b (end_of n) (n.offset + 16 + n.width)) whole in
              let low = s.before in omega (arith, is, low);
        },
      )

  -- What lies ahead of a section's first byte, from where the head begins that ends there, is that head's.
  ahead : (p : Section) (x : ℕ) → start_of notes p.first ≤ x → x < p.first
      → (m : NoteParts) × In m notes × (m.whole ≡ false) × IsInSpan m x
  ahead p x low high = elim (find (is_head_to p.first) notes) as (λ o. find (is_head_to p.first) notes ≡ o
      → option_map_or (λ m. m.offset) o p.first ≤ x
      → (m : NoteParts) × In m notes × (m.whole ≡ false) × IsInSpan m x) [
        | None ↦ λ e from. absurd (omega (arith, from, high))
        | Some m ↦ λ e from.
            let k = found-In (is_head_to p.first) notes m e in
            let t = and_parts (not m.whole) (covered_end m == p.first) k.1 in
            let end = eqb-true (covered_end m) p.first t.1 in
            let le = covers_below_end m in
            (m, k.0, not-true m.whole t.0, record { from = from; before = omega (arith, end, le, high) })
      ] refl low

  -- A head that fits ends at the section's first byte.
  fitted : (h : HandBytes) (first : ℕ) (m : NoteParts) → In m (fitting h notes first)
      → In m notes × (m.whole ≡ false) × (covered_end m ≡ first)
  fitted h first m i =
      let k = (In-filter (λ a. (a.offset == start_of notes first) && fits h a) (heads_to first notes) m).0 i in
      let j = (In-filter (is_head_to first) notes m).0 k.0 in
      let t = and_parts (not m.whole) (covered_end m == first) j.1 in
      (j.0, not-true m.whole t.0, eqb-true (covered_end m) first t.1)

  -- A section is read from its start, or from behind its first byte.
  from_by : (first q : ℕ) (heads : List NoteParts) → ((m : NoteParts) → In m heads → covered_end m ≡ first)
      → read_from (start_of notes first) heads ≡ Some q → (q ≡ start_of notes first) ⊎ (first ≤ q)
  from_by first q [] all e = inl (sym (same_Some (start_of notes first) q e))
  from_by first q (m ∷ []) all e = inr (let end = all m (inl refl) in
      let le = covers_below_end m in
      let is = same_Some (end_of m) q e in omega (arith, end, le, is))
  from_by first q (m ∷ k ∷ heads) all e = absurd cc

  from_is : (h : HandBytes) (p : Section) (q : ℕ) → from_of h notes p ≡ Some q
      → (q ≡ start_of notes p.first) ⊎ (p.first ≤ q)
  from_is h p q e = from_by p.first q (fitting h notes p.first) (λ m i. (fitted h p.first m i).2) e

  -- What begins where a section is read from, or behind that, and ends in its hole.
  apart_behind : (h : HandBytes) (p : Section) (q : ℕ) (m : NoteParts) → In p (sections_of notes)
      → from_of h notes p ≡ Some q → q ≤ m.offset
      → ((x : ℕ) → p.first ≤ x → m.offset ≤ x → x < end_of m → LiesInRange p.hole x) → SharesByte m n → ⊥
  apart_behind h p q m i e above lies s =
      let x = s.0 in
      let low : m.offset ≤ x = s.1.from in
      let high : x + 1 ≤ end_of m = s.1.before in
      elim (cases_lt x p.first) [
        | inl out ↦ elim (from_is h p q e) [
          | inl start ↦
              let head = ahead p x (omega (arith, start, above, low)) out in
              head_apart head.0 head.1 head.2 (x, head.3, s.2)
          | inr behind ↦ absurd (omega (arith, behind, above, low, out))
        ]
        | inr within ↦ none_in_hole p x i s.2 (lies x within low (omega (arith, high)))
      ]

  packet_apart : (h : HandBytes) (p : Section) (m : NoteParts) → In p (sections_of notes)
      → In m (packets_of h notes p) → SharesByte m n → ⊥
  packet_apart h p m i k s =
      elim (from_of h notes p) as (λ o. from_of h notes p ≡ o → In m (option_map_or (read_packets h p.end) o []) → ⊥) [
        | None ↦ λ e j. j
        | Some q ↦ λ e j.
            let bytes = read_bytes h p.end q in
            let read = stands_for h.scan (packet_notes q bytes) m j in
            let place = read.offset in
            let last = read.end in
            let end = noted_end q bytes read.read read.there in
            let size = read_count h.byte bytes q (read_to h.runs p.end q) refl in
            let from = after q (packets_of_piece q bytes) read.read read.there in
            let above : q ≤ m.offset = omega (arith, from, place) in
            apart_behind h p q m i e above (λ x first low high.
            sections_are.within p x i (
              first,
              read_below h p.end q x (omega (arith, above, low)) (omega (arith, end, size, high, last)),
            )) s
      ] refl k

  head_ends_apart : (h : HandBytes) (p : Section) (m : NoteParts) → In p (sections_of notes)
      → In m (heads_of h notes p) → ends_within p.hole.end m ≡ true → SharesByte m n → ⊥
  head_ends_apart h p m i k w s =
      elim (from_of h notes p) as (λ o. from_of h notes p ≡ o → In m (option_map_or (read_heads h p.end) o []) → ⊥) [
        | None ↦ λ e j. j
        | Some q ↦ λ e j.
            let start = (sections_are.within p p.first i (sections_are.some p i)).0 in
            apart_behind h p q m i e (cut_begins q (read_bytes h p.end q) m j)
            (λ x first low high. (omega (arith, start, first), hole_below p.hole.end m x w high)) s
      ] refl k

  -- The packet of a head has the span of the head.
  as_head : (h : HandBytes) (a m : NoteParts) → a.whole ≡ false → m ≡ packet_of h a → SharesByte m n → SharesByte a n
  as_head h a m head e s =
      let value = bytes_between h.byte (covered_end a) (end_of a) in
      let packet = note_of a.offset (packet_parts a.key a.width value) in
      let passing = passes h.scan a.key a.length in
      let offset : m.offset ≡ a.offset = ap (λ (x : NoteParts). x.offset) e ∙ if_offset passing packet in
      let end : end_of m ≡ end_of packet = ap end_of e ∙ noted_end_if passing packet in
      let size = read_count h.byte value (covered_end a) (end_of a) refl in
      let covered = covered_head a head in
      let from : m.offset ≤ s.0 = s.1.from in
      let before : s.0 + 1 ≤ end_of m = s.1.before in (
        s.0,
        record { from = omega (arith, offset, from); before = omega (arith, end, size, covered, before) },
        s.2,
      )

  made_by_apart : (h : HandBytes) (end : Option ℕ) (heads : List NoteParts) (m : NoteParts)
      → ((a : NoteParts) → In a heads → In a notes × (a.whole ≡ false)) → In m (made_by h end heads)
      → SharesByte m n → ⊥
  made_by_apart h end [] m all k s = k
  made_by_apart h end (a ∷ []) m all k s =
      elim (is_value_at_hand h a && ends_within end a) as (λ b. In m (cond b (packet_of h a ∷ []) []) → ⊥) [
        | true ↦ λ j. elim j [
          | inl e ↦ let is = all a (inl refl) in head_apart a is.0 is.1 (as_head h a m is.1 e s)
          | inr none ↦ none
        ]
        | false ↦ λ j. j
      ] k
  made_by_apart h end (a ∷ b ∷ heads) m all k s = k

  made_apart : (h : HandBytes) (p : Section) (m : NoteParts) → In m (made_of h notes p) → SharesByte m n → ⊥
  made_apart h p m k s = made_by_apart h p.hole.end (fitting h notes p.first) m
      (λ a i. let f = fitted h p.first a i in (f.0, f.1)) k s

  -- All that is put together shares no byte with it.
  taken_apart : (h : HandBytes) (m : NoteParts) → In m (taken_in h notes (sections_of notes)) → SharesByte m n → ⊥
  taken_apart h m i s =
      let sections = sections_of notes in
      let read = read_in h notes sections in
      elim ((In-append m (packets_in h notes sections)
      (made_in h notes sections ++ heads_taken h notes sections)).0 i) [
        | inl k ↦ let p = (In-flat_map (packets_of h notes) sections m).0 k in packet_apart h p.0 m p.1 p.2 s
        | inr more ↦ elim ((In-append m (made_in h notes sections) (heads_taken h notes sections)).0 more) [
          | inl k ↦ let p = (In-flat_map (made_of h notes) sections m).0 k in made_apart h p.0 m p.2 s
          | inr k ↦
              let c = (In-map (λ (c : CutHead). c.note)
              (filter (is_taken read) (read_heads_in h notes sections)) m).0 k in
              let f = (In-filter (is_taken read) (read_heads_in h notes sections) c.0).0 c.1 in
              let p = (In-flat_map (read_heads_of h notes) sections c.0).0 f.0 in
              let j = (In-map (λ a. cut_head a p.0.hole.end) (heads_of h notes p.0) c.0).0 p.2 in
              let note : c.0.note ≡ j.0 = ap (λ (c : CutHead). c.note) j.2 in
              let end : c.0.hole_end ≡ p.0.hole.end = ap (λ (c : CutHead). c.hole_end) j.2 in
              let w = (and_parts (ends_within c.0.hole_end c.0.note) _ f.1).0 in
              let is : m ≡ j.0 = c.2 ∙ note in
              head_ends_apart h p.0 j.0 p.1 j.1 (subst (λ (o : Option ℕ). ends_within o j.0 ≡ true) end
              (subst (λ (a : NoteParts). ends_within c.0.hole_end a ≡ true) note w))
              (subst (λ (a : NoteParts). SharesByte a n) is s)
        ]
      ]

-- ---- rounds

clear_round : (h : HandBytes) (notes : List NoteParts) (n : NoteParts) → IsContent notes → AreReduced notes
    → IsClear n notes → IsClear n (round h notes)
unfolding round
clear_round h notes n r p c = stays notes (taken_in h notes (sections_of notes)) n p c (taken_apart notes r n c h)

clear_rounds : (count : ℕ) (h : HandBytes) (notes : List NoteParts) (n : NoteParts) → IsContent notes
    → AreReduced notes → IsClear n notes → IsClear n (rounds count h notes)
unfolding rounds
clear_rounds zero h notes n r p c = c
clear_rounds (suc count) h notes n r p c =
    clear_rounds count h (round h notes) n (round_content h notes r) (round_reduced h notes p)
    (clear_round h notes n r p c)

pub clear_together : (h : HandBytes) (notes : List NoteParts) (n : NoteParts) → IsContent notes → AreReduced notes
    → IsClear n notes → IsClear n (put_together h notes)
unfolding put_together
clear_together h notes n r p c = clear_rounds 64 h notes n r p c
