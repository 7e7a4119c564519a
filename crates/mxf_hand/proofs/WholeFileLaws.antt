-- Where all bytes of a well-formed file are at hand, all of its packets are put together.
use Rattle.mxf_views.proofs.Common.{◌≡◌, ◌∙◌, ◌⊎◌, ◌≤◌, ◌<◌, ◌+◌, ◌-◌, ◌&&◌, ◌++◌, ◌==◌, ℕ, true, false, not, List, []}
use Rattle.mxf_views.proofs.Common.{◌∷◌, Option, None, Some, ap, arith, cond, eqb-true, find, inl, inr, lt-ltb, nat_le}
use Rattle.mxf_views.proofs.Common.{nat_lt, refl, subst, sym, Bool, and_from, and_parts, cases_lt, ltb-false}
use Rattle.mxf_views.proofs.Common.{tied_itself, same_Some, option_map_or, NoteParts, PacketParts, covered_end, end_of}
use Rattle.mxf_views.proofs.Common.{head_note, note_of, packet_parts, note_cmp, note_total, end_after, notes_from, In}
use Rattle.mxf_views.proofs.Common.{In-append, In-filter}
use Rattle.mxf_views.proofs.Common.{In-flat_map, find-none, find-only, equals_itself, AreReduced, IsContent, has_note}
use Rattle.mxf_views.proofs.Common.{reduced_union, AreMaximal, LiesIn, apart, is_whole, same_content, IsContent-filter}
use Rattle.mxf_views.proofs.Common.{SharesByte-same_offset, has-reduced_union, one_reduced, IsContent-laid}
use Rattle.mxf_views.proofs.Common.{covers_below_end, covers_first, starts_above, IsWellFormed}
use Rattle.mxf_catalogue.specs.declared.run.Run.{Run}
use Rattle.std.proofs.Common.{le-leb, Less, Equal}
use Rattle.std.proofs.lemmas.Bool.{ltb-true, not-true}
use Rattle.std.specs.Option.{option_and_then}
use Rattle.mxf_places.specs.AtHand.{LiesBetween, LiesInRange, has_offsets, up_to_bound}
use Rattle.mxf_places.specs.Held.{IsHeld}
use Rattle.mxf_places.proofs.AtHandLaws.{has_offsets-says}
use Rattle.mxf_places.specs.Heads.{heads_to, is_head_to, start_of}
use Rattle.mxf_restore.specs.Sections.{AreSections, IsEndOfHole, LiesInSection, sections_of}
use Rattle.mxf_restore.specs.declared.section.Section.{Section}
use Rattle.mxf_restore.proofs.HoleLaws.{held_or_not}
use Rattle.mxf_restore.proofs.OrderCover.{start_below}
use Rattle.mxf_restore.proofs.SectionCover.{are_sections}
use Rattle.mxf_hand.specs.File.{AreBytesOfFile, AreOfFile, BeginAtPackets, HeadsHaveValues, IsAllAtHand, IsBoundary}
use Rattle.mxf_hand.specs.File.{IsOfFile}
use Rattle.mxf_hand.specs.Hand.{HandBytes, is_value_at_hand, packet_of, read_packets, read_to, run_end}
use Rattle.mxf_hand.specs.Heads.{fits, fitting}
use Rattle.mxf_hand.specs.Rounds.{heads_taken, made_in, packets_in, put_together, round, rounds, taken_in}
use Rattle.mxf_hand.specs.Sections.{ends_within, from_of, made_by, made_of, packets_of, read_from}
use Rattle.mxf_hand.proofs.FileHoles.{in_hole}
use Rattle.mxf_hand.proofs.FileLaws.{behind_note, has_of_file, head_fits, made_of_file, packet_read, round_of_file}
use Rattle.mxf_hand.proofs.FileLaws.{stands_in}
use Rattle.mxf_hand.proofs.HistoryLaws.{round_content, round_reduced}
use Rattle.mxf_hand.proofs.NoMoreLaws.{no_more}
use Rattle.mxf_hand.proofs.PacketPlaces.{has_packet, is_head, is_or_head, not_cut}
use Rattle.mxf_places.proofs.LaidPlaces.{ends_below}
use Rattle.mxf_hand.proofs.RoundLaws.{all_rounds, round_more, rounds_end}
use Rattle.mxf_hand.proofs.ScanLaws.{if_offset}
use Rattle.mxf_read.specs.ValueSoFar.{passes}
use Rattle.mxf_hand.specs.Given.{bytes_between}

-- ---- ranges

-- What lies in a range lies below its end.
below_end : (first : ℕ) (end : Option ℕ) (x y : ℕ) → end ≡ Some y → LiesBetween first end x → x < y
below_end first end x y e (from, inl none) = absurd (let f = sym e ∙ none in cc (f))
below_end first end x y e (from, inr (z, is, less)) =
    let same = same_Some y z (sym e ∙ is) in omega (arith, same, less)

-- What lies above the first byte of a range lies one behind another that lies in it.
one_before : (first : ℕ) (end : Option ℕ) (x : ℕ) → LiesBetween first end x → first < x → LiesBetween first end (x - 1)
one_before first end x (from, inl none) less = (omega (arith, less), inl none)
one_before first end x (from, inr (z, is, l)) less = (omega (arith, less), inr (z, is, omega (arith, l)))

-- Where all offsets up to another are at hand, so is the run of the first that far.
reach : (low : ℕ) (runs : List Run) (q top : ℕ) → AreMaximal low runs → q < top
    → ((x : ℕ) → q ≤ x → x < top → LiesIn runs x) → (e : ℕ) × (run_end runs q ≡ Some e) × (top ≤ e)
reach low [] q top m less all = absurd ((all q (omega arith) less).1)
reach low (s ∷ runs) q top m less all =
    let some : s.start < s.end = m.1 in
    elim (nat_lt q s.end) as (λ b. nat_lt q s.end ≡ b
    → (e : ℕ) × (option_and_then (λ (r : Run). cond (nat_le r.start q) (Some r.end) None)
    (cond b (Some s) (find (λ (r : Run). nat_lt q r.end) runs)) ≡ Some e) × (top ≤ e)) [
      | true ↦ λ t.
          let high : q < s.end = ltb-true _ _ t in
          let here = all q (omega arith) less in
          let from : s.start ≤ q = elim here.1 [
            | inl e ↦
                let start = ap (λ (r : Run). r.start) e in
                let w : here.0.start ≤ q = here.2.from in omega (arith, start, w)
            | inr i ↦
                let above : s.end + 1 ≤ here.0.start = starts_above (s.end + 1) runs here.0 m.2 i in
                let w : here.0.start ≤ q = here.2.from in absurd (omega (arith, above, w, high))
          ] in
          let far : top ≤ s.end = elim (cases_lt s.end top) [
            | inr l ↦ l
            | inl l ↦
                let there = all s.end (omega (arith, high)) l in
                absurd (elim there.1 [
                  | inl e ↦
                      let end = ap (λ (r : Run). r.end) e in
                      let w : s.end + 1 ≤ there.0.end = there.2.before in omega (arith, end, w)
                  | inr i ↦
                      let above : s.end + 1 ≤ there.0.start = starts_above (s.end + 1) runs there.0 m.2 i in
                      let w : there.0.start ≤ s.end = there.2.from in omega (arith, above, w)
                ])
          ] in
          (s.end, ap (λ (b : Bool). cond b (Some s.end) None) (le-leb s.start q from), far)
      | false ↦ λ t.
          let high : s.end ≤ q = ltb-false _ _ t in
          reach (s.end + 1) runs q top m.2 less (λ x from before.
          let there = all x from before in
          elim there.1 [
            | inl e ↦
                let end = ap (λ (r : Run). r.end) e in
                let w : x + 1 ≤ there.0.end = there.2.before in absurd (omega (arith, end, w, high, from))
            | inr i ↦ (there.0, i, there.2)
          ])
    ] refl

module _ (l : List PacketParts) (h : HandBytes) (well : IsWellFormed l) (file : AreBytesOfFile l h)
    (all : IsAllAtHand l h) where
  -- ---- a round

  module _ (notes : List NoteParts) (content : IsContent notes) (of : AreOfFile l notes)
      (values : HeadsHaveValues notes) (begin : BeginAtPackets l notes) where
    are : AreSections notes (sections_of notes)
    are = are_sections notes content

    -- Nothing of a section is held.
    free : (p : Section) (x : ℕ) → In p (sections_of notes) → LiesInSection p x → IsHeld notes x → ⊥
    free p x k lies held = (are.holes p k).none_held x (are.within p x k lies) held

    -- No head ends where what lies below isn't held.
    no_head_to : (x : ℕ) → (IsHeld notes (x - 1) → ⊥) → start_of notes x ≡ x
    no_head_to x none = grind (arith, find-none, eqb-true, and_parts, covers_first)

    -- A note begins where a packet does.
    begins_there : (n : NoteParts) → IsOfFile l n → IsBoundary l n.offset
    begins_there n is =
        let k = has_packet l n is in
        let s = stands_in 0 l k.packet k.there in (
          s.front,
          s.packet ∷ s.back,
          s.parts,
          sym (k.offset ∙ ap (λ (m : NoteParts). m.offset) s.is),
        )

    -- Where another section begins behind one, a packet does.
    begins_next : (p : Section) (y : ℕ) → In p (sections_of notes) → p.end ≡ Some y → LiesInSection p (y - 1)
        → LiesInRange p.hole y → IsBoundary l y
    begins_next p y k e lies range =
        let s = are.cover p.hole y (are.holes p k) range in
        let from : s.0.first ≤ y = s.3.0 in
        elim (cases_lt s.0.first y) [
          | inl less ↦ absurd (
              let one = are.apart p s.0 (y - 1) k s.1 lies (one_before s.0.first s.0.end y s.3 less) in
              let end : s.0.end ≡ Some y = ap (λ (p : Section). p.end) (sym one) ∙ e in
              let below = below_end s.0.first s.0.end y y end s.3 in omega (arith, below))
          | inr more ↦
              let first : s.0.first ≡ y = omega (arith, from, more) in
              subst (IsBoundary l) (ap (start_of notes) first ∙ no_head_to y (free p (y - 1) k lies)) (begin s.0 s.1)
        ]

    -- Where something is held behind what isn't, a packet begins.
    begins_held : (y : ℕ) → 0 < y → (IsHeld notes (y - 1) → ⊥) → IsHeld notes y → IsBoundary l y
    begins_held y some none held =
        let n = held.0 in
        let from : n.offset ≤ y = held.2.from in
        let before : y + 1 ≤ covered_end n = held.2.before in
        elim (cases_lt n.offset y) [
          | inl less ↦ absurd (
              let low : n.offset ≤ y - 1 = omega (arith, less) in
              let high : y - 1 + 1 ≤ covered_end n = omega (arith, before, some) in
              none (n, held.1, record { from = low; before = high }))
          | inr more ↦
              let at : n.offset ≡ y = omega (arith, from, more) in
              subst (IsBoundary l) at (begins_there n (of n held.1))
        ]

    -- Where a section ends a packet begins.
    ends_there : (p : Section) (y : ℕ) → In p (sections_of notes) → p.end ≡ Some y → IsBoundary l y
    ends_there p y k e =
        let some : p.first < y = below_end p.first p.end p.first y e (are.some p k) in
        let lies : LiesInSection p (y - 1) = (omega (arith, some), inr (y, e, omega (arith, some))) in
        let range = are.within p (y - 1) k lies in
        let from : p.hole.start ≤ y - 1 = range.0 in
        elim range.1 [
          | inl none ↦ begins_next p y k e lies (omega (arith, from), inl none)
          | inr s ↦ elim (cases_lt y s.0) [
            | inl less ↦ begins_next p y k e lies (omega (arith, from), inr (s.0, s.1, less))
            | inr more ↦
                let below = s.2 in
                let same : s.0 ≡ y = omega (arith, below, more, some) in
                let last = subst (IsEndOfHole notes) (s.1 ∙ ap (λ (z : ℕ). Some z) same) (are.holes p k).last in
                begins_held y (omega (arith, some)) (free p (y - 1) k lies) last
          ]
        ]

    -- ---- where a section is read from

    fitted_there : (first : ℕ) (n : NoteParts) → In n (fitting h notes first)
        → In n notes × (n.whole ≡ false) × (covered_end n ≡ first)
    fitted_there first n i =
        let k = (In-filter (λ a. (a.offset == start_of notes first) && fits h a) (heads_to first notes) n).0 i in
        let j = (In-filter (is_head_to first) notes n).0 k.0 in
        let parts = and_parts (not n.whole) (covered_end n == first) j.1 in
        (j.0, not-true n.whole parts.0, eqb-true (covered_end n) first parts.1)

    fitted_rise : (first : ℕ) → IsContent (fitting h notes first)
    fitted_rise first = IsContent-filter (λ a. (a.offset == start_of notes first) && fits h a) (heads_to first notes)
        (IsContent-filter (is_head_to first) notes content)

    -- At an offset one head ends.
    one_head : (first : ℕ) (a b : NoteParts) → In a notes → a.whole ≡ false → covered_end a ≡ first → In b notes
        → b.whole ≡ false → covered_end b ≡ first → a ≡ b
    one_head first a b i wa ea j wb eb =
        let k = is_head l a (of a i) wa in
        let m = k.0 in
        let e : covered_end a ≡ covered_end (head_note m) = ap covered_end k.2 in
        let low = covers_first b in
        let high = covers_below_end b in
        elim (is_or_head l m b (first - 1) k.1 (of b j) (omega (arith, ea, e)) (omega (arith, ea, e))
        (omega (arith, eb, low)) (omega (arith, eb, low, high))) [
          | inl is ↦ absurd (
              let whole = ap (λ (n : NoteParts). n.whole) is ∙ is_whole 0 l m k.1 in cc (whole, wb))
          | inr is ↦ k.2 ∙ sym is
        ]

    two_fit : (first : ℕ) (a b : NoteParts) (others : List NoteParts) → fitting h notes first ≡ a ∷ b ∷ others → ⊥
    two_fit first a b others e =
        let rise = subst IsContent e (fitted_rise first) in
        let x = fitted_there first a (subst (In a) (sym e) (inl refl)) in
        let y = fitted_there first b (subst (In b) (sym e) (inr (inl refl))) in
        let same : a ≡ b = one_head first a b x.0 x.1 x.2 y.0 y.1 y.2 in
        let never : Equal ≡ Less = sym (tied_itself note_total a) ∙ ap (note_cmp a) same ∙ rise.0.0 in cc (never)

    -- A section is read from somewhere, from where a packet begins at or below each that begins in it.
    abbrev Start : Section → Type 0
    Start p = (q : ℕ) × (from_of h notes p ≡ Some q) × IsBoundary l q
        × ((m : NoteParts) → In m (notes_from 0 l) → p.first ≤ m.offset → q ≤ m.offset)

    start_at : (p : Section) (heads : List NoteParts) → In p (sections_of notes) → fitting h notes p.first ≡ heads
        → Start p
    start_at p [] k e =
        let start = start_of notes p.first in
        let low = start_below notes p.first in
        (start, ap (read_from start) e, begin p k, λ m i above. omega (arith, low, above))
    start_at p (n ∷ []) k e =
        let there = fitted_there p.first n (subst (In n) (sym e) (inl refl)) in
        let first = covers_first n in
        let ends = there.2 in (
          end_of n,
          ap (read_from (start_of notes p.first)) e,
          behind_note l file.bytes h file.laid file.cover file.alike file.read notes of begin n (of n there.0),
          λ m i above. elim (cases_lt m.offset (end_of n)) [
            | inr high ↦ high
            | inl less ↦ absurd (elim (is_or_head l m n m.offset i (of n there.0) (omega arith) (omega arith)
                (omega (arith, first, ends, above)) less) [
                  | inl is ↦
                      let whole = ap (λ (n : NoteParts). n.whole) is ∙ is_whole 0 l m i in
                      let head = there.1 in cc (whole, head)
                  | inr is ↦
                      let end : covered_end n ≡ covered_end (head_note m) = ap covered_end is in
                      omega (arith, end, ends, above)
                ])
          ],
        )
    start_at p (n ∷ m ∷ heads) k e = absurd (two_fit p.first n m heads e)

    -- It is read up to or beyond the end of each packet that begins in it.
    goes_past : (p : Section) (q : ℕ) (m : NoteParts) → In p (sections_of notes) → In m (notes_from 0 l)
        → LiesInSection p m.offset → q ≤ m.offset → end_of m ≤ read_to h.runs p.end q
    goes_past p q m k i lies from =
        let ends = ends_below 0 l m i in
        let run =
        reach 0 h.runs q (end_after 0 l) file.cover.maximal (omega (arith, ends, from))
        (λ x low high. (all x high).0) in
        let far = run.2 in
        let reached : end_of m ≤ up_to_bound run.0 p.end =
        elim p.end as (λ o. p.end ≡ o → end_of m ≤ up_to_bound run.0 o) [
          | None ↦ λ e. omega (arith, ends, far)
          | Some y ↦ λ e.
              let cut = not_cut l y m (ends_there p y k e) i (below_end p.first p.end m.offset y e lies) in
              omega (arith, cut, ends, far)
        ] refl in
        subst (λ (o : Option ℕ). end_of m ≤ option_map_or (λ e. up_to_bound e p.end) o q) (sym run.1) reached

    -- ---- what is taken

    -- A packet of which nothing is held is read.
    packet_taken : (m : NoteParts) → In m (notes_from 0 l) → (IsHeld notes m.offset → ⊥)
        → In m (taken_in h notes (sections_of notes))
    packet_taken m i none =
        let sections = sections_of notes in
        let ends = ends_below 0 l m i in
        let hole = in_hole l well notes content of m.offset (omega (arith, ends)) none in
        let s = are.cover hole.0 m.offset hole.1 hole.2 in
        let p = s.0 in
        let start = start_at p (fitting h notes p.first) s.1 refl in
        let from = start.3 m i s.3.0 in
        let read = packet_read l file.bytes h file.laid file.cover file.alike file.read p.end start.0 m start.2 i from
        (goes_past p start.0 m s.1 i s.3 from) in
        let there : In m (packets_of h notes p) =
        subst (λ (o : Option ℕ). In m (option_map_or (read_packets h p.end) o [])) (sym start.1) read in
        (In-append m (packets_in h notes sections) (made_in h notes sections ++ heads_taken h notes sections)).1
        (inl ((In-flat_map (packets_of h notes) sections m).1 (p, s.1, there)))

    -- A packet of which the head alone is held is made.
    module _ (m : NoteParts) (i : In m (notes_from 0 l)) (held : In (head_note m) notes)
        (none : IsHeld notes (m.offset + 16 + m.width) → ⊥) where
      abbrev behind : ℕ
      behind = m.offset + 16 + m.width

      value : 0 < m.length
      value = values (head_note m) held refl

      only_fits : fitting h notes behind ≡ head_note m ∷ []
      only_fits =
          let test : is_head_to behind (head_note m) ≡ true = (equals_itself behind behind).1 refl in
          let found : find (is_head_to behind) notes ≡ Some (head_note m) =
          find-only (is_head_to behind) notes (head_note m) held test (λ x j t.
          let parts = and_parts (not x.whole) (covered_end x == behind) t in
          one_head behind x (head_note m) j (not-true x.whole parts.0) (eqb-true (covered_end x) behind parts.1)
          held refl refl) in
          let start : start_of notes behind ≡ m.offset =
          ap (λ (o : Option NoteParts). option_map_or (λ n. n.offset) o behind) found in
          let fit = λ (a : NoteParts). (a.offset == start_of notes behind) && fits h a in
          let passes : fit (head_note m) ≡ true =
          and_from (m.offset == start_of notes behind) (fits h (head_note m))
          ((equals_itself m.offset (start_of notes behind)).1 (sym start))
          (head_fits l file.bytes h file.laid file.cover file.alike file.read all m i) in
          let ends = (In-filter (is_head_to behind) notes (head_note m)).1 (held, test) in
          let there : In (head_note m) (fitting h notes behind) =
          (In-filter fit (heads_to behind notes) (head_note m)).1 (ends, passes) in
          same_content (fitting h notes behind) (head_note m ∷ []) (fitted_rise behind) (tt, tt) (λ x. (
            λ j.
                let k = fitted_there behind x j in
                inl (one_head behind x (head_note m) k.0 k.1 k.2 held refl refl),
            λ j. elim j [ inl e ↦ subst (λ n. In n (fitting h notes behind)) (sym e) there | inr never ↦ absurd never ],
          ))

      -- Its value ends in its hole.
      ends_in : (p : Section) → In p (sections_of notes) → LiesInSection p behind
          → ends_within p.hole.end (head_note m) ≡ true
      ends_in p k lies =
          elim p.hole.end as (λ o. p.hole.end ≡ o → option_map_or (λ e. nat_le (end_of m) e) o true ≡ true) [
            | None ↦ λ e. refl
            | Some y ↦ λ e. le-leb (end_of m) y (elim (cases_lt y (end_of m)) [
              | inr high ↦ high
              | inl less ↦ absurd (
                  let last : IsHeld notes y = subst (IsEndOfHole notes) e (are.holes p k).last in
                  let n = last.0 in
                  let from : n.offset ≤ y = last.2.from in
                  let before : y + 1 ≤ covered_end n = last.2.before in
                  let within = covers_below_end n in
                  let above = below_end p.hole.start p.hole.end behind y e (are.within p behind k lies) in
                  elim (is_or_head l m n y i (of n last.1) (omega (arith, above)) less from
                  (omega (arith, before, within))) [
                    | inl is ↦ none (
                      n,
                      last.1,
                      record {
                        from = let o = ap (λ (n : NoteParts). n.offset) is in omega (arith, o);
                        before = omega (arith, before, above);
                      },
                    )
                    | inr is ↦
                        let end : covered_end n ≡ covered_end (head_note m) = ap covered_end is in
                        omega (arith, end, before, above)
                  ])
            ])
          ] refl

      head_taken : In m (taken_in h notes (sections_of notes))
      head_taken =
          let sections = sections_of notes in
          let n = head_note m in
          let ends = ends_below 0 l m i in
          let some = value in
          let hole = in_hole l well notes content of behind (omega (arith, ends, some)) none in
          let s = are.cover hole.0 behind hole.1 hole.2 in
          let p = s.0 in
          let low : p.first ≤ behind = s.3.0 in
          let first : p.first ≡ behind = elim (cases_lt p.first behind) [
            | inr more ↦ omega (arith, low, more)
            | inl less ↦ absurd (free p (behind - 1) s.1 (one_before p.first p.end behind s.3 less)
                (n, held, record { from = omega arith; before = omega arith }))
          ] in
          let heads : fitting h notes p.first ≡ n ∷ [] = ap (fitting h notes) first ∙ only_fits in
          let lies : (x : ℕ) → behind ≤ x → x < end_of m → LiesIn h.runs x =
          λ x from before. (all x (omega (arith, before, ends))).0 in
          let at_hand : is_value_at_hand h n ≡ true =
          and_from (nat_lt 0 m.length) (has_offsets h.runs behind (end_of m)) (lt-ltb 0 m.length value)
          ((has_offsets-says h.runs behind (end_of m) file.cover).1 lies) in
          let test : (is_value_at_hand h n && ends_within p.hole.end n) ≡ true =
          and_from (is_value_at_hand h n) (ends_within p.hole.end n) at_hand (ends_in p s.1 s.3) in
          let made = made_of_file l file.bytes h file.laid file.cover file.alike file.read n (of n held) refl lies in
          let is : packet_of h n ≡ m =
          apart 0 l (packet_of h n) m made i (SharesByte-same_offset (packet_of h n) m
          (if_offset (passes h.scan m.key m.length)
          (note_of m.offset (packet_parts m.key m.width (bytes_between h.byte behind (end_of m)))))) in
          let there : In m (made_of h notes p) =
          subst (λ (t : List NoteParts). In m (made_by h p.hole.end t)) (sym heads)
          (subst (λ (b : Bool). In m (cond b (packet_of h n ∷ []) [])) (sym test) (inl (sym is))) in
          (In-append m (packets_in h notes sections) (made_in h notes sections ++ heads_taken h notes sections)).1
          (inr ((In-append m (made_in h notes sections) (heads_taken h notes sections)).1
          (inl ((In-flat_map (made_of h notes) sections m).1 (p, s.1, there)))))

    -- A packet of which key and length are held is held, or made.
    head_held : (m : NoteParts) → In m (notes_from 0 l) → In (head_note m) notes
        → In m notes ⊎ In m (taken_in h notes (sections_of notes))
    head_held m i held =
        let behind = m.offset + 16 + m.width in
        let some : 0 < m.length = values (head_note m) held refl in
        elim (held_or_not notes behind) [
          | inr none ↦ inr (head_taken m i held none)
          | inl s ↦
              let n = s.0 in
              let from : n.offset ≤ behind = s.2.from in
              let before : behind + 1 ≤ covered_end n = s.2.before in
              let within = covers_below_end n in
              elim (is_or_head l m n behind i (of n s.1) (omega arith) (omega (arith, some)) from
              (omega (arith, before, within))) [
                | inl is ↦ inl (subst (λ n. In n notes) is s.1)
                | inr is ↦ absurd (
                    let end : covered_end n ≡ covered_end (head_note m) = ap covered_end is in
                    omega (arith, end, before))
              ]
        ]

    -- Each packet is held, or taken.
    held_or_taken : (m : NoteParts) → In m (notes_from 0 l) → In m notes ⊎ In m (taken_in h notes (sections_of notes))
    held_or_taken m i =
        elim (held_or_not notes m.offset) [
          | inr none ↦ inr (packet_taken m i none)
          | inl s ↦
              let n = s.0 in
              let before : m.offset + 1 ≤ covered_end n = s.2.before in
              let within = covers_below_end n in
              elim (is_or_head l m n m.offset i (of n s.1) (omega arith) (omega arith) s.2.from
              (omega (arith, before, within))) [
                | inl is ↦ inl (subst (λ n. In n notes) is s.1)
                | inr is ↦ head_held m i (subst (λ n. In n notes) is s.1)
              ]
        ]

    has_all : (n : NoteParts) → IsOfFile l n → has_note (round h notes) n
    unfolding round
    has_all n is =
        let taken = taken_in h notes (sections_of notes) in
        let packet : (m : NoteParts) → In m (notes_from 0 l) → has_note (reduced_union notes taken) m =
        λ m i. (has-reduced_union m notes taken).1
        (elim (held_or_taken m i) [ inl k ↦ inl (inl k) | inr k ↦ inr (inl k) ]) in
        elim is [
          | inl i ↦ packet n i
          | inr s ↦ elim (packet s.0 s.1) [ inl j ↦ inr (s.0, j, s.2) | inr t ↦ inr (t.0, t.1, ap head_note t.2 ∙ s.2) ]
        ]

    pub one_round : AreReduced notes → round h notes ≡ notes_from 0 l
    one_round reduced =
        one_reduced (round h notes) (notes_from 0 l) (round_content h notes content) (IsContent-laid 0 l)
        (round_reduced h notes reduced) (λ x i told.
        let packet = is_whole 0 l x i in
        let head = ap (λ (n : NoteParts). n.whole) told.3 in cc (packet, head))
        (λ n. (
          has_of_file l file.bytes h file.laid file.cover file.alike file.read notes of begin (round h notes) n
              (round_of_file l file.bytes h file.laid file.cover file.alike file.read notes of begin),
          has_all n,
        ))

  -- ---- all rounds

  pub all_together : (notes : List NoteParts) → IsContent notes → AreReduced notes → AreOfFile l notes
      → HeadsHaveValues notes → BeginAtPackets l notes → put_together h notes ≡ notes_from 0 l
  all_together notes content reduced of values begin = all_rounds h notes ∙ round_more h notes 64 63 refl
      ∙ ap (rounds 63 h) (one_round notes content of values begin reduced)
      ∙ rounds_end h (notes_from 0 l) 63 (no_more l h file)

pub whole_file : (packets : List PacketParts) (h : HandBytes) (notes : List NoteParts) → IsWellFormed packets
    → AreBytesOfFile packets h → IsAllAtHand packets h → IsContent notes → AreReduced notes → AreOfFile packets notes
    → HeadsHaveValues notes → BeginAtPackets packets notes → put_together h notes ≡ notes_from 0 packets
whole_file packets h notes well file all content reduced of values begin =
    all_together packets h well file all notes content reduced of values begin
