-- Index table segments that partitions don't count right, in the words of packets and segments.
use Rattle.mxf_views.proofs.Common.{◌≡◌, ◌≢◌, ◌↔◌, ◌∙◌, ◌+◌, ◌≤◌, ◌<◌, ℕ, Bool, true, false, List, ◌&&◌, ◌||◌, ◌==◌, ◌⊎◌, not}
use Rattle.mxf_views.proofs.Common.{sym, ap, refl, inl, inr, map, filter, find, cond, In, list_any-In}
use Rattle.mxf_views.proofs.Common.{and_from, and_parts, or_cases, le-leb, leb-true, lt-ltb, ltb-true, eqb-true, eq-eqb, nat_le, nat_lt}
use Rattle.mxf_views.proofs.Common.{Option, Some, None, option_map_or, option_and_then, range_with_len, NoteParts, end_of, kind_of}
use Rattle.mxf_views.proofs.Common.{IsContent, IsClear, In-clear_notes, clear_notes, clear_at-found, PartitionParts}
use Rattle.mxf_klv.proofs.Counts.{In-range}
use Rattle.mxf_klv.proofs.Lists.{In-chosen, In-filter, In-list_all, found-In, list_all-In}
use Rattle.mxf_klv.proofs.Tests.{not_equal}
use Rattle.mxf_klv.specs.declared.kinds.Kind.TheVariants as kinds
use Rattle.mxf_views.proofs.KindLaws.{fill_kind, segment_kind}
use Rattle.mxf_views.specs.Copies.{is_fill}
use Rattle.mxf_views.specs.Labels.{is_in_zone}
use Rattle.mxf_views.specs.Partitions.{partitions_of}
use Rattle.mxf_views.specs.Places.{SegmentAtParts, is_segment, segments_of}
use Rattle.mxf_places.proofs.OverLaws.{over_says}
use Rattle.mxf_places.proofs.ZoneLaws.{behind_says}
use Rattle.mxf_places.specs.Claims.{behind_metadata, over_fills}
use Rattle.mxf_doubts.specs.DoubtCauses.{AreFilled, AtPartition, IsForeign, IsIndexMisfit, IsMiscounted, IsUnfit}
use Rattle.mxf_doubts.specs.DoubtCauses.IsMiscounted.{has_other, cuts_one, leaves_one, has_none}
use Rattle.mxf_doubts.specs.DoubtCauses.IsUnfit.{uncounted, no_index, miscounted}
use Rattle.mxf_doubts.specs.IndexFit.{are_filled, begins_in, begins_segment, first_behind, has_byte, has_foreign, has_own, has_segment}
use Rattle.mxf_doubts.specs.IndexFit.{is_clear_at, is_counted_wrong, is_cut_at, is_foreign, is_index_misfit, is_miscounted, is_unfit}
use Rattle.mxf_doubts.specs.Strange.{is_dark}
use Rattle.mxf_doubts.proofs.FitLaws.{range-In}
use Rattle.mxf_doubts.proofs.StrangeLaws.{dark, three, three_from}

-- ---- A test that fails

not_holds : (b : Bool) {P : Type 0} → ((b ≡ true) ↔ P) → (not b ≡ true) ↔ (P → ⊥)
not_holds true i = (λ h p. absurd cc, λ h. absurd (h (i.0 refl)))
not_holds false i = (λ h p. absurd (cc (i.1 p)), λ h. refl)

or_parts : {P Q : Type 0} (a b : Bool) → ((a ≡ true) ↔ P) → ((b ≡ true) ↔ Q) → ((a || b) ≡ true) ↔ (P ⊎ Q)
or_parts true b i j = (λ h. inl (i.0 refl), λ h. refl)
or_parts false b i j = (λ h. inr (j.0 h), λ h. elim h [ inl p ↦ absurd (cc (i.1 p)) | inr q ↦ j.1 q ])

module _ (notes : List NoteParts) (content : IsContent notes) where
  foreign : (n : NoteParts) → IsClear n notes → (is_foreign notes n ≡ true) ↔ IsForeign notes n
  unfolding is_foreign
  foreign n c =
      let s = not_holds (is_segment (kind_of n.key)) (segment_kind (kind_of n.key)) in
      let f = not_holds (is_fill (kind_of n.key)) (fill_kind (kind_of n.key)) in
      let d = not_holds (is_dark notes n) (dark notes n content c) in (
        λ h.
            let p = three (not (is_segment (kind_of n.key))) (not (is_fill (kind_of n.key))) (not (is_dark notes n)) h in
            record { no_segment = s.0 p.0; no_fill = f.0 p.1; bright = d.0 p.2 },
        λ k. three_from _ _ _ (s.1 k.no_segment) (f.1 k.no_fill) (d.1 k.bright),
      )

  byte : (x : ℕ) (n : NoteParts) → (has_byte x n ≡ true) ↔ ((n.offset ≤ x) × (x < end_of n))
  byte x n = (
    λ h. let p = and_parts (nat_le n.offset x) (nat_lt x (end_of n)) h in (leb-true _ _ p.0, ltb-true _ _ p.1),
    λ k. and_from _ _ (le-leb _ _ k.0) (lt-ltb _ _ k.1),
  )

  filled : (start bytes : ℕ) → (are_filled notes start bytes ≡ true) ↔ AreFilled notes start (start + bytes)
  filled start bytes = (
    λ h x from before.
        let t = list_all-In (is_clear_at notes) (range_with_len start bytes) x h (In-range start bytes x from before) in
        let s = (list_any-In (has_byte x) (clear_notes notes)).0 t in
        let b = (byte x s.0).0 s.2 in
        (s.0, (In-clear_notes s.0 notes).0 s.1, b.0, b.1),
    λ k. In-list_all (is_clear_at notes) (range_with_len start bytes) (λ x h.
        let r = range-In start bytes x h in
        let s = k x r.0 r.1 in
        (list_any-In (has_byte x) (clear_notes notes)).1 (
          s.0,
          (In-clear_notes s.0 notes).1 s.1,
          (byte x s.0).1 (s.2, s.3),
        )),
  )

  abbrev HasForeign : ℕ → ℕ → Type 0
  HasForeign start end =
      (n : NoteParts) × IsClear n notes × (start ≤ n.offset) × (end_of n ≤ end) × IsForeign notes n

  foreign_there : (start bytes : ℕ) → (has_foreign notes start bytes ≡ true) ↔ HasForeign start (start + bytes)
  foreign_there start bytes =
      let any = list_any-In (λ (n : NoteParts). is_in_zone n bytes (Some start)) (filter (is_foreign notes) (clear_notes notes)) in
      let among = In-filter (is_foreign notes) (clear_notes notes) in (
        λ h.
            let s = any.0 h in
            let f = (among s.0).0 s.1 in
            let c = (In-clear_notes s.0 notes).0 f.0 in
            let p = and_parts (nat_le start s.0.offset) (nat_le (end_of s.0) (start + bytes)) s.2 in
            (s.0, c, leb-true _ _ p.0, leb-true _ _ p.1, (foreign s.0 c).0 f.1),
        λ k. any.1 (
          k.0,
          (among k.0).1 ((In-clear_notes k.0 notes).1 k.1, (foreign k.0 k.1).1 k.4),
          and_from _ _ (le-leb _ _ k.2) (le-leb _ _ k.3),
        ),
      )

  abbrev IsCut : ℕ → Type 0
  IsCut end = (n : NoteParts) × IsClear n notes × (n.offset < end) × (end < end_of n)

  cut : (end : ℕ) → (is_cut_at notes end ≡ true) ↔ IsCut end
  cut end =
      let any = list_any-In (λ (n : NoteParts). nat_lt n.offset end && nat_lt end (end_of n)) (clear_notes notes) in (
        λ h.
            let s = any.0 h in
            let p = and_parts (nat_lt s.0.offset end) (nat_lt end (end_of s.0)) s.2 in
            (s.0, (In-clear_notes s.0 notes).0 s.1, ltb-true _ _ p.0, ltb-true _ _ p.1),
        λ k. any.1 (k.0, (In-clear_notes k.0 notes).1 k.1, and_from _ _ (lt-ltb _ _ k.2) (lt-ltb _ _ k.3)),
      )

  abbrev IsLeft : ℕ → Type 0
  IsLeft end = (n : NoteParts) × IsClear n notes × (n.offset ≡ end) × (kind_of n.key ≡ kinds.Segment)

  left : (end : ℕ) → (begins_segment notes end ≡ true) ↔ IsLeft end
  left end =
      let any = list_any-In (λ (n : NoteParts). (n.offset == end) && is_segment (kind_of n.key)) (clear_notes notes) in (
        λ h.
            let s = any.0 h in
            let p = and_parts (s.0.offset == end) (is_segment (kind_of s.0.key)) s.2 in
            (s.0, (In-clear_notes s.0 notes).0 s.1, eqb-true _ _ p.0, (segment_kind (kind_of s.0.key)).0 p.1),
        λ k. any.1 (
          k.0,
          (In-clear_notes k.0 notes).1 k.1,
          and_from _ _ (eq-eqb _ _ k.2) ((segment_kind (kind_of k.0.key)).1 k.3),
        ),
      )

  begins : (start end : ℕ) (s : SegmentAtParts)
      → (begins_in start end s ≡ true) ↔ ((start ≤ s.offset) × (s.offset < end))
  begins start end s = (
    λ h. let p = and_parts (nat_le start s.offset) (nat_lt s.offset end) h in (leb-true _ _ p.0, ltb-true _ _ p.1),
    λ k. and_from _ _ (le-leb _ _ k.0) (lt-ltb _ _ k.1),
  )

  abbrev AreOthers : ℕ → ℕ → ℕ → Type 0
  AreOthers sid start end =
      (s : SegmentAtParts) × In s (segments_of notes) × (start ≤ s.offset) × (s.offset < end)
      × ((o : SegmentAtParts) → In o (segments_of notes) → start ≤ o.offset → o.offset < end
      → o.segment.numbers.index_sid ≢ sid)

  others : (sid start end : ℕ)
      → ((has_segment notes start end && not (has_own notes sid start end)) ≡ true) ↔ AreOthers sid start end
  others sid start end =
      let any = list_any-In (begins_in start end) (segments_of notes) in
      let own = list_any-In (λ (s : SegmentAtParts). (s.segment.numbers.index_sid == sid) && begins_in start end s) (segments_of notes) in (
        λ h.
            let p = and_parts (has_segment notes start end) (not (has_own notes sid start end)) h in
            let s = any.0 p.0 in
            let b = (begins start end s.0).0 s.2 in
            let n = (not_holds (has_own notes sid start end) own).0 p.1 in (
              s.0,
              s.1,
              b.0,
              b.1,
              λ o i from before e. n (o, i, and_from _ _ (eq-eqb _ _ e) ((begins start end o).1 (from, before))),
            ),
        λ k. and_from _ _ (any.1 (k.0, k.1, (begins start end k.0).1 (k.2, k.3)))
            ((not_holds (has_own notes sid start end) own).1 (λ s.
            let p = and_parts (s.0.segment.numbers.index_sid == sid) (begins_in start end s.0) s.2 in
            let b = (begins start end s.0).0 p.1 in
            k.4 s.0 s.1 b.0 b.1 (eqb-true _ _ p.0))),
      )

  counted : (sid start bytes : ℕ) → (is_miscounted notes sid start bytes ≡ true) ↔ IsMiscounted notes sid start (start + bytes)
  counted sid start bytes =
      let end = start + bytes in
      let wrong = or_parts _ _ (or_parts _ _ (cut end) (left end)) (others sid start end) in
      let fill = filled start bytes in
      let there = foreign_there start bytes in (
        λ h. elim (or_cases (has_foreign notes start bytes)
            (are_filled notes start bytes && is_counted_wrong notes sid start end) h) [
              | inl t ↦ let s = there.0 t in has_other s.0 s.1 s.2 s.3 s.4
              | inr t ↦
                  let p = and_parts (are_filled notes start bytes) (is_counted_wrong notes sid start end) t in
                  let f = fill.0 p.0 in
                  elim (wrong.0 p.1) [
                    | inl e ↦ elim e [ inl s ↦ cuts_one f s.0 s.1 s.2 s.3 | inr s ↦ leaves_one f s.0 s.1 s.2 s.3 ]
                    | inr s ↦ has_none f s.0 s.1 s.2 s.3 s.4
                  ]
            ],
        λ k.
            let of_wrong : AreFilled notes start end → (IsCut end ⊎ IsLeft end) ⊎ AreOthers sid start end
            → is_miscounted notes sid start bytes ≡ true =
            λ f w. (or_parts (has_foreign notes start bytes) _ there (λ e. e, λ e. e)).1
            (inr (and_from _ _ (fill.1 f) (wrong.1 w))) in
            elim k [
              | has_other n c from before f ↦
                  (or_parts (has_foreign notes start bytes) _ there (λ e. e, λ e. e)).1 (inl (n, c, from, before, f))
              | cuts_one f n c from before ↦ of_wrong f (inl (inl (n, c, from, before)))
              | leaves_one f n c at is ↦ of_wrong f (inl (inr (n, c, at, is)))
              | has_none f s i from before none ↦ of_wrong f (inr (s, i, from, before, none))
            ],
      )

  unfit : (p : PartitionParts) (n : NoteParts) → IsClear n notes → (is_unfit notes p n ≡ true) ↔ IsUnfit notes p n
  unfit p n c =
      let bytes = p.pack.numbers.index_byte_count in
      let sid = p.pack.numbers.index_sid in
      let kind = segment_kind (kind_of n.key) in
      let count = counted sid n.offset bytes in
      let zero : (bytes == 0 ≡ true) ↔ (bytes ≡ 0) = (eqb-true bytes 0, eq-eqb bytes 0) in
      let some = not_equal bytes 0 in
      let bright = not_holds (is_dark notes n) (dark notes n content c) in
      elim (is_segment (kind_of n.key)) as (λ b. is_segment (kind_of n.key) ≡ b
      → (cond b ((bytes == 0) || is_miscounted notes sid n.offset bytes) (not (bytes == 0) && not (is_dark notes n)) ≡ true)
      ↔ IsUnfit notes p n) [
        | true ↦ λ e. (
          λ h. elim (bytes == 0) as (λ z. bytes == 0 ≡ z → (z || is_miscounted notes sid n.offset bytes) ≡ true
              → IsUnfit notes p n) [
                | true ↦ λ z t. uncounted (zero.0 z) (kind.0 e)
                | false ↦ λ z t. miscounted (some.0 (ap not z)) (kind.0 e) (count.0 t)
              ] refl h,
          λ k. elim k [
            | uncounted z s ↦ ap (λ b. b || is_miscounted notes sid n.offset bytes) (zero.1 z)
            | no_index z s d ↦ absurd (s (kind.0 e))
            | miscounted z s m ↦
                (or_parts (bytes == 0) (is_miscounted notes sid n.offset bytes) zero count).1 (inr m)
          ],
        )
        | false ↦ λ e. (
          λ h.
              let p = and_parts (not (bytes == 0)) (not (is_dark notes n)) h in
              no_index (some.0 p.0) (λ s. cc (kind.1 s, e)) (bright.0 p.1),
          λ k. elim k [
            | uncounted z s ↦ absurd (cc (kind.1 s, e))
            | no_index z s d ↦ and_from _ _ (some.1 z) (bright.1 d)
            | miscounted z s m ↦ absurd (cc (kind.1 s, e))
          ],
        )
      ] refl

  -- What stands at the offset to which one comes.
  tells : (p : PartitionParts) (m : Option ℕ) (f : Option NoteParts) → behind_metadata notes p ≡ m
      → option_and_then (λ begin. find (λ n. n.offset == over_fills notes begin) (clear_notes notes)) m ≡ f
      → option_map_or (is_unfit notes p) f false ≡ true → IsIndexMisfit notes p
  tells p None f b e t = absurd (cc (e, t))
  tells p (Some begin) None b e t = absurd (cc (t))
  tells p (Some begin) (Some n) b e t =
      let i = found-In (λ (n : NoteParts). n.offset == over_fills notes begin) (clear_notes notes) n e in
      let c = (In-clear_notes n notes).0 i.0 in
      record {
        begin = begin;
        behind = (behind_says notes content p begin).0 b;
        first = n;
        clear = c;
        over = (over_says notes content begin n.offset).0 (sym (eqb-true _ _ i.1));
        unfit = (unfit p n c).0 t;
      }

  misfit_is : (p : PartitionParts) → (is_index_misfit notes p ≡ true) ↔ IsIndexMisfit notes p
  unfolding is_index_misfit
  misfit_is p = (
    λ h. tells p (behind_metadata notes p) (first_behind notes p) refl refl h,
    λ k.
        let n = k.first in
        let over = (over_says notes content k.begin n.offset).1 k.over in
        ap (λ (m : Option ℕ). option_map_or (is_unfit notes p) (option_and_then
        (λ begin. find (λ n. n.offset == over_fills notes begin) (clear_notes notes)) m) false)
        ((behind_says notes content p k.begin).1 k.behind)
        ∙ ap (λ (o : Option NoteParts). option_map_or (is_unfit notes p) o false)
        (clear_at-found (over_fills notes k.begin) notes n k.clear (sym over))
        ∙ (unfit p n k.clear).1 k.unfit,
  )

  pub index_misfits : (o : ℕ)
      → In o (map (λ p. p.offset) (filter (is_index_misfit notes) (partitions_of notes))) ↔ AtPartition notes o
  index_misfits o =
      let m = In-chosen (λ (p : PartitionParts). p.offset) (is_index_misfit notes) (partitions_of notes) o in (
        λ h. let s = m.0 h in (s.0, s.1, s.3, (misfit_is s.0).0 s.2),
        λ k. m.1 (k.0, k.1, (misfit_is k.0).1 k.3, k.2),
      )
