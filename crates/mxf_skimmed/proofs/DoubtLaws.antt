-- The doubts of a skim are those of the reading.
use Rattle.mxf_findings.proofs.Common.{◌≡◌, ℕ, Bool, true, false, List, [], ◌∷◌, Option, Some, None, refl, sym, ap, ◌∙◌, ◌==◌}
use Rattle.mxf_findings.proofs.Common.{◌&&◌, ◌||◌, ◌-◌, ◌+◌, filter, map, not, flat_map, if◌then◌else◌, cond, find, option_map, option_and_then}
use Rattle.mxf_findings.proofs.Common.{NoteParts, clear_notes, end_of, kind_of, nat_lt, is_primer, is_segment, filter_map, is_some}
use Rattle.mxf_findings.proofs.Common.{is_set_note, is_in_copy, CopyInfo, PartitionParts, read_as, keeps_value}
use Rattle.mxf_findings.proofs.Common.{zone_of}
use Rattle.std.specs.List.{list_all, list_any, range_with_len}
use Rattle.std.specs.Option.{option_map_or}
use Rattle.std.specs.Prelude.{count_by, drop, unsigned_abs, ◌++◌}
use Rattle.std.specs.Str.{bytes_eq}
use Rattle.mxf_klv.proofs.Counts.{count_mapped}
use Rattle.mxf_klv.specs.Rising.{union}
use Rattle.mxf_sets.specs.Instance.{instance_uid_at}
use Rattle.mxf_sets.specs.Offset.{stream_offset}
use Rattle.mxf_sets.specs.Segment.{is_constant}
use Rattle.mxf_catalogue.specs.Disputes.{undisputed_notes}
use Rattle.mxf_places.specs.Claims.{behind_metadata, over_fills}
use Rattle.mxf_units.specs.EssenceZones.{parts_of, zone_at}
use Rattle.mxf_units.specs.Streams.{place_of, segments_for}
use Rattle.mxf_units.specs.Units.{are_all_held, file_offset}
use Rattle.mxf_units.specs.declared.essence_zone.EssenceZone.{EssenceZone}
use Rattle.mxf_units.specs.declared.standing.UnitStanding.{UnitStanding}
use Rattle.mxf_views.specs.declared.index.place.StreamPlace.{StreamPlace}
use Rattle.std.specs.Prelude.{Result, Ok, Err}
use Rattle.mxf_views.proofs.Common.{map-map}
use Rattle.mxf_views.proofs.NumbersLaws.{all_mapped, any_mapped, filter_mapped}
use Rattle.mxf_views.specs.Copies.{is_fill, sets_from}
use Rattle.mxf_views.specs.Labels.{is_in_zone}
use Rattle.mxf_views.specs.Places.{SegmentAtParts}
use Rattle.mxf_views.specs.SetItems.{set_items, whole_items}
use Rattle.mxf_doubts.specs.declared.doubt.Code.{Code}
use Rattle.mxf_doubts.specs.declared.doubt.Code.TheVariants.{G01, G02, G03, G04, G06, G07, G08, G09, G10, G11}
use Rattle.mxf_doubts.specs.Classes.{class_of, fits, is_misfit}
use Rattle.mxf_doubts.specs.Codes.{all_codes, doubt, doubt_cmp}
use Rattle.mxf_doubts.specs.Doubts.{doubts_of, is_note_cause, is_of_header, is_strange_inside, is_strange_outside, offsets_for}
use Rattle.mxf_doubts.specs.Header.{first_lacking, first_unlabelled, instance_of, is_orderly, is_orderly_from}
use Rattle.mxf_doubts.specs.Header.{is_orderly_note, is_told_from, is_told_note, is_without_one_preface, lacks_preface}
use Rattle.mxf_doubts.specs.Header.{refers_to_none, unreferred}
use Rattle.mxf_doubts.specs.IndexFit.{are_filled, begins_in, begins_segment, first_behind, has_byte, has_foreign}
use Rattle.mxf_doubts.specs.IndexFit.{is_counted_wrong, is_cut_at, is_foreign, is_index_misfit, is_miscounted, is_unfit}
use Rattle.mxf_doubts.specs.Sound.{begin_at, filled_by, is_first_primer, is_in_sound_zone, lie_in, sound_zones}
use Rattle.mxf_doubts.specs.Strange.{count_with, has_bare_key, is_container_packet, is_dark, is_essence, is_lone, is_other, is_strange}
use Rattle.mxf_doubts.specs.Strange.{is_strange_as}
use Rattle.mxf_doubts.specs.StreamEnds.{greatest_of, is_behind, is_behind_end, is_of_stream, is_other_size, last_offset, last_zone, listed_offsets}
use Rattle.mxf_doubts.specs.StreamEnds.{lists_held, zone_of_last}
use Rattle.mxf_doubts.specs.Tracks.{is_any, is_raw_set, is_untracked, named_tracks, numbers_in, track_number}
use Rattle.mxf_doubts.specs.Sizes.{is_other_than}
use Rattle.mxf_doubts.specs.UnitStarts.{begins_alone, begins_packet, borders_of, counts, first_misses, first_of, is_amid, is_below, is_inside}
use Rattle.mxf_doubts.specs.UnitStarts.{is_number, is_sized, leads_to_packet, listed_in, misses_packet, missed_starts, packet_offsets}
use Rattle.mxf_doubts.specs.UnitStarts.{start_at, start_cmp, start_in, start_of, stream_indexes, unit_cmp, units_of_part}
use Rattle.mxf_findings.specs.SameViews.{SameViews}
use Rattle.mxf_skimmed.specs.Skims.{NoneAlike, noted_beside, skim_beside}
use Rattle.mxf_skimmed.proofs.SkimmedNotes.{says_same}
use Rattle.mxf_skimmed.proofs.HeldLaws.{clear_skim}
use Rattle.mxf_skimmed.proofs.FindingLaws.{clear_offsets}
use Rattle.mxf_skimmed.proofs.PlaceLaws.{behind_same, clear_at, end_of_file_same, found_at, held_same, over_same, parts_same}
use Rattle.mxf_skimmed.proofs.ViewLaws.{chosen_stay, set_same, set_stays, skim_has_the_same_views, there, zone_skimmed}

module _ (saved : List NoteParts) where
  abbrev noted : NoteParts → NoteParts
  noted = noted_beside saved

  abbrev skim : List NoteParts → List NoteParts
  skim = skim_beside saved

  -- ---- what is said of one note

  offset_same : (n : NoteParts) → (noted n).offset ≡ n.offset
  offset_same n = says_same saved (λ x. x.offset) n (λ held. refl)

  end_same : (n : NoteParts) → end_of (noted n) ≡ end_of n
  end_same n = says_same saved end_of n (λ held. refl)

  key_same : (n : NoteParts) → (noted n).key ≡ n.key
  key_same n = says_same saved (λ x. x.key) n (λ held. refl)

  -- What is said of sets alone, and is one thing of all other notes, stays.
  of_sets : {A : Type 0} (f : NoteParts → A) (d : A) → ((m : NoteParts) → is_set_note m ≡ false → f m ≡ d) → (n : NoteParts)
      → f (noted n) ≡ f n
  of_sets f d others n = elim (is_set_note n) as (λ b. is_set_note n ≡ b → f (noted n) ≡ f n) [
    | true ↦ λ e. ap f (set_stays saved n e)
    | false ↦ λ e. others (noted n) (set_same saved n ∙ e) ∙ sym (others n e)
  ] refl

  no_items : (m : NoteParts) → is_set_note m ≡ false → set_items m ≡ None
  unfolding set_items
  no_items m e = ap (λ b. if (b && keeps_value m) then whole_items m.held else None) e

  items_same : (n : NoteParts) → set_items (noted n) ≡ set_items n
  items_same n = of_sets set_items None no_items n

  instance_same : (n : NoteParts) → instance_of (noted n) ≡ instance_of n
  instance_same n = of_sets instance_of None (λ m e. ap (λ o. if is_some o then read_as instance_uid_at m else None) (no_items m e)) n

  numbers_same : (n : NoteParts) → numbers_in (noted n) ≡ numbers_in n
  unfolding numbers_in
  numbers_same n = of_sets numbers_in [] (λ m e.
      ap (λ o. if is_raw_set (kind_of m.key) then option_map_or (filter_map track_number) o [] else []) (no_items m e)
      ∙ none_either (is_raw_set (kind_of m.key))) n
    where
      none_either : (b : Bool) → cond {A = List (List ℕ)} b [] [] ≡ []
      none_either true = refl
      none_either false = refl

  misfit_same : (n : NoteParts) → is_misfit (noted n) ≡ is_misfit n
  unfolding is_misfit
  misfit_same n = of_sets is_misfit false (λ m e.
      ap (λ o. option_map_or (λ items. list_any (λ i. not (fits (class_of m.key) i.tag)) items) o false) (no_items m e)) n

  container_same : (n : NoteParts) → is_container_packet (noted n) ≡ is_container_packet n
  container_same n = says_same saved is_container_packet n (λ held. refl)

  numbers_stay : (notes : List NoteParts) → flat_map numbers_in (map noted notes) ≡ flat_map numbers_in notes
  numbers_stay [] = refl
  numbers_stay (n ∷ notes) = λ i. numbers_same n i ++ numbers_stay notes i

  orderly_note_same : (start : ℕ) (n : NoteParts) → is_orderly_note start (noted n) ≡ is_orderly_note start n
  orderly_note_same start n = λ i.
      set_same saved n i || is_fill (kind_of (key_same n i)) || is_other (kind_of (key_same n i))
      || (is_primer (kind_of (key_same n i)) && (offset_same n i == start))

  told_note_same : (n : NoteParts) → is_told_note (noted n) ≡ is_told_note n
  told_note_same n = λ i. is_fill (kind_of (key_same n i)) || is_primer (kind_of (key_same n i)) || is_some (instance_same n i)

  module _ (notes : List NoteParts) (apart : NoneAlike notes) where
    clear : clear_notes (skim notes) ≡ map noted (clear_notes notes)
    clear = clear_skim saved notes apart

    same : SameViews (skim notes) notes
    same = skim_has_the_same_views saved notes clear

    -- What is said of some clear note.
    any_clear : (p : NoteParts → Bool) → ((n : NoteParts) → p (noted n) ≡ p n)
        → list_any p (clear_notes (skim notes)) ≡ list_any p (clear_notes notes)
    any_clear p alike =
        ap (list_any p) clear ∙ any_mapped p noted (clear_notes notes) ∙ (λ i. list_any (λ n. alike n i) (clear_notes notes))

    -- ---- packets

    zones_same : sound_zones (skim notes) ≡ sound_zones notes
    zones_same = ap (filter_map filled_by) same.copies

    in_zone_same : (n : NoteParts) → is_in_sound_zone (skim notes) (noted n) ≡ is_in_sound_zone notes n
    in_zone_same n = λ i. lie_in (offset_same n i) (end_same n i) (zones_same i)

    first_primer_same : (n : NoteParts) → is_first_primer (skim notes) (noted n) ≡ is_first_primer notes n
    first_primer_same n = λ i. is_primer (kind_of (key_same n i)) && begin_at (offset_same n i) (zones_same i)

    count_same : (key : List ℕ) → count_with key (skim notes) ≡ count_with key notes
    count_same key =
        count_mapped (has_bare_key key) noted notes
        ∙ (λ i. count_by (λ n. says_same saved (has_bare_key key) n (λ held. refl) i) notes)

    lone_same : (n : NoteParts) → is_lone (skim notes) (noted n) ≡ is_lone notes n
    lone_same n =
        ap (λ key. count_with key (skim notes) == 1) (key_same n) ∙ ap (λ count. count == 1) (count_same n.key)

    strange_same : (n : NoteParts) → is_strange (skim notes) (noted n) ≡ is_strange notes n
    unfolding is_strange
    strange_same n = λ i. is_strange_as (kind_of (key_same n i)) (key_same n i) (lone_same n i)

    of_header_same : (n : NoteParts) → is_of_header (skim notes) (noted n) ≡ is_of_header notes n
    of_header_same n = λ i.
        set_same saved n i || is_fill (kind_of (key_same n i)) || is_other (kind_of (key_same n i)) || first_primer_same n i

    inside_same : (n : NoteParts) → is_strange_inside (skim notes) (noted n) ≡ is_strange_inside notes n
    unfolding is_strange_inside
    inside_same n = λ i. in_zone_same n i && (strange_same n i || not (of_header_same n i))

    outside_same : (n : NoteParts) → is_strange_outside (skim notes) (noted n) ≡ is_strange_outside notes n
    unfolding is_strange_outside
    outside_same n = λ i. not (in_zone_same n i) && strange_same n i

    dark_same : (n : NoteParts) → is_dark (skim notes) (noted n) ≡ is_dark notes n
    unfolding is_dark
    dark_same n = λ i. is_other (kind_of (key_same n i)) && not (strange_same n i) && not (container_same n i)

    tracks_same : named_tracks (skim notes) ≡ named_tracks notes
    tracks_same =
        ap (λ l. flat_map numbers_in (filter (is_in_sound_zone (skim notes)) l)) clear
        ∙ ap (flat_map numbers_in) (filter_mapped (is_in_sound_zone (skim notes)) noted (clear_notes notes)
        ∙ (λ i. map noted (filter (λ n. in_zone_same n i) (clear_notes notes))))
        ∙ numbers_stay (filter (is_in_sound_zone notes) (clear_notes notes))

    untracked_same : (n : NoteParts) → is_untracked (skim notes) (noted n) ≡ is_untracked notes n
    unfolding is_untracked
    untracked_same n = λ i.
        is_essence (kind_of (key_same n i)) && lone_same n i
        && (is_any (tracks_same i) && not (list_any (bytes_eq (drop 12 (key_same n i))) (tracks_same i)))

    -- ---- copies

    sets_clear : filter is_set_note (clear_notes (skim notes)) ≡ filter is_set_note (clear_notes notes)
    sets_clear =
        ap (filter is_set_note) clear ∙ chosen_stay saved is_set_note (clear_notes notes) (set_same saved) (set_stays saved)

    lacking_same : (c : CopyInfo) → lacks_preface (skim notes) c ≡ lacks_preface notes c
    lacking_same c = λ i. is_without_one_preface c && list_any (λ n. is_in_copy n c) (sets_clear i)

    zone_clear : (start bytes : ℕ)
        → zone_of start bytes (clear_notes (skim notes)) ≡ map noted (zone_of start bytes (clear_notes notes))
    zone_clear start bytes = ap (zone_of start bytes) clear ∙ zone_skimmed saved start bytes (clear_notes notes)

    all_in_zone : (p : NoteParts → Bool) → ((n : NoteParts) → p (noted n) ≡ p n) → (start bytes : ℕ)
        → list_all p (zone_of start bytes (clear_notes (skim notes))) ≡ list_all p (zone_of start bytes (clear_notes notes))
    all_in_zone p alike start bytes =
        ap (list_all p) (zone_clear start bytes) ∙ all_mapped p noted (zone_of start bytes (clear_notes notes))
        ∙ (λ i. list_all (λ n. alike n i) (zone_of start bytes (clear_notes notes)))

    orderly_from_same : (bytes : ℕ) (start : Option ℕ) → is_orderly_from (skim notes) bytes start ≡ is_orderly_from notes bytes start
    orderly_from_same bytes None = refl
    orderly_from_same bytes (Some start) = all_in_zone (is_orderly_note start) (orderly_note_same start) start bytes

    orderly_same : (c : CopyInfo) → is_orderly (skim notes) c ≡ is_orderly notes c
    unfolding is_orderly
    orderly_same c = ap (λ b. c.finished && b) (orderly_from_same c.bytes c.start)

    told_same : (bytes : ℕ) (start : Option ℕ) → is_told_from (skim notes) bytes start ≡ is_told_from notes bytes start
    told_same bytes None = refl
    told_same bytes (Some start) = all_in_zone is_told_note told_note_same start bytes

    sets_from_same : (bytes : ℕ) (start : Option ℕ)
        → sets_from (clear_notes (skim notes)) bytes start ≡ sets_from (clear_notes notes) bytes start
    sets_from_same bytes None = refl
    sets_from_same bytes (Some start) =
        ap (filter is_set_note) (zone_clear start bytes)
        ∙ chosen_stay saved is_set_note (zone_of start bytes (clear_notes notes)) (set_same saved) (set_stays saved)

    unreferred_same : (c : CopyInfo) → unreferred (skim notes) c ≡ unreferred notes c
    unfolding unreferred
    unreferred_same c = λ i.
        if orderly_same c i && told_same c.bytes c.start i
        then map (λ n. n.offset) (filter (refers_to_none (sets_from_same c.bytes c.start i)) (sets_from_same c.bytes c.start i)) else []

    unlabelled_same : (c : CopyInfo) → first_unlabelled (skim notes) c ≡ first_unlabelled notes c
    unfolding first_unlabelled
    unlabelled_same c = λ i.
        if orderly_same c i
        then option_map (λ n. n.offset) (first_lacking (sets_from_same c.bytes c.start i)
        (option_and_then (λ offset. there saved notes clear offset i) c.start)) else None

    -- ---- partitions

    foreign_same : (n : NoteParts) → is_foreign (skim notes) (noted n) ≡ is_foreign notes n
    unfolding is_foreign
    foreign_same n = λ i.
        not (is_segment (kind_of (key_same n i))) && not (is_fill (kind_of (key_same n i))) && not (dark_same n i)

    has_foreign_same : (start bytes : ℕ) → has_foreign (skim notes) start bytes ≡ has_foreign notes start bytes
    has_foreign_same start bytes =
        let within = λ (n : NoteParts). is_in_zone n bytes (Some start) in
        ap (λ l. list_any within (filter (is_foreign (skim notes)) l)) clear
        ∙ ap (list_any within) (filter_mapped (is_foreign (skim notes)) noted (clear_notes notes)
        ∙ (λ i. map noted (filter (λ n. foreign_same n i) (clear_notes notes))))
        ∙ any_mapped within noted (filter (is_foreign notes) (clear_notes notes))
        ∙ (λ i. list_any (λ n. says_same saved within n (λ held. refl) i) (filter (is_foreign notes) (clear_notes notes)))

    filled_same : (start bytes : ℕ) → are_filled (skim notes) start bytes ≡ are_filled notes start bytes
    filled_same start bytes = λ i.
        list_all (λ x. any_clear (has_byte x) (λ n. says_same saved (has_byte x) n (λ held. refl)) i) (range_with_len start bytes)

    cut_same : (x : ℕ) → is_cut_at (skim notes) x ≡ is_cut_at notes x
    cut_same x =
        let cuts = λ (n : NoteParts). nat_lt n.offset x && nat_lt x (end_of n) in
        any_clear cuts (λ n. says_same saved cuts n (λ held. refl))

    segment_begins : (x : ℕ) → begins_segment (skim notes) x ≡ begins_segment notes x
    segment_begins x =
        let begins = λ (n : NoteParts). (n.offset == x) && is_segment (kind_of n.key) in
        any_clear begins (λ n. says_same saved begins n (λ held. refl))

    counted_same : (index_sid start end : ℕ)
        → is_counted_wrong (skim notes) index_sid start end ≡ is_counted_wrong notes index_sid start end
    counted_same index_sid start end = λ i.
        (cut_same end i || segment_begins end i)
        || (list_any (begins_in start end) (same.segments i)
        && not (list_any (λ s. (s.segment.numbers.index_sid == index_sid) && begins_in start end s) (same.segments i)))

    miscounted_same : (index_sid start bytes : ℕ)
        → is_miscounted (skim notes) index_sid start bytes ≡ is_miscounted notes index_sid start bytes
    miscounted_same index_sid start bytes = λ i.
        has_foreign_same start bytes i || (filled_same start bytes i && counted_same index_sid start (start + bytes) i)

    unfit_same : (p : PartitionParts) (n : NoteParts) → is_unfit (skim notes) p (noted n) ≡ is_unfit notes p n
    unfit_same p n =
        let bytes = p.pack.numbers.index_byte_count in
        let sid = p.pack.numbers.index_sid in
        (λ i. if is_segment (kind_of (key_same n i))
        then (bytes == 0) || is_miscounted (skim notes) sid (offset_same n i) bytes
        else not (bytes == 0) && not (dark_same n i))
        ∙ ap (λ b. if is_segment (kind_of n.key) then (bytes == 0) || b else not (bytes == 0) && not (is_dark notes n))
        (miscounted_same sid n.offset bytes)

    found_behind : (o : Option ℕ)
        → option_and_then (λ begin. find (λ n. n.offset == over_fills (skim notes) begin) (clear_notes (skim notes))) o
        ≡ option_map noted (option_and_then (λ begin. find (λ n. n.offset == over_fills notes begin) (clear_notes notes)) o)
    found_behind None = refl
    found_behind (Some begin) =
        ap (λ x. find (λ n. n.offset == x) (clear_notes (skim notes))) (over_same saved notes apart begin)
        ∙ clear_at saved notes apart (over_fills notes begin)

    first_behind_same : (p : PartitionParts) → first_behind (skim notes) p ≡ option_map noted (first_behind notes p)
    first_behind_same p =
        ap (option_and_then (λ begin. find (λ n. n.offset == over_fills (skim notes) begin) (clear_notes (skim notes))))
        (behind_same saved notes apart p)
        ∙ found_behind (behind_metadata notes p)

    index_misfit_same : (p : PartitionParts) → is_index_misfit (skim notes) p ≡ is_index_misfit notes p
    unfolding is_index_misfit
    index_misfit_same p =
        ap (λ o. option_map_or (is_unfit (skim notes) p) o false) (first_behind_same p) ∙ of_found (first_behind notes p)
      where
        of_found : (o : Option NoteParts)
            → option_map_or (is_unfit (skim notes) p) (option_map noted o) false ≡ option_map_or (is_unfit notes p) o false
        of_found None = refl
        of_found (Some n) = unfit_same p n

    -- ---- segments

    behind_end_same : (s : SegmentAtParts) → is_behind_end (skim notes) s ≡ is_behind_end notes s
    unfolding is_behind_end last_zone last_offset
    behind_end_same s = λ i.
        (is_some (end_of_file_same saved notes apart i) && lists_held (same.rip i))
        && is_behind (zone_of_last (filter (is_of_stream s.segment.numbers.body_sid) (parts_same saved notes apart i)))
        (if is_constant s.segment.numbers
        then (if (unsigned_abs s.segment.numbers.duration == 0)
        || list_any (is_other_size s.segment.numbers) (same.segments i) then None
        else stream_offset s.segment (unsigned_abs s.segment.numbers.start + (unsigned_abs s.segment.numbers.duration - 1)))
        else greatest_of None (listed_offsets s.segment))

    -- ---- units

    begins_same : (x : ℕ) → begins_packet (skim notes) x ≡ begins_packet notes x
    begins_same x =
        let begins = λ (n : NoteParts). (n.offset == x) && is_container_packet n in
        any_clear begins (λ n. says_same saved begins n (λ held. refl))

    leads_same : (n : NoteParts) → leads_to_packet (skim notes) (noted n) ≡ leads_to_packet notes n
    unfolding leads_to_packet
    leads_same n = λ i. container_same n i || (is_fill (kind_of (key_same n i)) && begins_same (end_same n i) i)

    misses_same : (x : ℕ) → misses_packet (skim notes) x ≡ misses_packet notes x
    misses_same x =
        ap (λ l. list_any (is_amid x) (filter (leads_to_packet (skim notes)) l)) clear
        ∙ ap (list_any (is_amid x)) (filter_mapped (leads_to_packet (skim notes)) noted (clear_notes notes)
        ∙ (λ i. map noted (filter (λ n. leads_same n i) (clear_notes notes))))
        ∙ any_mapped (is_amid x) noted (filter (leads_to_packet notes) (clear_notes notes))
        ∙ (λ i. list_any (λ n. says_same saved (is_amid x) n (λ held. refl) i) (filter (leads_to_packet notes) (clear_notes notes)))

    alone_same : (x : ℕ) → begins_alone (skim notes) x ≡ begins_alone notes x
    alone_same x = ap is_some (found_at saved notes apart x) ∙ some_same (find (λ n. n.offset == x) (undisputed_notes notes))
      where
        some_same : (o : Option NoteParts) → is_some (option_map noted o) ≡ is_some o
        some_same None = refl
        some_same (Some n) = refl

    all_held_same : (from to : ℕ) → are_all_held (skim notes) from to ≡ are_all_held notes from to
    unfolding are_all_held
    all_held_same from to = λ i. list_all (λ x. held_same saved notes x i) (range_with_len from (to - from))

    inside_zone_same : (z : EssenceZone) (x : ℕ) → is_inside (skim notes) z x ≡ is_inside notes z x
    inside_zone_same z x = λ i.
        alone_same z.origin i && (is_below x z.limit && (z.is_sure || all_held_same z.origin (x + 1) i))

    packet_offsets_same : packet_offsets (skim notes) ≡ packet_offsets notes
    packet_offsets_same =
        ap (map (λ (n : NoteParts). n.offset)) clear ∙ map-map (λ (n : NoteParts). n.offset) noted (clear_notes notes)
        ∙ (λ i. map (λ n. offset_same n i) (clear_notes notes))

    counts_same : (index_sid unit body_sid : ℕ) → counts (skim notes) index_sid unit body_sid ≡ counts notes index_sid unit body_sid
    counts_same index_sid unit body_sid = λ i.
        option_map_or (λ s. s.index_sid == index_sid) (first_of body_sid (stream_indexes (same.segments i))) false
        && (list_any (λ u. (u.0 == index_sid) && (u.1 == unit)) (union unit_cmp [] (flat_map listed_in (same.segments i)))
        || not (option_map_or (λ s. list_any (is_other_than s.index_sid s.body_sid s.unit_bytes) (same.segments i))
        (first_of body_sid (stream_indexes (filter is_sized (same.segments i)))) false))

    start_in_same : (unit : ℕ) (p : StreamPlace) (r : Result EssenceZone UnitStanding)
        → start_in (skim notes) unit p r ≡ start_in notes unit p r
    start_in_same unit p (Err standing) = refl
    start_in_same unit p (Ok z) =
        let x = file_offset z p.offset in λ i.
        if inside_zone_same z x i && (begins_same x i || misses_same x i)
        then Some (record {
          body_sid = p.body_sid;
          body_offset = z.body_offset;
          unit = unit;
          offset = x;
          is_good = begins_same x i;
        })
        else None

    start_at_same : (index_sid unit : ℕ) (r : Result StreamPlace UnitStanding)
        → start_at (skim notes) index_sid unit r ≡ start_at notes index_sid unit r
    start_at_same index_sid unit (Err standing) = refl
    start_at_same index_sid unit (Ok p) =
        ap (λ z. if counts (skim notes) index_sid unit p.body_sid then start_in (skim notes) unit p z else None)
        (λ i. zone_at (parts_same saved notes apart i) p.body_sid p.offset)
        ∙ (λ i. if counts_same index_sid unit p.body_sid i
        then start_in_same unit p (zone_at (parts_of notes) p.body_sid p.offset) i else None)

    start_same : (u : ℕ × ℕ) → start_of (skim notes) u ≡ start_of notes u
    unfolding start_of
    start_same u =
        ap (λ r. if is_number u then start_at (skim notes) u.0 u.1 r else None)
        (λ i. place_of (filter (λ s. s.segment.numbers.index_sid == u.0) (same.segments i)) u.1)
        ∙ ap (λ o. if is_number u then o else None) (start_at_same u.0 u.1 (place_of (segments_for notes u.0) u.1))

    missed_same : missed_starts (skim notes) ≡ missed_starts notes
    unfolding missed_starts
    missed_same = λ i.
        first_misses None (union start_cmp [] (filter_map (λ u. start_same u i) (union unit_cmp []
        ((flat_map listed_in (same.segments i) ++ flat_map borders_of (same.segments i))
        ++ flat_map (units_of_part (packet_offsets_same i) (stream_indexes (filter is_sized (same.segments i))))
        (parts_same saved notes apart i)))))

    -- ---- all codes

    offsets_same : (code : Code) → offsets_for code (skim notes) ≡ offsets_for code notes
    offsets_same G01 = λ i. map (λ c. c.partition) (filter (λ c. lacking_same c i) (same.copies i))
    offsets_same G02 = clear_offsets saved notes apart (is_note_cause G02 (skim notes)) (is_note_cause G02 notes) inside_same
    offsets_same G03 = λ i. map (λ p. p.offset) (filter (λ p. index_misfit_same p i) (same.partitions i))
    offsets_same G04 = missed_same
    offsets_same G06 = clear_offsets saved notes apart (is_note_cause G06 (skim notes)) (is_note_cause G06 notes) outside_same
    offsets_same G07 = clear_offsets saved notes apart (is_note_cause G07 (skim notes)) (is_note_cause G07 notes) untracked_same
    offsets_same G08 = clear_offsets saved notes apart (is_note_cause G08 (skim notes)) (is_note_cause G08 notes) misfit_same
    offsets_same G09 = λ i. flat_map (λ c. unreferred_same c i) (same.copies i)
    offsets_same G10 = λ i. filter_map (λ c. unlabelled_same c i) (same.copies i)
    offsets_same G11 = λ i. map (λ s. s.offset) (filter (λ s. behind_end_same s i) (same.segments i))

    pub skim_has_the_same_doubts : doubts_of (skim notes) ≡ doubts_of notes
    skim_has_the_same_doubts =
        λ i. union doubt_cmp [] (flat_map (λ code. map (doubt code) (offsets_same code i)) all_codes)
