-- The views of a skim are those of the reading.
use Rattle.mxf_findings.proofs.Common.{◌≡◌, ℕ, Bool, true, false, List, [], ◌∷◌, Option, Some, None, refl, sym, ap, ◌∙◌}
use Rattle.mxf_findings.proofs.Common.{◌==◌, ◌-◌, ◌&&◌, ◌||◌, filter, filter_map, find, map, cond, not, if◌then◌else◌}
use Rattle.mxf_findings.proofs.Common.{option_and_then, option_map, is_some, NoteParts, primer_at, read_as, pack_at}
use Rattle.mxf_findings.proofs.Common.{segment_at, kind_of, end_of, clear_notes, lies_in, Whole, Broken, CopyInfo}
use Rattle.mxf_findings.proofs.Common.{Wanted, Storage, Identification, Package, PartitionParts, chain_of, link_at}
use Rattle.mxf_findings.proofs.Common.{partition_at, partitions_among, partitions_of, copies_of, is_preface_note}
use Rattle.mxf_findings.proofs.Common.{is_set, is_primer, preferred_of, sets_found, sets_from, sets_of, is_in_copy}
use Rattle.mxf_findings.proofs.Common.{is_no_unreadable_pack, primer_there, found_among, has_uid, target_among}
use Rattle.mxf_findings.proofs.Common.{target_of, resolved_of, storage_among, RipParts, place_of, is_segment}
use Rattle.mxf_findings.proofs.Common.{segments_among, segments_of, is_rip, is_rip_note, rip_in, rips_of, standing_of}
use Rattle.mxf_findings.proofs.Common.{rip_view_among, rip_view_by, One, PrefaceParts, copies_among, primer_for}
use Rattle.mxf_findings.proofs.Common.{packages_of, preface_in, resolved_by, resolved_from, zone_of, gaps_of}
use Rattle.mxf_findings.proofs.Common.{is_set_note, part_and_status}
use Rattle.std.specs.Prelude.{count_by, max}
use Rattle.std.specs.List.{list_all}
use Rattle.std.proofs.Common.{◌+◌, nat_le, nat_lt}
use Rattle.std.proofs.lemmas.List.Sums.{sum_by-cons}
use Rattle.mxf_klv.specs.Note.{covered_end}
use Rattle.mxf_klv.proofs.Counts.{count_mapped}
use Rattle.mxf_catalogue.specs.declared.run.Run.{Run}
use Rattle.mxf_catalogue.specs.Runs.{run}
use Rattle.mxf_views.specs.Copies.{copy_from, copy_of, covered_of, has_metadata, is_fill_note, is_filled}
use Rattle.mxf_views.specs.Copies.{is_readable_primer, is_start, prefaces_of, start_of}
use Rattle.mxf_views.specs.Gaps.{gaps_from}
use Rattle.mxf_views.specs.Places.{placed_segment}
use Rattle.mxf_views.specs.Spans.{size_of, sizes}
use Rattle.mxf_views.proofs.LaidPartitions.{hang_together_by}
use Rattle.mxf_views.proofs.NumbersLaws.{all_mapped, filter_map_mapped, filter_mapped, find_mapped}
use Rattle.mxf_findings.specs.SameViews.{SameViews}
use Rattle.mxf_skimmed.specs.Skims.{noted_beside, skim_beside}
use Rattle.mxf_skimmed.proofs.SkimmedNotes.{other_stays, read_same, says_same, noted_is}

hang_alike : (parts : List PartitionParts) (a b : List NoteParts)
    → list_all is_no_unreadable_pack a ≡ list_all is_no_unreadable_pack b
    → hang_together_by parts a ≡ hang_together_by parts b
hang_alike parts a b e = cc (e)

module _ (saved : List NoteParts) where
  abbrev noted : NoteParts → NoteParts
  noted = noted_beside saved

  abbrev skim : List NoteParts → List NoteParts
  skim = skim_beside saved

  -- ---- what is said of one note

  partition_same : (n : NoteParts) → partition_at (noted n) ≡ partition_at n
  unfolding partition_at
  partition_same n =
      ap partition_at (noted_is saved n)
      ∙ ap (option_map (λ pack. record { offset = n.offset; end = end_of n; pack = pack }))
      (read_same saved (pack_at (kind_of n.key)) n)

  pub unreadable_pack_same : (n : NoteParts) → is_no_unreadable_pack (noted n) ≡ is_no_unreadable_pack n
  unfolding is_no_unreadable_pack
  unreadable_pack_same n =
      says_same saved (λ x. not (is_some (part_and_status (kind_of x.key))) || is_some (partition_at (noted n))) n
      (λ held. refl)
      ∙ ap (λ o. not (is_some (part_and_status (kind_of n.key))) || is_some o) (partition_same n)

  segment_same : (n : NoteParts) → placed_segment (noted n) ≡ placed_segment n
  unfolding placed_segment
  segment_same n =
      ap placed_segment (noted_is saved n)
      ∙ ap (λ o. option_map (λ segment. record { offset = n.offset; segment = segment })
      (if is_segment (kind_of n.key) then o else None)) (read_same saved segment_at n)

  pub read_primer_same : (n : NoteParts) → read_as primer_at (noted n) ≡ read_as primer_at n
  read_primer_same n = ap (read_as primer_at) (noted_is saved n) ∙ read_same saved primer_at n

  primer_same : (n : NoteParts) → is_readable_primer (noted n) ≡ is_readable_primer n
  unfolding is_readable_primer
  primer_same n =
      says_same saved (λ x. is_primer (kind_of x.key) && is_some (read_as primer_at (noted n))) n (λ held. refl)
      ∙ ap (λ o. is_primer (kind_of n.key) && is_some o) (read_primer_same n)

  fill_same : (n : NoteParts) → is_fill_note (noted n) ≡ is_fill_note n
  unfolding is_fill_note
  fill_same n = says_same saved is_fill_note n (λ held. refl)

  preface_same : (n : NoteParts) → is_preface_note (noted n) ≡ is_preface_note n
  unfolding is_preface_note
  preface_same n = says_same saved is_preface_note n (λ held. refl)

  pub set_same : (n : NoteParts) → is_set_note (noted n) ≡ is_set_note n
  unfolding is_set_note
  set_same n = says_same saved is_set_note n (λ held. refl)

  pub set_stays : (n : NoteParts) → is_set_note n ≡ true → noted n ≡ n
  unfolding is_set_note
  set_stays n is = other_stays saved is_set n refl refl is

  pub rip_same : (n : NoteParts) → is_rip_note (noted n) ≡ is_rip_note n
  unfolding is_rip_note
  rip_same n = says_same saved is_rip_note n (λ held. refl)

  rip_stays : (n : NoteParts) → is_rip_note n ≡ true → noted n ≡ n
  unfolding is_rip_note
  rip_stays n is = other_stays saved is_rip n refl refl is

  -- ---- lists of notes

  -- what is chosen of other kinds is as it was
  pub chosen_stay : (p : NoteParts → Bool) (notes : List NoteParts) → ((n : NoteParts) → p (noted n) ≡ p n)
      → ((n : NoteParts) → p n ≡ true → noted n ≡ n) → filter p (map noted notes) ≡ filter p notes
  chosen_stay p [] same is = refl
  chosen_stay p (n ∷ notes) same is =
      let more = chosen_stay p notes same is in
      ap (λ b. cond b (noted n ∷ filter p (map noted notes)) (filter p (map noted notes))) (same n)
      ∙ elim (p n) as (λ b. p n ≡ b
      → cond b (noted n ∷ filter p (map noted notes)) (filter p (map noted notes))
      ≡ cond b (n ∷ filter p notes) (filter p notes)) [
        | true ↦ λ e. λ i. is n e i ∷ more i
        | false ↦ λ e. more
      ] refl

  partitions_stay : (notes : List NoteParts) → partitions_among (map noted notes) ≡ partitions_among notes
  partitions_stay notes =
      filter_map_mapped partition_at noted notes ∙ (λ i. filter_map (λ n. partition_same n i) notes)

  segments_stay : (notes : List NoteParts) → segments_among (map noted notes) ≡ segments_among notes
  segments_stay notes =
      filter_map_mapped placed_segment noted notes ∙ (λ i. filter_map (λ n. segment_same n i) notes)

  pub zone_skimmed : (start bytes : ℕ) (notes : List NoteParts)
      → zone_of start bytes (map noted notes) ≡ map noted (zone_of start bytes notes)
  zone_skimmed start bytes notes =
      filter_mapped (lies_in start bytes) noted notes
      ∙ (λ i. map noted (filter (λ n. says_same saved (lies_in start bytes) n (λ held. refl) i) notes))

  sizes_stay : (notes : List NoteParts) → sizes (map noted notes) ≡ sizes notes
  sizes_stay [] = refl
  sizes_stay (n ∷ notes) =
      sum_by-cons size_of (noted n) (map noted notes)
      ∙ (λ i. says_same saved size_of n (λ held. refl) i + sizes_stay notes i)
      ∙ sym (sum_by-cons size_of n notes)

  -- ---- gaps

  gaps_stay : (reached top : ℕ) (notes : List NoteParts)
      → gaps_from reached top (map noted notes) ≡ gaps_from reached top notes
  gaps_stay reached top [] = refl
  gaps_stay reached top (n ∷ notes) =
      ap (λ (x : NoteParts). gaps_from reached top (x ∷ map noted notes)) (noted_is saved n)
      ∙ ap (λ (rest : List Run). cond (nat_lt reached n.offset) (run reached n.offset ∷ rest) rest)
      (gaps_stay (max reached (covered_end n)) (max top (end_of n)) notes)

  -- ---- copies

  covered_same : (start bytes : ℕ) (notes : List NoteParts)
      → covered_of start bytes (map noted notes) ≡ covered_of start bytes notes
  covered_same start bytes notes =
      ap sizes (zone_skimmed start bytes notes) ∙ sizes_stay (zone_of start bytes notes)

  filled_same : (start bytes : ℕ) (notes : List NoteParts)
      → is_filled start bytes (map noted notes) ≡ is_filled start bytes notes
  filled_same start bytes notes =
      let fills : list_all is_fill_note (zone_of start bytes (map noted notes))
      ≡ list_all is_fill_note (zone_of start bytes notes) =
      ap (list_all is_fill_note) (zone_skimmed start bytes notes)
      ∙ all_mapped is_fill_note noted (zone_of start bytes notes)
      ∙ (λ i. list_all (λ n. fill_same n i) (zone_of start bytes notes)) in
      λ i. (covered_same start bytes notes i == bytes) && fills i

  prefaces_same : (start bytes : ℕ) (notes : List NoteParts)
      → prefaces_of start bytes (map noted notes) ≡ prefaces_of start bytes notes
  prefaces_same start bytes notes =
      ap (count_by is_preface_note) (zone_skimmed start bytes notes)
      ∙ count_mapped is_preface_note noted (zone_of start bytes notes)
      ∙ (λ i. count_by (λ n. preface_same n i) (zone_of start bytes notes))

  is_start_same : (end : ℕ) (notes : List NoteParts) (n : NoteParts)
      → is_start end (map noted notes) (noted n) ≡ is_start end notes n
  is_start_same end notes n =
      says_same saved (λ x. is_readable_primer (noted n) && nat_le end x.offset
      && is_filled end (x.offset - end) (map noted notes)) n (λ held. refl)
      ∙ (λ i. primer_same n i && nat_le end n.offset && filled_same end (n.offset - end) notes i)

  start_same : (end : ℕ) (notes : List NoteParts) → start_of end (map noted notes) ≡ start_of end notes
  start_same end notes =
      ap (option_map (λ n. n.offset)) (find_mapped (is_start end (map noted notes)) noted notes
      ∙ (λ i. option_map noted (find (λ n. is_start_same end notes n i) notes)))
      ∙ offset_found (find (is_start end notes) notes)
    where
      offset_found : (o : Option NoteParts)
          → option_map (λ n. n.offset) (option_map noted o) ≡ option_map (λ n. n.offset) o
      offset_found None = refl
      offset_found (Some n) = ap Some (says_same saved (λ x. x.offset) n (λ held. refl))

  copy_from_same : (notes : List NoteParts) (p : PartitionParts) (start : Option ℕ)
      → copy_from (map noted notes) p start ≡ copy_from notes p start
  copy_from_same notes p None = refl
  copy_from_same notes p (Some start) =
      let bytes = p.pack.numbers.header_byte_count in
      λ i. record {
        partition = p.offset;
        start = Some start;
        bytes = bytes;
        covered = covered_same start bytes notes i;
        finished = covered_same start bytes notes i == bytes;
        prefaces = prefaces_same start bytes notes i;
        status = p.pack.status;
      }

  copy_same : (notes : List NoteParts) (p : PartitionParts) → copy_of (map noted notes) p ≡ copy_of notes p
  unfolding copy_of
  copy_same notes p =
      ap (copy_from (map noted notes) p) (start_same p.end notes) ∙ copy_from_same notes p (start_of p.end notes)

  copies_stay : (notes : List NoteParts) (partitions : List PartitionParts)
      → copies_among (map noted notes) partitions ≡ copies_among notes partitions
  copies_stay notes partitions = λ i. map (λ p. copy_same notes p i) (filter has_metadata partitions)

  sets_stay : (notes : List NoteParts) (copy : Option CopyInfo)
      → sets_found (map noted notes) copy ≡ sets_found notes copy
  sets_stay notes None = refl
  sets_stay notes (Some copy) = sets_from_same copy.start
    where
      sets_from_same : (start : Option ℕ)
          → sets_from (map noted notes) copy.bytes start ≡ sets_from notes copy.bytes start
      sets_from_same None = refl
      sets_from_same (Some start) =
          ap (filter is_set_note) (zone_skimmed start copy.bytes notes)
          ∙ chosen_stay is_set_note (zone_of start copy.bytes notes) set_same set_stays

  primer_found : (o : Option NoteParts)
      → option_and_then (read_as primer_at) (option_map noted o) ≡ option_and_then (read_as primer_at) o
  primer_found None = refl
  primer_found (Some n) = read_primer_same n

  -- ---- the views

  -- What is found among the clear notes.
  module _ (notes : List NoteParts) (e : clear_notes (skim notes) ≡ skim (clear_notes notes)) where
    partitions : partitions_of (skim notes) ≡ partitions_of notes
    unfolding partitions_of
    partitions = ap partitions_among e ∙ partitions_stay (clear_notes notes)

    readable : list_all is_no_unreadable_pack (clear_notes (skim notes))
        ≡ list_all is_no_unreadable_pack (clear_notes notes)
    readable =
        ap (list_all is_no_unreadable_pack) e
        ∙ all_mapped is_no_unreadable_pack noted (clear_notes notes)
        ∙ (λ i. list_all (λ n. unreadable_pack_same n i) (clear_notes notes))

    chain : chain_of (skim notes) ≡ chain_of notes
    chain =
        (λ i. if hang_together_by (partitions i) (clear_notes (skim notes)) then Whole else Broken)
        ∙ ap (λ (hang : Bool). if hang then Whole else Broken)
        (hang_alike (partitions_of notes) (clear_notes (skim notes)) (clear_notes notes) readable)

    copies : copies_of (skim notes) ≡ copies_of notes
    unfolding copies_of
    copies =
        (λ i. copies_among (e i) (partitions i)) ∙ copies_stay (clear_notes notes) (partitions_of notes)

    sets : (partition : ℕ) → sets_of (skim notes) partition ≡ sets_of notes partition
    unfolding sets_of
    sets partition =
        (λ i. sets_found (e i) (find (λ c. c.partition == partition) (copies i)))
        ∙ sets_stay (clear_notes notes) (find (λ c. c.partition == partition) (copies_of notes))

    pub there : (offset : ℕ) → primer_there (skim notes) offset ≡ primer_there notes offset
    there offset =
        ap (λ (clear : List NoteParts). option_and_then (read_as primer_at) (find (λ n. n.offset == offset) clear)) e
        ∙ ap (option_and_then (read_as primer_at)) (find_mapped (λ n. n.offset == offset) noted (clear_notes notes)
        ∙ (λ i. option_map noted (find (λ n. says_same saved (λ x. x.offset == offset) n (λ held. refl) i)
        (clear_notes notes))))
        ∙ primer_found (find (λ n. n.offset == offset) (clear_notes notes))

    primer : (n : NoteParts) → primer_for (skim notes) n ≡ primer_for notes n
    unfolding primer_for
    primer n = λ i. option_and_then (λ copy. option_and_then (λ offset. there offset i) copy.start)
        (find (is_in_copy n) (copies i))

    target : (partition : ℕ) (wanted : Wanted) (uid : List ℕ)
        → target_of (skim notes) partition wanted uid ≡ target_of notes partition wanted uid
    unfolding target_of
    target partition wanted uid = λ i. target_among wanted (filter (has_uid uid) (sets partition i))

    resolved_same : (partition preface : ℕ) (o : Option PrefaceParts)
        → resolved_by (skim notes) partition preface o ≡ resolved_by notes partition preface o
    resolved_same partition preface None = refl
    resolved_same partition preface (Some p) = λ i. record {
      partition = partition;
      preface = preface;
      storage = Some record { uid = p.content_storage; target = target partition Storage p.content_storage i };
      identifications = map (λ uid. record { uid = uid; target = target partition Identification uid i })
          p.identifications;
      packages = map (λ uid. record { uid = uid; target = target partition Package uid i })
          (packages_of (storage_among (filter (has_uid p.content_storage) (sets partition i))));
    }

    resolved_each : (o : Option CopyInfo) → resolved_from (skim notes) o ≡ resolved_from notes o
    resolved_each None = refl
    resolved_each (Some copy) = λ i. option_map (λ n. resolved_same copy.partition n.offset (preface_in n) i)
        (find is_preface_note (sets copy.partition i))

    resolved : resolved_of (skim notes) ≡ resolved_of notes
    resolved =
        ap (λ cs. resolved_from (skim notes) (preferred_of cs)) copies
        ∙ resolved_each (preferred_of (copies_of notes))

    segments : segments_of (skim notes) ≡ segments_of notes
    unfolding segments_of
    segments = ap segments_among e ∙ segments_stay (clear_notes notes)

    rips : rips_of (skim notes) ≡ rips_of notes
    unfolding rips_of
    rips = ap (filter is_rip_note) e ∙ chosen_stay is_rip_note (clear_notes notes) rip_same rip_stays

    rip_by : (offset : ℕ) (r : Option RipParts)
        → rip_view_by (partitions_of (skim notes)) offset r ≡ rip_view_by (partitions_of notes) offset r
    rip_by offset None = refl
    rip_by offset (Some r) = λ i. One record {
      offset = offset;
      entries = map (λ entry. (entry, standing_of (partitions i) entry)) r.entries;
    }

    rip_among : (packs : List NoteParts)
        → rip_view_among (partitions_of (skim notes)) packs ≡ rip_view_among (partitions_of notes) packs
    rip_among [] = refl
    rip_among (n ∷ []) = rip_by n.offset (rip_in n)
    rip_among (m ∷ n ∷ packs) = refl

    pub skim_has_the_same_views : SameViews (skim notes) notes
    skim_has_the_same_views = record {
      partitions = partitions;
      link = λ offset. ap (link_at offset) partitions;
      chain = chain;
      copies = copies;
      sets = sets;
      preferred = ap preferred_of copies;
      primer = primer;
      find = λ partition uid. ap (λ s. found_among (filter (has_uid uid) s)) (sets partition);
      resolved = resolved;
      segments = segments;
      locate = λ index_sid unit. ap (λ s. place_of s index_sid unit) segments;
      rip = rip_among (rips_of (skim notes)) ∙ ap (rip_view_among (partitions_of notes)) rips;
    }

  pub skim_has_the_same_gaps : (notes : List NoteParts) → gaps_of (skim notes) ≡ gaps_of notes
  skim_has_the_same_gaps notes = gaps_stay 0 0 notes
