-- The findings of a skim are those of the reading.
use Rattle.mxf_findings.proofs.Common.{◌≡◌, ℕ, Bool, true, false, List, [], ◌∷◌, refl, sym, ap, ◌∙◌, ◌==◌, ◌&&◌, ◌||◌}
use Rattle.mxf_findings.proofs.Common.{filter, map, not, flat_map, if◌then◌else◌, NoteParts, clear_notes}
use Rattle.mxf_findings.proofs.Common.{disputed_notes, end_of, nat_lt, kind_of, is_primer, is_set, is_segment}
use Rattle.mxf_findings.proofs.Common.{is_unreadable, reads_value, keeps_value, is_no_unreadable_pack, is_rip_note}
use Rattle.mxf_findings.proofs.Common.{rip_in, finding, finding_cmp, findings_of, offsets_for, has_other_rip}
use Rattle.mxf_findings.proofs.Common.{ends_above, is_unfit_rip, is_partial, rip_at}
use Rattle.mxf_views.proofs.Common.{map-map}
use Rattle.mxf_klv.specs.Rising.{union}
use Rattle.mxf_findings.specs.declared.finding.Code.{Code}
use Rattle.mxf_findings.specs.declared.finding.Code.TheVariants.{F01, F02, F03, F04, F05, F06, F07, F08, F09, F10, F11}
use Rattle.mxf_findings.specs.declared.finding.Code.TheVariants.{F12, F13, F14}
use Rattle.mxf_findings.specs.Codes.{all_codes}
use Rattle.std.specs.List.{list_any}
use Rattle.mxf_findings.specs.Findings.{is_broken, is_dispute_cause, is_index_of, is_note_cause, is_partition_cause}
use Rattle.mxf_findings.specs.Findings.{is_unreadable_segment, is_unreadable_set, lost_in, partitions_at}
use Rattle.mxf_findings.specs.SameViews.{SameViews}
use Rattle.mxf_catalogue.specs.Disputes.{DisputedParts}
use Rattle.mxf_views.specs.Partitions.{PartitionParts}
use Rattle.mxf_views.specs.declared.copy.CopyInfo.{CopyInfo}
use Rattle.mxf_catalogue.specs.declared.run.Run.{Run}
use Rattle.mxf_views.proofs.NumbersLaws.{any_mapped, filter_mapped}
use Rattle.mxf_skimmed.specs.Skims.{NoneAlike, disputed_beside, noted_beside, skim_beside}
use Rattle.mxf_skimmed.proofs.SkimmedNotes.{noted_is, read_same, says_same, value_same}
use Rattle.mxf_skimmed.proofs.HeldLaws.{clear_skim, disputed_skim}
use Rattle.mxf_skimmed.proofs.ViewLaws.{rip_same, skim_has_the_same_gaps, skim_has_the_same_views, unreadable_pack_same}

and_is : (a b : Bool) → (a && b) ≡ (if a then b else false)
and_is true b = refl
and_is false b = refl

module _ (saved : List NoteParts) where
  abbrev noted : NoteParts → NoteParts
  noted = noted_beside saved

  abbrev skim : List NoteParts → List NoteParts
  skim = skim_beside saved

  abbrev again : DisputedParts → DisputedParts
  again = disputed_beside saved

  -- ---- what is said of one note

  unreadable_same : (n : NoteParts) → is_unreadable (noted n) ≡ is_unreadable n
  unreadable_same n =
      let read = λ (bytes : List ℕ). reads_value (kind_of n.key) bytes in
      ap is_unreadable (noted_is saved n)
      ∙ ap not (and_is (keeps_value n) (read (noted n).held)
      ∙ value_same saved read false n
      ∙ sym (and_is (keeps_value n) (read n.held)))

  unreadable_set_same : (n : NoteParts) → is_unreadable_set (noted n) ≡ is_unreadable_set n
  unfolding is_unreadable_set
  unreadable_set_same n =
      says_same saved (λ x. (is_primer (kind_of x.key) || is_set (kind_of x.key)) && is_unreadable (noted n)) n
      (λ held. refl)
      ∙ ap (λ b. (is_primer (kind_of n.key) || is_set (kind_of n.key)) && b) (unreadable_same n)

  unreadable_segment_same : (n : NoteParts) → is_unreadable_segment (noted n) ≡ is_unreadable_segment n
  unfolding is_unreadable_segment
  unreadable_segment_same n =
      says_same saved (λ x. is_segment (kind_of x.key) && is_unreadable (noted n)) n (λ held. refl)
      ∙ ap (λ b. is_segment (kind_of n.key) && b) (unreadable_same n)

  -- ---- where causes are met

  -- the offsets of notes that are chosen stay
  offsets_stay : (p q : NoteParts → Bool) (notes : List NoteParts) → ((n : NoteParts) → p (noted n) ≡ q n)
      → map (λ n. n.offset) (filter p (map noted notes)) ≡ map (λ n. n.offset) (filter q notes)
  offsets_stay p q notes same =
      ap (map (λ (n : NoteParts). n.offset)) (filter_mapped p noted notes
      ∙ (λ i. map noted (filter (λ n. same n i) notes)))
      ∙ map-map (λ n. n.offset) noted (filter q notes)
      ∙ (λ i. map (λ n. says_same saved (λ x. x.offset) n (λ held. refl) i) (filter q notes))

  module _ (notes : List NoteParts) (apart : NoneAlike notes) where
    clear : clear_notes (skim notes) ≡ map noted (clear_notes notes)
    clear = clear_skim saved notes apart

    same : SameViews (skim notes) notes
    same = skim_has_the_same_views saved notes clear

    disputed_offsets : (p : DisputedParts → Bool) → ((d : DisputedParts) → p (again d) ≡ p d)
        → map (λ d. d.note.offset) (filter p (disputed_notes (skim notes)))
        ≡ map (λ d. d.note.offset) (filter p (disputed_notes notes))
    disputed_offsets p alike =
        ap (λ (l : List DisputedParts). map (λ d. d.note.offset) (filter p l)) (disputed_skim saved notes apart)
        ∙ ap (map (λ (d : DisputedParts). d.note.offset)) (filter_mapped p again (disputed_notes notes)
        ∙ (λ i. map again (filter (λ d. alike d i) (disputed_notes notes))))
        ∙ map-map (λ d. d.note.offset) again (filter p (disputed_notes notes))
        ∙ (λ i. map (λ d. says_same saved (λ x. x.offset) d.note (λ held. refl) i) (filter p (disputed_notes notes)))

    pub clear_offsets : (p q : NoteParts → Bool) → ((n : NoteParts) → p (noted n) ≡ q n)
        → map (λ n. n.offset) (filter p (clear_notes (skim notes)))
        ≡ map (λ n. n.offset) (filter q (clear_notes notes))
    clear_offsets p q alike =
        ap (λ (l : List NoteParts). map (λ n. n.offset) (filter p l)) clear ∙ offsets_stay p q (clear_notes notes) alike

    partition_offsets : (code : Code) → partitions_at code (skim notes) ≡ partitions_at code notes
    partition_offsets code =
        ap (λ (l : List PartitionParts). map (λ p. p.offset) (filter (is_partition_cause code l) l)) same.partitions

    other_rip_same : (n : NoteParts)
        → has_other_rip (noted n) (clear_notes (skim notes)) ≡ has_other_rip n (clear_notes notes)
    other_rip_same n =
        ap (has_other_rip (noted n)) clear
        ∙ any_mapped (λ m. is_rip_note m && not (m.offset == (noted n).offset)) noted (clear_notes notes)
        ∙ (λ i. list_any (λ m. rip_same saved m i && not (says_same saved (λ x. x.offset) m (λ held. refl) i
        == says_same saved (λ x. x.offset) n (λ held. refl) i)) (clear_notes notes))

    ends_same : (n : NoteParts) → ends_above (end_of (noted n)) (skim notes) ≡ ends_above (end_of n) notes
    ends_same n =
        any_mapped (λ m. m.whole && nat_lt (end_of (noted n)) (end_of m)) noted notes
        ∙ (λ i. list_any (λ m. says_same saved (λ x. x.whole) m (λ held. refl) i
        && nat_lt (says_same saved end_of n (λ held. refl) i) (says_same saved end_of m (λ held. refl) i)) notes)

    rip_read_same : (n : NoteParts) → rip_in (noted n) ≡ rip_in n
    rip_read_same n = ap rip_in (noted_is saved n) ∙ read_same saved (rip_at n.width) n

    unfit_same : (n : NoteParts) → is_unfit_rip (skim notes) (noted n) ≡ is_unfit_rip notes n
    unfit_same n = λ i. rip_same saved n i && (other_rip_same n i || ends_same n i
        || not (is_index_of (same.partitions i) (rip_read_same n i)))

    offsets_same : (code : Code) → offsets_for code (skim notes) ≡ offsets_for code notes
    offsets_same F01 = disputed_offsets (is_dispute_cause F01) (λ d. refl)
    offsets_same F02 = disputed_offsets (is_dispute_cause F02) (λ d. refl)
    offsets_same F03 = ap (map (λ (r : Run). r.start)) (skim_has_the_same_gaps saved notes)
    offsets_same F04 = clear_offsets (λ n. not (is_no_unreadable_pack n)) (λ n. not (is_no_unreadable_pack n))
        (λ n. ap not (unreadable_pack_same saved n))
    offsets_same F05 = partition_offsets F05
    offsets_same F06 = partition_offsets F06
    offsets_same F07 = partition_offsets F07
    offsets_same F08 = partition_offsets F08
    offsets_same F09 = ap (λ (l : List CopyInfo). map (λ c. c.partition) (filter is_partial l)) same.copies
    offsets_same F10 = clear_offsets (is_note_cause F10) (is_note_cause F10) unreadable_set_same
    offsets_same F11 = clear_offsets (is_note_cause F11) (is_note_cause F11) unreadable_segment_same
    offsets_same F12 = clear_offsets (is_unfit_rip (skim notes)) (is_unfit_rip notes) unfit_same
    offsets_same F13 = ap lost_in same.resolved
    offsets_same F14 = ap (λ chain. if is_broken chain then 0 ∷ [] else []) same.chain

    pub skim_has_the_same_findings : findings_of (skim notes) ≡ findings_of notes
    skim_has_the_same_findings =
        λ i. union finding_cmp [] (flat_map (λ code. map (finding code) (offsets_same code i)) all_codes)
