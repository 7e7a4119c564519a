-- What is printed of a skim is what is printed of the reading, but for the lines of notes.
use Rattle.mxf_findings.proofs.Common.{◌≡◌, ℕ, Bool, true, false, List, [], ◌∷◌, ◌++◌, Option, Some, None, refl, sym}
use Rattle.mxf_findings.proofs.Common.{ap, ◌∙◌, ◌==◌, ◌&&◌, if◌then◌else◌, find, map, flat_map, option_map, length}
use Rattle.mxf_findings.proofs.Common.{option_and_then, subst, inl, inr, NoteParts, In, clear_notes, disputed_notes}
use Rattle.mxf_findings.proofs.Common.{keeps_value, partitions_of, chain_of, gaps_of, resolved_of, primer_for}
use Rattle.mxf_findings.proofs.Common.{is_set_note, package_at, identification_at, ResolvedParts}
use Rattle.std.specs.Str.{bytes_eq}
use Rattle.std.proofs.lemmas.List.{length-map}
use Rattle.mxf_klv.specs.Note.{head_note}
use Rattle.mxf_catalogue.specs.Disputes.{DisputedParts, is_disputed}
use Rattle.mxf_views.specs.SetItems.{set_items, whole_items}
use Rattle.mxf_views.proofs.NumbersLaws.{find_mapped}
use Rattle.mxf_references.specs.declared.reference.target.Ref.{Ref}
use Rattle.mxf_references.specs.declared.reference.target.Target.{Target}
use Rattle.mxf_references.specs.declared.reference.target.Target.TheVariants.{Missing, Several, WrongKind, Unreadable}
use Rattle.mxf_references.specs.declared.reference.target.Target.TheVariants.{Found}
use Rattle.mxf_findings.specs.SameViews.{SameViews}
use Rattle.mxf_readings.specs.Readings.{is_held}
use Rattle.mxf_skim.specs.PassedOver.{is_of_container, is_passed_over, no_digest, skimmed}
use Rattle.mxf_skim.specs.Saving.{saved_note}
use Rattle.mxf_read.specs.declared.gathering.part.Part.{Part}
use Rattle.mxf_read.proofs.SkimsAndReadings.{as_noted}
use Rattle.mxf_forms.specs.Forms.{PrintedLine}
use Rattle.mxf_lines.specs.declared.printing.line.record.Named.{Named}
use Rattle.mxf_lines.specs.declared.printing.line.record.Named.TheVariants.{Identification, Package}
use Rattle.mxf_lines.specs.Answering.{check_status, doubt_lines, doubted_status, finding_lines, place_status, report_lines, stop_lines}
use Rattle.mxf_lines.specs.IndexLines.{place_line, rip_lines, segment_line}
use Rattle.mxf_lines.specs.ItemLines.{item_lines, set_lines}
use Rattle.mxf_lines.specs.Lines.{chain_line, copy_line, gap_line, join_line, lines_where, note_line}
use Rattle.mxf_lines.specs.Lines.{preferred_line}
use Rattle.mxf_lines.specs.PartitionLines.{partition_lines}
use Rattle.mxf_lines.specs.Printing.{metadata_lines}
use Rattle.mxf_lines.specs.ReferenceLines.{found_record, lines_of_record, named_lines, owner_of, record_of}
use Rattle.mxf_lines.specs.ReferenceLines.{reference_line, reference_lines}
use Rattle.mxf_skimmed.specs.Skims.{NoneAlike, disputed_beside, noted_beside, skim_beside}
use Rattle.mxf_skimmed.specs.SkimmedLines.{PrintsTheSame, read_line, skim_line, with_head}
use Rattle.mxf_skimmed.specs.SkimmedRuns.{AreReadAndSkimmed, IsSkimOf}
use Rattle.mxf_skimmed.proofs.DescriptionLaws.{description_has_the_same_status, skim_is_described_the_same}
use Rattle.mxf_skimmed.proofs.DoubtLaws.{skim_has_the_same_doubts}
use Rattle.mxf_skimmed.proofs.FindingLaws.{skim_has_the_same_findings}
use Rattle.mxf_skimmed.proofs.HeldLaws.{clear_skim, disputed_same, disputed_skim}
use Rattle.mxf_skimmed.proofs.RunLaws.{passed_over_is, skim_of_parts, skimmed_head}
use Rattle.mxf_skimmed.proofs.SkimmedNotes.{either_note, noted_is, passed_is, read_same, says_same, stays}
use Rattle.mxf_skimmed.proofs.ViewLaws.{set_same, set_stays, skim_has_the_same_gaps, skim_has_the_same_views}

-- ---- the line of a note

-- the line of a head says nothing else than that
pub head_line : (n : NoteParts) (disputed : Bool) → note_line (head_note n) disputed ≡ with_head (note_line n disputed)
unfolding note_line
head_line n disputed = refl

-- what is shown of what a skim makes of a note is its head, if it was passed over, or itself
shown_skimmed : (n : NoteParts) → saved_note (skimmed n) ≡ (if is_passed_over (skimmed n) then head_note n else n)
shown_skimmed n = elim (as_noted n) [
  | inl e ↦ ap saved_note e ∙ sym (ap (λ (m : NoteParts). if is_passed_over m then head_note n else n) e)
  | inr s ↦
      let over : is_passed_over (skimmed n) ≡ true = ap is_passed_over s.1 ∙ passed_over_is n s.0 in
      ap (λ (b : Bool). if b then head_note (skimmed n) else skimmed n) over ∙ skimmed_head n
      ∙ sym (ap (λ (b : Bool). if b then head_note n else n) over)
]

module _ (saved : List NoteParts) where
  abbrev noted : NoteParts → NoteParts
  noted = noted_beside saved

  abbrev skim : List NoteParts → List NoteParts
  skim = skim_beside saved

  shown_noted : (n : NoteParts) → saved_note (noted n) ≡ (if is_passed_over (noted n) then head_note n else n)
  shown_noted n = either_note saved (λ m. saved_note m ≡ (if is_passed_over m then head_note n else n)) n refl
      (shown_skimmed n)

  line_shown : (b disputed : Bool) (n : NoteParts) → note_line (if b then head_note n else n) disputed
      ≡ (if b then with_head (note_line n disputed) else note_line n disputed)
  line_shown true disputed n = head_line n disputed
  line_shown false disputed n = refl

  pub passed_over : (n : NoteParts) → is_of_container n ≡ true → is_held n saved ≡ false
      → is_passed_over (noted n) ≡ true
  passed_over n container free =
      ap (λ (b : Bool). is_passed_over (if b then n else skimmed n)) free
      ∙ ap is_passed_over (passed_is n container) ∙ passed_over_is n container

  pub not_passed_over : (n : NoteParts) → is_of_container n ≡ false → is_passed_over (noted n) ≡ false
  not_passed_over n other =
      ap is_passed_over (stays saved n other) ∙ ap (λ (b : Bool). b && bytes_eq n.held no_digest) other

  -- the lines of notes
  module _ (all : List NoteParts) (apart : NoneAlike all) where
    note_lines_stay : (notes : List NoteParts) → ((n : NoteParts) → In n notes → In n all)
        → flat_map (λ n. note_line (saved_note n) (is_disputed n (skim all)) ∷ []) (map noted notes)
        ≡ map (skim_line saved all) notes
    note_lines_stay [] among = refl
    note_lines_stay (n ∷ notes) among =
        let same : is_disputed (noted n) (skim all) ≡ is_disputed n all =
        disputed_same saved all apart n (among n (inl refl)) in
        let line : note_line (saved_note (noted n)) (is_disputed (noted n) (skim all)) ≡ skim_line saved all n =
        (λ i. note_line (shown_noted n i) (same i)) ∙ line_shown (is_passed_over (noted n)) (is_disputed n all) n in
        λ i. line i ∷ note_lines_stay notes (λ m h. among m (inr h)) i

  -- ---- the lines of sets

  items_same : (n : NoteParts) → set_items (noted n) ≡ set_items n
  unfolding set_items
  items_same n = elim (is_set_note n) as (λ b. is_set_note n ≡ b → set_items (noted n) ≡ set_items n) [
    | true ↦ λ e. ap set_items (set_stays saved n e)
    | false ↦ λ e.
        ap (λ (b : Bool). if b && keeps_value (noted n) then whole_items (noted n).held else None)
        (set_same saved n ∙ e)
        ∙ sym (ap (λ (b : Bool). if b && keeps_value n then whole_items n.held else None) e)
  ] refl

  record_same : (named : Named) (n : NoteParts) → record_of named (noted n) ≡ record_of named n
  record_same Identification n =
      ap (record_of Identification) (noted_is saved n)
      ∙ ap (option_map _) (read_same saved identification_at n)
  record_same Package n =
      ap (record_of Package) (noted_is saved n)
      ∙ ap (option_map _) (read_same saved package_at n)

  record_found : (named : Named) (o : Option NoteParts)
      → option_and_then (record_of named) (option_map noted o) ≡ option_and_then (record_of named) o
  record_found named None = refl
  record_found named (Some n) = record_same named n

  primer_placed : (notes : List NoteParts) (n : NoteParts) → primer_for notes (noted n) ≡ primer_for notes n
  unfolding primer_for
  primer_placed notes n = says_same saved (primer_for notes) n (λ held. refl)

  module _ (notes : List NoteParts) (apart : NoneAlike notes) where
    clear : clear_notes (skim notes) ≡ map noted (clear_notes notes)
    clear = clear_skim saved notes apart

    same : SameViews (skim notes) notes
    same = skim_has_the_same_views saved notes clear

    set_lines_same : (n : NoteParts) → set_lines (skim notes) (noted n) ≡ set_lines notes n
    set_lines_same n =
        let offset : (noted n).offset ≡ n.offset = says_same saved (λ x. x.offset) n (λ held. refl) in
        let primer = same.primer (noted n) ∙ primer_placed notes n in
        λ i. lines_where (item_lines (offset i) (primer i)) (items_same n i)

    sets_stay : (l : List NoteParts)
        → flat_map (set_lines (skim notes)) (map noted l) ≡ flat_map (set_lines notes) l
    sets_stay [] = refl
    sets_stay (n ∷ l) = λ i. set_lines_same n i ++ sets_stay l i

    -- ---- the lines of references

    found_at : (named : Named) (offset : ℕ)
        → found_record (skim notes) named (Found offset) ≡ found_record notes named (Found offset)
    found_at named offset =
        ap (λ (l : List NoteParts). option_and_then (record_of named) (find (λ n. n.offset == offset) l)) clear
        ∙ ap (option_and_then (record_of named)) (find_mapped (λ n. n.offset == offset) noted (clear_notes notes)
        ∙ (λ i. option_map noted (find (λ n. says_same saved (λ x. x.offset == offset) n (λ held. refl) i)
        (clear_notes notes))))
        ∙ record_found named (find (λ n. n.offset == offset) (clear_notes notes))

    found_same : (named : Named) (target : Target)
        → found_record (skim notes) named target ≡ found_record notes named target
    found_same named Missing = refl
    found_same named Several = refl
    found_same named (WrongKind offset) = refl
    found_same named (Unreadable offset) = refl
    found_same named (Found offset) = found_at named offset

    named_stay : (named : Named) (references : List Ref)
        → named_lines (skim notes) named references ≡ named_lines notes named references
    named_stay named references = λ i. flat_map (λ r. reference_line named r
        ∷ lines_where (lines_of_record (owner_of named r)) (found_same named r.target i)) references

    resolved_stay : (o : Option ResolvedParts) → reference_lines (skim notes) o ≡ reference_lines notes o
    resolved_stay None = refl
    resolved_stay (Some r) = λ i. named_stay Identification r.identifications i ++ named_stay Package r.packages i

    references_stay : reference_lines (skim notes) (resolved_of (skim notes))
        ≡ reference_lines notes (resolved_of notes)
    references_stay = ap (reference_lines (skim notes)) same.resolved ∙ resolved_stay (resolved_of notes)

    -- ---- all lines

    clear_sets : flat_map (set_lines (skim notes)) (clear_notes (skim notes))
        ≡ flat_map (set_lines notes) (clear_notes notes)
    clear_sets = ap (flat_map (set_lines (skim notes))) clear ∙ sets_stay (clear_notes notes)

    metadata_stay : metadata_lines (skim notes) ≡ metadata_lines notes
    metadata_stay = λ i.
        flat_map (λ copy. copy_line copy ∷ []) (same.copies i)
        ++ (preferred_line (same.preferred i)
        ∷ (clear_sets i
        ++ (references_stay i
        ++ (flat_map (λ s. segment_line s ∷ []) (same.segments i)
        ++ rip_lines (same.rip i)))))

    abbrev others : List NoteParts → List PrintedLine
    others content =
        flat_map (λ gap. gap_line gap ∷ []) (gaps_of content)
        ++ (flat_map (partition_lines (partitions_of content)) (partitions_of content)
        ++ (chain_line (chain_of content) ∷ metadata_lines content))

    others_stay : others (skim notes) ≡ others notes
    others_stay = λ i.
        flat_map (λ gap. gap_line gap ∷ []) (skim_has_the_same_gaps saved notes i)
        ++ (flat_map (partition_lines (same.partitions i)) (same.partitions i)
        ++ (chain_line (same.chain i) ∷ metadata_stay i))

    read_lines : (l : List NoteParts)
        → flat_map (λ n. note_line n (is_disputed n notes) ∷ []) l ≡ map (read_line notes) l
    read_lines [] = refl
    read_lines (n ∷ l) = ap (λ (lines : List PrintedLine). read_line notes n ∷ lines) (read_lines l)

    notes_counted : length (skim notes) ≡ length notes
    notes_counted = length-map notes noted

    disputes_counted : length (disputed_notes (skim notes)) ≡ length (disputed_notes notes)
    disputes_counted =
        ap (λ (l : List DisputedParts). length l) (disputed_skim saved notes apart)
        ∙ length-map (disputed_notes notes) (disputed_beside saved)

    pub skim_prints_the_same : PrintsTheSame saved notes (skim notes)
    skim_prints_the_same =
        let findings = skim_has_the_same_findings saved notes apart in
        let doubts = skim_has_the_same_doubts saved notes apart in
        record {
          show = record {
            others = others notes;
            by_reading = λ reports at. λ i. report_lines reports ++ (read_lines notes i ++ others notes);
            by_skim = λ reports at. λ i.
                report_lines reports ++ (note_lines_stay notes apart notes (λ n h. h) i ++ others_stay i);
            status = λ reports at beside. refl;
          };
          check = record {
            lines = λ reports at beside. λ i. flat_map stop_lines reports ++ finding_lines (findings i);
            status = λ reports at beside. ap (check_status reports) findings;
          };
          doubts = record {
            lines = λ reports at beside. λ i.
                (flat_map stop_lines reports ++ finding_lines (findings i)) ++ doubt_lines (doubts i);
            status = λ reports at beside. λ i. doubted_status reports (findings i) (doubts i);
          };
          describe = record {
            lines = λ reports at beside. skim_is_described_the_same saved notes apart;
            status = λ reports at beside. description_has_the_same_status saved notes apart;
          };
          locate = λ index unit. record {
            lines = λ reports at beside. ap (λ place. place_line place ∷ []) (same.locate index unit);
            status = λ reports at beside. ap place_status (same.locate index unit);
          };
          join = record {
            lines = λ reports at beside. λ i. join_line (notes_counted i) (disputes_counted i) ∷ [];
            status = λ reports at beside. refl;
          };
        }

module _ {R : Type 0} (left : R → Option (List ℕ)) where
  pub parts_print_the_same : (parts : List (Part R)) (notes skim : List NoteParts)
      → AreReadAndSkimmed left parts notes skim → NoneAlike notes
      → (is : IsSkimOf left parts notes skim) × PrintsTheSame is.saved notes skim
  parts_print_the_same parts notes skim are apart =
      let is = skim_of_parts left parts notes skim are apart in (
        is,
        subst (λ (l : List NoteParts). PrintsTheSame is.saved notes l) (sym is.noted)
            (skim_prints_the_same is.saved notes apart),
      )
