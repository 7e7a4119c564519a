-- What is held, where packs say that something lies, and where the essence of partitions lies: a skim says of all of it what
-- the reading says.
use Rattle.mxf_findings.proofs.Common.{◌≡◌, ℕ, Bool, true, false, List, [], ◌∷◌, ◌++◌, Option, Some, None, refl, ap, ◌∙◌, ◌==◌}
use Rattle.mxf_findings.proofs.Common.{◌&&◌, ◌||◌, ◌+◌, filter_map, find, map, not, if◌then◌else◌, option_and_then, option_map, is_some}
use Rattle.mxf_findings.proofs.Common.{NoteParts, PartitionParts, clear_notes, disputed_notes, end_of, kind_of, nat_lt, primer_at, read_as}
use Rattle.mxf_findings.proofs.Common.{is_primer}
use Rattle.std.specs.List.{list_any}
use Rattle.std.specs.Option.{option_map_or, option_or}
use Rattle.mxf_klv.specs.Note.{covered_end, greatest_end}
use Rattle.mxf_catalogue.specs.Disputes.{DisputedParts, undisputed_notes}
use Rattle.mxf_views.proofs.NumbersLaws.{any_mapped, find_mapped}
use Rattle.mxf_views.specs.Copies.{is_fill}
use Rattle.mxf_views.specs.RandomIndexView.{rip_view_of}
use Rattle.mxf_views.specs.declared.random_index.RipView.{RipView}
use Rattle.mxf_views.specs.declared.random_index.RipView.TheVariants.{Absent, Several, Unreadable, One}
use Rattle.mxf_places.specs.Claims.{begins, begins_index, begins_metadata, behind_metadata, claims_of, entry_claims, footer_claim}
use Rattle.mxf_places.specs.Claims.{index_of, is_unknown, known_end, metadata_of, over_among, over_fills, place_claim, previous_claim}
use Rattle.mxf_places.specs.Claims.{named_place, stretch_at, stretch_claim, stretch_from, zone_claim, zone_reason}
use Rattle.mxf_places.specs.Claims as claims
use Rattle.mxf_places.specs.Held.{begins_clear_head, covers, end_of_file, is_disputed_at, is_held, is_in_file, reaches_past, rip_end_by}
use Rattle.mxf_places.specs.declared.claim.Claim.{Claim}
use Rattle.mxf_places.specs.declared.reason.Reason.TheVariants.{Header}
use Rattle.mxf_places.specs.declared.stretch.Stretch.{Stretch}
use Rattle.mxf_places.specs.declared.stretch.Zone.{Zone}
use Rattle.mxf_places.specs.declared.stretch.Zone.TheVariants as zones
use Rattle.mxf_units.specs.EssenceZones.{begins_inside, behind_index, bounds_of, essence_at, first_packet, is_clip_wrapped, is_essence}
use Rattle.mxf_units.specs.EssenceZones.{is_one, is_open_place, is_sure, limit_of, may_be_essence, open_place, part_by, part_cmp}
use Rattle.mxf_units.specs.EssenceZones.{parts_of, rip_place_by, zone_by, zone_of}
use Rattle.mxf_units.specs.Streams.{least_above, next_of}
use Rattle.mxf_units.specs.declared.essence_zone.EssenceZone.{EssenceZone}
use Rattle.mxf_findings.specs.SameViews.{SameViews}
use Rattle.mxf_skimmed.specs.Skims.{NoneAlike, disputed_beside, noted_beside, skim_beside}
use Rattle.mxf_skimmed.proofs.SkimmedNotes.{noted_is, says_same}
use Rattle.mxf_skimmed.proofs.HeldLaws.{clear_skim, disputed_skim, undisputed_skim}
use Rattle.mxf_skimmed.proofs.ViewLaws.{read_primer_same, skim_has_the_same_views}

module _ (saved : List NoteParts) where
  abbrev noted : NoteParts → NoteParts
  noted = noted_beside saved

  abbrev skim : List NoteParts → List NoteParts
  skim = skim_beside saved

  -- ---- what is said of one note

  covers_same : (x : ℕ) (n : NoteParts) → covers x (noted n) ≡ covers x n
  covers_same x n = says_same saved (covers x) n (λ held. refl)

  at_same : (x : ℕ) (n : NoteParts) → ((noted n).offset == x) ≡ (n.offset == x)
  at_same x n = says_same saved (λ m. m.offset == x) n (λ held. refl)

  metadata_begins : (n : NoteParts) → begins_metadata (noted n) ≡ begins_metadata n
  unfolding begins_metadata
  metadata_begins n =
      says_same saved (λ m. is_primer (kind_of m.key) && (not m.whole || is_some (read_as primer_at (noted n)))) n (λ held. refl)
      ∙ ap (λ o. is_primer (kind_of n.key) && (not n.whole || is_some o)) (read_primer_same saved n)

  index_begins : (n : NoteParts) → begins_index (noted n) ≡ begins_index n
  unfolding begins_index
  index_begins n = says_same saved begins_index n (λ held. refl)

  begins_same : (zone : Zone) (n : NoteParts) → begins zone (noted n) ≡ begins zone n
  begins_same zones.Metadata n = metadata_begins n
  begins_same zones.Index n = index_begins n

  over_among_same : (notes : List NoteParts) (x : ℕ) → over_among (map noted notes) x ≡ over_among notes x
  over_among_same [] x = refl
  over_among_same (n ∷ notes) x =
      ap (λ (m : NoteParts). over_among (map noted notes) (if (m.offset == x) && is_fill (kind_of m.key) then end_of m else x))
      (noted_is saved n)
      ∙ over_among_same notes (if (n.offset == x) && is_fill (kind_of n.key) then end_of n else x)

  -- What is said of a note that is found, or of none.
  found_same : {A : Type 0} (f : NoteParts → A) (d : A) → ((n : NoteParts) → f (noted n) ≡ f n) → (o : Option NoteParts)
      → option_map_or f (option_map noted o) d ≡ option_map_or f o d
  found_same f d same None = refl
  found_same f d same (Some n) = same n

  mapped_same : {A : Type 0} (f : NoteParts → A) → ((n : NoteParts) → f (noted n) ≡ f n) → (o : Option NoteParts)
      → option_map f (option_map noted o) ≡ option_map f o
  mapped_same f same None = refl
  mapped_same f same (Some n) = ap Some (same n)

  -- Stretches that are closed or open.
  abbrev closed : ℕ → ℕ → Stretch
  closed from end = record { from = from; end = end; is_open = false }

  abbrev opened : ℕ → ℕ → Stretch
  opened from end = record { from = from; end = end; is_open = true }

  abbrev zone : ℕ → ℕ → Option ℕ → Bool → EssenceZone
  zone body_offset origin limit sure = record { body_offset = body_offset; origin = origin; limit = limit; is_sure = sure }

  -- ---- what is held

  pub held_same : (notes : List NoteParts) (x : ℕ) → is_held (skim notes) x ≡ is_held notes x
  held_same notes x =
      any_mapped (covers x) noted notes ∙ (λ i. list_any (λ n. covers_same x n i) notes)

  past_same : (notes : List NoteParts) (x : ℕ) → reaches_past x (skim notes) ≡ reaches_past x notes
  past_same notes x =
      any_mapped (λ n. nat_lt x (covered_end n)) noted notes
      ∙ (λ i. list_any (λ n. says_same saved (λ m. nat_lt x (covered_end m)) n (λ held. refl) i) notes)

  module _ (notes : List NoteParts) (apart : NoneAlike notes) where
    clear : clear_notes (skim notes) ≡ map noted (clear_notes notes)
    clear = clear_skim saved notes apart

    undisputed : undisputed_notes (skim notes) ≡ map noted (undisputed_notes notes)
    undisputed = undisputed_skim saved notes apart

    same : SameViews (skim notes) notes
    same = skim_has_the_same_views saved notes clear

    -- A note that is found at an offset.
    pub found_at : (x : ℕ) → find (λ n. n.offset == x) (undisputed_notes (skim notes))
        ≡ option_map noted (find (λ n. n.offset == x) (undisputed_notes notes))
    found_at x =
        ap (find (λ n. n.offset == x)) undisputed ∙ find_mapped (λ n. n.offset == x) noted (undisputed_notes notes)
        ∙ (λ i. option_map noted (find (λ n. at_same x n i) (undisputed_notes notes)))

    pub clear_at : (x : ℕ) → find (λ n. n.offset == x) (clear_notes (skim notes))
        ≡ option_map noted (find (λ n. n.offset == x) (clear_notes notes))
    clear_at x =
        ap (find (λ n. n.offset == x)) clear ∙ find_mapped (λ n. n.offset == x) noted (clear_notes notes)
        ∙ (λ i. option_map noted (find (λ n. at_same x n i) (clear_notes notes)))

    disputed_at_same : (x : ℕ) → is_disputed_at (skim notes) x ≡ is_disputed_at notes x
    disputed_at_same x =
        ap (list_any (λ (d : DisputedParts). covers x d.note)) (disputed_skim saved notes apart)
        ∙ any_mapped (λ (d : DisputedParts). covers x d.note) (disputed_beside saved) (disputed_notes notes)
        ∙ (λ i. list_any (λ (d : DisputedParts). covers_same x d.note i) (disputed_notes notes))

    rip_end_same : (view : RipView) → rip_end_by (skim notes) view ≡ rip_end_by notes view
    rip_end_same Absent = refl
    rip_end_same Several = refl
    rip_end_same (Unreadable offset) = refl
    rip_end_same (One r) =
        ap (option_map end_of) (clear_at r.offset)
        ∙ mapped_same end_of (λ n. says_same saved end_of n (λ held. refl)) (find (λ n. n.offset == r.offset) (clear_notes notes))

    pub end_of_file_same : end_of_file (skim notes) ≡ end_of_file notes
    unfolding end_of_file
    end_of_file_same =
        (λ i. option_and_then (λ e. if past_same notes e i then None else Some e) (rip_end_by (skim notes) (same.rip i)))
        ∙ ap (option_and_then (λ e. if reaches_past e notes then None else Some e)) (rip_end_same (rip_view_of notes))

    in_file_same : (x : ℕ) → is_in_file (skim notes) x ≡ is_in_file notes x
    in_file_same x = λ i. nat_lt x greatest_end && option_map_or (λ e. nat_lt x e) (end_of_file_same i) true

    unknown_same : (x : ℕ) → is_unknown (skim notes) x ≡ is_unknown notes x
    unknown_same x = λ i. in_file_same x i && (disputed_at_same x i || not (held_same notes x i))

    -- ---- what packs say

    pub over_same : (x : ℕ) → over_fills (skim notes) x ≡ over_fills notes x
    over_same x = ap (λ l. over_among l x) undisputed ∙ over_among_same (undisputed_notes notes) x

    stretch_at_same : (zone : Zone) (from x count : ℕ)
        → stretch_at zone (skim notes) from x count ≡ stretch_at zone notes from x count
    stretch_at_same zone from x count =
        let told : NoteParts → Option Stretch = λ n. if begins zone n then Some (closed from (x + count)) else None in
        let until : Bool → Option Stretch = λ b. if b then Some (opened from (x + 1)) else None in
        (λ i. option_map_or told (found_at x i) (until (unknown_same x i)))
        ∙ found_same told (until (is_unknown notes x))
        (λ n. ap (λ b. if b then Some (closed from (x + count)) else None) (begins_same zone n))
        (find (λ n. n.offset == x) (undisputed_notes notes))

    stretch_same : (zone : Zone) (from count : ℕ) → stretch_from zone (skim notes) from count ≡ stretch_from zone notes from count
    stretch_same zone from count =
        ap (λ x. stretch_at zone (skim notes) from x count) (over_same from) ∙ stretch_at_same zone from (over_fills notes from) count

    metadata_same : (p : PartitionParts) → metadata_of (skim notes) p ≡ metadata_of notes p
    unfolding metadata_of
    metadata_same p =
        let count = p.pack.numbers.header_byte_count in
        ap (λ o. if nat_lt 0 count then o else None) (stretch_same zones.Metadata p.end count)

    pub behind_same : (p : PartitionParts) → behind_metadata (skim notes) p ≡ behind_metadata notes p
    behind_same p =
        ap (λ o. if nat_lt 0 p.pack.numbers.header_byte_count then option_and_then known_end o else Some p.end) (metadata_same p)

    index_same : (p : PartitionParts) → index_of (skim notes) p ≡ index_of notes p
    unfolding index_of
    index_same p =
        let count = p.pack.numbers.index_byte_count in
        λ i. if nat_lt 0 count then option_and_then (λ from. stretch_same zones.Index from count i) (behind_same p i) else None

    zone_same : (zone : Zone) (p : PartitionParts) → claims.zone_of zone (skim notes) p ≡ claims.zone_of zone notes p
    zone_same zones.Metadata p = metadata_same p
    zone_same zones.Index p = index_same p

    zone_claim_same : (zone : Zone) (p : PartitionParts) → zone_claim zone (skim notes) p ≡ zone_claim zone notes p
    unfolding zone_claim
    zone_claim_same zone p = ap (option_map (stretch_claim (zone_reason zone) p)) (zone_same zone p)

    claims_same : claims_of (skim notes) ≡ claims_of notes
    unfolding claims_of
    claims_same = λ i.
        place_claim Header None 0
        ∷ (filter_map footer_claim (same.partitions i)
        ++ (filter_map (λ p. zone_claim_same zones.Metadata p i) (same.partitions i)
        ++ (filter_map (λ p. zone_claim_same zones.Index p i) (same.partitions i)
        ++ (entry_claims (same.rip i)
        ++ filter_map previous_claim (same.partitions i)))))

    -- ---- where essence lies

    behind_index_same : (p : PartitionParts) → behind_index (skim notes) p ≡ behind_index notes p
    behind_index_same p = λ i.
        if nat_lt 0 p.pack.numbers.index_byte_count then option_and_then known_end (index_same p i) else behind_same p i

    essence_test : (n : NoteParts) → may_be_essence (kind_of (noted n).key) ≡ may_be_essence (kind_of n.key)
    essence_test n = says_same saved (λ m. may_be_essence (kind_of m.key)) n (λ held. refl)

    abbrev as_essence : NoteParts → Option NoteParts
    as_essence n = if may_be_essence (kind_of n.key) then Some n else None

    essence_found : (o : Option NoteParts)
        → option_and_then as_essence (option_map noted o) ≡ option_map noted (option_and_then as_essence o)
    essence_found None = refl
    essence_found (Some n) =
        ap (λ b. if b then Some (noted n) else None) (essence_test n) ∙ pushed (may_be_essence (kind_of n.key))
      where
        pushed : (b : Bool) → (if b then Some (noted n) else None) ≡ option_map noted (if b then Some n else None)
        pushed true = refl
        pushed false = refl

    essence_same : (x : ℕ) → essence_at (skim notes) x ≡ option_map noted (essence_at notes x)
    essence_same x =
        ap (option_and_then as_essence) (found_at x) ∙ essence_found (find (λ n. n.offset == x) (undisputed_notes notes))

    essence_over : (o : Option ℕ)
        → option_and_then (λ x. essence_at (skim notes) (over_fills (skim notes) x)) o
        ≡ option_map noted (option_and_then (λ x. essence_at notes (over_fills notes x)) o)
    essence_over None = refl
    essence_over (Some x) = ap (essence_at (skim notes)) (over_same x) ∙ essence_same (over_fills notes x)

    first_same : (p : PartitionParts) → first_packet (skim notes) p ≡ option_map noted (first_packet notes p)
    unfolding first_packet
    first_same p =
        ap (option_and_then (λ x. essence_at (skim notes) (over_fills (skim notes) x))) (behind_index_same p)
        ∙ essence_over (behind_index notes p)

    clip_same : (p : PartitionParts) (n : NoteParts) → is_clip_wrapped (skim notes) p (noted n) ≡ is_clip_wrapped notes p n
    clip_same p n =
        ap (is_clip_wrapped (skim notes) p) (noted_is saved n)
        ∙ (λ i. is_essence (kind_of n.key) && (p.pack.numbers.body_offset == 0)
        && begins_inside n (next_of (same.segments i) p.pack.numbers.body_sid 0))

    open_same : (x : ℕ) → is_open_place (skim notes) x ≡ is_open_place notes x
    open_same x =
        let head : begins_clear_head (skim notes) x ≡ begins_clear_head notes x =
        ap (λ o. option_map_or (λ n. not n.whole) o false) (found_at x)
        ∙ found_same (λ n. not n.whole) false (λ n. says_same saved (λ m. not m.whole) n (λ held. refl))
        (find (λ n. n.offset == x) (undisputed_notes notes)) in
        λ i. in_file_same x i && (disputed_at_same x i || head i || not (held_same notes x i))

    open_place_same : (c : Claim) → open_place (skim notes) c ≡ open_place notes c
    unfolding open_place
    open_place_same c = λ i. option_and_then (λ x. if open_same x i then Some x else None) (named_place c)

    bounds_same : bounds_of (skim notes) ≡ bounds_of notes
    bounds_same = λ i.
        map (λ p. p.offset) (same.partitions i) ++ filter_map (λ c. open_place_same c i) (claims_same i)

    limit_same : (p : PartitionParts) → limit_of (skim notes) p ≡ limit_of notes p
    limit_same p = λ i. option_or (least_above p.offset (bounds_same i)) (rip_place_by (end_of_file_same i) (same.rip i))

    sure_same : (p : PartitionParts) (limit : Option ℕ) → is_sure (skim notes) p limit ≡ is_sure notes p limit
    sure_same p limit = λ i. option_map_or (λ x. is_one (same.rip i)
        || option_map_or (λ q. Rattle.mxf_views.specs.Partitions.previous_of q == p.offset)
        (find (λ q. q.offset == x) (same.partitions i)) false) limit false

    zone_by_same : (p : PartitionParts) (n : NoteParts) → zone_by (skim notes) p (noted n) ≡ zone_by notes p n
    zone_by_same p n = λ i.
        if clip_same p n i
        then zone 0 (says_same saved (λ m. m.offset + 16 + m.width) n (λ held. refl) i)
        (Some (says_same saved end_of n (λ held. refl) i)) true
        else zone p.pack.numbers.body_offset (says_same saved (λ m. m.offset) n (λ held. refl) i) (limit_same p i)
        (sure_same p (limit_same p i) i)

    zone_of_same : (p : PartitionParts) → zone_of (skim notes) p ≡ zone_of notes p
    unfolding zone_of
    zone_of_same p =
        ap (option_map (zone_by (skim notes) p)) (first_same p) ∙ by_found (first_packet notes p)
      where
        by_found : (o : Option NoteParts)
            → option_map (zone_by (skim notes) p) (option_map noted o) ≡ option_map (zone_by notes p) o
        by_found None = refl
        by_found (Some n) = ap Some (zone_by_same p n)

    pub parts_same : parts_of (skim notes) ≡ parts_of notes
    unfolding parts_of
    parts_same = λ i.
        Rattle.std.specs.Prelude.reverse (Rattle.mxf_klv.specs.Rising.union part_cmp []
        (map (λ p. part_by p (zone_of_same p i)) (same.partitions i)))
