-- The place and the entry that all of some are: whichever way these stand, and by those segments alone that may have
-- them.
use Rattle.mxf_views.proofs.Common.{◌≡◌, ◌≢◌, ◌∙◌, ◌⊎◌, ◌||◌, ◌<◌, ◌-◌, ◌^◌, ℕ, Bool, true, false}
use Rattle.mxf_views.proofs.Common.{not, List, [], ◌∷◌, Option, None, Some, Result, Ok, Err, refl, sym, ap, inl, inr}
use Rattle.mxf_views.proofs.Common.{arith, eq-eqb, eqb-true, ◌*◌, filter_map, if◌then◌else◌, nat_le, nat_lt, option_map}
use Rattle.mxf_views.proofs.Common.{unsigned_abs, min, ltb-true, and_from, and_parts, false_from_ne_true, leb-true}
use Rattle.mxf_views.proofs.Common.{cons_option, list_any, option_map_or, In, SameMembers, list_any-In}
use Rattle.mxf_views.proofs.Common.{same_bool, covers_constant, covers_entry, entry_offset, index_entry, entry_count}
use Rattle.mxf_views.proofs.Common.{is_constant, SegmentAtParts, in_stream, place_in}
use Rattle.mxf_sets.specs.declared.segment.offset.IndexEntry.{IndexEntry}
use Rattle.mxf_views.specs.declared.index.place.StreamPlace.{StreamPlace}
use Rattle.std.specs.Cmp.{signed_Decides}
use Rattle.std.specs.Ordering.{int_eq}
use Rattle.mxf_klv.proofs.Tests.{not_both}
use Rattle.mxf_sets.specs.Offset.{entry_at}
use Rattle.mxf_units.specs.NextPlaces.{first_unit, units_end}
use Rattle.mxf_units.specs.Intervals.{IsAround}
use Rattle.mxf_units.specs.Streams.{entry_of, is_given, is_same_entry, is_same_place, only_entry, only_place, place_of}
use Rattle.mxf_units.specs.declared.standing.UnitStanding.{UnitStanding}
use Rattle.mxf_units.specs.Repeated.{SayAll}
use Rattle.mxf_units.proofs.RepeatedLaws.{said-entries, said-places}
use Rattle.mxf_units.proofs.IntervalLaws.{near_alone}
use Rattle.mxf_units.specs.declared.standing.UnitStanding.TheVariants as standings

-- ---- a walk over some that ends with the first that is another

-- None is there and this is the answer to it, or all are one and this is the answer to that, or two differ.
abbrev Walked : {K R : Type 0} → R → (K → R) → R → List K → R → Type 0
Walked {K} none one two xs r = (((x : K) → In x xs → ⊥) × (r ≡ none))
    ⊎ (((x : K) × In x xs × ((y : K) → In y xs → y ≡ x) × (r ≡ one x))
    ⊎ ((x : K) × (y : K) × In x xs × In y xs × (x ≢ y) × (r ≡ two)))

module _ {K R : Type 0} (none : R) (one : K → R) (two : R) where
  other_members : (xs ys : List K) (r : R) → SameMembers xs ys → Walked none one two xs r → Walked none one two ys r
  other_members xs ys r same (inl s) = inl (λ x h. s.0 x ((same x).1 h), s.1)
  other_members xs ys r same (inr (inl s)) = inr (inl (s.0, (same s.0).0 s.1, λ y h. s.2 y ((same y).1 h), s.3))
  other_members xs ys r same (inr (inr s)) = inr (inr (s.0, s.1, (same s.0).0 s.2, (same s.1).0 s.3, s.4, s.5))

  -- It has one answer.
  one_answer : (xs : List K) (q r : R) → Walked none one two xs q → Walked none one two xs r → q ≡ r
  one_answer xs q r (inl s) (inl t) = s.1 ∙ sym t.1
  one_answer xs q r (inl s) (inr (inl t)) = absurd (s.0 t.0 t.1)
  one_answer xs q r (inl s) (inr (inr t)) = absurd (s.0 t.0 t.2)
  one_answer xs q r (inr (inl s)) (inl t) = absurd (t.0 s.0 s.1)
  one_answer xs q r (inr (inl s)) (inr (inl t)) = s.3 ∙ ap one (t.2 s.0 s.1) ∙ sym t.3
  one_answer xs q r (inr (inl s)) (inr (inr t)) = absurd (t.4 (s.2 t.0 t.2 ∙ sym (s.2 t.1 t.3)))
  one_answer xs q r (inr (inr s)) (inl t) = absurd (t.0 s.0 s.2)
  one_answer xs q r (inr (inr s)) (inr (inl t)) = absurd (s.4 (t.2 s.0 s.2 ∙ sym (t.2 s.1 s.3)))
  one_answer xs q r (inr (inr s)) (inr (inr t)) = s.5 ∙ sym t.5

  -- What repeats the one before says nothing new.
  repeated : (x y : K) (xs : List K) (r : R) → x ≡ y → Walked none one two (y ∷ xs) r
      → Walked none one two (x ∷ y ∷ xs) r
  repeated x y xs r e w =
      other_members (y ∷ xs) (x ∷ y ∷ xs) r (λ z. (inr, λ h. elim h [ inl f ↦ inl (f ∙ e) | inr k ↦ k ])) w

-- ---- places

pub same_place : (q p : StreamPlace) → is_same_place q p ≡ true → q ≡ p
same_place q p e = grind (arith, and_parts, eqb-true)

pub itself_place : (q p : StreamPlace) → q ≡ p → is_same_place q p ≡ true
itself_place q p e = grind (arith, and_from, eq-eqb)

abbrev pub PlacesWalked : List StreamPlace → Result StreamPlace UnitStanding → Type 0
PlacesWalked = Walked {K = StreamPlace} {R = Result StreamPlace UnitStanding} (Err standings.NotIndexed) (λ p. Ok p)
    (Err standings.Ambiguous)

walk_on : (q : StreamPlace) (places : List StreamPlace) → PlacesWalked (q ∷ places) (only_place (Some q) places)
walk_on q [] = inr (inl (q, inl refl, λ y h. elim h [ inl e ↦ e | inr k ↦ absurd k ], refl))
walk_on q (p ∷ places) = elim (is_same_place q p) as (λ b. is_same_place q p ≡ b
    → PlacesWalked (q ∷ p ∷ places) (if not b then Err standings.Ambiguous else only_place (Some p) places)) [
      | true ↦ λ e. repeated (Err standings.NotIndexed) (λ p. Ok p) (Err standings.Ambiguous) q p places
          (only_place (Some p) places) (same_place q p e) (walk_on p places)
      | false ↦ λ e. inr (inr (q, p, inl refl, inr (inl refl), λ s. (let t = itself_place q p s in cc (t, e)), refl))
    ] refl

pub walk_places : (places : List StreamPlace) → PlacesWalked places (only_place None places)
walk_places [] = inl (λ x h. h, refl)
walk_places (p ∷ places) = walk_on p places

pub same-only_place : (xs ys : List StreamPlace) → SameMembers xs ys → only_place None xs ≡ only_place None ys
same-only_place xs ys same = grind (arith, one_answer, only_place, other_members, walk_places)

-- ---- entries

same_entry : (d e : IndexEntry) → is_same_entry d e ≡ true → d ≡ e
same_entry d e h = grind (arith, and_parts, int_eq, signed_Decides, eqb-true)

itself_entry : (d e : IndexEntry) → d ≡ e → is_same_entry d e ≡ true
itself_entry d e h = grind (arith, and_from, int_eq, signed_Decides, eq-eqb)

abbrev pub EntriesWalked : List IndexEntry → Option IndexEntry → Type 0
EntriesWalked = Walked {K = IndexEntry} {R = Option IndexEntry} None (λ e. Some e) None

entries_on : (d : IndexEntry) (entries : List IndexEntry) → EntriesWalked (d ∷ entries) (only_entry (Some d) entries)
entries_on d [] = inr (inl (d, inl refl, λ y h. elim h [ inl e ↦ e | inr k ↦ absurd k ], refl))
entries_on d (e ∷ entries) = elim (is_same_entry d e) as (λ b. is_same_entry d e ≡ b
    → EntriesWalked (d ∷ e ∷ entries) (if not b then None else only_entry (Some e) entries)) [
      | true ↦ λ h. repeated None (λ x. Some x) None d e entries (only_entry (Some e) entries) (same_entry d e h)
          (entries_on e entries)
      | false ↦ λ h. inr (inr (d, e, inl refl, inr (inl refl), λ s. (let t = itself_entry d e s in cc (t, h)), refl))
    ] refl

pub walk_entries : (entries : List IndexEntry) → EntriesWalked entries (only_entry None entries)
walk_entries [] = inl (λ x h. h, refl)
walk_entries (e ∷ entries) = entries_on e entries

pub same-only_entry : (xs ys : List IndexEntry) → SameMembers xs ys → only_entry None xs ≡ only_entry None ys
same-only_entry xs ys same = grind (arith, one_answer, only_entry, other_members, walk_entries)

-- ---- segments that don't have a unit

module _ (unit : ℕ) (fits : unit < 2 ^ 64) (s : SegmentAtParts)
    (outside : (units_end s < unit) ⊎ (unit < first_unit s)) where
  abbrev start : ℕ
  start = unsigned_abs s.segment.numbers.start

  abbrev duration : ℕ
  duration = unsigned_abs s.segment.numbers.duration

  no_entry : is_constant s.segment.numbers ≡ false → covers_entry s.segment unit ≡ false
  no_entry e =
      grind (
        arith,
        false_from_ne_true,
        covers_entry,
        and_parts,
        nat_le,
        nat_lt,
        entry_count,
        leb-true,
        ltb-true,
        units_end,
        min,
      )

  no_constant : is_constant s.segment.numbers ≡ true → covers_constant s.segment unit ≡ false
  no_constant e = grind (arith, not_both, nat_le, nat_lt, leb-true, is_constant, min, entry_count, ltb-true)

  pub outside-place : place_in unit s ≡ None
  outside-place =
      elim (is_constant s.segment.numbers) as (λ b. is_constant s.segment.numbers ≡ b → option_map (in_stream s)
      (if b then (if covers_constant s.segment unit then Some (s.segment.numbers.unit_bytes * unit) else None)
      else (if covers_entry s.segment unit then Some (entry_offset s.segment (unit - start)) else None)) ≡ None) [
        | true ↦ λ e. ap (λ b. option_map (in_stream s)
            (if b then Some (s.segment.numbers.unit_bytes * unit) else None)) (no_constant e)
        | false ↦ λ e. ap (λ b. option_map (in_stream s)
            (if b then Some (entry_offset s.segment (unit - start)) else None)) (no_entry e)
      ] refl

  pub outside-entry : index_entry s.segment unit ≡ None
  outside-entry = grind (arith, is_constant, covers_entry, entry_at, no_entry)

-- ---- the place, by those that are given

pub any_given : (p : StreamPlace) (unit : ℕ) (segments : List SegmentAtParts)
    → is_given p unit segments ≡ list_any (is_same_place p) (filter_map (place_in unit) segments)
any_given p unit [] = refl
any_given p unit (s ∷ segments) =
    let rest = any_given p unit segments in
    elim (place_in unit s) as (λ (o : Option StreamPlace). (option_map_or (is_same_place p) o false
    || is_given p unit segments) ≡ list_any (is_same_place p) (cons_option o (filter_map (place_in unit) segments))) [
      | None ↦ rest
      | Some q ↦ ap (λ b. is_same_place p q || b) rest
    ]

same_any : {K : Type 0} (test : K → Bool) (xs ys : List K) → SameMembers xs ys → list_any test xs ≡ list_any test ys
same_any {K} test xs ys same = grind (arith, list_any-In, same_bool, list_any)

-- Those alone that may have a unit place it as all do.
module _ (unit : ℕ) (fits : unit < 2 ^ 64) (all near above : List SegmentAtParts)
    (around : IsAround first_unit units_end unit all near above) where
  pub near-place : place_of near unit ≡ place_of all unit
  near-place = ap (only_place None) (near_alone first_unit units_end (place_in unit) unit all near above around
      (λ s l. outside-place unit fits s (inl l)) (λ s l. outside-place unit fits s (inr l)))

  pub near-entry : entry_of near unit ≡ entry_of all unit
  near-entry =
      ap (only_entry None)
      (near_alone first_unit units_end (λ (s : SegmentAtParts). index_entry s.segment unit) unit all near above around
      (λ s l. outside-entry unit fits s (inl l)) (λ s l. outside-entry unit fits s (inr l)))

  pub near-given : (p : StreamPlace) → is_given p unit near ≡ is_given p unit all
  near-given p = any_given p unit near
      ∙ ap (list_any (is_same_place p)) (near_alone first_unit units_end (place_in unit) unit all near above around
      (λ s l. outside-place unit fits s (inl l)) (λ s l. outside-place unit fits s (inr l)))
      ∙ sym (any_given p unit all)

-- So do those that say all.
module _ (unit : ℕ) (segments all : List SegmentAtParts) (say : SayAll segments all) where
  pub said-place : place_of all unit ≡ place_of segments unit
  said-place = same-only_place (filter_map (place_in unit) all) (filter_map (place_in unit) segments)
      (said-places segments all say unit)

  pub said-entry : entry_of all unit ≡ entry_of segments unit
  said-entry =
      let f = λ (s : SegmentAtParts). index_entry s.segment unit in
      same-only_entry (filter_map f all) (filter_map f segments) (said-entries segments all say unit)

  pub said-given : (p : StreamPlace) → is_given p unit all ≡ is_given p unit segments
  said-given p = any_given p unit all
      ∙ same_any (is_same_place p) (filter_map (place_in unit) all) (filter_map (place_in unit) segments)
      (said-places segments all say unit) ∙ sym (any_given p unit segments)
