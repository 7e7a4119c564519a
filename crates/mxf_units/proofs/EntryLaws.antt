-- The entry of a unit by the segments that list it, and what the unit says by it.
use Rattle.mxf_views.proofs.Common.{◌≡◌, ◌∙◌, ◌+◌, ◌-◌, ◌^◌, ◌<◌, ℕ, suc, Bool, true, false, List, Option, None, Some}
use Rattle.mxf_views.proofs.Common.{refl, ap, arith, filter_map, if◌then◌else◌, inl, inr, ltb-true, nat_le, nat_lt}
use Rattle.mxf_views.proofs.Common.{option_and_then, option_map, subst, sym, unsigned_abs, false_from_ne_true}
use Rattle.mxf_views.proofs.Common.{leb-false, leb-true, ltb-false, NoteParts, In, In-filter_map, index_entry}
use Rattle.mxf_views.proofs.Common.{SegmentAtParts}
use Rattle.mxf_sets.specs.declared.segment.offset.IndexEntry.{IndexEntry}
use Rattle.std.proofs.lemmas.Int.{ints}
use Rattle.std.specs.Int.{is_negative}
use Rattle.std.specs.Prelude.{ℤ, pos, negsuc}
use Rattle.mxf_places.specs.AtHand.{KnownParts}
use Rattle.mxf_units.specs.Entries.{IsEntryOf, IsKeyFrame, Lists}
use Rattle.mxf_units.specs.Streams.{entry_of, segments_for}
use Rattle.mxf_units.specs.Units.{key_at, unit_of}
use Rattle.mxf_units.proofs.NextLaws.{of_index}
use Rattle.mxf_units.proofs.WalkLaws.{EntriesWalked, walk_entries}

-- ---- the entry

module _ (notes : List NoteParts) (index_sid unit : ℕ) where
  abbrev entry_in : SegmentAtParts → Option IndexEntry
  entry_in s = index_entry s.segment unit

  abbrev listed : List IndexEntry
  listed = filter_map entry_in (segments_for notes index_sid)

  In-listed : (e : IndexEntry) → Lists notes index_sid unit e → In e listed
  In-listed e l = (In-filter_map entry_in (segments_for notes index_sid) e).1
      (l.by, (of_index notes index_sid l.by).1 (l.held, l.index), l.entry)

  listed-In : (e : IndexEntry) → In e listed → Lists notes index_sid unit e
  listed-In e h =
      let s = (In-filter_map entry_in (segments_for notes index_sid) e).0 h in
      let k = (of_index notes index_sid s.0).0 s.1 in
      record { by = s.0; held = k.0; index = k.1; entry = s.2 }

  -- All that list the unit have the entry.
  one_entry : (e d : IndexEntry) → IsEntryOf notes index_sid unit e → Lists notes index_sid unit d → d ≡ e
  one_entry e d is l =
      let temporal = is.temporal d l in
      let key = is.key_frame d l in
      let flags = is.flags d l in
      λ i. record { temporal_offset = temporal i; key_frame_offset = key i; flags = flags i }

  some_walked : (e : IndexEntry) (r : Option IndexEntry) → IsEntryOf notes index_sid unit e → EntriesWalked listed r
      → r ≡ Some e
  some_walked e r is (inl w) = absurd (w.0 e (In-listed e is.listed))
  some_walked e r is (inr (inl w)) = w.3 ∙ ap (λ (x : IndexEntry). Some x) (one_entry e w.0 is (listed-In w.0 w.1))
  some_walked e r is (inr (inr w)) =
      absurd (w.4 (one_entry e w.0 is (listed-In w.0 w.2) ∙ sym (one_entry e w.1 is (listed-In w.1 w.3))))

  none_walked : (r : Option IndexEntry) → ((e : IndexEntry) → ¬ IsEntryOf notes index_sid unit e)
      → EntriesWalked listed r → r ≡ None
  none_walked r none (inl w) = w.1
  none_walked r none (inr (inl w)) =
      let same : (d : IndexEntry) → Lists notes index_sid unit d → d ≡ w.0 = λ d l. w.2 d (In-listed d l) in
      absurd (none w.0 record {
        listed = listed-In w.0 w.1;
        temporal = λ d l. ap (λ (x : IndexEntry). x.temporal_offset) (same d l);
        key_frame = λ d l. ap (λ (x : IndexEntry). x.key_frame_offset) (same d l);
        flags = λ d l. ap (λ (x : IndexEntry). x.flags) (same d l);
      })
  none_walked r none (inr (inr w)) = w.5

  pub entry-is : (e : IndexEntry) → IsEntryOf notes index_sid unit e
      → entry_of (segments_for notes index_sid) unit ≡ Some e
  entry-is e is = some_walked e (entry_of (segments_for notes index_sid) unit) is (walk_entries listed)

  pub no-entry : ((e : IndexEntry) → ¬ IsEntryOf notes index_sid unit e)
      → entry_of (segments_for notes index_sid) unit ≡ None
  no-entry none = none_walked (entry_of (segments_for notes index_sid) unit) none (walk_entries listed)

-- ---- the key frame

-- The number at a distance from a unit.
abbrev key_by : ℕ → ℤ → Option ℕ
key_by unit d =
    let distance = unsigned_abs d in
    if is_negative d then (if nat_le distance unit then Some (unit - distance) else None)
    else (if nat_lt (unit + distance) (2 ^ 64) then Some (unit + distance) else None)

after : (unit n : ℕ) (b : Bool) → nat_lt (unit + n) (2 ^ 64) ≡ b
    → IsKeyFrame unit (pos n) (if b then Some (unit + n) else None)
after unit n true e = (refl, ltb-true (unit + n) (2 ^ 64) e)
after unit n false e = grind (arith, ints, ltb-false)

before : (unit n : ℕ) (b : Bool) → unit < 2 ^ 64 → nat_le (suc n) unit ≡ b
    → IsKeyFrame unit (negsuc n) (if b then Some (unit - suc n) else None)
before unit n true fits e =
    let from = leb-true (suc n) unit e in (omega (arith, ints, from), omega (arith, fits))
before unit n false fits e = λ key at below.
    let high = leb-false (suc n) unit e in omega (arith, ints, at, high)

key_by-is : (unit : ℕ) (d : ℤ) → unit < 2 ^ 64 → IsKeyFrame unit d (key_by unit d)
key_by-is unit (pos n) fits = grind (arith, nat_le, nat_lt, false_from_ne_true, ltb-true, pos, after)
key_by-is unit (negsuc n) fits = before unit n (nat_le (suc n) unit) fits refl

-- ---- what the unit says

module _ (known : KnownParts) (index_sid unit : ℕ) where
  pub says-entry : (e : IndexEntry) → unit < 2 ^ 64 → IsEntryOf known.notes index_sid unit e
      → ((unit_of known index_sid unit).temporal ≡ Some e.temporal_offset)
      × ((unit_of known index_sid unit).flags ≡ Some e.flags)
      × IsKeyFrame unit e.key_frame_offset (unit_of known index_sid unit).key
  unfolding unit_of
  says-entry e fits is =
      let s = entry-is known.notes index_sid unit e is in (
        ap (λ (o : Option IndexEntry). option_map (λ e. e.temporal_offset) o) s,
        ap (λ (o : Option IndexEntry). option_map (λ e. e.flags) o) s,
        subst (IsKeyFrame unit e.key_frame_offset)
            (sym (ap (λ (o : Option IndexEntry). option_and_then (key_at unit) o) s))
            (key_by-is unit e.key_frame_offset fits),
      )

  pub says-nothing : ((e : IndexEntry) → ¬ IsEntryOf known.notes index_sid unit e)
      → ((unit_of known index_sid unit).temporal ≡ None) × ((unit_of known index_sid unit).flags ≡ None)
      × ((unit_of known index_sid unit).key ≡ None)
  unfolding unit_of
  says-nothing none = grind (arith, no-entry, option_map, option_and_then, key_at)
