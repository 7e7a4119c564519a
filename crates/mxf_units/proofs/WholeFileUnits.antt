-- The units of a file that is held whole.
use Rattle.mxf_views.proofs.Common.{◌≡◌, ◌+◌, ◌<◌, ◌≤◌, ℕ, List, Some, IsSome, ap, arith, inl, inr, refl, subst, sym}
use Rattle.mxf_views.proofs.Common.{unwrap_or, NoteParts, PacketParts, end_after, notes_from}
use Rattle.mxf_catalogue.proofs.ClearLaws.{no_dispute}
use Rattle.mxf_places.specs.AtHand.{AtHandParts, KnownParts}
use Rattle.mxf_places.specs.Held.{IsHeld}
use Rattle.mxf_places.proofs.LaidPlaces.{held_all}
use Rattle.mxf_units.specs.declared.essence_zone.EssenceZone.{EssenceZone}
use Rattle.mxf_units.specs.declared.unit.Extent.{Extent}
use Rattle.mxf_units.specs.Extents.{HasOffset, IsExtentEnd, IsExtentOf}
use Rattle.mxf_units.specs.Standings.{IsStanding, IsStandingIn, LiesElsewhere}
use Rattle.mxf_units.specs.Streams.{segments_for}
use Rattle.mxf_units.specs.Units.{asked_end, end_place, extent_in, unit_of}
use Rattle.mxf_units.proofs.EndPlaceLaws.{extent_end-is, offset_is}
use Rattle.mxf_units.proofs.OneStanding.{one-standing}
use Rattle.mxf_units.proofs.StandingLaws.{standings_by_cause}
use Rattle.mxf_units.specs.declared.standing.UnitStanding.TheVariants as standings

-- ---- an extent by its relation is the one that is computed

extent_is : (notes : List NoteParts) (index_sid unit body_sid offset : ℕ) (zone : EssenceZone) (e : Extent)
    → HasOffset zone offset e.start → IsExtentEnd notes index_sid unit body_sid offset zone e.end
    → extent_in zone offset (end_place (segments_for notes index_sid) zone unit body_sid offset) ≡ e
extent_is notes index_sid unit body_sid offset zone e start is = grind (arith, offset_is, extent_end-is)

-- ---- all of it is held

module _ (l : List PacketParts) (at : AtHandParts) where
  abbrev notes_of_file : List NoteParts
  notes_of_file = notes_from 0 l

  abbrev known : KnownParts
  known = record { notes = notes_of_file; at = at }

  held_below : (x : ℕ) → x < end_after 0 l → IsHeld notes_of_file x
  held_below x less = held_all 0 l x (omega arith) less

  stands_held : (zone : EssenceZone) (e : Extent) (end : ℕ) → e.end ≡ Some end → e.start < end
      → end ≤ end_after 0 l → ¬ LiesElsewhere notes_of_file zone e → IsStandingIn known zone e standings.Held
  stands_held zone e end ends some below within =
      let asked : asked_end e ≡ end = ap (λ o. unwrap_or o (e.start + 1)) ends in
      let all = λ (x : ℕ) (before : x < asked_end e). held_below x (omega (arith, before, asked, below)) in (
        record { within = within; sure = inr (λ x from before. all x before) },
        λ d. no_dispute 0 l d.1.0 d.1.1 d.1.2,
        (e.start, inl (held_below e.start (omega (arith, some, below))), omega arith, omega (arith, some, asked)),
        subst IsSome (sym ends) refl,
        λ x from before. all x before,
      )

  pub held_whole : (index_sid unit : ℕ) (e : Extent) (end : ℕ) → IsExtentOf notes_of_file index_sid unit e
      → e.end ≡ Some end → end ≤ end_after 0 l → (unit_of known index_sid unit).standing ≡ standings.Held
  held_whole index_sid unit e end f ends below =
      let within : ¬ LiesElsewhere notes_of_file f.zone e = λ h. elim h [
        | inl g ↦ elim g.behind [
          | inl from ↦ (let low = f.start_within g.limit g.limit_is in omega (arith, from, low))
          | inr past ↦ (let high = f.end_within g.limit past.0 g.limit_is past.1 in
              let over = past.2 in omega (arith, high, over))
        ]
        | inr b ↦ f.in_essence b
      ] in
      let stands = stands_held f.zone e end ends (f.some end ends) below within in
      let same = extent_is notes_of_file index_sid unit f.body_sid f.offset f.zone e f.start f.end in
      let held : IsStanding known index_sid unit standings.Held = (
        f.body_sid,
        f.offset,
        f.place,
        inr (f.zone, f.is_zone, subst (λ (e : Extent). IsStandingIn known f.zone e standings.Held) (sym same) stands),
      ) in
      one-standing known index_sid unit (unit_of known index_sid unit).standing standings.Held
      (standings_by_cause known index_sid unit) held
