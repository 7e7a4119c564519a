-- Units that are held.
use Rattle.mxf_views.proofs.Common.{◌≡◌, ◌∙◌, ◌<◌, ◌+◌, ℕ, Bool, true, false, not, List, [], ◌∷◌, Option, None, Some}
use Rattle.mxf_views.proofs.Common.{Result, Ok, Err, refl, sym, ap, subst, is_some, unwrap_or, if◌then◌else◌, ◌==◌}
use Rattle.mxf_views.proofs.Common.{filter, filter_map, and_parts, ok_or, NoteParts, some_is, SegmentAtParts, place_in}
use Rattle.mxf_views.specs.declared.index.place.StreamPlace.{StreamPlace}
use Rattle.mxf_places.specs.AtHand.{KnownParts}
use Rattle.mxf_units.specs.declared.standing.UnitStanding.{UnitStanding}
use Rattle.mxf_units.specs.declared.essence_zone.EssenceZone.{EssenceZone}
use Rattle.mxf_units.specs.declared.essence_zone.part.StreamPart.{StreamPart}
use Rattle.mxf_units.specs.declared.location.Location.{Location}
use Rattle.mxf_units.specs.declared.unit.Extent.{Extent}
use Rattle.mxf_units.specs.Streams.{is_other_place, only_place, place_of, segments_for}
use Rattle.mxf_units.specs.EssenceZones.{begins_up_to, chosen, parts_of, zone_at}
use Rattle.mxf_units.specs.Units.{IsKnownWhole, are_all_held, are_all_known, asked_end, extent_by, is_told, location_at}
use Rattle.mxf_units.specs.Units.{location_in, location_of, standing_by, standing_in, unit_of, IsHeldWhole}
use Rattle.mxf_units.proofs.RangeLaws.{all_held-says, all_known-says}
use Rattle.mxf_units.specs.declared.standing.UnitStanding.TheVariants as standings

-- ---- why it isn't known where a unit lies

ok_or-untold : {K : Type 0} (o : Option K) (w v : UnitStanding) → is_told w ≡ false → ok_or o w ≡ Err v
    → is_told v ≡ false
ok_or-untold None w v f e = let s : w ≡ v = cc in subst (λ u. is_told u ≡ false) s f
ok_or-untold (Some x) w v f e = absurd cc

place-untold : (seen : Option StreamPlace) (places : List StreamPlace) (v : UnitStanding)
    → only_place seen places ≡ Err v → is_told v ≡ false
place-untold seen [] v e = ok_or-untold seen standings.NotIndexed v refl e
place-untold seen (p ∷ places) v e =
    elim (is_other_place seen p) as (λ b. (if b then Err standings.Ambiguous else only_place (Some p) places) ≡ Err v
    → is_told v ≡ false) [
      | true ↦ λ f. let s : standings.Ambiguous ≡ v = cc in subst (λ u. is_told u ≡ false) s refl
      | false ↦ λ f. place-untold (Some p) places v f
    ] e

zone-untold : (parts : List StreamPart) (v : UnitStanding) → chosen parts ≡ Err v → is_told v ≡ false
zone-untold [] v e = let s : standings.NoPartition ≡ v = cc in subst (λ u. is_told u ≡ false) s refl
zone-untold (p ∷ []) v e = ok_or-untold p.zone standings.Unknown v refl e
zone-untold (p ∷ q ∷ parts) v e =
    elim (not (p.body_offset == q.body_offset)) as (λ b. (if b then ok_or p.zone standings.Unknown
    else (if is_some q.zone then Err standings.Several else ok_or p.zone standings.Several)) ≡ Err v
    → is_told v ≡ false) [
      | true ↦ λ f. ok_or-untold p.zone standings.Unknown v refl f
      | false ↦ λ f. elim (is_some q.zone) as (λ b.
          (if b then Err standings.Several else ok_or p.zone standings.Several) ≡ Err v → is_told v ≡ false) [
            | true ↦ λ g. let s : standings.Several ≡ v = cc in subst (λ u. is_told u ≡ false) s refl
            | false ↦ λ g. ok_or-untold p.zone standings.Several v refl g
          ] f
    ] e

in-untold : (segments : List SegmentAtParts) (unit : ℕ) (place : StreamPlace) (zone : Result EssenceZone UnitStanding)
    (v : UnitStanding) → ((w : UnitStanding) → zone ≡ Err w → is_told w ≡ false)
    → location_in segments unit place zone ≡ Err v → is_told v ≡ false
in-untold segments unit place (Err w) v f e = let s : w ≡ v = cc in subst (λ u. is_told u ≡ false) s (f w refl)
in-untold segments unit place (Ok zone) v f e = absurd cc

at-untold : (parts : List StreamPart) (segments : List SegmentAtParts) (unit : ℕ)
    (place : Result StreamPlace UnitStanding) (v : UnitStanding)
    → ((w : UnitStanding) → place ≡ Err w → is_told w ≡ false)
    → location_at parts segments unit place ≡ Err v → is_told v ≡ false
at-untold parts segments unit (Err w) v f e = let s : w ≡ v = cc in subst (λ u. is_told u ≡ false) s (f w refl)
at-untold parts segments unit (Ok place) v f e =
    in-untold segments unit place (zone_at parts place.body_sid place.offset) v
    (zone-untold (filter (begins_up_to place.body_sid place.offset) parts)) e

pub location-untold : (notes : List NoteParts) (index_sid unit : ℕ) (v : UnitStanding)
    → location_of notes index_sid unit ≡ Err v → is_told v ≡ false
unfolding location_of
location-untold notes index_sid unit v e =
    let segments = segments_for notes index_sid in
    at-untold (parts_of notes) segments unit (place_of segments unit) v
    (place-untold None (filter_map (place_in unit) segments)) e

-- ---- held, or held or at hand

last_tests : (a b c d e f : Bool) (w : UnitStanding) → (if a then standings.Elsewhere else (if b then standings.Unsure
    else (if c then standings.Disputed
    else (if d then standings.Missing
    else (if e then standings.Held else (if f then standings.Hand else standings.Part)))))) ≡ w
    → ((w ≡ standings.Held) → e ≡ true) × ((w ≡ standings.Hand) → f ≡ true)
last_tests true b c d e f w h = (λ g. absurd (cc (h, g)), λ g. absurd (cc (h, g)))
last_tests false true c d e f w h = (λ g. absurd (cc (h, g)), λ g. absurd (cc (h, g)))
last_tests false false true d e f w h = (λ g. absurd (cc (h, g)), λ g. absurd (cc (h, g)))
last_tests false false false true e f w h = (λ g. absurd (cc (h, g)), λ g. absurd (cc (h, g)))
last_tests false false false false true f w h = (λ g. refl, λ g. absurd (cc (h, g)))
last_tests false false false false false true w h = (λ g. absurd (cc (h, g)), λ g. refl)
last_tests false false false false false false w h = (λ g. absurd (cc (h, g)), λ g. absurd (cc (h, g)))

asked_is : (e : Extent) (end : ℕ) → e.end ≡ Some end → asked_end e ≡ end
asked_is e end some = ap (λ (o : Option ℕ). unwrap_or o (e.start + 1)) some

held-in : (known : KnownParts) (l : Location) → standing_in known l ≡ standings.Held → IsHeldWhole known.notes l.extent
held-in known l h =
    let end = asked_end l.extent in
    let s = and_parts (is_some l.extent.end) (are_all_held known.notes l.extent.start end)
    ((last_tests _ _ _ _ _ _ _ h).0 refl) in
    let e = some_is l.extent.end s.0 in
    record {
      end = e.0;
      end_is = e.1;
      held = λ x from below. (all_held-says known.notes l.extent.start end).0 s.1 x from
          (subst (λ n. x < n) (sym (asked_is l.extent e.0 e.1)) below);
    }

known-in : (known : KnownParts) (l : Location) → standing_in known l ≡ standings.Hand → IsKnownWhole known l.extent
known-in known l h =
    let end = asked_end l.extent in
    let s = and_parts (is_some l.extent.end) (are_all_known known l.extent.start end)
    ((last_tests _ _ _ _ _ _ _ h).1 refl) in
    let e = some_is l.extent.end s.0 in
    record {
      end = e.0;
      end_is = e.1;
      each = λ x from below. (all_known-says known l.extent.start end).0 s.1 x from
          (subst (λ n. x < n) (sym (asked_is l.extent e.0 e.1)) below);
    }

-- What a standing says of the bytes, of a unit that has it.
told-by : (known : KnownParts) (w : UnitStanding) (P : Extent → Type 0) → is_told w ≡ true
    → ((l : Location) → standing_in known l ≡ w → P l.extent) → (location : Result Location UnitStanding)
    → ((v : UnitStanding) → location ≡ Err v → is_told v ≡ false) → standing_by known location ≡ w
    → (e : Extent) × (extent_by (standing_by known location) location ≡ Some e) × P e
told-by known w P told f (Err v) g h = let t = g v refl in let u = ap is_told h in absurd (cc (t, u, told))
told-by known w P told f (Ok l) g h = (
  l.extent,
  ap (λ v. if is_told v then Some l.extent else None) h ∙ ap (λ b. if b then Some l.extent else None) told,
  f l h,
)

pub held_units : (known : KnownParts) (index_sid unit : ℕ) → (unit_of known index_sid unit).standing ≡ standings.Held
    → (e : Extent) × ((unit_of known index_sid unit).extent ≡ Some e) × IsHeldWhole known.notes e
unfolding unit_of
held_units known index_sid unit h =
    told-by known standings.Held (IsHeldWhole known.notes) refl (held-in known) (location_of known.notes index_sid unit)
    (location-untold known.notes index_sid unit) h

pub known_units : (known : KnownParts) (index_sid unit : ℕ) → (unit_of known index_sid unit).standing ≡ standings.Hand
    → (e : Extent) × ((unit_of known index_sid unit).extent ≡ Some e) × IsKnownWhole known e
unfolding unit_of
known_units known index_sid unit h =
    told-by known standings.Hand (IsKnownWhole known) refl (known-in known) (location_of known.notes index_sid unit)
    (location-untold known.notes index_sid unit) h
