-- What to restore next (this project's profile).
use Rattle.std.specs.Prelude.{ℕ, ◌+◌, ◌-◌, Bool, true, false, ◌&&◌, ◌||◌, ◌==◌, not, nat_le, nat_lt, max, if◌then◌else◌}
use Rattle.std.specs.Prelude.{Option, None, Some, is_some, List, [], ◌∷◌, filter, flat_map, map}
use Rattle.std.specs.Option.{option_and_then, option_cmp, option_map, option_map_or}
use Rattle.std.specs.List.{filter_map}
use Rattle.std.specs.Ordering.{bool_cmp, nat_cmp, on, then_cmp}
use Rattle.std.specs.declared.cmp.Ordering.{Ordering}
use Rattle.mxf_klv.specs.Parts.{NoteParts}
use Rattle.mxf_klv.specs.Rising.{union}
use Rattle.mxf_places.specs.AtHand.{AtHandParts, LiesBetween, edge_of, has_offset, has_offsets, lacking, up_to_bound}
use Rattle.mxf_places.specs.declared.at_hand.OffsetRange.{OffsetRange}
use Rattle.mxf_places.specs.Held.{end_of_file, is_disputed_at, is_in_file, top_of}
use Rattle.mxf_places.specs.Claims.{claim_at, claims_of, is_of_stretch}
use Rattle.mxf_places.specs.Heads.{needed_of, start_of}
use Rattle.mxf_restore.specs.EndPacks.{has_end_pack}
use Rattle.mxf_restore.specs.Sections.{sections_of}
use Rattle.mxf_places.specs.declared.reason.Reason.TheVariants.{Gap}
use Rattle.mxf_places.specs.FirstClaims.{reason_rank}
use Rattle.mxf_places.specs.declared.claim.Claim.{Claim}
use Rattle.mxf_restore.specs.declared.section.Section.{Section}
use Rattle.mxf_restore.specs.declared.plan.Order.{Order}
use Rattle.mxf_restore.specs.declared.plan.DisputedPlace.{DisputedPlace}

-- Where a section ends: one without an end ends where the file does, as far as that is known, unless its claim is open,
-- or fewer bytes are given from its first byte on than the key and length of a packet can have.
abbrev pub end_by : AtHandParts → List NoteParts → Section → Option Claim → Option ℕ
end_by at notes p claim =
    if is_some p.end then p.end
    else (if (nat_lt p.first (top_of notes) || nat_le (p.first + 25) (edge_of at notes))
    && not (option_map_or (λ c. c.is_open) claim false) then Some (edge_of at notes) else None)

-- What no pack claims, from a start up to an end, or all from there on.
abbrev pub gap_from : ℕ → Option ℕ → Order
gap_from start end =
    record { reason = Gap; start = start; end = end; source = None; inside = false; again = false }

-- What is asked for from a start up to an end, for what a claim says, be it at hand or not. Nothing has to lie in a
-- section without an end that no pack claims, if a pack is held that stands at the end of a file alone.
abbrev pub asked : Bool → Option Claim → ℕ → Option ℕ → Option Order
asked ended None start end = if is_some end || not ended then Some (gap_from start end) else None
asked ended (Some c) start end = Some (record {
  reason = c.reason;
  start = start;
  end = end;
  source = c.source;
  inside = false;
  again = false;
})

-- What is asked for of a section: a head's packet is needed whole, as far as the hole goes.
abbrev pub asked_by : AtHandParts → List NoteParts → Section → ℕ → Option Claim → Option Order
asked_by at notes p start claim =
    asked (has_end_pack notes) claim start
    (option_map (λ e. max e (up_to_bound (needed_of notes start p.first) p.hole.end)) (end_by at notes p claim))

abbrev pub asked_of : AtHandParts → List NoteParts → Section → Option Order
asked_of at notes p = let start = start_of notes p.first in asked_by at notes p start (claim_at notes start)

-- The first of some ranges begins at a start.
abbrev pub begun_at : ℕ → List OffsetRange → List OffsetRange
begun_at start [] = []
begun_at start (r ∷ ranges) = record { start = start; end = r.end } ∷ ranges

-- A packet is ordered from its first byte on: no head has that byte, so that what is at hand there was read and
-- doesn't do; or a head has key and length, and nothing of the rest that would follow.
abbrev pub is_whole_needed : AtHandParts → Section → ℕ → Bool
is_whole_needed at p start = (start == p.first) || not (has_offset at.hand p.first)

-- The parts of what is asked for of a section that aren't at hand, up to where the next section begins; all of it if
-- nothing would be left: it is at hand, and a hole still.
abbrev pub parts_among : AtHandParts → Section → Order → List OffsetRange → List OffsetRange
parts_among at p o [] = record { start = o.start; end = o.end } ∷ []
parts_among at p o ranges =
    filter (λ r. option_map_or (λ e. nat_lt r.start e) p.end true)
    (if is_whole_needed at p o.start then begun_at o.start ranges else ranges)

unfoldable pub parts_of : AtHandParts → Section → Order → List OffsetRange
parts_of at p o = parts_among at p o (lacking at.hand p.first o.end)

-- The bytes were handed in and don't do: all of them are given; or, if the end isn't known, all that the key and length
-- of a packet can have are at hand.
abbrev pub is_again : AtHandParts → OffsetRange → Bool
is_again at r = option_map_or (λ e. has_offsets at.given r.start e) r.end (has_offsets at.hand r.start (r.start + 25))

-- The order of a part.
abbrev pub part_order : AtHandParts → Order → OffsetRange → Order
part_order at o r = record {
  reason = o.reason;
  start = r.start;
  end = r.end;
  source = o.source;
  inside = not (r.start == o.start);
  again = is_again at r;
}

abbrev pub orders_by : AtHandParts → Section → Option Order → List Order
orders_by at p None = []
orders_by at p (Some o) = map (part_order at o) (parts_of at p o)

unfoldable pub orders_of : AtHandParts → List NoteParts → Section → List Order
orders_of at notes p = orders_by at p (asked_of at notes p)

-- The orders of all sections, in their order.
unfoldable pub found_orders : AtHandParts → List NoteParts → List Order
found_orders at notes = flat_map (orders_of at notes) (sections_of notes)

-- The place that a claim speaks of: one that a pack names, or where an open stretch ends.
abbrev pub point_of : Claim → Option ℕ
point_of c = if is_of_stretch c.reason then (if c.is_open then Some (c.end - 1) else None) else Some c.from

-- A disputed place: the place is held, but what covers it is disputed.
unfoldable pub disputed_place_of : List NoteParts → Claim → Option DisputedPlace
disputed_place_of notes c =
    option_and_then (λ x. if is_in_file notes x && is_disputed_at notes x
    then Some (record { reason = c.reason; place = x; source = c.source }) else None) (point_of c)

-- Each place once, as it stands first.
abbrev pub first_by_place : List DisputedPlace → List DisputedPlace
first_by_place [] = []
first_by_place (d ∷ ds) = d ∷ filter (λ e. not (e.place == d.place)) (first_by_place ds)

unfoldable pub found_disputed_places : List NoteParts → List DisputedPlace
found_disputed_places notes = first_by_place (filter_map (disputed_place_of notes) (claims_of notes))

-- Orders go by reason, then start, then end, none before any, then source, then by what is said of them.
abbrev pub order_cmp : Order → Order → Ordering
order_cmp =
    then_cmp (on (λ o. reason_rank o.reason) nat_cmp)
    (then_cmp (on (λ o. o.start) nat_cmp)
    (then_cmp (on (λ o. o.end) (option_cmp nat_cmp))
    (then_cmp (on (λ o. o.source) (option_cmp nat_cmp))
    (then_cmp (on (λ o. o.inside) bool_cmp) (on (λ o. o.again) bool_cmp)))))

-- Disputed places go by reason, then place, then source.
abbrev pub disputed_place_cmp : DisputedPlace → DisputedPlace → Ordering
disputed_place_cmp =
    then_cmp (on (λ d. reason_rank d.reason) nat_cmp)
    (then_cmp (on (λ d. d.place) nat_cmp) (on (λ d. d.source) (option_cmp nat_cmp)))

-- What is to be restored, what is disputed, and the end of the file if it is known.
pub record PlanParts : Type 0 where
  pub orders : List Order
  pub disputed_places : List DisputedPlace
  pub end : Option ℕ

-- The plan of a file.
unfoldable pub plan_of : AtHandParts → List NoteParts → PlanParts
plan_of at notes = record {
  orders = union order_cmp [] (found_orders at notes);
  disputed_places = union disputed_place_cmp [] (found_disputed_places notes);
  end = end_of_file notes;
}

-- The offset lies in an order.
abbrev pub LiesInOrder : Order → ℕ → Type 0
LiesInOrder o x = LiesBetween o.start o.end x
