-- The places that segments give a unit, by the walk over them and by the set of those that are given.
use Rattle.mxf_views.proofs.Common.{◌≡◌, ◌≢◌, ◌∙◌, ◌==◌, ℕ, List, Option, None, Some, Result, Ok, Err, sym, ap, inl}
use Rattle.mxf_views.proofs.Common.{inr, filter_map, option_map, eq-eqb, eqb-true, subst, NoteParts, In, In-filter}
use Rattle.mxf_views.proofs.Common.{In-filter_map, stream_offset, IsGiven, IsOnlyPlace, SegmentAtParts, segments_of}
use Rattle.mxf_views.proofs.Common.{in_stream, place_in}
use Rattle.mxf_views.specs.declared.index.place.StreamPlace.{StreamPlace}
use Rattle.mxf_units.specs.declared.standing.UnitStanding.{UnitStanding}
use Rattle.mxf_units.specs.Streams.{place_of, segments_for}
use Rattle.mxf_units.proofs.WalkLaws.{PlacesWalked, walk_places}
use Rattle.mxf_units.specs.declared.standing.UnitStanding.TheVariants as standings

module _ (notes : List NoteParts) (index_sid unit : ℕ) where
  abbrev pub given_places : List StreamPlace
  given_places = filter_map (place_in unit) (segments_for notes index_sid)

  pub given-In : (p : StreamPlace) → IsGiven (segments_of notes) index_sid unit p → In p given_places
  given-In p g =
      let in_index = (In-filter (λ s. s.segment.numbers.index_sid == index_sid) (segments_of notes) g.by).1
      (g.held, eq-eqb _ _ g.index) in
      let body = g.body in
      (In-filter_map (place_in unit) (segments_for notes index_sid) p).1 (
        g.by,
        in_index,
        ap (option_map (in_stream g.by)) g.offset ∙ (λ i. Some record { body_sid = body i; offset = p.offset }),
      )

  pub In-given : (q : StreamPlace) → In q given_places → IsGiven (segments_of notes) index_sid unit q
  In-given q h =
      let s = (In-filter_map (place_in unit) (segments_for notes index_sid) q).0 h in
      let k = (In-filter (λ s. s.segment.numbers.index_sid == index_sid) (segments_of notes) s.0).0 s.1 in
      let told = by_offset s.0 (stream_offset s.0.segment unit) s.2 in
      record { by = s.0; held = k.0; index = eqb-true _ _ k.1; body = told.0; offset = told.1 }
    where
      by_offset : (s : SegmentAtParts) (o : Option ℕ) → option_map (in_stream s) o ≡ Some q
          → (s.segment.numbers.body_sid ≡ q.body_sid) × (o ≡ Some q.offset)
      by_offset s None e = absurd cc
      by_offset s (Some x) e =
          let t : in_stream s x ≡ q = cc in (
            ap (λ (p : StreamPlace). p.body_sid) t,
            ap (λ (p : StreamPlace). Some p.offset) t,
          )

  -- What the segments say of the unit.
  abbrev pub IsPlacing : Result StreamPlace UnitStanding → Type 0
  IsPlacing (Ok p) = IsOnlyPlace (segments_of notes) index_sid unit p.body_sid p.offset
  IsPlacing (Err standings.NotIndexed) = (p : StreamPlace) → ¬ IsGiven (segments_of notes) index_sid unit p
  IsPlacing (Err standings.Ambiguous) =
      (p : StreamPlace) × (q : StreamPlace) × IsGiven (segments_of notes) index_sid unit p
      × IsGiven (segments_of notes) index_sid unit q × (p ≢ q)
  IsPlacing (Err _) = ⊥

  from_walk : (r : Result StreamPlace UnitStanding) → PlacesWalked given_places r → IsPlacing r
  from_walk r (inl w) = subst IsPlacing (sym w.1) (λ p g. w.0 p (given-In p g))
  from_walk r (inr (inl w)) = subst IsPlacing (sym w.3) record {
    given = In-given w.0 w.1;
    only = λ p g.
        let s = w.2 p (given-In p g) in
        (ap (λ (p : StreamPlace). p.body_sid) s, ap (λ (p : StreamPlace). p.offset) s);
  }
  from_walk r (inr (inr w)) = subst IsPlacing (sym w.5) (w.0, w.1, In-given w.0 w.2, In-given w.1 w.3, w.4)

  pub placing : IsPlacing (place_of (segments_for notes index_sid) unit)
  placing = from_walk (place_of (segments_for notes index_sid) unit) (walk_places given_places)
