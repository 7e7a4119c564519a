-- What is at hand in excerpts of sources, and in the sources.
use Rattle.mxf_views.proofs.Common.{◌≡◌, ◌∙◌, ◌↔◌, ◌<◌, ◌≤◌, ◌+◌, ◌-◌, ℕ, List, [], ◌∷◌, Some}
use Rattle.mxf_views.proofs.Common.{ap, arith, get_or, inl, inr, length, refl, subst, sym, same_Some, slice_get}
use Rattle.mxf_views.proofs.Common.{slice_get-get_or, slice_get_within, NoteParts, In, LiesIn}
use Rattle.mxf_catalogue.specs.declared.run.Run.{Run}
use Rattle.mxf_skim.specs.declared.scan.Scan.{Scan}
use Rattle.mxf_skim.specs.declared.scan.Scan.TheVariants.{Full, Skim}
use Rattle.mxf_hand.specs.Excerpts.{AreExcerpts, AreExcerptsBeside, HaveBytes, IsOffsetOf, IsPassed}
use Rattle.mxf_hand.specs.Excerpts.{MayBeAsked}
use Rattle.mxf_hand.specs.Given.{Differ, Gives, HaveExtents, IsAtHand, IsGiven, IsGivenAs, SourceParts}
use Rattle.mxf_hand.specs.Places.{LiesInExtent}
use Rattle.mxf_hand.specs.declared.given.Extent.{Extent}
use Rattle.mxf_hand.specs.declared.given.excerpt.Excerpt.{Excerpt}
use Rattle.mxf_hand.proofs.ComparingLaws.{extent_of, number_of, source_of}
use Rattle.mxf_hand.proofs.ReadBytes.{got}

-- The bytes of an excerpt are those that its source gives there.
IsPartOf : List SourceParts → SourceParts → Excerpt → Type 0
IsPartOf sources p e = (s : SourceParts) × (slice_get sources e.source ≡ Some s)
    × ((x byte : ℕ) → Gives p x byte ↔ (LiesInExtent e.extent x × Gives s x byte))

excerpt_of_part : (sources parts : List SourceParts) (excerpts : List Excerpt) → HaveBytes sources parts excerpts
    → (p : SourceParts) → In p parts → (e : Excerpt) × In e excerpts × IsPartOf sources p e
unfolding IsPartOf
excerpt_of_part sources [] [] have p h = absurd h
excerpt_of_part sources [] (e ∷ excerpts) have p h = absurd have
excerpt_of_part sources (q ∷ parts) [] have p h = absurd have
excerpt_of_part sources (q ∷ parts) (e ∷ excerpts) have p (inl same) =
    (e, inl refl, subst (λ (r : SourceParts). IsPartOf sources r e) (sym same) have.0)
excerpt_of_part sources (q ∷ parts) (e ∷ excerpts) have p (inr h) =
    let k = excerpt_of_part sources parts excerpts have.1 p h in (k.0, inr k.1, k.2)

part_of_excerpt : (sources parts : List SourceParts) (excerpts : List Excerpt) → HaveBytes sources parts excerpts
    → (e : Excerpt) → In e excerpts → (p : SourceParts) × In p parts × IsPartOf sources p e
unfolding IsPartOf
part_of_excerpt sources [] [] have e h = absurd h
part_of_excerpt sources [] (f ∷ excerpts) have e h = absurd have
part_of_excerpt sources (q ∷ parts) [] have e h = absurd have
part_of_excerpt sources (q ∷ parts) (f ∷ excerpts) have e (inl same) =
    (q, inl refl, subst (λ (g : Excerpt). IsPartOf sources q g) (sym same) have.0)
part_of_excerpt sources (q ∷ parts) (f ∷ excerpts) have e (inr h) =
    let k = part_of_excerpt sources parts excerpts have.1 e h in (k.0, inr k.1, k.2)

module _ (passed : List Run) (extents : List Extent) (excerpts : List Excerpt) (sources parts : List SourceParts)
    (have : HaveExtents sources extents) (are : AreExcerpts passed extents (length extents) excerpts)
    (bytes : HaveBytes sources parts excerpts) where
  -- What an excerpt gives its source gives.
  pub given_by_source : (x byte : ℕ) → IsGivenAs parts x byte → IsGivenAs sources x byte
  unfolding IsPartOf
  given_by_source x byte g =
      let e = excerpt_of_part sources parts excerpts bytes g.0 g.1 in
      let s = e.2 in (s.0, got sources e.0.source s.0 s.1, ((s.2 x byte).0 g.2).1)

  -- The extent of a source has the offsets that it gives.
  is_offset : (number x byte : ℕ) (s : SourceParts) → slice_get sources number ≡ Some s → Gives s x byte
      → IsOffsetOf extents (length extents) number x
  is_offset number x byte s is gives =
      let e = extent_of sources extents number s have is in
      let offset = e.2 in
      let size = e.3 in
      let from = gives.from in
      let within = slice_get_within s.bytes (x - s.offset) byte gives.is in
      record {
        own = e.0;
        is = e.1;
        early = slice_get_within extents number e.0 e.1;
        lies = record { from = omega (arith, offset, from); before = omega (arith, offset, size, from, within) };
      }

  -- What a source gives one of its excerpts gives, unless it isn't compared.
  pub given_by_excerpt : (x byte : ℕ) → ¬ LiesIn passed x → IsGivenAs sources x byte → IsGivenAs parts x byte
  unfolding IsPartOf
  given_by_excerpt x byte free g =
      let k = number_of sources g.0 g.1 in
      let e = are.left k.0 x (is_offset k.0 x byte g.0 k.1 g.2) free in
      let p = part_of_excerpt sources parts excerpts bytes e.0 e.1 in
      let s = p.2 in
      let same = same_Some g.0 s.0 (sym k.1 ∙ ap (slice_get sources) (sym e.2) ∙ s.1) in
      (p.0, p.1, (s.2 x byte).1 (e.3, subst (λ (t : SourceParts). Gives t x byte) same g.2))

  -- Each offset that sources give excerpts give.
  pub still_given : (x : ℕ) → IsGiven sources x → IsGiven parts x
  unfolding IsPartOf
  still_given x g =
      let k = number_of sources g.1.0 g.1.1 in
      let e = are.given k.0 x (is_offset k.0 x g.0 g.1.0 k.1 g.1.2) in
      let own = are.within e.0 e.1 in
      let p = part_of_excerpt sources parts excerpts bytes e.0 e.1 in
      let s = p.2 in
      let t = source_of sources extents e.0.source own.own have own.is in
      let same = same_Some t.0 s.0 (sym t.1 ∙ s.1) in
      let offset : s.0.offset ≡ own.own.offset = ap (λ (r : SourceParts). r.offset) (sym same) ∙ t.2 in
      let size : length s.0.bytes ≡ own.own.size = ap (λ (r : SourceParts). length r.bytes) (sym same) ∙ t.3 in
      let lies = own.within x e.2 in
      let from = lies.from in
      let before = lies.before in
      let at = x - s.0.offset in
      let within : at < length s.0.bytes = omega (arith, offset, size, from, before) in
      let byte = get_or s.0.bytes at 0 in
      let gives : Gives s.0 x byte =
      record { from = omega (arith, offset, from); is = slice_get-get_or s.0.bytes at 0 within } in
      (byte, (p.0, p.1, (s.2 x byte).1 (e.2, gives)))

  pub differ_in_sources : (x : ℕ) → Differ parts x → Differ sources x
  differ_in_sources x d = record {
    one = d.one;
    other = d.other;
    gives_one = given_by_source x d.one d.gives_one;
    gives_other = given_by_source x d.other d.gives_other;
    differs = d.differs;
  }

  pub differ_in_excerpts : (x : ℕ) → ¬ LiesIn passed x → Differ sources x → Differ parts x
  differ_in_excerpts x free d = record {
    one = d.one;
    other = d.other;
    gives_one = given_by_excerpt x d.one free d.gives_one;
    gives_other = given_by_excerpt x d.other free d.gives_other;
    differs = d.differs;
  }

  -- Where no offset that isn't compared lies near, excerpts are at hand as their sources are.
  pub at_hand_alike : (x : ℕ) → ((y : ℕ) → y ≤ x → x < y + 512 → ¬ LiesIn passed y)
      → ((y : ℕ) → x ≤ y → y < x + 512 → ¬ LiesIn passed y) → IsAtHand parts x ↔ IsAtHand sources x
  at_hand_alike x low high = (
    λ h. record {
      given = (h.given.0, given_by_source x h.given.0 h.given.1);
      alike = λ d.
          let above = d.above in
          let below = d.below in
          let near = d.near in
          h.alike (record {
            from = d.from;
            to = d.to;
            from_differs = differ_in_excerpts d.from (low d.from above (omega (arith, below, near))) d.from_differs;
            to_differs = differ_in_excerpts d.to (high d.to below (omega (arith, above, near))) d.to_differs;
            above = above;
            below = below;
            near = near;
          });
    },
    λ h. record {
      given = still_given x h.given;
      alike = λ d. h.alike (record {
        from = d.from;
        to = d.to;
        from_differs = differ_in_sources d.from d.from_differs;
        to_differs = differ_in_sources d.to d.to_differs;
        above = d.above;
        below = d.below;
        near = d.near;
      });
    },
  )

-- Less than 512 from what may be asked for all is compared.
near_asked : (notes : List NoteParts) (x y : ℕ) → MayBeAsked notes x → y ≤ x + 511 → x ≤ y + 511 → ¬ IsPassed notes y
near_asked notes x y asked high low p =
    let from = p.inside.from in
    let before = p.inside.before in
    elim asked [
      | inl free ↦ free p.note p.held p.container
          (record { from = omega (arith, from, high); before = omega (arith, before, low) })
      | inr h ↦ (
          let start = h.3.from in
          let end = h.3.before in
          p.apart h.0 h.1 h.2 (record { from = omega (arith, start, low); before = omega (arith, end, high) }))
    ]

module _ (scan : Scan) (notes : List NoteParts) (extents : List Extent) (excerpts : List Excerpt)
    (sources parts : List SourceParts) (have : HaveExtents sources extents)
    (are : AreExcerptsBeside scan notes extents excerpts) (bytes : HaveBytes sources parts excerpts) where
  pub asked_at_hand : (x : ℕ) → MayBeAsked notes x → IsAtHand parts x ↔ IsAtHand sources x
  asked_at_hand x asked = at_hand_alike are.passed extents excerpts sources parts have are.are bytes x
      (λ y below near l. near_asked notes x y asked (omega (arith, below)) (omega (arith, near))
      ((are.are_passed y).0 l).1)
      (λ y above near l. near_asked notes x y asked (omega (arith, near)) (omega (arith, above))
      ((are.are_passed y).0 l).1)

  pub all_at_hand : scan ≡ Full → (x : ℕ) → IsAtHand parts x ↔ IsAtHand sources x
  all_at_hand full x = at_hand_alike are.passed extents excerpts sources parts have are.are bytes x
      (λ y below near l. not_full (sym full ∙ ((are.are_passed y).0 l).0))
      (λ y above near l. not_full (sym full ∙ ((are.are_passed y).0 l).0))
    where
      not_full : Full ≡ Skim → ⊥
      not_full e = absurd cc
