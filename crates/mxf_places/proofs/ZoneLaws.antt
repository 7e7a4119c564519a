-- Stretches, and the zones of partitions, by functions and by relations.
use Rattle.mxf_views.proofs.Common.{◌≡◌, ◌↔◌, ◌∙◌, ◌<◌, ◌==◌, ◌+◌, ◌||◌, ℕ, Bool, true, false, IsTrue, List, Option}
use Rattle.mxf_views.proofs.Common.{Some, None, refl, sym, ap, subst, inl, inr, nat_lt, not, cond, find, is_some}
use Rattle.mxf_views.proofs.Common.{option_and_then, arith, lt-ltb, ltb-true, eqb-true, eq-eqb, and_from, and_parts}
use Rattle.mxf_views.proofs.Common.{ltb-false, or_cases, same_Some, option_map_or, NoteParts, kind_of, found-In}
use Rattle.mxf_views.proofs.Common.{none_found, guarded, not-true-false, primer_at, read_as, IsContent}
use Rattle.mxf_views.proofs.Common.{undisputed_notes, undisputed_at-found, is_primer, PartitionParts}
use Rattle.mxf_catalogue.proofs.DisputeLaws.{undisputed_at-lacked}
use Rattle.mxf_views.proofs.KindLaws.{primer_kind, segment_kind}
use Rattle.mxf_views.proofs.ReadingLaws.{is_some_readable}
use Rattle.mxf_places.specs.Claims.{begins, begins_index, begins_metadata, behind_metadata, index_of, is_unknown}
use Rattle.mxf_places.specs.Claims.{known_end, metadata_of, over_fills, stretch_at, stretch_from, zone_of}
use Rattle.mxf_places.specs.Named.{AreMetadata, AreSegments, Begins, IsBehindMetadata, IsOver, IsStretch, IsZone}
use Rattle.mxf_places.specs.declared.stretch.Stretch.{Stretch}
use Rattle.mxf_places.specs.declared.stretch.Zone.{Zone}
use Rattle.mxf_places.proofs.EndLaws.{unknown_says}
use Rattle.mxf_places.proofs.OverLaws.{alone, among, moved, over_is, over_says}
use Rattle.mxf_places.specs.declared.stretch.Zone.TheVariants as zones

begins_says : (zone : Zone) (n : NoteParts) → IsTrue (begins zone n) ↔ Begins zone n
unfolding begins_metadata begins_index
begins_says zones.Metadata n =
    let primer = primer_kind (kind_of n.key) in
    let reads = is_some_readable primer_at n in
    let read = is_some (read_as primer_at n) in (
      λ h.
          let p = and_parts (is_primer (kind_of n.key)) (not n.whole || read) h in (
            primer.0 p.0,
            λ w. elim (or_cases (not n.whole) read p.1) [
              | inl t ↦ absurd (not-true-false n.whole t w)
              | inr s ↦ reads.0 s
            ],
          ),
      λ k. grind (arith, and_from, is_primer, kind_of, not, read),
    )
begins_says zones.Index n = segment_kind (kind_of n.key)

-- A test that holds leaves what it guards.
unguarded : {A : Type 0} (b : Bool) (x y : A) → b ≡ true → x ≡ y → cond b (Some x) None ≡ Some y
unguarded {A} b x y t e = ap (λ c. cond c (Some x) None) t ∙ ap (λ (z : A). Some z) e

module _ (notes : List NoteParts) (content : IsContent notes) where
  abbrev counted : ℕ → ℕ → ℕ → Stretch
  counted from at count = record { from = from; end = at + count; is_open = false }

  abbrev opened : ℕ → ℕ → Stretch
  opened from at = record { from = from; end = at + 1; is_open = true }

  -- The stretch by the packet that stands where one comes to.
  abbrev stretch_by : Zone → ℕ → ℕ → ℕ → Option NoteParts → Option Stretch
  stretch_by zone from at count found =
      option_map_or (λ n. cond (begins zone n) (Some (counted from at count)) None) found
      (cond (is_unknown notes at) (Some (opened from at)) None)

  stretch_tells : (zone : Zone) (from count : ℕ) (s : Stretch) (found : Option NoteParts)
      → find (λ n. n.offset == over_fills notes from) (undisputed_notes notes) ≡ found
      → stretch_by zone from (over_fills notes from) count found ≡ Some s → IsStretch zone notes from count s
  stretch_tells zone from count s None f e =
      let at = over_fills notes from in
      let g = guarded (is_unknown notes at) (Some (opened from at)) s e in
      inr (record {
        at = at;
        over = over_is notes content from;
        none = λ n h. none_found (λ (n : NoteParts). n.offset == at) (undisputed_notes notes) n f (among notes n at h)
            (eq-eqb _ _ h.offset);
        unknown = (unknown_says notes at).0 g.0;
        is = sym (same_Some _ _ g.1);
      })
  stretch_tells zone from count s (Some n) f e =
      let at = over_fills notes from in
      let k = found-In (λ (n : NoteParts). n.offset == at) (undisputed_notes notes) n f in
      let there : n.offset ≡ at = eqb-true _ _ k.1 in
      let g = guarded (begins zone n) (Some (counted from at count)) s e in
      inl (record {
        first = n;
        over = subst (IsOver notes from) (sym there) (over_is notes content from);
        alone = alone notes n k.0;
        begins = (begins_says zone n).0 g.0;
        is = sym (same_Some _ _ g.1) ∙ ap (λ x. counted from x count) (sym there);
      })

  pub stretch_says : (zone : Zone) (from count : ℕ) (s : Stretch)
      → (stretch_from zone notes from count ≡ Some s) ↔ IsStretch zone notes from count s
  stretch_says zone from count s = (
    λ e. stretch_tells zone from count s
        (find (λ n. n.offset == over_fills notes from) (undisputed_notes notes)) refl e,
    λ k. elim k [
      | inl c ↦ (
          let n = c.first in
          ap (λ x. stretch_at zone notes from x count) ((over_says notes content from n.offset).1 c.over)
          ∙ ap (stretch_by zone from n.offset count)
          (undisputed_at-found n.offset notes n (among notes n n.offset c.alone) refl)
          ∙ unguarded (begins zone n) (counted from n.offset count) s ((begins_says zone n).1 c.begins) (sym c.is))
      | inr o ↦ (
          ap (λ x. stretch_at zone notes from x count) ((over_says notes content from o.at).1 o.over)
          ∙ ap (stretch_by zone from o.at count)
          (undisputed_at-lacked o.at notes (λ n h e. o.none n (moved notes n n.offset o.at (alone notes n h) e)))
          ∙ unguarded (is_unknown notes o.at) (opened from o.at) s ((unknown_says notes o.at).1 o.unknown) (sym o.is))
    ],
  )

  module _ (p : PartitionParts) where
    pub metadata_says : (s : Stretch) → (metadata_of notes p ≡ Some s) ↔ AreMetadata notes p s
    unfolding metadata_of
    metadata_says s =
        let count = p.pack.numbers.header_byte_count in
        let stretch = stretch_from zones.Metadata notes p.end count in
        let says = stretch_says zones.Metadata p.end count s in (
          λ e. let g = guarded (nat_lt 0 count) stretch s e in (ltb-true 0 count g.0, says.0 g.1),
          λ k. ap (λ b. cond b stretch None) (lt-ltb 0 count k.0) ∙ says.1 k.1,
        )

    behind_tells : (x : ℕ) (m : Option Stretch) → metadata_of notes p ≡ m → option_and_then known_end m ≡ Some x
        → IsBehindMetadata notes p x
    behind_tells x None f e = absurd (cc (e))
    behind_tells x (Some m) f e =
        elim m.is_open as (λ b. m.is_open ≡ b → cond b None (Some m.end) ≡ Some x → IsBehindMetadata notes p x) [
          | true ↦ λ _ u. absurd (cc (u))
          | false ↦ λ closed u. inr (m, (metadata_says m).0 f, closed, sym (same_Some _ _ u))
        ] refl e

    pub behind_says : (x : ℕ) → (behind_metadata notes p ≡ Some x) ↔ IsBehindMetadata notes p x
    behind_says x =
        let count = p.pack.numbers.header_byte_count in
        let behind = option_and_then known_end (metadata_of notes p) in (
          λ e. elim (nat_lt 0 count) as (λ b. nat_lt 0 count ≡ b → cond b behind (Some p.end) ≡ Some x
              → IsBehindMetadata notes p x) [
                | true ↦ λ _ u. behind_tells x (metadata_of notes p) refl u
                | false ↦ λ t u. let low = ltb-false 0 count t in inl (omega (arith, low), sym (same_Some _ _ u))
              ] refl e,
          λ k. elim k [
            | inl z ↦ (
                ap (λ n. cond (nat_lt 0 n) behind (Some p.end)) z.0 ∙ ap (λ (e : ℕ). Some e) (sym z.1))
            | inr s ↦ (
                ap (λ b. cond b behind (Some p.end)) (lt-ltb 0 count s.1.0)
                ∙ ap (λ (o : Option Stretch). option_and_then known_end o) ((metadata_says s.0).1 s.1)
                ∙ ap (λ b. cond b None (Some s.0.end)) s.2 ∙ ap (λ (e : ℕ). Some e) (sym s.3))
          ],
        )

    index_tells : (s : Stretch) (o : Option ℕ) → behind_metadata notes p ≡ o
        → option_and_then (λ from. stretch_from zones.Index notes from p.pack.numbers.index_byte_count) o ≡ Some s
        → 0 < p.pack.numbers.index_byte_count → AreSegments notes p s
    index_tells s None f e some = absurd (cc (e))
    index_tells s (Some x) f e some =
        (some, (x, (behind_says x).0 f, (stretch_says zones.Index x p.pack.numbers.index_byte_count s).0 e))

    index_says : (s : Stretch) → (index_of notes p ≡ Some s) ↔ AreSegments notes p s
    unfolding index_of
    index_says s =
        let count = p.pack.numbers.index_byte_count in
        let stretch = λ (from : ℕ). stretch_from zones.Index notes from count in
        let all = option_and_then stretch (behind_metadata notes p) in (
          λ e.
              let g = guarded (nat_lt 0 count) all s e in
              index_tells s (behind_metadata notes p) refl g.1 (ltb-true 0 count g.0),
          λ k. ap (λ b. cond b all None) (lt-ltb 0 count k.0)
              ∙ ap (λ (o : Option ℕ). option_and_then stretch o) ((behind_says k.1.0).1 k.1.1)
              ∙ (stretch_says zones.Index k.1.0 count s).1 k.1.2,
        )

    pub zone_says : (zone : Zone) (s : Stretch) → (zone_of zone notes p ≡ Some s) ↔ IsZone zone notes p s
    zone_says zones.Metadata s = metadata_says s
    zone_says zones.Index s = index_says s
