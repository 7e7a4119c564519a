-- The claims of packs, by the list and by relations.
use Rattle.mxf_views.proofs.Common.{◌≡◌, ◌≢◌, ◌↔◌, ◌∙◌, ◌==◌, ◌&&◌, ◌++◌, ℕ, true, false, List, Option, Some, None}
use Rattle.mxf_views.proofs.Common.{refl, sym, ap, subst, inl, inr, nat_lt, cond, map, option_map, lt-ltb, ltb-true}
use Rattle.mxf_views.proofs.Common.{eq-eqb, eqb-true, and_from, and_parts, same_Some, NoteParts, In, In-append}
use Rattle.mxf_views.proofs.Common.{In-filter_map, In-map, guarded, IsContent, PartitionParts, partitions_of}
use Rattle.mxf_views.proofs.Common.{rip_view_of}
use Rattle.mxf_sets.specs.declared.pack.random_index.RipEntry.{RipEntry}
use Rattle.mxf_views.specs.declared.random_index.RipView.{RipView}
use Rattle.mxf_views.specs.declared.random_index.RipView.TheVariants.{Absent, Several, Unreadable, One}
use Rattle.mxf_views.specs.declared.random_index.Standing.{Standing}
use Rattle.std.specs.List.{filter_map}
use Rattle.mxf_places.specs.Claims.{claims_of, entry_claim, entry_claims, footer_claim, place_claim, previous_claim}
use Rattle.mxf_places.specs.Claims.{stretch_claim, zone_claim, zone_of, zone_reason}
use Rattle.mxf_places.specs.Named.{IsClaim, IsClaimFor, NamesFooter, NamesPrevious, SaysEntry, SaysPlace, SaysZone}
use Rattle.mxf_places.specs.declared.claim.Claim.{Claim}
use Rattle.mxf_places.specs.declared.reason.Reason.{Reason}
use Rattle.mxf_places.specs.declared.reason.Reason.TheVariants.{Header, Footer, Metadata, Index, Entry, Previous, Gap}
use Rattle.mxf_places.specs.declared.stretch.Stretch.{Stretch}
use Rattle.mxf_places.specs.declared.stretch.Zone.{Zone}
use Rattle.mxf_places.proofs.ZoneLaws.{zone_says}
use Rattle.mxf_places.specs.declared.reason.Reason.TheVariants as reasons
use Rattle.mxf_places.specs.declared.stretch.Zone.TheVariants as zones

module _ (notes : List NoteParts) (content : IsContent notes) (c : Claim) where
  abbrev partitions : List PartitionParts
  partitions = partitions_of notes

  footer_says : In c (filter_map footer_claim partitions) ↔ SaysPlace notes Footer NamesFooter c
  unfolding footer_claim
  footer_says =
      let some = In-filter_map footer_claim partitions c in
      let claim = λ (p : PartitionParts). place_claim Footer (Some p.offset) p.pack.numbers.footer_partition in (
        λ h.
            let s = some.0 h in
            let p = s.0 in
            let place = p.pack.numbers.footer_partition in
            let g = guarded (nat_lt p.offset place) (Some (claim p)) c s.2 in
            (p, s.1, (place, (refl, ltb-true _ _ g.0), sym (same_Some _ _ g.1))),
        λ k.
            let p = k.0 in
            let names = k.2.1 in
            let above : nat_lt p.offset p.pack.numbers.footer_partition ≡ true =
            ap (nat_lt p.offset) (sym names.0) ∙ lt-ltb _ _ names.1 in
            some.1 (
              p,
              k.1,
              ap (λ b. cond b (Some (claim p)) None) above
                  ∙ ap (λ (c : Claim). Some c) (sym (k.2.2 ∙ ap (place_claim Footer (Some p.offset)) names.0)),
            ),
      )

  previous_says : In c (filter_map previous_claim partitions) ↔ SaysPlace notes Previous NamesPrevious c
  unfolding previous_claim
  previous_says =
      let some = In-filter_map previous_claim partitions c in
      let claim = λ (p : PartitionParts). place_claim Previous (Some p.offset) p.pack.numbers.previous_partition in (
        λ h.
            let s = some.0 h in
            let p = s.0 in
            let place = p.pack.numbers.previous_partition in
            let g = guarded (nat_lt 0 place && nat_lt place p.offset) (Some (claim p)) c s.2 in
            let t = and_parts (nat_lt 0 place) (nat_lt place p.offset) g.0 in
            (p, s.1, (place, (refl, ltb-true _ _ t.0, ltb-true _ _ t.1), sym (same_Some _ _ g.1))),
        λ k.
            let p = k.0 in
            let x = k.2.0 in
            let names = k.2.1 in
            let before : (nat_lt 0 x && nat_lt x p.offset) ≡ true =
            and_from (nat_lt 0 x) (nat_lt x p.offset) (lt-ltb _ _ names.1) (lt-ltb _ _ names.2) in
            some.1 (
              p,
              k.1,
              ap (λ (x : ℕ). cond (nat_lt 0 x && nat_lt x p.offset)
                  (Some (place_claim Previous (Some p.offset) x)) None) (sym names.0)
                  ∙ ap (λ b. cond b (Some (place_claim Previous (Some p.offset) x)) None) before
                  ∙ ap (λ (c : Claim). Some c) (sym k.2.2),
            ),
      )

  zone_tells : (zone : Zone) (p : PartitionParts) (o : Option Stretch) → In p partitions → zone_of zone notes p ≡ o
      → option_map (stretch_claim (zone_reason zone) p) o ≡ Some c → SaysZone notes (zone_reason zone) zone c
  zone_tells zone p None h f e = absurd (cc (e))
  zone_tells zone p (Some s) h f e = (p, h, (s, (zone_says notes content p zone s).0 f, sym (same_Some _ _ e)))

  zones_say : (zone : Zone)
      → In c (filter_map (zone_claim zone notes) partitions) ↔ SaysZone notes (zone_reason zone) zone c
  unfolding zone_claim
  zones_say zone =
      let some = In-filter_map (zone_claim zone notes) partitions c in (
        λ h. let s = some.0 h in zone_tells zone s.0 (zone_of zone notes s.0) s.1 refl s.2,
        λ k. some.1 (
          k.0,
          k.1,
          ap (λ (o : Option Stretch). option_map (stretch_claim (zone_reason zone) k.0) o)
              ((zone_says notes content k.0 zone k.2.0).1 k.2.1) ∙ ap (λ (c : Claim). Some c) (sym k.2.2),
        ),
      )

  entries_tell : (v : RipView) → rip_view_of notes ≡ v → In c (entry_claims v) → SaysEntry notes c
  unfolding entry_claim
  entries_tell Absent view h = absurd h
  entries_tell Several view h = absurd h
  entries_tell (Unreadable offset) view h = absurd h
  entries_tell (One r) view h =
      let s = (In-filter_map (entry_claim r.offset) (map (λ e. e.0) r.entries) c).0 h in
      let k = (In-map (λ (e : RipEntry × Standing). e.0) r.entries s.0).0 s.1 in
      let e = k.0 in
      elim (e.0.offset == 0) as (λ b. (e.0.offset == 0) ≡ b
      → cond b None (Some (place_claim Entry (Some r.offset) e.0.offset)) ≡ Some c → SaysEntry notes c) [
        | true ↦ λ _ u. absurd (cc (u))
        | false ↦ λ t u. (r, view, (e, k.1, (λ z. let q = eq-eqb _ _ z in cc (q, t)), sym (same_Some _ _ u)))
      ] refl (ap (entry_claim r.offset) (sym k.2) ∙ s.2)

  entry_some : (offset : ℕ) (e : RipEntry) → e.offset ≢ 0
      → entry_claim offset e ≡ Some (place_claim Entry (Some offset) e.offset)
  unfolding entry_claim
  entry_some offset e some = elim (e.offset == 0) as (λ b. (e.offset == 0) ≡ b
      → cond b None (Some (place_claim Entry (Some offset) e.offset))
      ≡ Some (place_claim Entry (Some offset) e.offset)) [
        | true ↦ λ t. absurd (some (eqb-true _ _ t))
        | false ↦ λ _. refl
      ] refl

  pub entries_say : In c (entry_claims (rip_view_of notes)) ↔ SaysEntry notes c
  entries_say = (
    λ h. entries_tell (rip_view_of notes) refl h,
    λ k.
        let r = k.0 in
        let e = k.2.0 in
        subst (λ (v : RipView). In c (entry_claims v)) (sym k.1)
        ((In-filter_map (entry_claim r.offset) (map (λ e. e.0) r.entries) c).1 (
          e.0,
          (In-map (λ (e : RipEntry × Standing). e.0) r.entries e.0).1 (e, k.2.1, refl),
          entry_some r.offset e.0 k.2.2 ∙ ap (λ (c : Claim). Some c) (sym k.2.3),
        )),
  )

  -- What is said for a reason has that reason.
  claimed : (r : Reason) → c.reason ≡ r → IsClaimFor r notes c → IsClaim notes c
  claimed r e k = subst (λ (r : Reason). IsClaimFor r notes c) (sym e) k

  abbrev reason_of : Claim → Reason
  reason_of c = c.reason

  abbrev behind_index : List Claim
  behind_index = entry_claims (rip_view_of notes) ++ filter_map previous_claim partitions

  abbrev behind_metadata : List Claim
  behind_metadata = filter_map (zone_claim zones.Index notes) partitions ++ behind_index

  abbrev behind_footers : List Claim
  behind_footers = filter_map (zone_claim zones.Metadata notes) partitions ++ behind_metadata

  pub claims_say : In c (claims_of notes) ↔ IsClaim notes c
  unfolding claims_of
  claims_say =
      let footers = In-append c (filter_map footer_claim partitions) behind_footers in
      let metadata = In-append c (filter_map (zone_claim zones.Metadata notes) partitions) behind_metadata in
      let index = In-append c (filter_map (zone_claim zones.Index notes) partitions) behind_index in
      let entries = In-append c (entry_claims (rip_view_of notes)) (filter_map previous_claim partitions) in (
        λ h. elim h [
          | inl e ↦ claimed Header (ap reason_of e) e
          | inr h ↦ elim (footers.0 h) [
            | inl h ↦ (let k = footer_says.0 h in claimed Footer (ap reason_of k.2.2) k)
            | inr h ↦ elim (metadata.0 h) [
              | inl h ↦ (let k = (zones_say zones.Metadata).0 h in claimed Metadata (ap reason_of k.2.2) k)
              | inr h ↦ elim (index.0 h) [
                | inl h ↦ (let k = (zones_say zones.Index).0 h in claimed Index (ap reason_of k.2.2) k)
                | inr h ↦ elim (entries.0 h) [
                  | inl h ↦ (let k = entries_say.0 h in claimed Entry (ap reason_of k.2.3) k)
                  | inr h ↦ (let k = previous_says.0 h in claimed Previous (ap reason_of k.2.2) k)
                ]
              ]
            ]
          ]
        ],
        λ k. elim c.reason as (λ r. IsClaimFor r notes c → In c (claims_of notes)) [
          | Header ↦ λ k. inl k
          | Footer ↦ λ k. inr (footers.1 (inl (footer_says.1 k)))
          | Metadata ↦ λ k. inr (footers.1 (inr (metadata.1 (inl ((zones_say zones.Metadata).1 k)))))
          | Index ↦ λ k. inr (footers.1 (inr (metadata.1 (inr (index.1 (inl ((zones_say zones.Index).1 k)))))))
          | Entry ↦ λ k. inr (footers.1 (inr (metadata.1 (inr (index.1 (inr (entries.1 (inl (entries_say.1 k)))))))))
          | Previous ↦ λ k.
              inr (footers.1 (inr (metadata.1 (inr (index.1 (inr (entries.1 (inr (previous_says.1 k)))))))))
          | Gap ↦ λ k. absurd k
          | reasons.Front ↦ λ k. absurd k
          | reasons.Unit ↦ λ k. absurd k
        ] k,
      )
