-- What is known of the random index pack of a well-formed file is what its reading says.
use Rattle.mxf_views.proofs.Common.{◌≡◌, ℕ, ◌+◌, ◌≤◌, true, false, cond, ◌==◌, List, [], ◌∷◌, map, filter, find, Option}
use Rattle.mxf_views.proofs.Common.{None, Some, is_some, IfSome, refl, AllByRecursion, option_map_or, sym, ◌∙◌, ap}
use Rattle.mxf_views.proofs.Common.{subst, inl, inr, arith, eq-eqb, kind_of, note_of, size_of, PacketParts, NoteParts}
use Rattle.mxf_views.proofs.Common.{notes_from, In, RipParts, PartitionParts, partitions_of, is_rip, is_rip_note}
use Rattle.mxf_views.proofs.Common.{rips_of, standing_of, rip_view_among, rip_view_by, rip_view_of, partitions_read}
use Rattle.mxf_views.proofs.Common.{IsWellFormed, is_readable_as, ne_eqb, EndsWithRandomIndex, IsRandomIndexPack}
use Rattle.mxf_views.proofs.Common.{clear-laid, one_by_one, rip_read, IsReadable}
use Rattle.mxf_views.specs.declared.random_index.RipView.TheVariants.{One, Absent}
use Rattle.mxf_views.specs.Records.{read_rip}
use Rattle.mxf_views.specs.RandomIndex.{standing_by, standings}
use Rattle.mxf_views.specs.WellFormed.{entry_of}
use Rattle.mxf_views.specs.Reading.{compared}
use Rattle.mxf_views.specs.declared.random_index.Standing.TheVariants.{Held}
use Rattle.mxf_views.proofs.Laid.{partitions_of-laid, rip-note}
use Rattle.mxf_views.proofs.KindLaws.{rip_kind}
use Rattle.mxf_views.proofs.RisingPartitions.{IsRisingFrom, at_or_above, rising-read}

-- The partition at the offset of one of them is that one.
found : (low : ℕ) (ps : List PartitionParts) (p : PartitionParts) → IsRisingFrom low ps → In p ps
    → find (λ q. q.offset == p.offset) ps ≡ Some p
found low [] p a h = absurd h
found low (q ∷ qs) p a (inl e) = grind (arith, eq-eqb)
found low (q ∷ qs) p a (inr h) =
    let c : q.offset + 1 ≤ p.offset = at_or_above (q.offset + 1) qs p a.1 h in
    rw (ne_eqb q.offset p.offset (λ e. omega (arith, e, c))) (found (q.offset + 1) qs p a.1 h)

-- Entries that are those of the partitions stand alike either way.
alike : (all ps : List PartitionParts)
    → ((p : PartitionParts) → In p ps → find (λ q. q.offset == p.offset) all ≡ Some p)
    → map (λ entry. (entry, standing_of all entry)) (map entry_of ps) ≡ one_by_one (map entry_of ps) ps
alike all [] h = refl
alike all (p ∷ ps) h =
    let own : (p.pack.numbers.body_sid == p.pack.numbers.body_sid) ≡ true =
    eq-eqb p.pack.numbers.body_sid p.pack.numbers.body_sid refl in
    let a : standing_by (entry_of p) (find (λ q. q.offset == p.offset) all) ≡ Held = rw (h p (inl refl), own) refl in
    let b : compared (entry_of p) p ≡ Held = rw (eq-eqb p.offset p.offset refl, own) refl in
    let s : standing_by (entry_of p) (find (λ q. q.offset == p.offset) all) ≡ compared (entry_of p) p = a ∙ sym b in
    λ i. (entry_of p, s i) ∷ alike all ps (λ q k. h q (inr k)) i

none_here : (p : PacketParts) → ¬ IsRandomIndexPack p → is_rip (kind_of p.key) ≡ false
none_here p n =
    elim (is_rip (kind_of p.key)) as (λ b. is_rip (kind_of p.key) ≡ b → b ≡ false) [
      | true ↦ λ e. absurd (n ((rip_kind (kind_of p.key)).0 e))
      | false ↦ λ e. refl
    ] refl

not_read : (p : PacketParts) → is_rip (kind_of p.key) ≡ false → read_rip p ≡ None
unfolding read_rip
not_read p e = rw e refl

module _ (notes : List NoteParts) (parts : List PartitionParts) (same : partitions_of notes ≡ parts)
    (h : (p : PartitionParts) → In p parts → find (λ q. q.offset == p.offset) parts ≡ Some p) where
  one : (at : ℕ) (o : Option RipParts) → is_some o ≡ true → IfSome o (λ rip. rip.entries ≡ map entry_of parts)
      → rip_view_by (partitions_of notes) at o
      ≡ option_map_or (λ rip. One (record { offset = at; entries = one_by_one rip.entries parts })) o Absent
  one at None s e = cc
  one at (Some rip) s e = grind (arith, standings, one_by_one, map, standing_of, entry_of, alike)

  rips-laid : (at : ℕ) (l : List PacketParts) → AllByRecursion IsReadable l → EndsWithRandomIndex parts l
      → rip_view_among (partitions_of notes) (filter is_rip_note (notes_from at l)) ≡ rip_read parts at l
  unfolding is_rip_note
  rips-laid at [] r e = refl
  rips-laid at (p ∷ []) r e = elim (is_rip (kind_of p.key)) as (λ b. is_rip (kind_of p.key) ≡ b
      → rip_view_among (partitions_of notes) (cond b (note_of at p ∷ []) [])
      ≡ option_map_or (λ rip. One (record { offset = at; entries = one_by_one rip.entries parts }))
      (read_rip p) Absent) [
        | true ↦ λ k.
            let s : is_some (read_rip p) ≡ true =
            subst (λ kind. is_readable_as kind p ≡ true) ((rip_kind (kind_of p.key)).0 k) r.0 in
            ap (rip_view_by (partitions_of notes) at) (rip-note at p k) ∙ one at (read_rip p) s e
        | false ↦ λ k. rw (not_read p k) refl
      ] refl
  rips-laid at (p ∷ q ∷ ps) r e =
      let k = none_here p e.0 in
      rw (k, not_read p k) (rips-laid (at + size_of p) (q ∷ ps) r.1 e.1)

-- What is known of the random index pack of a well-formed file.
pub random_index-laid : (l : List PacketParts) → IsWellFormed l
    → rip_view_of (notes_from 0 l) ≡ rip_read (partitions_read 0 l) 0 l
unfolding rips_of
random_index-laid l w =
    let notes = notes_from 0 l in
    let parts = partitions_read 0 l in
    ap (λ ns. rip_view_among (partitions_of notes) (filter is_rip_note ns)) (clear-laid 0 l)
    ∙ rips-laid notes parts (partitions_of-laid 0 l) (λ p k. found 0 parts p (rising-read 0 l) k) 0 l w.readable
    w.random_index
