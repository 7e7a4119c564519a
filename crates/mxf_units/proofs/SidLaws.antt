-- The IndexSIDs that segments have, and those that partitions name, each once, rising.
use Rattle.mxf_views.proofs.Common.{◌≡◌, ◌↔◌, ◌∙◌, ◌<◌, ◌==◌, ◌&&◌, ℕ, IsTrue, List, [], ◌∷◌, Some, None, ap, inl, inr}
use Rattle.mxf_views.proofs.Common.{eq-eqb, eqb-true, filter, filter_map, if◌then◌else◌, lt-ltb, ltb-true, map, nat_lt}
use Rattle.mxf_views.proofs.Common.{not, refl, subst, sym, and_from, and_parts, nat_cmp_total, same_Some}
use Rattle.mxf_views.proofs.Common.{nat_cmp-IsAntisymmetric, cons_option, list_any, nat_cmp, NoteParts, In, In-union}
use Rattle.mxf_views.proofs.Common.{IsRising, IsRising-union, union, In-filter, In-filter_map, In-map, list_any-In}
use Rattle.mxf_views.proofs.Common.{guarded, not-true-false, not_true, PartitionParts, in_numbers, partitions_of}
use Rattle.mxf_views.proofs.Common.{SegmentAtParts, segments_of}
use Rattle.mxf_units.specs.Indexes.{HasSegment, IsNamedIndex, has_segment, index_sid_named, index_sids_of}
use Rattle.mxf_units.specs.Indexes.{named_index_sids_of}

abbrev sid_of : SegmentAtParts → ℕ
sid_of s = s.segment.numbers.index_sid

-- The elements of a list are those of it that rises.
In-once : (all : List ℕ) (sid : ℕ) → In sid (union nat_cmp [] all) ↔ In sid all
In-once all sid =
    let u = In-union nat_cmp_total nat_cmp-IsAntisymmetric sid [] all in (
      λ h. elim (u.0 h) [ inl k ↦ absurd k | inr k ↦ k ],
      λ k. u.1 (inr k),
    )

pub sids-of : (notes : List NoteParts) (sid : ℕ) → In sid (index_sids_of notes) ↔ HasSegment notes sid
unfolding index_sids_of
sids-of notes sid =
    let once = In-once (map sid_of (segments_of notes)) sid in
    let m = In-map sid_of (segments_of notes) sid in (
      λ h. let s = m.0 (once.0 h) in (s.0, s.1, sym s.2),
      λ s. once.1 (m.1 (s.0, s.1, sym s.2)),
    )

pub sids-rise : (notes : List NoteParts) → IsRising nat_cmp (index_sids_of notes)
unfolding index_sids_of
sids-rise notes = IsRising-union nat_cmp_total nat_cmp-IsAntisymmetric [] (map sid_of (segments_of notes)) tt

-- ---- those that partitions name

-- What a partition names is among its numbers.
pub named-mapped : (ps : List PartitionParts)
    → filter_map index_sid_named (map in_numbers ps) ≡ filter_map index_sid_named ps
named-mapped [] = refl
named-mapped (p ∷ ps) = ap (cons_option (index_sid_named p)) (named-mapped ps)

pub any-says : (sids : List ℕ) (sid : ℕ) → IsTrue (list_any (λ held. held == sid) sids) ↔ In sid sids
any-says sids sid =
    let any = list_any-In (λ held. held == sid) sids in (
      λ h. let s = any.0 h in subst (λ x. In x sids) (eqb-true _ _ s.2) s.1,
      λ i. any.1 (sid, i, eq-eqb sid sid refl),
    )

has-says : (notes : List NoteParts) (sid : ℕ) → IsTrue (has_segment notes sid) ↔ HasSegment notes sid
has-says notes sid =
    let any = any-says (index_sids_of notes) sid in
    let sids = sids-of notes sid in (λ h. sids.0 (any.0 h), λ s. any.1 (sids.1 s))

by-partition : (notes : List NoteParts) (p : PartitionParts) (sid : ℕ) → In p (partitions_of notes)
    → index_sid_named p ≡ Some sid → IsNamedIndex notes sid
by-partition notes p sid i e =
    let n = p.pack.numbers in
    let g = guarded (nat_lt 0 n.index_byte_count && nat_lt 0 n.index_sid) (Some n.index_sid) sid e in
    let s = and_parts (nat_lt 0 n.index_byte_count) (nat_lt 0 n.index_sid) g.0 in
    let same = same_Some n.index_sid sid g.1 in
    record {
      by = p;
      partition = i;
      bytes = ltb-true _ _ s.0;
      named = same;
      some = subst (λ (x : ℕ). 0 < x) same (ltb-true _ _ s.1);
    }

names : (notes : List NoteParts) (sid : ℕ) (h : IsNamedIndex notes sid) → index_sid_named h.by ≡ Some sid
names notes sid h =
    let n = h.by.pack.numbers in
    let some : 0 < n.index_sid = subst (λ (x : ℕ). 0 < x) (sym h.named) h.some in
    ap (λ b. if b then Some n.index_sid else None)
    (and_from (nat_lt 0 n.index_byte_count) (nat_lt 0 n.index_sid) (lt-ltb _ _ h.bytes) (lt-ltb _ _ some))
    ∙ ap (λ (x : ℕ). Some x) h.named

pub named-of : (notes : List NoteParts) (sid : ℕ)
    → In sid (named_index_sids_of notes) ↔ (IsNamedIndex notes sid × ¬ HasSegment notes sid)
unfolding named_index_sids_of
named-of notes sid =
    let all = filter_map index_sid_named (partitions_of notes) in
    let test = λ (x : ℕ). not (has_segment notes x) in
    let once = In-once (filter test all) sid in
    let kept = In-filter test all sid in
    let members = In-filter_map index_sid_named (partitions_of notes) sid in (
      λ h.
          let k = kept.0 (once.0 h) in
          let p = members.0 k.0 in (
            by-partition notes p.0 sid p.1 p.2,
            λ s. not-true-false (has_segment notes sid) k.1 ((has-says notes sid).1 s),
          ),
      λ n. once.1 (kept.1 (
        members.1 (n.0.by, n.0.partition, names notes sid n.0),
        not_true (has_segment notes sid) (λ t. n.1 ((has-says notes sid).0 t)),
      )),
    )

pub named-rise : (notes : List NoteParts) → IsRising nat_cmp (named_index_sids_of notes)
unfolding named_index_sids_of
named-rise notes = IsRising-union nat_cmp_total nat_cmp-IsAntisymmetric []
    (filter (λ sid. not (has_segment notes sid)) (filter_map index_sid_named (partitions_of notes))) tt
