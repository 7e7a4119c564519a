-- The cause of each code is met at the offsets that are found of it, and at no others.
use Rattle.mxf_findings.proofs.Common.{◌≡◌, ℕ, ◌+◌, ◌-◌, ◌<◌, ◌≤◌, ◌⊎◌, Bool, true, false, List, refl, sym, ap, ◌∙◌}
use Rattle.mxf_findings.proofs.Common.{inl, inr, arith, eqb-true, eq-eqb, ◌↔◌, ◌||◌, nat_lt, not, is_some}
use Rattle.mxf_findings.proofs.Common.{filter, map, ltb-false, ltb-true, or_cases, and_from, and_parts, Status}
use Rattle.mxf_findings.proofs.Common.{NoteParts, end_of, kind_of, In, pack_at, part_and_status}
use Rattle.mxf_findings.proofs.Common.{Footer, Run, IsContent, IsClear, clear_notes, In-clear_notes, PartitionParts}
use Rattle.mxf_findings.proofs.Common.{is_footer, is_no_unreadable_pack, link_of, pack_of, partition_at, partitions_of}
use Rattle.mxf_findings.proofs.Common.{gaps_of, IsReadable, AtClear, In-map, list_any-In, either, not-true-false}
use Rattle.mxf_findings.proofs.Common.{not_true, IsPartitionKind, disputed_notes, disputed_parts, footer_stands_at}
use Rattle.mxf_findings.proofs.Common.{In-chosen, not_equal, has_byte, kind_says, kind_tells}
use Rattle.mxf_catalogue.specs.Disputes.{DisputedParts, IsDisputedOf, Overlaps, SharesOffset}
use Rattle.mxf_catalogue.proofs.DisputeLaws.{In-disputed_notes, IsDisputed-two_ways, is_offset_shared-SharesOffset}
use Rattle.mxf_catalogue.proofs.DisputeLaws.{is_overlapped-Overlaps}
use Rattle.mxf_findings.specs.Findings.{is_open, is_open_footer, is_unfit, lacks_footer}
use Rattle.mxf_findings.specs.FindingCauses.{AtNote, AtPartition, IsGapStart, IsOpen, IsUnlinked, LacksFooter}
use Rattle.mxf_views.proofs.ChainLaws.{footer_says}
use Rattle.mxf_views.proofs.GapsLaws.{gaps_are}
use Rattle.mxf_views.proofs.PartitionLaws.{link_iff}
use Rattle.mxf_views.proofs.ReadingLaws.{is_some_readable}
use Rattle.mxf_klv.proofs.Tests.{is_some-map}
use Rattle.mxf_catalogue.proofs.RunBounds.{between}
use Rattle.mxf_views.specs.declared.chain.Link.TheVariants as links

-- ---- disputes

-- the offsets of the disputed notes that are disputed in one way
pub at_disputed : (p : DisputedParts → Bool) (P : NoteParts → Type 0) (notes : List NoteParts) (o : ℕ)
    → ((d : DisputedParts) → IsDisputedOf d notes → (p d ≡ true) ↔ P d.note)
    → ((n : NoteParts) → P n → SharesOffset n notes ⊎ Overlaps n notes)
    → In o (map (λ d. d.note.offset) (filter p (disputed_notes notes))) ↔ AtNote notes o P
at_disputed p P notes o each two =
    let m = In-chosen (λ (d : DisputedParts). d.note.offset) p (disputed_notes notes) o in (
      λ h.
          let s = m.0 h in
          let d = (In-disputed_notes s.0 notes).0 s.1 in
          (s.0.note, d.held, s.3, (each s.0 d).0 s.2),
      λ s.
          let n = s.0 in
          let d : IsDisputedOf (disputed_parts n notes) notes = record {
            held = s.1;
            disputed = (IsDisputed-two_ways n notes).1 (two n s.3);
            same_offset = is_offset_shared-SharesOffset n notes;
            overlaps = is_overlapped-Overlaps n notes;
          } in
          let is = disputed_parts n notes in
          m.1 (is, (In-disputed_notes is notes).1 d, (each is d).1 s.3, s.2),
    )

-- ---- gaps

pub gap_starts : (notes : List NoteParts) (o : ℕ) → IsContent notes
    → In o (map (λ r. r.start) (gaps_of notes)) ↔ IsGapStart notes o
gap_starts notes o content =
    let runs = gaps_of notes in
    let gaps = gaps_are notes content in
    let m = In-map (λ (r : Run). r.start) runs o in (
      λ h.
          let s = m.0 h in
          let r = s.0 in
          let at : o ≡ r.start = s.2 in
          let b : r.start < r.end = has_byte 0 runs r gaps.maximal s.1 in
          record {
            gap = (gaps.offsets o).0 (r, s.1, record { from = omega (arith, at); before = omega (arith, at, b) });
            first = λ before next g.
                let w = (gaps.offsets before).1 g in
                let q = w.0 in
                let from : q.start ≤ before = w.2.from in
                let to : before + 1 ≤ q.end = w.2.before in
                elim (between 0 runs r q gaps.maximal s.1 w.1) [
                  | inl e ↦ omega (arith, at, next, from, e)
                  | inr k ↦ elim k [
                    | inl l ↦ omega (arith, at, b, next, from, l)
                    | inr l ↦ omega (arith, at, next, to, l)
                  ]
                ];
          },
      λ g.
          let w = (gaps.offsets o).1 g.gap in
          let r = w.0 in
          let from : r.start ≤ o = w.2.from in
          let to : o + 1 ≤ r.end = w.2.before in
          elim (nat_lt r.start o) as (λ b. nat_lt r.start o ≡ b → In o (map (λ r. r.start) runs)) [
            | true ↦ λ t.
                let l : r.start < o = ltb-true r.start o t in
                absurd (g.first (o - 1) (omega arith) ((gaps.offsets (o - 1)).0
                (r, w.1, record { from = omega arith; before = omega arith })))
            | false ↦ λ t. let l = ltb-false r.start o t in m.1 (r, w.1, omega (arith, l, from))
          ] refl,
    )

-- ---- partition packs

is_some-partition_at : (n : NoteParts) → is_some (partition_at n) ≡ is_some (pack_of n)
unfolding partition_at
is_some-partition_at n = grind (arith, end_of, is_some-map, pack_of)

pub unreadable_pack : (n : NoteParts) → (not (is_no_unreadable_pack n) ≡ true)
    ↔ (IsPartitionKind (kind_of n.key) × ¬ IsReadable (pack_at (kind_of n.key)) n)
unfolding is_no_unreadable_pack
unreadable_pack n =
    let told = is_some (part_and_status (kind_of n.key)) in
    let there = is_some (partition_at n) in
    let e = is_some-partition_at n in
    let r = is_some_readable (pack_at (kind_of n.key)) n in (
      λ h. (
        kind_says (kind_of n.key) (elim told as (λ b. told ≡ b → told ≡ true) [
          | true ↦ λ t. t
          | false ↦ λ t. absurd (not-true-false (not told || there) h (ap (λ b. not b || there) t))
        ] refl),
        λ s. not-true-false (not told || there) h (either (not told) there (inr (e ∙ r.1 s))),
      ),
      λ s. not_true (not told || there) (λ t. elim (or_cases (not told) there t) [
        | inl u ↦ not-true-false told u (kind_tells (kind_of n.key) s.0)
        | inr u ↦ s.1 (r.0 (sym e ∙ u))
      ]),
    )

-- the offsets of the clear notes that pass a test
pub at_clear : (p : NoteParts → Bool) (P : NoteParts → Type 0) (notes : List NoteParts) (o : ℕ)
    → ((n : NoteParts) → IsClear n notes → (p n ≡ true) ↔ P n)
    → In o (map (λ n. n.offset) (filter p (clear_notes notes))) ↔ AtClear notes o P
at_clear p P notes o each =
    let m = In-chosen (λ (n : NoteParts). n.offset) p (clear_notes notes) o in (
      λ h. let s = m.0 h in let c = (In-clear_notes s.0 notes).0 s.1 in (s.0, c, s.3, (each s.0 c).0 s.2),
      λ s. m.1 (s.0, (In-clear_notes s.0 notes).1 s.1, (each s.0 s.1).1 s.3, s.2),
    )

-- ---- partitions

-- the offsets of the partitions that pass a test
pub at_partition : (p : PartitionParts → Bool) (P : PartitionParts → Type 0) (notes : List NoteParts) (o : ℕ)
    → ((x : PartitionParts) → (p x ≡ true) ↔ P x)
    → In o (map (λ x. x.offset) (filter p (partitions_of notes))) ↔ AtPartition notes o P
at_partition p P notes o each =
    let m = In-chosen (λ (x : PartitionParts). x.offset) p (partitions_of notes) o in (
      λ h. let s = m.0 h in (s.0, s.1, s.3, (each s.0).0 s.2),
      λ s. m.1 (s.0, s.1, (each s.0).1 s.3, s.2),
    )

pub unlinked : (ps : List PartitionParts) (p : PartitionParts) → (is_unfit (link_of ps p) ≡ true) ↔ IsUnlinked ps p
unlinked ps p = (
  λ h. elim (link_of ps p) as (λ l. link_of ps p ≡ l → is_unfit l ≡ true → IsUnlinked ps p) [
    | links.First ↦ λ _ q. absurd cc
    | links.Held ↦ λ _ q. absurd cc
    | links.Skips ↦ λ e _. inl ((link_iff ps p links.Skips).0 e)
    | links.Missing ↦ λ e _. inr (inl ((link_iff ps p links.Missing).0 e))
    | links.Wrong ↦ λ e _. inr (inr ((link_iff ps p links.Wrong).0 e))
  ] refl h,
  λ s. elim s [
    | inl i ↦ ap is_unfit ((link_iff ps p links.Skips).1 i)
    | inr k ↦ elim k [
      | inl i ↦ ap is_unfit ((link_iff ps p links.Missing).1 i)
      | inr i ↦ ap is_unfit ((link_iff ps p links.Wrong).1 i)
    ]
  ],
)

open_says : (s : Status) → (is_open s ≡ true) ↔ IsOpen s
open_says s = grind arith

pub open_footer : (p : PartitionParts) → (is_open_footer p ≡ true) ↔ ((p.pack.part ≡ Footer) × IsOpen p.pack.status)
open_footer p = grind (arith, and_parts, is_footer, footer_says, open_says, and_from)

pub footer_lacks : (ps : List PartitionParts) (p : PartitionParts) → (lacks_footer ps p ≡ true) ↔ LacksFooter ps p
footer_lacks ps p =
    grind (
      arith,
      list_any-In,
      is_footer,
      not_equal,
      and_parts,
      footer_stands_at,
      not-true-false,
      and_from,
      eq-eqb,
      not_true,
      footer_says,
      eqb-true,
    )
