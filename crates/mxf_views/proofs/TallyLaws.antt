-- How many notes there are at most that something is kept of.
use Rattle.mxf_views.proofs.Common.{◌≡◌, ◌≤◌, Bool, true, false, List, Option, None, ap, refl, ◌||◌, cond, count_by}
use Rattle.mxf_views.proofs.Common.{is_some, not, option_map, kind_of, end_of, NoteParts, part_and_status, read_as}
use Rattle.mxf_views.proofs.Common.{SegmentParts, segment_at, has_some_metadata, states_metadata, PartitionParts}
use Rattle.mxf_views.proofs.Common.{is_no_unreadable_pack, pack_of, partition_at, SegmentAtParts, is_segment}
use Rattle.mxf_views.proofs.Common.{placed_segment, ◌∙◌, sym, is_kept, is_rip_note, kept_partition}
use Rattle.mxf_views.proofs.Common.{kept_random_index_pack, kept_segment, kept_unreadable_pack, none_if, in_numbers}
use Rattle.mxf_views.proofs.Common.{without_entries}
use Rattle.mxf_views.proofs.PartitionLaws.{no_pack}
use Rattle.mxf_klv.proofs.NoteFilters.{count_le}
use Rattle.mxf_views.proofs.KeptItems.{kept_if}

-- Packets of the note's kind have a partition pack.
abbrev pub has_pack : NoteParts → Bool
has_pack n = is_some (part_and_status (kind_of n.key))

abbrev pub has_segment : NoteParts → Bool
has_segment n = is_segment (kind_of n.key)

pub pack_lacked : (n : NoteParts) → has_pack n ≡ false → pack_of n ≡ None
pack_lacked n e = no_pack n (none_if (part_and_status (kind_of n.key)) e)

pub no_partition : (n : NoteParts) → has_pack n ≡ false → partition_at n ≡ None
unfolding partition_at
no_partition n e = ap (option_map (λ pack. record { offset = n.offset; end = end_of n; pack = pack })) (pack_lacked n e)

-- What is no partition has nothing that only a partition has.
pack_if : (by : Option PartitionParts → Bool) → by None ≡ false → (n : NoteParts) → by (partition_at n) ≡ true
    → has_pack n ≡ true
pack_if by none n t =
    elim (has_pack n) as (λ b. has_pack n ≡ b → b ≡ true) [
      | true ↦ λ e. refl
      | false ↦ λ e. (let f = ap by (no_partition n e) in absurd (cc (f, none, t)))
    ] refl

pub partitions_at_most : (ns : List NoteParts) → count_by (is_kept kept_partition) ns ≤ count_by has_pack ns
partitions_at_most ns = count_le (is_kept kept_partition) has_pack ns
    (pack_if (λ o. is_some (option_map in_numbers o)) refl)

pub copies_at_most : (ns : List NoteParts) → count_by states_metadata ns ≤ count_by has_pack ns
copies_at_most ns = count_le states_metadata has_pack ns (pack_if has_some_metadata refl)

pack_if_unreadable : (n : NoteParts) → not (is_no_unreadable_pack n) ≡ true → has_pack n ≡ true
unfolding is_no_unreadable_pack
pack_if_unreadable n t =
    elim (has_pack n) as (λ b. not (not b || is_some (partition_at n)) ≡ true → b ≡ true) [
      | true ↦ λ e. refl
      | false ↦ λ e. absurd cc
    ] t

pub rips_at_most : (ns : List NoteParts) → count_by (is_kept kept_random_index_pack) ns ≤ count_by is_rip_note ns
rips_at_most ns = count_le (is_kept kept_random_index_pack) is_rip_note ns (λ n t. sym (kept_if is_rip_note n) ∙ t)

pub unreadable_at_most : (ns : List NoteParts) → count_by (is_kept kept_unreadable_pack) ns ≤ count_by has_pack ns
unreadable_at_most ns = count_le (is_kept kept_unreadable_pack) has_pack ns
    (λ n t. pack_if_unreadable n (sym (kept_if (λ n. not (is_no_unreadable_pack n)) n) ∙ t))

pub no_segment : (n : NoteParts) → has_segment n ≡ false → placed_segment n ≡ None
unfolding placed_segment
no_segment n e =
    let placed : SegmentParts → SegmentAtParts = λ segment. record { offset = n.offset; segment = segment } in
    ap (λ b. option_map placed (cond b (read_as segment_at n) None)) e

segment_if : (n : NoteParts) → is_kept kept_segment n ≡ true → has_segment n ≡ true
segment_if n t =
    elim (has_segment n) as (λ b. has_segment n ≡ b → b ≡ true) [
      | true ↦ λ e. refl
      | false ↦ λ e. (let f = ap (λ o. is_some (option_map without_entries o)) (no_segment n e) in absurd (cc (f, t)))
    ] refl

pub segments_at_most : (ns : List NoteParts) → count_by (is_kept kept_segment) ns ≤ count_by has_segment ns
segments_at_most ns = count_le (is_kept kept_segment) has_segment ns segment_if
