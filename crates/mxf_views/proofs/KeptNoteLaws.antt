-- What is kept of a note, by its kind, is what each list keeps of it.
use Rattle.mxf_views.proofs.Common.{◌≡◌, false, Option, None, Some, ap, refl, sym, is_some, not, option_map, ◌||◌}
use Rattle.mxf_views.proofs.Common.{kind_of, NoteParts, PartitionParts, SegmentAtParts, part_and_status, partition_at}
use Rattle.mxf_views.proofs.Common.{is_no_unreadable_pack, is_rip, is_rip_note, is_segment, kept_partition}
use Rattle.mxf_views.proofs.Common.{kept_segment, kept_random_index_pack, kept_unreadable_pack, offset_if, partition_in}
use Rattle.mxf_views.proofs.Common.{random_index_pack_in, segment_in, unreadable_pack_in, in_numbers, without_entries}
use Rattle.mxf_klv.specs.declared.kinds.Kind.{Kind}
use Rattle.mxf_views.specs.KeptNotes.{kept_by_kind, kept_note}
use Rattle.mxf_views.specs.declared.kept.noted.Kept.{Kept}
use Rattle.mxf_views.proofs.TallyLaws.{no_partition, no_segment}
use Rattle.mxf_klv.specs.declared.kinds.Kind.TheVariants as kinds

-- Each list has what it keeps of a note.
pub record IsKept (n : NoteParts) (kept : Option Kept) : Type 0 where
  pub partition : partition_in kept ≡ kept_partition n
  pub segment : segment_in kept ≡ kept_segment n
  pub rip : random_index_pack_in kept ≡ kept_random_index_pack n
  pub unreadable : unreadable_pack_in kept ≡ kept_unreadable_pack n

-- The same of a note of a kind, by the partition and the segment that it is.
abbrev IsKeptBy : Kind → NoteParts → Option PartitionParts → Option SegmentAtParts → Option Kept → Type 0
IsKeptBy k n p s kept = (partition_in kept ≡ option_map in_numbers p) × (segment_in kept ≡ s)
    × (random_index_pack_in kept ≡ offset_if (is_rip k) n)
    × (unreadable_pack_in kept ≡ offset_if (not (not (is_some (part_and_status k)) || is_some p)) n)

by_kind : (k : Kind) (n : NoteParts) (p : Option PartitionParts) (s : Option SegmentAtParts)
    → (is_some (part_and_status k) ≡ false → option_map in_numbers p ≡ None) → (is_segment k ≡ false → s ≡ None)
    → IsKeptBy k n p s (kept_by_kind k n p s)
by_kind (kinds.Header _) n None s _ t = (refl, sym (t refl), refl, refl)
by_kind (kinds.Header _) n (Some p) s _ t = (refl, sym (t refl), refl, refl)
by_kind (kinds.Body _) n None s _ t = (refl, sym (t refl), refl, refl)
by_kind (kinds.Body _) n (Some p) s _ t = (refl, sym (t refl), refl, refl)
by_kind (kinds.Footer _) n None s _ t = (refl, sym (t refl), refl, refl)
by_kind (kinds.Footer _) n (Some p) s _ t = (refl, sym (t refl), refl, refl)
by_kind kinds.Segment n p None q _ = (sym (q refl), refl, refl, refl)
by_kind kinds.Segment n p (Some s) q _ = (sym (q refl), refl, refl, refl)
by_kind _ n p s q t = (sym (q refl), sym (t refl), refl, refl)

pub note_kept : (n : NoteParts) → IsKept n (kept_note n)
unfolding kept_note is_rip_note is_no_unreadable_pack
note_kept n =
    let h = by_kind (kind_of n.key) n (partition_at n) (kept_segment n)
    (λ e. ap (option_map in_numbers) (no_partition n e)) (λ e. ap (option_map without_entries) (no_segment n e)) in
    record { partition = h.0; segment = h.1; rip = h.2; unreadable = h.3 }
