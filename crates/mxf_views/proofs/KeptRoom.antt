-- How much room is wanted for what is kept of two contents.
use Rattle.mxf_views.proofs.Common.{◌≡◌, ◌≤◌, ◌+◌, ℕ, Bool, List, [], ◌∷◌, not, sym, ap, ◌∙◌, arith, length, count_by}
use Rattle.mxf_views.proofs.Common.{NoteParts, AreReduced, IsContent, clear_notes, copies_of, count_by-le-length}
use Rattle.mxf_views.proofs.Common.{is_disputed, states_metadata, kept_of, length-filter_le, reduced_union}
use Rattle.mxf_views.proofs.Common.{reduced_with, MeetAt, clear_from, HasRoom, kept_in, nothing_kept, count_by-cons}
use Rattle.mxf_views.proofs.Common.{Option, None, Some, refl, cons_option, filter_map, is_some, tally, is_kept}
use Rattle.mxf_views.proofs.Common.{kept_partition, kept_random_index_pack, kept_segment, kept_unreadable_pack}
use Rattle.mxf_catalogue.specs.Disputes.{undisputed_notes}
use Rattle.mxf_views.specs.declared.kept.KeptLists.{KeptLists}
use Rattle.mxf_views.specs.Kept.{HasRoomForOne}
use Rattle.mxf_views.proofs.AboveLaws.{new_are_clear, union_is_reduced}
use Rattle.mxf_views.proofs.CopyUpdates.{length-copies_of}
use Rattle.mxf_views.proofs.ReachLaws.{length-reaches_from}
use Rattle.mxf_catalogue.proofs.ClearLaws.{count_in_union, count_is_length}

-- There are as many as notes of which something is kept.
length-kept : {A : Type 0} (take : NoteParts → Option A) (ns : List NoteParts)
    → length (filter_map take ns) ≡ count_by (is_kept take) ns
length-kept take [] = refl
length-kept take (n ∷ ns) =
    let ih = length-kept take ns in
    elim (take n) as (λ o. length (cons_option o (filter_map take ns))
    ≡ tally (is_some o) + count_by (is_kept take) ns) [
      | None ↦ omega (arith, ih)
      | Some x ↦ omega (arith, ih)
    ] ∙ sym (count_by-cons (is_kept take) n ns)

pub length-kept_copies : (notes : List NoteParts) → length (copies_of notes)
    ≡ count_by states_metadata (clear_notes notes)
length-kept_copies notes = length-copies_of notes ∙ sym (count_is_length states_metadata (clear_notes notes))

-- Room for one more of each is room for what is kept of one note from a boundary on.
pub room_for_one : (b : ℕ) (notes own : List NoteParts) (x : NoteParts) (k : KeptLists) → MeetAt b own (x ∷ [])
    → notes ≡ reduced_with x own → HasRoomForOne k → HasRoom (kept_in k) (clear_from b notes) k
room_for_one b notes own x k m e room = record {
  partitions = omega (arith, one (is_kept kept_partition), room.partitions, k.partitions.ok.0);
  segments = omega (arith, one (is_kept kept_segment), room.segments, k.segments.ok.0);
  rips = omega (arith, one (is_kept kept_random_index_pack), room.rips, k.random_index_packs.ok.0);
  unreadable = omega (arith, one (is_kept kept_unreadable_pack), room.unreadable, k.unreadable_packs.ok.0);
  copies = omega (arith, one states_metadata, room.copies, k.copies.ok.0);
  reaches = omega (arith, one states_metadata, room.reaches, k.reaches.ok.0);
}
  where
    one : (test : NoteParts → Bool) → count_by test (clear_from b notes) ≤ 1
    one test =
        let is = ap (clear_from b) (e ∙ union_is_reduced b own (x ∷ []) m) ∙ new_are_clear b own (x ∷ []) m in
        let some = count_by-le-length test (clear_from b notes) in
        let whole = length-filter_le (λ (n : NoteParts). n.whole) (undisputed_notes (x ∷ [])) in
        let clear = length-filter_le (λ n. not (is_disputed n (x ∷ []))) (x ∷ []) in
        omega (arith, some, ap length is, whole, clear)

-- Room for those of another besides what is kept is room for the union.
pub room_for_both : (own other : List NoteParts) (k : KeptLists) → IsContent own → IsContent other → AreReduced own
    → AreReduced other → kept_in k ≡ kept_of own → HasRoom (kept_in k) (clear_notes other) k
    → HasRoom nothing_kept (clear_notes (reduced_union own other)) k
room_for_both own other k r s p q keeps room =
    grind (arith, length-kept_copies, length-reaches_from, length-kept, count_in_union)
