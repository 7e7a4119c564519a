-- Which segments there are.
use Rattle.mxf_views.proofs.Common.{◌≡◌, ℕ, true, false, cond, List, Some, None, refl, sym, ap, subst, ◌↔◌, option_map}
use Rattle.mxf_views.proofs.Common.{NoteParts, keeps_value, kind_of, In, SegmentParts, segment_at, read_as, IsContent}
use Rattle.mxf_views.proofs.Common.{IsClear, clear_notes, In-clear_notes, SegmentAtParts, is_segment, placed_segment}
use Rattle.mxf_views.proofs.Common.{segments_of, In-filter_map, ◌==◌, find, option_and_then, Option}
use Rattle.mxf_views.specs.Places.{SegmentsRise, IsSegmentAt, segment_by_kind}
use Rattle.mxf_views.proofs.KeptItems.{kept_rise, kept_there}
use Rattle.mxf_views.proofs.KindLaws.{segment_kind}
use Rattle.mxf_views.proofs.KeyedLists.{rise_by}
use Rattle.mxf_views.proofs.ReadingLaws.{reads}

abbrev placed : ℕ → SegmentParts → SegmentAtParts
placed offset segment = record { offset = offset; segment = segment }

segment_from : (notes : List NoteParts) (n : NoteParts) (s : SegmentAtParts) → IsClear n notes
    → placed_segment n ≡ Some s → IsSegmentAt notes s
unfolding placed_segment
segment_from notes n s clear e =
    let k = kind_of n.key in
    elim (is_segment k) as (λ b. is_segment k ≡ b
    → option_map (placed n.offset) (cond b (read_as segment_at n) None) ≡ Some s → IsSegmentAt notes s) [
      | false ↦ λ _ q. absurd cc
      | true ↦ λ t q. elim (read_as segment_at n) as (λ o. read_as segment_at n ≡ o
          → option_map (placed n.offset) o ≡ Some s → IsSegmentAt notes s) [
            | None ↦ λ _ u. absurd cc
            | Some segment ↦ λ r u.
                let same : placed n.offset segment ≡ s = cc (u) in
                let is = (reads segment_at n segment).0 r in
                let kind = (segment_kind k).0 t in
                subst (IsSegmentAt notes) same
                record { note = n; clear = clear; kind = kind; kept = is.0; read = is.1; offset = refl }
          ] refl q
    ] refl e

segment_to : (notes : List NoteParts) (s : SegmentAtParts) → (i : IsSegmentAt notes s) → placed_segment i.note ≡ Some s
unfolding placed_segment
segment_to notes s i =
    let k : keeps_value i.note ≡ true = i.kept in
    let t = ap is_segment i.kind in
    let r = i.read in
    let o = i.offset in
    rw t (rw k (rw r (λ j. Some (placed (sym o j) s.segment))))

-- The segments are those of the clear readable index table segments.
pub segments_are : (notes : List NoteParts) (s : SegmentAtParts) → In s (segments_of notes) ↔ IsSegmentAt notes s
unfolding segments_of
segments_are notes s =
    let m = In-filter_map placed_segment (clear_notes notes) s in (
      λ h. let g = m.0 h in segment_from notes g.0 s ((In-clear_notes g.0 notes).0 g.1) g.2,
      λ i. m.1 (i.note, (In-clear_notes i.note notes).1 i.clear, segment_to notes s i),
    )

pub offset-placed_segment : (n : NoteParts) (s : SegmentAtParts) → placed_segment n ≡ Some s → s.offset ≡ n.offset
unfolding placed_segment
offset-placed_segment n s e =
    elim (segment_by_kind n) as (λ o. option_map (placed n.offset) o ≡ Some s → s.offset ≡ n.offset) [
      | None ↦ λ q. absurd cc
      | Some segment ↦ λ q.
          let same : placed n.offset segment ≡ s = cc (q) in
          ap (λ (x : SegmentAtParts). x.offset) (sym same)
    ] e

-- They rise.
pub segments_rise : (notes : List NoteParts) → IsContent notes → SegmentsRise (segments_of notes)
unfolding segments_of
segments_rise notes r = (rise_by (λ (s : SegmentAtParts). s.offset) _).1
    (kept_rise placed_segment (λ s. s.offset) offset-placed_segment notes r)

-- The segment at an offset is that of the clear note there.
pub segment_by_note : (notes : List NoteParts) (o : ℕ) (found : Option NoteParts)
    → found ≡ find (λ n. n.offset == o) (clear_notes notes)
    → option_and_then placed_segment found ≡ find (λ s. s.offset == o) (segments_of notes)
unfolding segments_of
segment_by_note = kept_there placed_segment (λ s. s.offset) offset-placed_segment
