-- What is kept of a content, and what an addition makes of it.
use Rattle.mxf_views.proofs.Common.{◌≡◌, ℕ, Bool, List, [], ◌∷◌, Option, None, Some, refl, sym, ap, subst, ◌∙◌, true}
use Rattle.mxf_views.proofs.Common.{false, NoteParts, clear_notes, copies_of, KeptParts, copies_followed, followed}
use Rattle.mxf_views.proofs.Common.{kept_among, kept_at, kept_partition, kept_random_index_pack, kept_segment}
use Rattle.mxf_views.proofs.Common.{kept_unreadable_pack, reaches_of, partition_at, partitions_of, not, placed_segment}
use Rattle.mxf_views.proofs.Common.{segments_of, kept_of, can_bring_start, nothing_kept, map, cons_option, find, ◌==◌}
use Rattle.mxf_views.proofs.Common.{filter_map, In, inl, inr, IsContent, IsNonDecreasingBy, RiseBy, PartitionParts}
use Rattle.mxf_views.proofs.Common.{SegmentAtParts, option_map, outside, never_falls, is_no_unreadable_pack, is_outside}
use Rattle.mxf_views.proofs.Common.{is_rip_note, rises-filter, cond, filter, is_kept, is_some, partitions_among}
use Rattle.mxf_views.proofs.Common.{segments_among, offset_if, in_numbers, without_entries}
use Rattle.mxf_views.specs.declared.copy.CopyInfo.{CopyInfo}
use Rattle.mxf_views.specs.Kept.{notes_at, HasArrived}
use Rattle.mxf_views.specs.declared.kept.arrival.Arrival.{Arrival}
use Rattle.mxf_views.proofs.CopyUpdates.{copies_follow}
use Rattle.mxf_views.proofs.KeptItems.{kept_follow, kept_found, kept_if, kept_rise, notes_kept}
use Rattle.mxf_views.proofs.KeyedLists.{rise_by}
use Rattle.mxf_views.proofs.PartitionLaws.{offset-partition_at}
use Rattle.mxf_views.proofs.SegmentLaws.{offset-placed_segment}

-- What is kept of no note.
pub kept_of_none : nothing_kept ≡ kept_of []
unfolding copies_of partitions_of
kept_of_none = refl

pub kept_by : (ps : List PartitionParts) (ss : List SegmentAtParts) (rs us hs : List ℕ) (cs : List CopyInfo)
    (notes : List NoteParts) → ps ≡ kept_among kept_partition notes → ss ≡ kept_among kept_segment notes
    → rs ≡ kept_among kept_random_index_pack notes → us ≡ kept_among kept_unreadable_pack notes
    → cs ≡ copies_of notes → hs ≡ reaches_of cs
    → record { partitions = ps; segments = ss; rips = rs; unreadable = us; copies = cs; reaches = hs } ≡ kept_of notes
kept_by ps ss rs us hs cs notes p s r u c h =
    let reaches : hs ≡ reaches_of (copies_of notes) = h ∙ ap reaches_of c in
    λ i. record { partitions = p i; segments = s i; rips = r i; unreadable = u i; copies = c i; reaches = reaches i }

-- ---- the key of what is kept is the offset of its note

pub offset-kept_partition : (n : NoteParts) (p : PartitionParts) → kept_partition n ≡ Some p → p.offset ≡ n.offset
offset-kept_partition n p e =
    elim (partition_at n) as (λ o. partition_at n ≡ o → option_map in_numbers o ≡ Some p → p.offset ≡ n.offset) [
      | None ↦ λ _ u. absurd cc
      | Some q ↦ λ f u. (
          let same : in_numbers q ≡ p = cc (u) in
          ap (λ (x : PartitionParts). x.offset) (sym same) ∙ offset-partition_at n q f)
    ] refl e

pub offset-kept_segment : (n : NoteParts) (s : SegmentAtParts) → kept_segment n ≡ Some s → s.offset ≡ n.offset
offset-kept_segment n s e =
    elim (placed_segment n) as (λ o. placed_segment n ≡ o → option_map without_entries o ≡ Some s
    → s.offset ≡ n.offset) [
      | None ↦ λ _ u. absurd cc
      | Some q ↦ λ f u. (
          let same : without_entries q ≡ s = cc (u) in
          ap (λ (x : SegmentAtParts). x.offset) (sym same) ∙ offset-placed_segment n q f)
    ] refl e

offset-offset_if : (test : NoteParts → Bool) (n : NoteParts) (o : ℕ) → offset_if (test n) n ≡ Some o → o ≡ n.offset
offset-offset_if test n o e =
    elim (test n) as (λ b. offset_if b n ≡ Some o → o ≡ n.offset) [
      | true ↦ λ u. (let same : n.offset ≡ o = cc (u) in sym same)
      | false ↦ λ u. absurd cc
    ] e

pub offset-kept_rip : (n : NoteParts) (o : ℕ) → kept_random_index_pack n ≡ Some o → o ≡ n.offset
offset-kept_rip = offset-offset_if is_rip_note

pub offset-kept_unreadable : (n : NoteParts) (o : ℕ) → kept_unreadable_pack n ≡ Some o → o ≡ n.offset
offset-kept_unreadable = offset-offset_if (λ n. not (is_no_unreadable_pack n))

-- Once a note has arrived.
module _ (a : Arrival) (after : List NoteParts) (before : KeptParts) (k : HasArrived a after before) where
  pub list_after : {A : Type 0} (take : NoteParts → Option A) (key : A → ℕ)
      → ((n : NoteParts) (x : A) → take n ≡ Some x → key x ≡ n.offset) → (xs : List A) (there : Option A)
      → xs ≡ kept_among take k.notes → there ≡ kept_at take after a.offset
      → followed key there a.start a.end xs ≡ kept_among take after
  list_after take key own xs there same at =
      let is = k.arrival in
      ap (λ t. followed key t a.start a.end xs) at
      ∙ ap (λ o. followed key (kept_at take after o) a.start a.end xs) is.offset
      ∙ ap (followed key (kept_at take after k.note.offset) a.start a.end) same
      ∙ ap (λ ns. followed key (kept_at take ns k.note.offset) a.start a.end (kept_among take k.notes)) k.is_after
      ∙ kept_follow take key own k.note k.notes a.start a.end is.content (is.reduced, k.new) is.hull
      ∙ ap (kept_among take) (sym k.is_after)

  pub outside_never_falls : {A : Type 0} (take : NoteParts → Option A) (key : A → ℕ)
      → ((n : NoteParts) (x : A) → take n ≡ Some x → key x ≡ n.offset) → (xs left : List A)
      → xs ≡ kept_among take k.notes → left ≡ outside key a.start a.end xs → IsNonDecreasingBy key left
  outside_never_falls take key own xs left same out =
      subst (IsNonDecreasingBy key) (sym (out ∙ ap (outside key a.start a.end) same))
      (never_falls key _ (rises-filter key (λ x. is_outside a.start a.end (key x)) (kept_among take k.notes)
      (kept_rise take key own k.notes k.arrival.content)))

  pub copies_after : (cs : List CopyInfo) → cs ≡ copies_of k.notes
      → copies_followed after a.offset a.start a.end a.can_bring_start cs ≡ copies_of after
  copies_after cs same =
      let is = k.arrival in
      ap (copies_followed after a.offset a.start a.end a.can_bring_start) same
      ∙ ap (λ o. copies_followed after o a.start a.end a.can_bring_start (copies_of k.notes)) is.offset
      ∙ ap (λ b. copies_followed after k.note.offset a.start a.end b (copies_of k.notes)) is.can_bring_start
      ∙ ap (λ ns. copies_followed ns k.note.offset a.start a.end (can_bring_start k.note) (copies_of k.notes))
      k.is_after ∙ copies_follow k.note k.notes a.start a.end is.content (is.reduced, k.new) is.hull
      ∙ ap copies_of (sym k.is_after)

-- ---- what is kept is that of the partitions and of the segments

mapped : {A B : Type 0} (f : A → B) (take : NoteParts → Option A) (ns : List NoteParts)
    → filter_map (λ n. option_map f (take n)) ns ≡ map f (filter_map take ns)
mapped f take [] = refl
mapped f take (n ∷ ns) =
    let ih = mapped f take ns in
    elim (take n) as (λ o. cons_option (option_map f o) (filter_map (λ n. option_map f (take n)) ns)
    ≡ map f (cons_option o (filter_map take ns))) [ None ↦ ih | Some x ↦ ap (λ l. f x ∷ l) ih ]

pub partitions_in_numbers : (notes : List NoteParts)
    → kept_among kept_partition notes ≡ map in_numbers (partitions_of notes)
unfolding partitions_of
partitions_in_numbers notes = mapped in_numbers partition_at (clear_notes notes)

pub segments_in_numbers : (notes : List NoteParts)
    → kept_among kept_segment notes ≡ map without_entries (segments_of notes)
unfolding segments_of
segments_in_numbers notes = mapped without_entries placed_segment (clear_notes notes)

pub partitions_rise_by : (notes : List NoteParts) → IsContent notes
    → RiseBy (λ p. p.offset) (kept_among kept_partition notes)
partitions_rise_by notes r = (rise_by _ _).1 (kept_rise kept_partition (λ p. p.offset) offset-kept_partition notes r)

pub segments_rise_by : (notes : List NoteParts) → IsContent notes
    → RiseBy (λ s. s.offset) (kept_among kept_segment notes)
segments_rise_by notes r = (rise_by _ _).1 (kept_rise kept_segment (λ s. s.offset) offset-kept_segment notes r)

-- What is read of the notes that it is kept of is what is read of all clear ones.
read_again : {A B : Type 0} (f : A → B) (take : NoteParts → Option A) (ns : List NoteParts)
    → filter_map take (filter (is_kept (λ n. option_map f (take n))) ns) ≡ filter_map take ns
read_again f take [] = refl
read_again f take (n ∷ ns) =
    let left = filter (is_kept (λ n. option_map f (take n))) ns in
    let ih = read_again f take ns in
    elim (take n) as (λ o. take n ≡ o → filter_map take (cond (is_some (option_map f o)) (n ∷ left) left)
    ≡ cons_option o (filter_map take ns)) [
      | None ↦ λ e. ih
      | Some x ↦ λ e. ap (λ o. cons_option o (filter_map take left)) e ∙ ap (λ l. x ∷ l) ih
    ] refl

pub partitions_kept : (notes : List NoteParts) (kept : List PartitionParts) → kept ≡ kept_among kept_partition notes
    → partitions_among (notes_at (λ p. p.offset) notes kept) ≡ partitions_of notes
unfolding partitions_of
partitions_kept notes kept e = ap (λ l. partitions_among (notes_at (λ p. p.offset) notes l)) e
    ∙ ap partitions_among (notes_kept kept_partition (λ p. p.offset) offset-kept_partition notes)
    ∙ read_again in_numbers partition_at (clear_notes notes)

pub segments_kept : (notes : List NoteParts) (kept : List SegmentAtParts) → kept ≡ kept_among kept_segment notes
    → segments_among (notes_at (λ s. s.offset) notes kept) ≡ segments_of notes
unfolding segments_of
segments_kept notes kept e = ap (λ l. segments_among (notes_at (λ s. s.offset) notes l)) e
    ∙ ap segments_among (notes_kept kept_segment (λ s. s.offset) offset-kept_segment notes)
    ∙ read_again without_entries placed_segment (clear_notes notes)

-- Segments of the notes are found by what they state in numbers.
pub segments_found : (notes : List NoteParts) (ss : List SegmentAtParts)
    → ((s : SegmentAtParts) → In s ss → In s (segments_of notes))
    → filter_map (λ k. find (λ s. s.offset == k.offset) (segments_of notes)) (map without_entries ss) ≡ ss
unfolding segments_of
segments_found notes [] there = refl
segments_found notes (s ∷ ss) there =
    let all = segments_of notes in
    ap (λ o. cons_option o (filter_map (λ k. find (λ s. s.offset == k.offset) all) (map without_entries ss)))
    (kept_found placed_segment (λ s. s.offset) offset-placed_segment notes s (there s (inl refl)))
    ∙ ap (λ l. s ∷ l) (segments_found notes ss (λ t h. there t (inr h)))

-- The clear notes of a kind are those at the offsets where such notes stand.
pub notes_at_offsets : (test : NoteParts → Bool) (notes : List NoteParts) (offsets : List ℕ)
    → offsets ≡ kept_among (λ n. offset_if (test n) n) notes
    → notes_at (λ o. o) notes offsets ≡ filter test (clear_notes notes)
notes_at_offsets test notes offsets e = ap (notes_at (λ o. o) notes) e
    ∙ notes_kept (λ n. offset_if (test n) n) (λ o. o) (offset-offset_if test) notes
    ∙ (λ i. filter (λ n. kept_if test n i) (clear_notes notes))
