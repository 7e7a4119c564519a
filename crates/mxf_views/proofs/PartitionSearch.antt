-- Partitions found by search among the clear notes.
use Rattle.mxf_views.proofs.Common.{◌≡◌, ℕ, true, false, List, Option, Some, None, refl, sym, ap, ◌∙◌, eqb-true, eq-eqb}
use Rattle.mxf_views.proofs.Common.{◌==◌, find, filter, is_some, option_and_then, false_from_ne_true, NoteParts, In}
use Rattle.mxf_views.proofs.Common.{clear_notes, copies_of, copy_of, has_metadata, PartitionParts, partition_at}
use Rattle.mxf_views.proofs.Common.{partitions_of, In-filter, In-map, list_any-In, find-none, find-only, found-In}
use Rattle.mxf_views.proofs.Common.{none_found, In-filter_map, stands_at}
use Rattle.mxf_views.specs.declared.copy.CopyInfo.{CopyInfo}
use Rattle.mxf_views.proofs.CopyLaws.{copy_there}
use Rattle.mxf_views.proofs.KeptItems.{kept_found, kept_there, one_kept}
use Rattle.mxf_views.proofs.PartitionLaws.{offset-partition_at}

-- A partition is that of a clear note with its offset.
pub record IsOfNote (notes : List NoteParts) (p : PartitionParts) : Type 0 where
  pub note : NoteParts
  pub clear : In note (clear_notes notes)
  pub read : partition_at note ≡ Some p
  pub offset : p.offset ≡ note.offset

pub of_note : (notes : List NoteParts) (p : PartitionParts) → In p (partitions_of notes) → IsOfNote notes p
unfolding partitions_of
of_note notes p h =
    let s = (In-filter_map partition_at (clear_notes notes) p).0 h in
    record { note = s.0; clear = s.1; read = s.2; offset = offset-partition_at s.0 p s.2 }

pub is_there : (notes : List NoteParts) (n : NoteParts) (p : PartitionParts) → In n (clear_notes notes)
    → partition_at n ≡ Some p → In p (partitions_of notes)
unfolding partitions_of
is_there notes n p h e = (In-filter_map partition_at (clear_notes notes) p).1 (n, h, e)

pub one_partition : (notes : List NoteParts) (p q : PartitionParts) → In p (partitions_of notes)
    → In q (partitions_of notes) → p.offset ≡ q.offset → p ≡ q
unfolding partitions_of
one_partition = one_kept partition_at (λ p. p.offset) offset-partition_at

pub partition_found : (notes : List NoteParts) (p : PartitionParts) → In p (partitions_of notes)
    → find (λ q. q.offset == p.offset) (partitions_of notes) ≡ Some p
unfolding partitions_of
partition_found = kept_found partition_at (λ p. p.offset) offset-partition_at

-- The partition at an offset is that of the clear note there.
pub there_by_note : (notes : List NoteParts) (o : ℕ) (found : Option NoteParts)
    → found ≡ find (λ n. n.offset == o) (clear_notes notes)
    → option_and_then partition_at found ≡ find (λ p. p.offset == o) (partitions_of notes)
unfolding partitions_of
there_by_note = kept_there partition_at (λ p. p.offset) offset-partition_at

-- Whether one stands there, and whether it is a footer.
stands_found : (ps : List PartitionParts) (o : ℕ) (p : PartitionParts)
    → find (λ p. p.offset == o) ps ≡ Some p → stands_at o ps ≡ true
stands_found ps o p e =
    let f = found-In (λ (p : PartitionParts). p.offset == o) ps p e in
    (list_any-In (λ (p : PartitionParts). p.offset == o) ps).1 (p, f.0, f.1)

stands_lacked : (ps : List PartitionParts) (o : ℕ) → find (λ p. p.offset == o) ps ≡ None → stands_at o ps ≡ false
stands_lacked ps o e = false_from_ne_true (stands_at o ps) (λ t.
    let s = (list_any-In (λ (p : PartitionParts). p.offset == o) ps).0 t in
    none_found (λ (p : PartitionParts). p.offset == o) ps s.0 e s.1 s.2)

pub stands_if_found : (ps : List PartitionParts) (o : ℕ) (found : Option PartitionParts)
    → found ≡ find (λ p. p.offset == o) ps → is_some found ≡ stands_at o ps
stands_if_found ps o None e = sym (stands_lacked ps o (sym e))
stands_if_found ps o (Some p) e = sym (stands_found ps o p (sym e))

-- ---- copies

-- A copy is that of a partition with header metadata.
pub record IsOfPartition (notes : List NoteParts) (c : CopyInfo) : Type 0 where
  pub partition : PartitionParts
  pub there : In partition (partitions_of notes)
  pub states : has_metadata partition ≡ true
  pub copy : c ≡ copy_of (clear_notes notes) partition
  pub offset : c.partition ≡ partition.offset

pub of_partition : (notes : List NoteParts) (c : CopyInfo) → In c (copies_of notes) → IsOfPartition notes c
unfolding copies_of
of_partition notes c h =
    let clear = clear_notes notes in
    let s = (In-map (copy_of clear) (filter has_metadata (partitions_of notes)) c).0 h in
    let there = (In-filter has_metadata (partitions_of notes) s.0).0 s.1 in
    record {
      partition = s.0;
      there = there.0;
      states = there.1;
      copy = s.2;
      offset = ap (λ (x : CopyInfo). x.partition) s.2 ∙ copy_there clear s.0;
    }

pub has_copy : (notes : List NoteParts) (p : PartitionParts) → In p (partitions_of notes) → has_metadata p ≡ true
    → In (copy_of (clear_notes notes) p) (copies_of notes)
unfolding copies_of
has_copy notes p h t =
    (In-map (copy_of (clear_notes notes)) (filter has_metadata (partitions_of notes)) (copy_of (clear_notes notes) p)).1
    (p, (In-filter has_metadata (partitions_of notes) p).1 (h, t), refl)

-- There is no copy where no partition stands, nor where one stands that states no header metadata.
pub copy_lacked : (notes : List NoteParts) (o : ℕ)
    → ((p : PartitionParts) → In p (partitions_of notes) → p.offset ≡ o → has_metadata p ≡ true → ⊥)
    → find (λ c. c.partition == o) (copies_of notes) ≡ None
copy_lacked notes o none = find-none (λ (c : CopyInfo). c.partition == o) (copies_of notes) (λ c h t.
    let a = of_partition notes c h in none a.partition a.there (sym a.offset ∙ eqb-true c.partition o t) a.states)

-- Else it is the copy of that partition.
pub copy_found : (notes : List NoteParts) (o : ℕ) (p : PartitionParts)
    → find (λ p. p.offset == o) (partitions_of notes) ≡ Some p → has_metadata p ≡ true
    → find (λ c. c.partition == o) (copies_of notes) ≡ Some (copy_of (clear_notes notes) p)
copy_found notes o p e t =
    let clear = clear_notes notes in
    let f = found-In (λ (p : PartitionParts). p.offset == o) (partitions_of notes) p e in
    let at : p.offset ≡ o = eqb-true p.offset o f.1 in
    find-only (λ (c : CopyInfo). c.partition == o) (copies_of notes) (copy_of clear p) (has_copy notes p f.0 t)
    (eq-eqb (copy_of clear p).partition o (copy_there clear p ∙ at)) (λ c h u.
    let a = of_partition notes c h in
    let same : a.partition ≡ p = one_partition notes a.partition p a.there f.0
    (sym a.offset ∙ eqb-true c.partition o u ∙ sym at) in a.copy ∙ ap (copy_of clear) same)

pub no_partition : (notes : List NoteParts) (o : ℕ) → find (λ p. p.offset == o) (partitions_of notes) ≡ None
    → find (λ c. c.partition == o) (copies_of notes) ≡ None
no_partition notes o e = copy_lacked notes o (λ p h at t.
    none_found (λ (p : PartitionParts). p.offset == o) (partitions_of notes) p e h (eq-eqb p.offset o at))

pub no_metadata : (notes : List NoteParts) (o : ℕ) (p : PartitionParts)
    → find (λ p. p.offset == o) (partitions_of notes) ≡ Some p → has_metadata p ≡ false
    → find (λ c. c.partition == o) (copies_of notes) ≡ None
no_metadata notes o p e f =
    let g = found-In (λ (p : PartitionParts). p.offset == o) (partitions_of notes) p e in
    copy_lacked notes o (λ q h at t.
    let same : q ≡ p = one_partition notes q p h g.0 (at ∙ sym (eqb-true p.offset o g.1)) in
    let u : has_metadata p ≡ true = sym (ap has_metadata same) ∙ t in cc (u, f))
