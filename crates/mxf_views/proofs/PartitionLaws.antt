-- The partitions, and how each names the one before it.
use Rattle.mxf_views.proofs.Common.{◌≡◌, ℕ, ◌<◌, Bool, true, false, List, Some, None, refl, sym, ap, subst, ◌∙◌, inl}
use Rattle.mxf_views.proofs.Common.{inr, arith, eqb-true, eq-eqb, ◌↔◌, ◌==◌, find, not, if◌then◌else◌, option_map}
use Rattle.mxf_views.proofs.Common.{NoteParts, end_of, kind_of, In, pack_at, PartitionPackParts, IsContent, clear_notes}
use Rattle.mxf_views.proofs.Common.{In-clear_notes, PartitionParts, AreInOrder, pack_of, partition_at, partitions_of}
use Rattle.mxf_views.proofs.Common.{link_of, link_at, list_any-In, found-In, find-only, In-filter_map, StandsAt}
use Rattle.mxf_views.proofs.Common.{IsGreatestBelow, IsLink, stands_at, stands_between, one_by_key, part_and_status}
use Rattle.mxf_views.proofs.Common.{previous_of}
use Rattle.mxf_views.specs.declared.chain.Link.TheVariants.{First, Held, Skips, Missing, Wrong}
use Rattle.mxf_views.specs.declared.chain.Link.{Link}
use Rattle.mxf_klv.proofs.Tests.{none_some}
use Rattle.mxf_views.specs.Partitions.{IsReadablePack, IsPartition, IsLinkAt}
use Rattle.mxf_views.proofs.KeptItems.{kept_rise}
use Rattle.mxf_views.proofs.ReadingLaws.{reads}
use Rattle.mxf_views.proofs.KeyedLists.{rise_by}

-- ---- which partitions there are

abbrev placed : NoteParts → PartitionPackParts → PartitionParts
placed n pack = record { offset = n.offset; end = end_of n; pack = pack }

pub readable_from : (n : NoteParts) (p : PartitionParts) → partition_at n ≡ Some p → IsReadablePack n p
unfolding partition_at
readable_from n p e =
    let read = pack_at (kind_of n.key) in
    elim (pack_of n) as (λ o. pack_of n ≡ o → option_map (placed n) o ≡ Some p → IsReadablePack n p) [
      | None ↦ λ _ q. absurd cc
      | Some pack ↦ λ r q.
          let same : placed n pack ≡ p = cc (q) in
          subst (IsReadablePack n) same record { read = (reads read n pack).0 r; offset = refl; end = refl }
    ] refl e

pub offset-partition_at : (n : NoteParts) (p : PartitionParts) → partition_at n ≡ Some p → p.offset ≡ n.offset
offset-partition_at n p e = (readable_from n p e).offset

readable_to : (n : NoteParts) (p : PartitionParts) → IsReadablePack n p → partition_at n ≡ Some p
unfolding partition_at
readable_to n p a = grind (arith, reads, placed)

-- A note whose kind isn't that of a partition pack is no partition.
pub no_pack : (n : NoteParts) → part_and_status (kind_of n.key) ≡ None → pack_of n ≡ None
no_pack n e = grind (arith)

pub not_partition : (n : NoteParts) (p : PartitionParts) → part_and_status (kind_of n.key) ≡ None
    → partition_at n ≡ Some p → ⊥
unfolding partition_at
not_partition n p e q = none_some _ p (ap (option_map (placed n)) (no_pack n e)) q

-- The partitions are those of the clear readable partition packs.
pub partitions_are : (notes : List NoteParts) (p : PartitionParts) → In p (partitions_of notes) ↔ IsPartition notes p
unfolding partitions_of
partitions_are notes p =
    let m = In-filter_map partition_at (clear_notes notes) p in (
      λ h. let s = m.0 h in let c = (In-clear_notes s.0 notes).0 s.1 in
          (s.0, c, readable_from s.0 p s.2),
      λ s. m.1 (s.0, (In-clear_notes s.0 notes).1 s.1, readable_to s.0 p s.2),
    )

-- They rise.
pub partitions_rise : (notes : List NoteParts) → IsContent notes → AreInOrder (partitions_of notes)
unfolding partitions_of
partitions_rise notes r = (rise_by (λ (p : PartitionParts). p.offset) _).1
    (kept_rise partition_at (λ p. p.offset) offset-partition_at notes r)

-- At one offset one partition stands at most.
pub one_there : (ps : List PartitionParts) (p q : PartitionParts) → AreInOrder ps → In p ps → In q ps
    → p.offset ≡ q.offset → p ≡ q
one_there ps p q r = one_by_key (λ z. z.offset) ps p q ((rise_by (λ (p : PartitionParts). p.offset) ps).0 r)

-- ---- links

abbrev link_by : Bool → Bool → Bool → Bool → Bool → Link
link_by zero first wrong there between = if zero then (if first then First else Wrong) else
    (if wrong then Wrong else (if not there then Missing else (if between then Skips else Held)))

there_is : (ps : List PartitionParts) (o : ℕ) → StandsAt ps o → stands_at o ps ≡ true
there_is ps o s = (list_any-In (λ q. q.offset == o) ps).1 (s.0, s.1, eq-eqb s.0.offset o s.2)

there_says : (ps : List PartitionParts) (o : ℕ) → stands_at o ps ≡ true → StandsAt ps o
there_says ps o t = let s = (list_any-In (λ q. q.offset == o) ps).0 t in (s.0, s.1, eqb-true s.0.offset o s.2)

between_says : (ps : List PartitionParts) (low high : ℕ) → stands_between low high ps ≡ true
    → IsGreatestBelow ps high low → ⊥
between_says ps low high t g = grind (arith, list_any-In)

none_between : (ps : List PartitionParts) (low high : ℕ) → StandsAt ps low → low < high
    → stands_between low high ps ≡ false → IsGreatestBelow ps high low
none_between ps low high s l f = grind (arith, list_any-In)

-- What is computed is the link.
pub link_is : (ps : List PartitionParts) (p : PartitionParts) → IsLink ps p (link_of ps p)
link_is ps p = grind (arith, stands_at, there_is, there_says, between_says, none_between)

-- A partition has one link.
pub one_link : (ps : List PartitionParts) (p : PartitionParts) (a b : Link) → IsLink ps p a → IsLink ps p b → a ≡ b
one_link ps p First First x y = refl
one_link ps p First Held x y = let z = x.0 in let w : previous_of p < p.offset = y.below in absurd (omega arith)
one_link ps p First Skips x y = let z = x.0 in let w = y.0 in absurd (omega arith)
one_link ps p First Missing x y = let z = x.0 in let w = y.0 in absurd (omega arith)
one_link ps p First Wrong x (inl y) = absurd (y.1 x.1)
one_link ps p First Wrong x (inr y) = absurd (y.0 x.0)
one_link ps p Held Held x y = refl
one_link ps p Held Skips x y = absurd (y.2 x)
one_link ps p Held Missing x y = absurd (y.1 x.there)
one_link ps p Held Wrong x (inl y) = let z = y.0 in let w : previous_of p < p.offset = x.below in absurd (omega arith)
one_link ps p Held Wrong x (inr y) = let z = y.1 in let w : previous_of p < p.offset = x.below in absurd (omega arith)
one_link ps p Skips Skips x y = refl
one_link ps p Skips Missing x y = absurd (y.1 x.1)
one_link ps p Skips Wrong x (inl y) = let z = y.0 in let w = x.0 in absurd (omega arith)
one_link ps p Skips Wrong x (inr y) = let z = y.1 in let w = x.0 in absurd (omega arith)
one_link ps p Missing Missing x y = refl
one_link ps p Missing Wrong x (inl y) = let z = y.0 in let w = x.0 in absurd (omega arith)
one_link ps p Missing Wrong x (inr y) = let z = y.1 in let w = x.0 in absurd (omega arith)
one_link ps p Wrong Wrong x y = refl
one_link ps p Held First x y = let z = y.0 in let w : previous_of p < p.offset = x.below in absurd (omega arith)
one_link ps p Skips First x y = let z = y.0 in let w = x.0 in absurd (omega arith)
one_link ps p Skips Held x y = absurd (x.2 y)
one_link ps p Missing First x y = let z = y.0 in let w = x.0 in absurd (omega arith)
one_link ps p Missing Held x y = absurd (x.1 y.there)
one_link ps p Missing Skips x y = absurd (x.1 y.1)
one_link ps p Wrong First (inl x) y = absurd (x.1 y.1)
one_link ps p Wrong First (inr x) y = absurd (x.0 y.0)
one_link ps p Wrong Held (inl x) y = let z = x.0 in let w : previous_of p < p.offset = y.below in absurd (omega arith)
one_link ps p Wrong Held (inr x) y = let z = x.1 in let w : previous_of p < p.offset = y.below in absurd (omega arith)
one_link ps p Wrong Skips (inl x) y = let z = x.0 in let w = y.0 in absurd (omega arith)
one_link ps p Wrong Skips (inr x) y = let z = x.1 in let w = y.0 in absurd (omega arith)
one_link ps p Wrong Missing (inl x) y = let z = x.0 in let w = y.0 in absurd (omega arith)
one_link ps p Wrong Missing (inr x) y = let z = x.1 in let w = y.0 in absurd (omega arith)

pub link_iff : (ps : List PartitionParts) (p : PartitionParts) (l : Link) → (link_of ps p ≡ l) ↔ IsLink ps p l
link_iff ps p l = (λ e. subst (IsLink ps p) e (link_is ps p), λ i. one_link ps p (link_of ps p) l (link_is ps p) i)

-- The link at an offset is that of the partition that stands there.
pub link_at_iff : (ps : List PartitionParts) (offset : ℕ) (l : Link) → AreInOrder ps
    → (link_at offset ps ≡ Some l) ↔ IsLinkAt ps offset l
link_at_iff ps offset l r = (
  λ e. elim (find (λ p. p.offset == offset) ps) as (λ o. find (λ p. p.offset == offset) ps ≡ o
      → option_map (link_of ps) o ≡ Some l → IsLinkAt ps offset l) [
        | None ↦ λ _ q. absurd cc
        | Some p ↦ λ f q.
            let s = found-In (λ p. p.offset == offset) ps p f in
            let same : link_of ps p ≡ l = cc (q) in
            (p, s.0, eqb-true p.offset offset s.1, (link_iff ps p l).0 same)
      ] refl e,
  λ s.
      let f = find-only (λ p. p.offset == offset) ps s.0 s.1 (eq-eqb s.0.offset offset s.2)
      (λ q h t. one_there ps q s.0 r h s.1 (eqb-true q.offset offset t ∙ sym s.2)) in
      ap (option_map (link_of ps)) f ∙ ap (λ (x : Link). Some x) ((link_iff ps s.0 l).1 s.3),
)
