-- Whether the partitions hang together.
use Rattle.mxf_views.proofs.Common.{◌≡◌, ◌<◌, ◌≤◌, Bool, true, false, List, [], ◌∷◌, refl, sym, ap, subst, ◌∙◌, inl}
use Rattle.mxf_views.proofs.Common.{inr, arith, eqb-true, eq-eqb, ◌↔◌, ◌&&◌, ◌||◌, ◌==◌, not, if◌then◌else◌, is_some}
use Rattle.mxf_views.proofs.Common.{count_by, list_all, and_from, false_from_ne_true, and_parts, NoteParts, kind_of, In}
use Rattle.mxf_views.proofs.Common.{part_and_status, IsContent, IsClear, clear_notes, In-clear_notes, PartitionParts}
use Rattle.mxf_views.proofs.Common.{AreInOrder, chain_of, is_footer, is_greatest, is_header, is_linked}
use Rattle.mxf_views.proofs.Common.{is_no_unreadable_pack, link_of, partition_at, partitions_of, count_by-cons, tally}
use Rattle.mxf_views.proofs.Common.{list_any-In, In-filter_map, all-In, In-list_all, not-true-false, clear-alone}
use Rattle.mxf_views.proofs.Common.{IsPartitionKind, StandsAt, IsLink, HangTogether, count-none, list_all-In, kind_says}
use Rattle.mxf_views.proofs.Common.{kind_tells, some_is}
use Rattle.mxf_sets.specs.declared.pack.part.PackPart.{PackPart}
use Rattle.mxf_views.specs.declared.chain.Link.TheVariants.{First, Held}
use Rattle.mxf_views.specs.declared.chain.Chain.TheVariants.{Whole}
use Rattle.mxf_views.specs.declared.chain.Link.{Link}
use Rattle.mxf_sets.specs.declared.pack.part.PackPart.TheVariants.{Header, Footer}
use Rattle.mxf_views.specs.Partitions.{IsOnly, is_first, is_held, hang_together}
use Rattle.mxf_views.proofs.PartitionLaws.{link_iff, offset-partition_at, partitions_rise}
use Rattle.mxf_klv.proofs.Counts.{count-one}

header_says : (part : PackPart) → is_header part ≡ true → part ≡ Header
header_says Header h = refl
header_says _ h = absurd cc

pub footer_says : (part : PackPart) → is_footer part ≡ true → part ≡ Footer
footer_says Footer h = refl
footer_says _ h = absurd cc

first_says : (l : Link) → is_first l ≡ true → l ≡ First
first_says First h = refl
first_says _ h = absurd cc

held_says : (l : Link) → is_held l ≡ true → l ≡ Held
held_says Held h = refl
held_says _ h = absurd cc

-- where only one passes, one is counted
one-count : (p : PartitionParts → Bool) (ps : List PartitionParts) (x : PartitionParts) → AreInOrder ps → In x ps
    → p x ≡ true → ((y : PartitionParts) → In y ps → p y ≡ true → y ≡ x) → count_by p ps ≡ 1
one-count p [] x r h t only = absurd h
one-count p (y ∷ ps) x r h t only =
    let c = count_by-cons p y ps in
    elim (p y) as (λ b. p y ≡ b → count_by p (y ∷ ps) ≡ 1) [
      | true ↦ λ u.
          let same : y ≡ x = only y (inl refl) u in
          let one : tally (p y) ≡ 1 = ap tally u in
          let none : count_by p ps ≡ 0 = count-none p ps (λ z k v.
          let l : y.offset < z.offset = all-In (λ q. y.offset < q.offset) ps z r.0 k in
          let e = ap (λ (q : PartitionParts). q.offset) (only z (inr k) v ∙ sym same) in
          omega (arith, l, e)) in
          omega (arith, c, one, none)
      | false ↦ λ u.
          let zero : tally (p y) ≡ 0 = ap tally u in
          let k : In x ps = elim h [ inl e ↦ absurd (let f = ap p e in cc (f, t, u)) | inr k ↦ k ] in
          let ih : count_by p ps ≡ 1 = one-count p ps x r.1 k t (λ z m v. only z (inr m) v) in
          omega (arith, c, zero, ih)
    ] refl

greatest_says : (ps : List PartitionParts) (p : PartitionParts) → is_greatest ps p ≡ true → (q : PartitionParts)
    → In q ps → q.offset ≤ p.offset
greatest_says ps p g q h = grind (arith, not-true-false, list_any-In)

greatest_is : (ps : List PartitionParts) (p : PartitionParts) → ((q : PartitionParts) → In q ps → q.offset ≤ p.offset)
    → is_greatest ps p ≡ true
greatest_is ps p f = grind (arith, list_any-In)

abbrev linked_by : Bool → Link → Bool
linked_by header l = if header then is_first l else is_held l

first_link : (ps : List PartitionParts) (p : PartitionParts) → is_header p.pack.part ≡ true → is_linked ps p ≡ true
    → IsLink ps p First
first_link ps p h t = grind (arith, is_first, link_of, link_iff, first_says)

held_link : (ps : List PartitionParts) (p : PartitionParts) → is_header p.pack.part ≡ false → is_linked ps p ≡ true
    → IsLink ps p Held
held_link ps p h t =
    let u : is_held (link_of ps p) ≡ true = ap (λ (b : Bool). linked_by b (link_of ps p)) (sym h) ∙ t in
    (link_iff ps p Held).0 (held_says (link_of ps p) u)

linked_first : (ps : List PartitionParts) (p : PartitionParts) → is_header p.pack.part ≡ true → IsLink ps p First
    → is_linked ps p ≡ true
linked_first ps p h i = ap (λ (b : Bool). linked_by b (link_of ps p)) h ∙ ap is_first ((link_iff ps p First).1 i)

linked_held : (ps : List PartitionParts) (p : PartitionParts) → is_header p.pack.part ≡ false → IsLink ps p Held
    → is_linked ps p ≡ true
linked_held ps p h i = ap (λ (b : Bool). linked_by b (link_of ps p)) h ∙ ap is_held ((link_iff ps p Held).1 i)

only_from : (ps : List PartitionParts) (is : PackPart → Bool) (part : PackPart)
    → ((x : PackPart) → is x ≡ true → x ≡ part) → is part ≡ true
    → count_by (λ p. is p.pack.part) ps ≡ 1 → (p : PartitionParts) × IsOnly ps part p
only_from ps is part says own e = grind (arith, count-one)

from_only : (ps : List PartitionParts) (is : PackPart → Bool) (part : PackPart) (p : PartitionParts)
    → ((x : PackPart) → is x ≡ true → x ≡ part) → is part ≡ true
    → AreInOrder ps → IsOnly ps part p → count_by (λ p. is p.pack.part) ps ≡ 1
from_only ps is part p says own r o = one-count (λ p. is p.pack.part) ps p r o.held (ap is o.part
    ∙ own) (λ q h t. o.only q h (says q.pack.part t))

-- ---- packs that are readable

abbrev readable_by : Bool → Bool → Bool
readable_by pack read = not pack || read

stands_there : (notes : List NoteParts) (n : NoteParts) → IsClear n notes → IsPartitionKind (kind_of n.key)
    → is_no_unreadable_pack n ≡ true → StandsAt (partitions_of notes) n.offset
unfolding is_no_unreadable_pack partitions_of
stands_there notes n c k t =
    let u : is_some (partition_at n) ≡ true = ap (λ (b : Bool). readable_by b (is_some (partition_at n)))
    (sym (kind_tells (kind_of n.key) k)) ∙ t in
    let s = some_is (partition_at n) u in (
      s.0,
      (In-filter_map partition_at (clear_notes notes) s.0).1 (n, (In-clear_notes n notes).1 c, s.1),
      offset-partition_at n s.0 s.1,
    )

at_partition : (notes : List NoteParts) (n : NoteParts) → IsClear n notes → StandsAt (partitions_of notes) n.offset
    → is_some (partition_at n) ≡ true
unfolding partitions_of
at_partition notes n c s =
    let m = (In-filter_map partition_at (clear_notes notes) s.0).0 s.1 in
    let o : s.0.offset ≡ m.0.offset = offset-partition_at m.0 s.0 m.2 in
    let same : n ≡ m.0 = clear-alone n m.0 notes c ((In-clear_notes m.0 notes).0 m.1).held (sym s.2 ∙ o) in
    ap (λ (x : NoteParts). is_some (partition_at x)) same ∙ ap is_some m.2

no_unreadable : (notes : List NoteParts) (n : NoteParts) → IsClear n notes
    → (IsPartitionKind (kind_of n.key) → StandsAt (partitions_of notes) n.offset) → is_no_unreadable_pack n ≡ true
unfolding is_no_unreadable_pack
no_unreadable notes n c f =
    elim (is_some (part_and_status (kind_of n.key))) as (λ b. is_some (part_and_status (kind_of n.key)) ≡ b
    → readable_by b (is_some (partition_at n)) ≡ true) [
      | true ↦ λ e. at_partition notes n c (f (kind_says (kind_of n.key) e))
      | false ↦ λ e. refl
    ] refl

-- ---- the chain

header_is : (ps : List PartitionParts) (h p : PartitionParts) → IsOnly ps Header h → In p ps
    → is_header p.pack.part ≡ true → p ≡ h
header_is ps h p o k t = o.only p k (header_says p.pack.part t)

whole_says : (notes : List NoteParts) → hang_together notes ≡ true → HangTogether notes
whole_says notes w =
    let ps = partitions_of notes in
    let headers = count_by (λ p. is_header p.pack.part) ps in
    let footers = count_by (λ p. is_footer p.pack.part) ps in
    let linked = list_all (is_linked ps) ps in
    let ends = list_all (λ p. not (is_footer p.pack.part) || is_greatest ps p) ps in
    let readable = list_all is_no_unreadable_pack (clear_notes notes) in
    let w4 = and_parts ((headers == 1) && (footers == 1) && linked && ends) readable w in
    let w3 = and_parts ((headers == 1) && (footers == 1) && linked) ends w4.0 in
    let w2 = and_parts ((headers == 1) && (footers == 1)) linked w3.0 in
    let w1 = and_parts (headers == 1) (footers == 1) w2.0 in
    let h = only_from ps is_header Header header_says refl (eqb-true headers 1 w1.0) in
    let f = only_from ps is_footer Footer footer_says refl (eqb-true footers 1 w1.1) in
    let first = first_link ps h.0 (ap is_header h.1.part) (list_all-In (is_linked ps) ps h.0 w2.1 h.1.held) in
    let g : is_greatest ps f.0 ≡ true = ap (λ (x : PackPart). not (is_footer x) || is_greatest ps f.0) (sym f.1.part)
    ∙ list_all-In (λ p. not (is_footer p.pack.part) || is_greatest ps p) ps f.0 w3.1 f.1.held in
    record {
      header = h.0;
      one_header = h.1;
      front = first.0;
      first = first;
      footer = f.0;
      one_footer = f.1;
      greatest = greatest_says ps f.0 g;
      held = λ p k ne. held_link ps p (false_from_ne_true (is_header p.pack.part) (λ t. ne
          (header_is ps h.0 p h.1 k t))) (list_all-In (is_linked ps) ps p w2.1 k);
      readable = λ n k kind. stands_there notes n k kind
          (list_all-In is_no_unreadable_pack (clear_notes notes) n w4.1 ((In-clear_notes n notes).1 k));
    }

hang_together_from : (notes : List NoteParts) → IsContent notes → HangTogether notes → hang_together notes ≡ true
hang_together_from notes r w =
    let ps = partitions_of notes in
    let rise = partitions_rise notes r in
    let headers = count_by (λ p. is_header p.pack.part) ps in
    let footers = count_by (λ p. is_footer p.pack.part) ps in
    let linked = list_all (is_linked ps) ps in
    let ends = list_all (λ p. not (is_footer p.pack.part) || is_greatest ps p) ps in
    let readable = list_all is_no_unreadable_pack (clear_notes notes) in
    let a = eq-eqb headers 1 (from_only ps is_header Header w.header header_says refl rise w.one_header) in
    let b = eq-eqb footers 1 (from_only ps is_footer Footer w.footer footer_says refl rise w.one_footer) in
    let c : linked ≡ true = In-list_all (is_linked ps) ps (λ p h.
    elim (is_header p.pack.part) as (λ t. is_header p.pack.part ≡ t → is_linked ps p ≡ true) [
      | true ↦ λ t. linked_first ps p t
          (subst (λ (x : PartitionParts). IsLink ps x First) (sym (header_is ps w.header p w.one_header h t)) w.first)
      | false ↦ λ t. linked_held ps p t (w.held p h (λ e. let k = ap (λ (x : PartitionParts). is_header x.pack.part) e
          ∙ ap is_header w.one_header.part in cc (k, t)))
    ] refl) in
    let d : ends ≡ true = In-list_all (λ p. not (is_footer p.pack.part) || is_greatest ps p) ps (λ p h.
    elim (is_footer p.pack.part) as (λ t. is_footer p.pack.part ≡ t → (not t || is_greatest ps p) ≡ true) [
      | true ↦ λ t. (
          let same = w.one_footer.only p h (footer_says p.pack.part t) in
          greatest_is ps p (subst (λ (x : PartitionParts). (q : PartitionParts) → In q ps
          → q.offset ≤ x.offset) (sym same) w.greatest)
          )
      | false ↦ λ t. refl
    ] refl) in
    let e : readable ≡ true = In-list_all is_no_unreadable_pack (clear_notes notes)
    (λ n h. let k = (In-clear_notes n notes).0 h in no_unreadable notes n k (w.readable n k)) in
    and_from ((headers == 1) && (footers == 1) && linked && ends) readable
    (and_from ((headers == 1) && (footers == 1) && linked) ends
    (and_from ((headers == 1) && (footers == 1)) linked (and_from (headers == 1) (footers == 1) a b) c) d) e

-- The chain is whole exactly where the partitions hang together.
pub chain_iff : (notes : List NoteParts) → IsContent notes → (chain_of notes ≡ Whole) ↔ HangTogether notes
chain_iff notes r = grind (arith, whole_says, hang_together_from)
