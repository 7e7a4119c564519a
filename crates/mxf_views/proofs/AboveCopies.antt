-- The copies of the header metadata, once notes are there that begin where the others end, or above.
use Rattle.mxf_views.proofs.Common.{◌≡◌, ℕ, ◌+◌, ◌-◌, ◌<◌, ◌≤◌, ◌⊎◌, true, false, cond, List, [], ◌∷◌, ◌++◌, Option}
use Rattle.mxf_views.proofs.Common.{Some, None, refl, sym, ap, subst, ◌∙◌, inl, inr, arith, get_or, length, eqb-true}
use Rattle.mxf_views.proofs.Common.{◌==◌, find, map, count_by, if◌then◌else◌, cons_option, filter_map, option_and_then}
use Rattle.mxf_views.proofs.Common.{◌^◌, false_from_ne_true, sum_by-append, NoteParts, end_of, In, lies_in, is_in_one}
use Rattle.mxf_views.proofs.Common.{union_of, clear_notes, In-clear_notes, AreApart-clear_notes, CopiesRise, IsStart}
use Rattle.mxf_views.proofs.Common.{copies_of, copy_from, copy_of, covered_of, has_metadata, is_preface_note}
use Rattle.mxf_views.proofs.Common.{prefaces_of, zone_of, copy_by, MeetAt, clear_from, counted_above, PartitionParts}
use Rattle.mxf_views.proofs.Common.{partition_at, partitions_of, sizes, length-filter_le, In-at, count_by-le-length}
use Rattle.mxf_views.proofs.Common.{or_itself, EndsBy, IsOfNone, IsStarting, IsUnionAt, range-le, IsContent, IsNote}
use Rattle.mxf_views.proofs.Common.{all-In, ltb-true, IsUnmet, SameOutside, slice_get, eqb-false, filter_map-append}
use Rattle.mxf_views.proofs.Common.{get_or_from_slice_get, slice_get_within}
use Rattle.mxf_views.specs.declared.copy.CopyInfo.{CopyInfo}
use Rattle.mxf_views.specs.Copies.{start_of}
use Rattle.mxf_views.proofs.CopyLaws.{copy_there}
use Rattle.mxf_views.proofs.CopyUpdates.{start_is_found, copies_by_notes, end-partition_at, or_of}
use Rattle.mxf_views.proofs.PartitionSearch.{has_copy, copy_found, is_there, of_note, of_partition, partition_found}
use Rattle.mxf_views.proofs.AboveLaws.{no_bytes, clear_in_both, clear_of_both, new_are_clear, union_is_content}
use Rattle.mxf_views.proofs.AboveLaws.{zone_from, zone_goes_on, zone_of_both}
use Rattle.mxf_views.specs.KeptAbove.{CountsFit, counted_on, is_of, with_counts}
use Rattle.mxf_views.specs.Spans.{size_of}
use Rattle.mxf_views.proofs.CopyChanges.{same_apart, start_kept, unmet_stays}
use Rattle.mxf_views.proofs.SpanCounts.{zone-count}
use Rattle.mxf_views.proofs.StartLaws.{start_is}
use Rattle.mxf_klv.proofs.RisingBy.{at_most_last, rises_at}
use Rattle.mxf_views.proofs.KeyedLists.{rise_by}

-- The last copy is that of the greatest partition.
pub last_copy : (cs : List CopyInfo) (last c : CopyInfo) → CopiesRise cs → slice_get cs (length cs - 1) ≡ Some last
    → In c cs → (last.partition == c.partition) ≡ false → c.partition < last.partition
last_copy cs last c r e h other =
    let k = length cs - 1 in
    let within = slice_get_within cs k last e in
    let up = at_most_last (λ (x : CopyInfo). x.partition) cs c k c
    ((rise_by (λ (x : CopyInfo). x.partition) cs).0 r) (omega (arith, within)) h in
    let there = ap (λ (x : CopyInfo). x.partition) (get_or_from_slice_get cs k last c e) in
    let unlike = eqb-false last.partition c.partition other in
    omega (arith, up, there, unlike)

pub last_held : (cs : List CopyInfo) (last : CopyInfo) → slice_get cs (length cs - 1) ≡ Some last → In last cs
last_held cs last e =
    let k = length cs - 1 in
    subst (λ (x : CopyInfo). In x cs) (get_or_from_slice_get cs k last last e)
    (In-at cs k last (slice_get_within cs k last e))

-- All before the last are of other partitions.
pub others_before : (cs : List CopyInfo) (last : CopyInfo) → CopiesRise cs → slice_get cs (length cs - 1) ≡ Some last
    → IsOfNone cs (length cs - 1) (Some last.partition)
others_before cs last r e k d from below =
    let at = length cs - 1 in
    let within = slice_get_within cs at last e in
    let up = rises_at (λ (x : CopyInfo). x.partition) cs k at d
    ((rise_by (λ (x : CopyInfo). x.partition) cs).0 r) below within in
    let there = ap (λ (x : CopyInfo). x.partition) (get_or_from_slice_get cs at last d e) in
    false_from_ne_true (last.partition == (get_or cs k d).partition)
    (λ t. let same = eqb-true last.partition (get_or cs k d).partition t in omega (arith, same, up, there))

-- Nothing is counted on in a zone that ends at the boundary or below.
pub stays_above : (notes : List NoteParts) (b : ℕ) (starting : Option ℕ) (c : CopyInfo) → EndsBy b c
    → is_of c.partition starting ≡ false → counted_above notes b starting c c.start ≡ c
stays_above notes b starting c ends other = grind (arith)

abbrev the_copy : PartitionParts → ℕ → ℕ → ℕ → CopyInfo
the_copy p s covered prefaces = record {
  partition = p.offset;
  start = Some s;
  bytes = p.pack.numbers.header_byte_count;
  covered = covered;
  finished = covered == p.pack.numbers.header_byte_count;
  prefaces = prefaces;
  status = p.pack.status;
}

module _ (b : ℕ) (own other : List NoteParts) (m : MeetAt b own other) where
  abbrev pub all : List NoteParts
  all = union_of own other

  is_content : IsContent all
  is_content = union_is_content b own other m

  -- What comes lies from the boundary on.
  merged_above : SameOutside b 18446744073709551615 own all
  merged_above = record {
    gone = λ n c. inl ((clear_in_both b own other m n).1 (inl c));
    come = λ n c. elim ((clear_in_both b own other m n).0 c) [
      | inl k ↦ inl k
      | inr k ↦ (
          let within = (all-In IsNote other n m.other_is.members k.held).within in
          inr (m.begins n k.held, omega (arith, within)))
    ];
    cut = λ n c. elim ((clear_in_both b own other m n).0 c) [
      | inl k ↦ inl (m.ends n k.held)
      | inr k ↦ inr (m.begins n k.held)
    ];
  }

  own_starts : (end s : ℕ) → IsStart own end s → s < b
  own_starts end s a =
      let e : end_of a.primer ≤ b = m.ends a.primer a.clear.held in
      let t : a.primer.offset ≡ s = a.there in omega (arith, e, t)

  own_end : (p : PartitionParts) → In p (partitions_of own) → p.end ≤ b
  own_end p h =
      let x = of_note own p h in
      let e : p.end ≡ end_of x.note = end-partition_at x.note p x.read in
      let l : end_of x.note ≤ b = m.ends x.note ((In-clear_notes x.note own).0 x.clear).held in omega (arith, e, l)

  -- A copy without a start, which can't get one.
  unstarted : (p : PartitionParts) → In p (partitions_of own) → start_of p.end (clear_notes own) ≡ None
      → (start_of b (clear_notes all) ≡ None) ⊎ ((d : CopyInfo) × In d (copies_of own) × (p.offset < d.partition))
      → IsUnmet b 18446744073709551615 own all p
  unstarted p there e (inl none) = IsUnmet.none_begins e (own_end p there) none
  unstarted p there e (inr d) =
      let q = of_partition own d.0 d.1 in
      let at : d.0.partition ≡ q.partition.offset =
      ap (λ (c : CopyInfo). c.partition) q.copy ∙ copy_there (clear_notes own) q.partition in
      IsUnmet.shut_off e q.partition q.there (omega (arith, d.2, at)) (own_end q.partition q.there)

  -- ---- what is counted

  covered_on : (s bytes : ℕ) → s ≤ b → covered_of s bytes (clear_notes all)
      ≡ covered_of s bytes (clear_notes own) + covered_of b (bytes - (b - s)) (clear_notes all)
  covered_on s bytes l = ap sizes (zone_of_both b own other m s bytes)
      ∙ sum_by-append size_of (zone_of s bytes (clear_notes own)) (zone_of s bytes (clear_notes other))
      ∙ ap (λ z. covered_of s bytes (clear_notes own) + sizes z)
      (zone_goes_on b own other m s bytes l ∙ sym (zone_from b own other m (bytes - (b - s))))

  prefaces_on : (s bytes : ℕ) → s ≤ b → prefaces_of s bytes (clear_notes all)
      ≡ prefaces_of s bytes (clear_notes own) + prefaces_of b (bytes - (b - s)) (clear_notes all)
  prefaces_on s bytes l = ap (count_by is_preface_note) (zone_of_both b own other m s bytes)
      ∙ sum_by-append (λ n. cond (is_preface_note n) 1 0) (zone_of s bytes (clear_notes own))
      (zone_of s bytes (clear_notes other))
      ∙ ap (λ z. prefaces_of s bytes (clear_notes own) + count_by is_preface_note z)
      (zone_goes_on b own other m s bytes l ∙ sym (zone_from b own other m (bytes - (b - s))))

  with_start : (p : PartitionParts) (s : ℕ) → s ≤ b
      → copy_from (clear_notes all) p (Some s) ≡ counted_on all b (copy_from (clear_notes own) p (Some s)) s
  with_start p s l =
      let bytes = p.pack.numbers.header_byte_count in
      let rest = bytes - (b - s) in
      let c = copy_from (clear_notes own) p (Some s) in
      let x = covered_of b rest (clear_notes all) in
      let y = prefaces_of b rest (clear_notes all) in
      let two : copy_from (clear_notes all) p (Some s) ≡ with_counts c x y =
      ap (λ k. the_copy p s k (prefaces_of s bytes (clear_notes all))) (covered_on s bytes l)
      ∙ ap (the_copy p s (covered_of s bytes (clear_notes own) + x)) (prefaces_on s bytes l) in
      elim (rest == 0) as (λ t. (rest == 0) ≡ t
      → copy_from (clear_notes all) p (Some s) ≡ cond t c (with_counts c x y)) [
        | true ↦ λ t. (
            let zone = zone_from b own other m rest ∙ no_bytes b own other m rest (eqb-true rest 0 t) in
            let no_x : c.covered + x ≡ c.covered = omega (arith, ap sizes zone) in
            let no_y : c.prefaces + y ≡ c.prefaces = omega (arith, ap (count_by is_preface_note) zone) in
            two ∙ ap (λ k. the_copy p s k (c.prefaces + y)) no_x ∙ ap (the_copy p s c.covered) no_y)
        | false ↦ λ t. two
      ] refl

  -- ---- all copies

  own_copy : (p : PartitionParts) (starting : Option ℕ) → In p (partitions_of own) → has_metadata p ≡ true
      → IsStarting all b (copies_of own) starting → copy_of (clear_notes all) p
      ≡ counted_above all b starting (copy_of (clear_notes own) p) (copy_of (clear_notes own) p).start
  unfolding copy_of
  own_copy p starting there states f =
      elim (start_of p.end (clear_notes own)) as (λ o. start_of p.end (clear_notes own) ≡ o
      → copy_of (clear_notes all) p
      ≡ counted_above all b starting (copy_from (clear_notes own) p o) (copy_from (clear_notes own) p o).start) [
        | Some s ↦ λ e. (
            let low : s < b = own_starts p.end s ((start_is own p.end s m.own_is.content).0 e) in
            let found = start_kept own all p.end b s m.own_is.content is_content
            (same_apart b 18446744073709551615 own all merged_above m.own_is.content is_content p.end b
            (inr (omega arith))) low e in
            ap (copy_from (clear_notes all) p) found ∙ with_start p s (omega (arith, low)))
        | None ↦ λ e. (
            let c = copy_from (clear_notes own) p None in
            let note = of_note own p there in
            let clear = (clear_in_both b own other m note.note).1 (inl ((In-clear_notes note.note own).0 note.clear)) in
            let stays = is_there all note.note p ((In-clear_notes note.note all).1 clear) note.read in
            elim (is_of p.offset starting) as (λ t. is_of p.offset starting ≡ t → copy_of (clear_notes all) p
            ≡ cond t (or_itself c (find (λ d. d.partition == p.offset) (copies_of all))) c) [
              | true ↦ λ t. sym (or_of c (copy_of (clear_notes all) p) (find (λ d. d.partition == p.offset)
                  (copies_of all)) (copy_found all p.offset p (partition_found all p stays) states))
              | false ↦ λ t. (
                  let at = copy_there (clear_notes own) p in
                  let k = f (copy_of (clear_notes own) p) (has_copy own p there states)
                  (ap (λ o. is_of o starting) at ∙ t) in
                  unmet_stays b 18446744073709551615 own all merged_above m.own_is.content is_content p there
                  (ltb-true 0 p.pack.numbers.header_byte_count states) (unstarted p there e (elim k [
                    | inl g ↦ inl g
                    | inr d ↦ inr (d.0, d.1, subst (λ o. o < d.0.partition) at d.2)
                  ])) ∙ ap (copy_from (clear_notes own) p) e)
            ] refl)
      ] refl

  counted_each : (starting : Option ℕ) → IsStarting all b (copies_of own) starting → (ns : List NoteParts)
      → ((n : NoteParts) → In n ns → In n (clear_notes own)) → filter_map (copy_by (clear_notes all)) ns
      ≡ map (λ c. counted_above all b starting c c.start) (filter_map (copy_by (clear_notes own)) ns)
  counted_each starting f [] held = refl
  counted_each starting f (n ∷ ns) held =
      let ih = counted_each starting f ns (λ x h. held x (inr h)) in
      let count = λ (c : CopyInfo). counted_above all b starting c c.start in
      elim (partition_at n) as (λ o. partition_at n ≡ o →
      cons_option (option_and_then (λ p. if has_metadata p then Some (copy_of (clear_notes all) p) else None) o)
      (filter_map (copy_by (clear_notes all)) ns) ≡ map count (cons_option
      (option_and_then (λ p. if has_metadata p then Some (copy_of (clear_notes own) p) else None) o)
      (filter_map (copy_by (clear_notes own)) ns))) [
        | None ↦ λ e. ih
        | Some p ↦ λ e. elim (has_metadata p) as (λ t. has_metadata p ≡ t →
            cons_option (if t then Some (copy_of (clear_notes all) p) else None)
            (filter_map (copy_by (clear_notes all)) ns)
            ≡ map count (cons_option (if t then Some (copy_of (clear_notes own) p) else None)
            (filter_map (copy_by (clear_notes own)) ns))) [
              | true ↦ λ t. (
                  let there = is_there own n p (held n (inl refl)) e in
                  let one = own_copy p starting there t f in λ i. one i ∷ ih i)
              | false ↦ λ t. ih
            ] refl
      ] refl

  pub copies_of_both : (starting : Option ℕ) → IsStarting all b (copies_of own) starting
      → map (λ c. counted_above all b starting c c.start) (copies_of own)
      ++ filter_map (copy_by (clear_notes all)) (clear_from b all) ≡ copies_of all
  copies_of_both starting f =
      let count = λ (c : CopyInfo). counted_above all b starting c c.start in
      let new = filter_map (copy_by (clear_notes all)) (clear_from b all) in
      ap (λ l. map count l ++ new) (sym (copies_by_notes own))
      ∙ ap (λ l. l ++ new) (sym (counted_each starting f (clear_notes own) (λ n h. h)))
      ∙ ap (λ l. filter_map (copy_by (clear_notes all)) (clear_notes own) ++ filter_map (copy_by (clear_notes all)) l)
      (new_are_clear b own other m)
      ∙ sym (filter_map-append (copy_by (clear_notes all)) (clear_notes own) (clear_notes other))
      ∙ ap (filter_map (copy_by (clear_notes all))) (sym (clear_of_both b own other m)) ∙ copies_by_notes all

  pub counts_fit : (c : CopyInfo) (s : ℕ) → length (clear_notes all) < 2 ^ 64 → In c (copies_of own)
      → c.start ≡ Some s → CountsFit all b c s
  unfolding copy_of
  counts_fit c s fits k e =
      let q = of_partition own c k in
      let p = q.partition in
      let bytes = p.pack.numbers.header_byte_count in
      let found : start_of p.end (clear_notes own) ≡ Some s =
      sym (start_is_found (clear_notes own) p) ∙ ap (λ (d : CopyInfo). d.start) (sym q.copy) ∙ e in
      let is : c ≡ copy_from (clear_notes own) p (Some s) = q.copy ∙ ap (copy_from (clear_notes own) p) found in
      let low = own_starts p.end s ((start_is own p.end s m.own_is.content).0 found) in
      let l : s ≤ b = omega (arith, low) in
      let zone = zone_of s bytes (clear_notes all) in
      let content = union_is_content b own other m in
      let covered = covered_on s bytes l in
      let counted = zone-count (clear_notes all) 0 s bytes (AreApart-clear_notes all content) in
      let most = range-le (is_in_one zone) s bytes in
      let prefaces = prefaces_on s bytes l in
      let some = count_by-le-length is_preface_note zone in
      let part = length-filter_le (lies_in s bytes) (clear_notes all) in
      subst (λ (d : CopyInfo). CountsFit all b d s) (sym is) (record {
        covered = omega (arith, covered, counted, most);
        prefaces = omega (arith, prefaces, some, part, fits);
      })

-- ---- the same of a content that is such a union

pub copies_at : (b : ℕ) (notes own : List NoteParts) (starting : Option ℕ) (cs : List CopyInfo)
    → IsUnionAt b notes own → cs ≡ copies_of own → IsStarting notes b cs starting
    → map (λ c. counted_above notes b starting c c.start) cs
    ++ filter_map (copy_by (clear_notes notes)) (clear_from b notes) ≡ copies_of notes
copies_at b notes own starting cs u same f =
    let g = subst (λ (ns : List NoteParts). IsStarting ns b (copies_of own) starting) u.union
    (subst (λ (l : List CopyInfo). IsStarting notes b l starting) same f) in
    ap (λ l. map (λ c. counted_above notes b starting c c.start) l
    ++ filter_map (copy_by (clear_notes notes)) (clear_from b notes)) same
    ∙ subst (λ (ns : List NoteParts). map (λ c. counted_above ns b starting c c.start) (copies_of own)
    ++ filter_map (copy_by (clear_notes ns)) (clear_from b ns) ≡ copies_of ns) (sym u.union)
    (copies_of_both b own u.other u.meet starting g)

pub fits_at : (b : ℕ) (notes own : List NoteParts) (cs : List CopyInfo) (c : CopyInfo) (s : ℕ) → IsUnionAt b notes own
    → cs ≡ copies_of own → length (clear_notes notes) < 2 ^ 64 → In c cs → c.start ≡ Some s → CountsFit notes b c s
fits_at b notes own cs c s u same fits h e = subst (λ (ns : List NoteParts). CountsFit ns b c s) (sym u.union)
    (counts_fit b own u.other u.meet c s (subst (λ (ns : List NoteParts). length
    (clear_notes ns) < 2 ^ 64) u.union fits) (subst (λ (l : List CopyInfo). In c l) same h) e)
