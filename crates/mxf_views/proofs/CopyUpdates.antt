-- The copies of the header metadata once a note was added: those elsewhere are counted anew where they may have
-- changed.
use Rattle.mxf_views.proofs.Common.{◌+◌, count_by, count_by-cons, tally, copies_among, kept_partition, option_map}
use Rattle.mxf_views.proofs.Common.{SharesByte, kept_at, outside, ◌≡◌, ℕ, length, ◌-◌, ◌<◌, ◌≤◌, ◌⊎◌, Bool, true, false}
use Rattle.mxf_views.proofs.Common.{cond, List, [], ◌∷◌, Option, Some, None, refl, sym, ap, subst, ◌∙◌, inl, inr, arith}
use Rattle.mxf_views.proofs.Common.{eqb-true, ◌||◌, ◌==◌, nat_lt, find, filter, map, if◌then◌else◌, cons_option}
use Rattle.mxf_views.proofs.Common.{filter_map, option_and_then, ltb-true, and_parts, NoteParts, kind_of, end_of, In}
use Rattle.mxf_views.proofs.Common.{IsContent, reduced_with, IsClear, clear_notes, In-clear_notes, CopiesRise}
use Rattle.mxf_views.proofs.Common.{copies_of, copy_of, has_metadata, is_fill, is_fill_note, is_primer}
use Rattle.mxf_views.proofs.Common.{is_readable_primer, IsHull, copies_followed, copy_by, has_some_metadata}
use Rattle.mxf_views.proofs.Common.{states_metadata, is_outside, renewed, PartitionParts, partition_at, partitions_of}
use Rattle.mxf_views.proofs.Common.{found-In, and_cases, IsContent-reduced_with, can_bring_start, or_itself, with_found}
use Rattle.mxf_views.proofs.Common.{rises-map, rises-filter, IsNew, clear_after, IsUnmet, SameOutside, in_numbers}
use Rattle.mxf_views.specs.declared.copy.CopyInfo.{CopyInfo}
use Rattle.std.proofs.Common.{ltb-false}
use Rattle.mxf_views.specs.Copies.{start_of}
use Rattle.mxf_views.proofs.KeptItems.{kept_there, renewed_follow}
use Rattle.mxf_views.proofs.PartitionLaws.{offset-partition_at, readable_from}
use Rattle.mxf_views.specs.Kept.{may_change}
use Rattle.mxf_views.proofs.ClearChanges.{lies_outside}
use Rattle.mxf_views.proofs.CopyChanges.{unmet_stays}
use Rattle.mxf_views.specs.Changes.{LiesWithin}
use Rattle.mxf_views.proofs.CopyLaws.{copy_there}
use Rattle.mxf_views.proofs.PartitionSearch.{copy_found, is_there, of_note, partition_found}
use Rattle.mxf_views.proofs.KeyedLists.{rise_by}
use Rattle.mxf_catalogue.specs.Disputes.{is_byte_shared}
use Rattle.mxf_catalogue.proofs.DisputeLaws.{is_byte_shared-SharesByte}

-- ---- what a copy says of its partition

pub start_is_found : (notes : List NoteParts) (p : PartitionParts) → (copy_of notes p).start ≡ start_of p.end notes
unfolding copy_of
start_is_found notes p = grind (arith)

bytes_are_stated : (notes : List NoteParts) (p : PartitionParts)
    → (copy_of notes p).bytes ≡ p.pack.numbers.header_byte_count
unfolding copy_of
bytes_are_stated notes p = grind (arith)

pub end-partition_at : (n : NoteParts) (p : PartitionParts) → partition_at n ≡ Some p → p.end ≡ end_of n
end-partition_at n p e = (readable_from n p e).end

-- ---- a copy that stays

-- What an addition changes lies in the hull of what comes and goes.
added_in_hull : (x : NoteParts) (notes : List NoteParts) (start end : ℕ) → IsNew x notes → IsHull x notes start end
    → SameOutside start end notes (reduced_with x notes)
added_in_hull x notes start end new h = record {
  gone = λ n c. elim (is_byte_shared x n) as (λ b. is_byte_shared x n ≡ b
      → IsClear n (reduced_with x notes) ⊎ LiesWithin start end n) [
        | true ↦ λ e. inr (h.all n c ((is_byte_shared-SharesByte x n).0 e))
        | false ↦ λ e. inl ((clear_after x notes new n).1 (inr (
          c,
          λ t.
              let yes = (is_byte_shared-SharesByte x n).1 t in cc (yes, e),
        )))
      ] refl;
  come = λ n c. elim ((clear_after x notes new n).0 c) [
    | inl p ↦ inr (subst (LiesWithin start end) (sym p.0) (h.low, h.high))
    | inr q ↦ inl q.0
  ];
  cut = λ n c. elim ((clear_after x notes new n).0 c) [
    | inl p ↦ inr (subst (λ (y : NoteParts). start ≤ y.offset) (sym p.0) h.low)
    | inr q ↦ elim (lies_outside x n notes start end h q.0 q.1) [
      | inl l ↦ inl l
      | inr l ↦ (let low = h.low in let high = h.high in inr (omega (arith, l, low, high)))
    ]
  ];
}

brings_by_fill : (x : NoteParts) → is_fill_note x ≡ true → can_bring_start x ≡ true
unfolding can_bring_start is_fill_note
brings_by_fill x e = rw e refl

brings_by_primer : (x : NoteParts) → is_readable_primer x ≡ true → can_bring_start x ≡ true
unfolding can_bring_start is_readable_primer
brings_by_primer x e =
    let k : is_primer (kind_of x.key) ≡ true = (and_parts _ _ e).0 in
    elim (is_fill (kind_of x.key)) as (λ b. (b || is_primer (kind_of x.key)) ≡ true) [ true ↦ refl | false ↦ k ]

-- So a copy of which the test says that it can't change isn't met.
unmet : (x : NoteParts) (notes : List NoteParts) (start end : ℕ) (p : PartitionParts) (c : CopyInfo) → IsNew x notes
    → In p (partitions_of notes) → c ≡ copy_of (clear_notes notes) p → 0 < p.pack.numbers.header_byte_count
    → may_change start end (can_bring_start x) c c.start ≡ false → IsUnmet start end notes (reduced_with x notes) p
unmet x notes start end p c new there copy some e =
    let n = of_note notes p there in
    let at : c.partition ≡ p.offset = ap (λ (y : CopyInfo). y.partition) copy ∙ copy_there (clear_notes notes) p in
    let bytes : c.bytes ≡ p.pack.numbers.header_byte_count =
    ap (λ (y : CopyInfo). y.bytes) copy ∙ bytes_are_stated (clear_notes notes) p in
    let found : c.start ≡ start_of p.end (clear_notes notes) =
    ap (λ (y : CopyInfo). y.start) copy ∙ start_is_found (clear_notes notes) p in
    elim (c.start) as (λ o. c.start ≡ o → may_change start end (can_bring_start x) c o ≡ false
    → IsUnmet start end notes (reduced_with x notes) p) [
      | None ↦ λ s f. IsUnmet.none_comes (sym found ∙ s) (λ m after k. elim ((clear_after x notes new m).0 after) [
        | inr q ↦ q.0
        | inl q ↦ (
            let brings : can_bring_start x ≡ true = elim k [
              | inl t ↦ brings_by_fill x (ap is_fill_note (sym q.0) ∙ t)
              | inr t ↦ brings_by_primer x (ap is_readable_primer (sym q.0) ∙ t)
            ] in absurd cc (brings, f))
      ])
      | Some zone ↦ λ s f. elim (and_cases (nat_lt c.partition end) (nat_lt (start - zone) c.bytes) f) [
        | inl g ↦ IsUnmet.behind (omega (
          arith,
          ltb-false c.partition end g,
          at,
          n.offset,
          end-partition_at n.note p n.read,
        ))
        | inr g ↦ IsUnmet.ended zone (sym found ∙ s) (omega (arith, ltb-false (start - zone) c.bytes g, bytes, some))
      ]
    ] refl e

-- ---- all copies outside

pub or_of : (c d : CopyInfo) (o : Option CopyInfo) → o ≡ Some d → or_itself c o ≡ d
or_of c d o e = ap (or_itself c) e

-- What a copy outside becomes is the copy of its partition, which is still there.
becomes : (x : NoteParts) (notes : List NoteParts) (start end : ℕ) (n : NoteParts) (p : PartitionParts)
    → IsContent notes → IsNew x notes → IsHull x notes start end → IsClear n notes → (SharesByte x n → ⊥)
    → partition_at n ≡ Some p → has_metadata p ≡ true → copy_of (clear_notes (reduced_with x notes)) p
    ≡ renewed (reduced_with x notes) start end (can_bring_start x) (copy_of (clear_notes notes) p)
becomes x notes start end n p r new h clear far read states =
    let after = reduced_with x notes in
    let brings = can_bring_start x in
    let c = copy_of (clear_notes notes) p in
    let here = is_there notes n p ((In-clear_notes n notes).1 clear) read in
    let stays : IsClear n after = (clear_after x notes new n).1 (inr (clear, far)) in
    let there : In p (partitions_of after) = is_there after n p ((In-clear_notes n after).1 stays) read in
    let some : 0 < p.pack.numbers.header_byte_count = ltb-true 0 p.pack.numbers.header_byte_count states in
    let found = copy_found after p.offset p (partition_found after p there) states in
    let again : or_itself c (find (λ d. d.partition == c.partition) (copies_of after)) ≡ copy_of (clear_notes after) p =
    ap (λ o. or_itself c (find (λ d. d.partition == o) (copies_of after))) (copy_there (clear_notes notes) p)
    ∙ or_of c (copy_of (clear_notes after) p) (find (λ d. d.partition == p.offset) (copies_of after)) found in
    elim (may_change start end brings c c.start) as (λ b. may_change start end brings c c.start ≡ b
    → copy_of (clear_notes after) p
    ≡ cond b (or_itself c (find (λ d. d.partition == c.partition) (copies_of after))) c) [
      | true ↦ λ e. sym again
      | false ↦ λ e. unmet_stays start end notes after (added_in_hull x notes start end new h) r
          (IsContent-reduced_with x notes r) p here some (unmet x notes start end p c new here refl some e)
    ] refl

-- ---- lists of copies that rise

-- Counting a copy anew leaves it that of its partition.
renewed_partition : (notes : List NoteParts) (start end : ℕ) (brings : Bool) (c : CopyInfo)
    → (renewed notes start end brings c).partition ≡ c.partition
renewed_partition notes start end brings c = elim (may_change start end brings c c.start) as (λ b.
    (cond b (or_itself c (find (λ d. d.partition == c.partition) (copies_of notes))) c).partition ≡ c.partition) [
      | false ↦ refl
      | true ↦ elim (find (λ d. d.partition == c.partition) (copies_of notes)) as (λ o.
          find (λ d. d.partition == c.partition) (copies_of notes) ≡ o → (or_itself c o).partition ≡ c.partition) [
            | None ↦ λ e. refl
            | Some d ↦ λ e. eqb-true d.partition c.partition
                (found-In (λ (d : CopyInfo). d.partition == c.partition) (copies_of notes) d e).1
          ] refl
    ]

pub kept_copies_rise : (notes : List NoteParts) (start end : ℕ) (brings : Bool) (cs : List CopyInfo) → CopiesRise cs
    → CopiesRise (map (renewed notes start end brings) (filter (λ c. is_outside start end c.partition) cs))
kept_copies_rise notes start end brings cs r =
    let key = λ (c : CopyInfo). c.partition in
    let outside = λ (c : CopyInfo). is_outside start end c.partition in
    (rise_by key _).1 (rises-map key (renewed notes start end brings) key (filter outside cs)
    (λ c h. renewed_partition notes start end brings c) (rises-filter key outside cs ((rise_by key cs).0 r)))

-- ---- copies by the notes

copies_each : (clear ns : List NoteParts)
    → filter_map (copy_by clear) ns ≡ map (copy_of clear) (filter has_metadata (filter_map partition_at ns))
copies_each clear [] = refl
copies_each clear (n ∷ ns) = grind (arith, copies_each clear ns)

-- A copy is the same by what its partition states in numbers.
pub copy_in_numbers : (clear : List NoteParts) (p : PartitionParts) → copy_of clear (in_numbers p) ≡ copy_of clear p
unfolding copy_of
copy_in_numbers clear p = refl

-- The same by what is kept of the partitions.
pub kept_copies : (clear ns : List NoteParts)
    → copies_among clear (filter_map kept_partition ns) ≡ filter_map (copy_by clear) ns
unfolding copy_of
kept_copies clear [] = refl
kept_copies clear (n ∷ ns) = grind (arith, kept_copies clear ns)

pub counted_copies : (ns : List NoteParts)
    → count_by has_metadata (filter_map kept_partition ns) ≡ count_by states_metadata ns
counted_copies [] = refl
counted_copies (n ∷ ns) =
    let ih = counted_copies ns in
    elim (partition_at n) as (λ o.
    count_by has_metadata (cons_option (option_map in_numbers o) (filter_map kept_partition ns))
    ≡ tally (has_some_metadata o) + count_by states_metadata ns) [
      | None ↦ omega (arith, ih)
      | Some p ↦ count_by-cons has_metadata (in_numbers p) (filter_map kept_partition ns)
          ∙ ap (λ k. tally (has_metadata p) + k) ih
    ] ∙ sym (count_by-cons states_metadata n ns)

pub copies_by_notes : (notes : List NoteParts)
    → filter_map (copy_by (clear_notes notes)) (clear_notes notes) ≡ copies_of notes
unfolding copies_of partitions_of
copies_by_notes notes = copies_each (clear_notes notes) (clear_notes notes)

-- ---- all copies

own_copy : (clear : List NoteParts) (n : NoteParts) (c : CopyInfo) → copy_by clear n ≡ Some c → c.partition ≡ n.offset
own_copy clear n c e = grind (arith, copy_there, offset-partition_at)

-- They follow an arrival as what is kept of the notes does.
pub copies_follow : (x : NoteParts) (notes : List NoteParts) (start end : ℕ) → IsContent notes → IsNew x notes
    → IsHull x notes start end
    → copies_followed (reduced_with x notes) x.offset start end (can_bring_start x) (copies_of notes)
    ≡ copies_of (reduced_with x notes)
copies_follow x notes start end r new h =
    let after = reduced_with x notes in
    let key = λ (c : CopyInfo). c.partition in
    let renew = renewed after start end (can_bring_start x) in
    let before = copy_by (clear_notes notes) in
    let now = copy_by (clear_notes after) in
    let at : find (λ d. d.partition == x.offset) (copies_of after) ≡ kept_at now after x.offset =
    ap (find (λ d. d.partition == x.offset)) (sym (copies_by_notes after))
    ∙ sym (kept_there now key (own_copy (clear_notes after)) after x.offset _ refl) in
    ap (λ o. with_found key o (map renew (outside key start end (copies_of notes)))) at
    ∙ ap (λ cs. with_found key (kept_at now after x.offset) (map renew (outside key start end cs)))
    (sym (copies_by_notes notes))
    ∙ renewed_follow before now renew key (own_copy (clear_notes notes)) (own_copy (clear_notes after))
    (renewed_partition after start end (can_bring_start x)) x notes start end r new h (λ n clear far.
    elim (partition_at n) as (λ o. partition_at n ≡ o
    → option_and_then (λ p. if has_metadata p then Some (copy_of (clear_notes after) p) else None) o
    ≡ option_map renew (option_and_then
    (λ p. if has_metadata p then Some (copy_of (clear_notes notes) p) else None) o)) [
      | None ↦ λ _. refl
      | Some p ↦ λ read. elim (has_metadata p) as (λ b. has_metadata p ≡ b
          → (if b then Some (copy_of (clear_notes after) p) else None)
          ≡ option_map renew (if b then Some (copy_of (clear_notes notes) p) else None)) [
            | false ↦ λ _. refl
            | true ↦ λ states. ap Some (becomes x notes start end n p r new h clear far read states)
          ] refl
    ] refl) ∙ copies_by_notes after

-- There are as many as partitions that state header metadata.
length-copies_each : (clear ns : List NoteParts)
    → length (filter_map (copy_by clear) ns) ≡ length (filter states_metadata ns)
length-copies_each clear [] = refl
length-copies_each clear (n ∷ ns) = grind (arith, length-copies_each clear ns)

pub length-copies_of : (notes : List NoteParts)
    → length (copies_of notes) ≡ length (filter states_metadata (clear_notes notes))
length-copies_of notes =
    ap length (sym (copies_by_notes notes)) ∙ length-copies_each (clear_notes notes) (clear_notes notes)
