-- What leaves a copy of the header metadata as it is: a change in a range that doesn't meet it.
use Rattle.mxf_views.proofs.Common.{◌≡◌, ℕ, ◌+◌, ◌<◌, ◌≤◌, ◌⊎◌, true, List, Some, None, refl, sym, ap, ◌∙◌, inl, inr}
use Rattle.mxf_views.proofs.Common.{arith, ◌↔◌, ◌==◌, count_by, NoteParts, end_of, In, IsContent, IsClear, clear_notes}
use Rattle.mxf_views.proofs.Common.{lies_in, same_content, In-clear_notes, clear_same, IsContent-clear_notes}
use Rattle.mxf_views.proofs.Common.{PartitionParts, IsStart, copy_from, copy_of, is_fill_note, is_preface_note}
use Rattle.mxf_views.proofs.Common.{is_readable_primer, zone_of, sizes, In-filter, and_parts, IsContent-filter}
use Rattle.mxf_views.proofs.Common.{cases_lt, cases_order, part_and_status, partition_at, partitions_of, IsUnmet}
use Rattle.mxf_views.proofs.Common.{SameOutside, less_by_offset, IsInSpan}
use Rattle.std.proofs.Common.{leb-true}
use Rattle.mxf_views.specs.Copies.{start_of}
use Rattle.mxf_catalogue.proofs.LaidNotes.{SameClear}
use Rattle.mxf_catalogue.proofs.SpanLaws.{ends_before}
use Rattle.mxf_views.proofs.PartitionLaws.{not_partition, readable_from}
use Rattle.mxf_views.proofs.PartitionSearch.{is_there, of_note}
use Rattle.mxf_views.proofs.KeptItems.{one_note}
use Rattle.mxf_views.proofs.StartLaws.{fill_note, primer_note, start_is}
use Rattle.mxf_views.proofs.StartWalk.{none_there}

-- ---- starts

-- A start of one content is one of another, where its primer and the fills before it are clear there too.
start_carried : (some other : List NoteParts) (end s : ℕ)
    → ((n : NoteParts) → IsClear n some → end ≤ n.offset → n.offset ≤ s
    → (is_fill_note n ≡ true) ⊎ (is_readable_primer n ≡ true) → IsClear n other)
    → IsStart some end s → IsStart other end s
start_carried some other end s carry a =
    let there : a.primer.offset ≡ s = a.there in
    let low : end ≤ s = a.after in
    record {
      primer = a.primer;
      clear = carry a.primer a.clear (omega (arith, there, low)) (omega (arith, there))
          (inr ((primer_note a.primer).1 a.readable));
      readable = a.readable;
      there = a.there;
      after = a.after;
      filled = λ o from up.
          let f = a.filled o from up in
          let w : f.fill.offset ≤ o = f.within.from in
          record {
            fill = f.fill;
            clear = carry f.fill f.clear f.from (omega (arith, w, up)) (inl ((fill_note f.fill).1 f.kind));
            kind = f.kind;
            from = f.from;
            before = f.before;
            within = f.within;
          };
    }

start_stays : (before after : List NoteParts) (end high s : ℕ) → SameClear end high before after → s < high
    → IsStart before end s → IsStart after end s
start_stays before after end high s same l a = start_carried before after end s
    (λ n c low up k. (same n (omega (arith, up, l)) (omega (arith, low))).0 c) a

pub start_kept : (before after : List NoteParts) (end high s : ℕ) → IsContent before → IsContent after
    → SameClear end high before after → s < high → start_of end (clear_notes before) ≡ Some s
    → start_of end (clear_notes after) ≡ Some s
start_kept before after end high s r t same l e =
    (start_is after end s t).1 (start_stays before after end high s same l ((start_is before end s r).0 e))

-- One above an offset that no clear note lies across is one from that offset on.
start_from : (notes : List NoteParts) (end low s : ℕ) → end ≤ low → low ≤ s
    → ((n : NoteParts) → IsClear n notes → (end_of n ≤ low) ⊎ (low ≤ n.offset))
    → IsStart notes end s → IsStart notes low s
start_from notes end low s l high cut a = record {
  primer = a.primer;
  clear = a.clear;
  readable = a.readable;
  there = a.there;
  after = high;
  filled = λ o from up.
      let f = a.filled o (omega (arith, l, from)) up in
      let w : o + 1 ≤ end_of f.fill = f.within.before in
      record {
        fill = f.fill;
        clear = f.clear;
        kind = f.kind;
        from = elim (cut f.fill f.clear) [ inl e ↦ absurd (omega (arith, e, w, from)) | inr e ↦ e ];
        before = f.before;
        within = f.within;
      };
}

-- A start stands below the end of each partition behind it.
pub start_before : (notes : List NoteParts) (end : ℕ) (q : PartitionParts) (s : ℕ) → In q (partitions_of notes)
    → end ≤ q.offset → IsStart notes end s → s < q.end
start_before notes end q s k l a =
    let n = of_note notes q k in
    let c = (In-clear_notes n.note notes).0 n.clear in
    let at : q.offset ≡ n.note.offset = n.offset in
    let up : q.end ≡ end_of n.note = (readable_from n.note q n.read).end in
    elim (cases_order s n.note.offset) [
      | inl u ↦ (
          let same = one_note notes a.primer n.note a.clear c (a.there ∙ u) in
          absurd (not_partition a.primer q (ap part_and_status a.readable.1.0) (ap partition_at same ∙ n.read)))
      | inr (inl u) ↦ omega (arith, u, up)
      | inr (inr u) ↦ (
          let f = a.filled n.note.offset (omega (arith, l, at)) u in
          let here : IsInSpan n.note n.note.offset = record { from = omega arith; before = omega arith } in
          let same = clear_same notes f.fill n.note f.clear c (n.note.offset, f.within, here) in
          absurd (not_partition f.fill q (ap part_and_status f.kind) (ap partition_at same ∙ n.read)))
    ]

pub partitions_apart : (notes : List NoteParts) (p q : PartitionParts) → In p (partitions_of notes)
    → In q (partitions_of notes) → p.offset < q.offset → p.end ≤ q.offset
partitions_apart notes p q h k l =
    let m = of_note notes p h in
    let n = of_note notes q k in
    let cm = (In-clear_notes m.note notes).0 m.clear in
    let cn = (In-clear_notes n.note notes).0 n.clear in
    let low : m.note.offset < n.note.offset = omega (arith, l, m.offset, n.offset) in
    let apart = ends_before notes m.note n.note cm cn (less_by_offset m.note n.note low) in
    omega (arith, apart, n.offset, (readable_from m.note p m.read).end)

-- ---- copies

In-zone : (start bytes : ℕ) (n : NoteParts) (notes : List NoteParts)
    → In n (zone_of start bytes (clear_notes notes)) ↔ (IsClear n notes × (lies_in start bytes n ≡ true))
In-zone start bytes n notes =
    let f = In-filter (lies_in start bytes) (clear_notes notes) n in
    let c = In-clear_notes n notes in (λ h. (c.0 (f.0 h).0, (f.0 h).1), λ h. f.1 (c.1 h.0, h.1))

zone_stays : (before after : List NoteParts) (low high start bytes : ℕ) → IsContent before → IsContent after
    → SameClear low high before after → low ≤ start → start + bytes ≤ high
    → zone_of start bytes (clear_notes after) ≡ zone_of start bytes (clear_notes before)
zone_stays before after low high start bytes r s same l h =
    same_content _ _ (IsContent-filter (lies_in start bytes) (clear_notes after) (IsContent-clear_notes after s))
    (IsContent-filter (lies_in start bytes) (clear_notes before) (IsContent-clear_notes before r)) (λ n.
    let a = In-zone start bytes n after in
    let b = In-zone start bytes n before in
    let one = λ (t : lies_in start bytes n ≡ true).
    let p = and_parts _ _ t in
    let from : start ≤ n.offset = leb-true start n.offset p.0 in
    let to : end_of n ≤ start + bytes = leb-true (end_of n) (start + bytes) p.1 in
    same n (omega arith) (omega arith) in
    (λ k. b.1 ((one (a.0 k).1).1 (a.0 k).0, (a.0 k).1), λ k. a.1 ((one (b.0 k).1).0 (b.0 k).0, (b.0 k).1)))

-- A copy with a start, where no clear note comes or goes from the end of its pack up to the end of its zone.
copy_stays : (before after : List NoteParts) (p : PartitionParts) (s : ℕ) → IsContent before → IsContent after
    → 0 < p.pack.numbers.header_byte_count → start_of p.end (clear_notes before) ≡ Some s
    → SameClear p.end (s + p.pack.numbers.header_byte_count) before after
    → copy_of (clear_notes after) p ≡ copy_of (clear_notes before) p
unfolding copy_of
copy_stays before after p s r t some e same =
    let bytes = p.pack.numbers.header_byte_count in
    let from : p.end ≤ s = ((start_is before p.end s r).0 e).after in
    let zone = zone_stays before after p.end (s + bytes) s bytes r t same from (omega arith) in
    ap (copy_from (clear_notes after) p) (start_kept before after p.end (s + bytes) s r t same (omega arith) e)
    ∙ ap (λ (z : List NoteParts). record {
      partition = p.offset;
      start = Some s;
      bytes = bytes;
      covered = sizes z;
      finished = sizes z == bytes;
      prefaces = count_by is_preface_note z;
      status = p.pack.status;
    }) zone ∙ ap (copy_from (clear_notes before) p) (sym e)

module _ (start end : ℕ) (before after : List NoteParts) (s : SameOutside start end before after) (r : IsContent before)
    (t : IsContent after) where
  -- Apart from the range the clear notes are the same.
  pub same_apart : (low high : ℕ) → (end ≤ low) ⊎ (high ≤ start) → SameClear low high before after
  same_apart low high apart n l g =
      let far = λ (w : (start ≤ n.offset) × (end_of n ≤ end)).
      let a : start ≤ n.offset = w.0 in
      let b : end_of n ≤ end = w.1 in
      elim apart as (λ _. ⊥) [ inl q ↦ omega (arith, a, b, q, l, g) | inr q ↦ omega (arith, a, b, q, l, g) ] in (
        λ c. elim (s.gone n c) [ inl k ↦ k | inr w ↦ absurd (far w) ],
        λ c. elim (s.come n c) [ inl k ↦ k | inr w ↦ absurd (far w) ],
      )

  start_back : (from high z : ℕ) → (end ≤ from) ⊎ (high ≤ start) → z < high → IsStart after from z
      → IsStart before from z
  start_back from high z apart l a =
      start_stays after before from high z (λ n p q. let k = same_apart from high apart n p q in (k.1, k.0)) l a

  stays_below : (q : PartitionParts) → In q (partitions_of before) → q.end ≤ start → In q (partitions_of after)
  stays_below q k below =
      let n = of_note before q k in
      let up : q.end ≡ end_of n.note = (readable_from n.note q n.read).end in
      elim (s.gone n.note ((In-clear_notes n.note before).0 n.clear)) [
        | inl c ↦ is_there after n.note q ((In-clear_notes n.note after).1 c) n.read
        | inr w ↦ (let low : start ≤ n.note.offset = w.0 in absurd (omega (arith, low, up, below)))
      ]

  no_start_stays : (p : PartitionParts) → start_of p.end (clear_notes before) ≡ None
      → ((z : ℕ) → IsStart after p.end z → IsStart before p.end z)
      → copy_of (clear_notes after) p ≡ copy_of (clear_notes before) p
  unfolding copy_of
  no_start_stays p e f =
      let none = none_there after p.end t (λ z a. let u = (start_is before p.end z r).1 (f z a) in cc (u, e)) in
      ap (copy_from (clear_notes after) p) none ∙ ap (copy_from (clear_notes before) p) (sym e)

  -- The same where only a start in the range or behind it could come.
  none_behind : (p : PartitionParts) → start_of p.end (clear_notes before) ≡ None
      → ((z : ℕ) → start ≤ z → IsStart after p.end z → ⊥)
      → copy_of (clear_notes after) p ≡ copy_of (clear_notes before) p
  none_behind p e f = no_start_stays p e (λ z a. elim (cases_lt z start) [
    | inl l ↦ start_back p.end start z (inr (omega arith)) l a
    | inr high ↦ absurd (f z high a)
  ])

  -- A copy that the change doesn't meet stays.
  pub unmet_stays : (p : PartitionParts) → In p (partitions_of before) → 0 < p.pack.numbers.header_byte_count
      → IsUnmet start end before after p → copy_of (clear_notes after) p ≡ copy_of (clear_notes before) p
  unmet_stays p h some (IsUnmet.behind l) =
      elim (start_of p.end (clear_notes before)) as (λ o. start_of p.end (clear_notes before) ≡ o
      → copy_of (clear_notes after) p ≡ copy_of (clear_notes before) p) [
        | Some z ↦ λ e. copy_stays before after p z r t some e
            (same_apart p.end (z + p.pack.numbers.header_byte_count) (inl l))
        | None ↦ λ e. no_start_stays p e (λ z a. start_back p.end (z + 1) z (inl l) (omega arith) a)
      ] refl
  unmet_stays p h some (IsUnmet.ended z e l) =
      copy_stays before after p z r t some e (same_apart p.end (z + p.pack.numbers.header_byte_count) (inr l))
  unmet_stays p h some (IsUnmet.none_comes e f) =
      no_start_stays p e (λ z a. start_carried after before p.end z (λ n c low up k. f n c k) a)
  unmet_stays p h some (IsUnmet.none_begins e low none) = none_behind p e (λ z high a.
      let u = (start_is after start z t).1 (start_from after p.end start z low high s.cut a) in cc (u, none))
  unmet_stays p h some (IsUnmet.shut_off e q k l below) = none_behind p e (λ z high a.
      let apart = partitions_apart before p q h k l in
      let low = start_before after p.end q z (stays_below q k below) apart a in omega (arith, low, below, high))
