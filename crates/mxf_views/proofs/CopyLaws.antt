-- Copies of the header metadata and their sets.
use Rattle.mxf_views.proofs.Common.{◌≡◌, ℕ, ◌+◌, ◌<◌, ◌≤◌, true, List, Option, Some, None, refl, sym, ap, subst, ◌∙◌}
use Rattle.mxf_views.proofs.Common.{arith, eqb-true, eq-eqb, ◌↔◌, ◌==◌, nat_le, count_by, filter, find, range_with_len}
use Rattle.mxf_views.proofs.Common.{ltb-true, lt-ltb, and_from, and_parts, NoteParts, end_of, kind_of, In, IsContent}
use Rattle.mxf_views.proofs.Common.{AreApart, IsClear, clear_notes, In-clear_notes, AreApart-clear_notes}
use Rattle.mxf_views.proofs.Common.{AreApart-filter, PartitionParts, partitions_of, IsCopy, copies_of, copy_from}
use Rattle.mxf_views.proofs.Common.{prefaces_of, copy_of, covered_of, has_metadata, is_preface_note, is_set_note}
use Rattle.mxf_views.proofs.Common.{CopiesRise, sets_found, sets_from, zone_of, is_in_one, lies_in, In-filter, In-map}
use Rattle.mxf_views.proofs.Common.{found-In, none_found, same_bool, length-filter, AreSoMany, CountsZone, IsPrefaceIn}
use Rattle.mxf_views.proofs.Common.{IsSetKind, IsStartFound, rises-map, rises-filter, equals_itself}
use Rattle.mxf_views.specs.declared.copy.CopyInfo.{CopyInfo}
use Rattle.std.proofs.Common.{leb-true, le-leb}
use Rattle.mxf_views.specs.Copies.{sets_of, start_of, IsCopyOf, IsSetOf, sets_in}
use Rattle.mxf_views.proofs.KindLaws.{preface_kind, set_kind}
use Rattle.mxf_views.proofs.PartitionLaws.{one_there, partitions_rise}
use Rattle.mxf_views.proofs.SpanCounts.{zone-count}
use Rattle.mxf_views.proofs.StartLaws.{one_start, start_is}
use Rattle.mxf_views.proofs.KeyedLists.{rise_by}
use Rattle.mxf_catalogue.proofs.ApartNotes.{apart_same}
use Rattle.mxf_klv.specs.declared.kinds.Kind.TheVariants as kinds

-- ---- Prefaces

pub preface_note : (n : NoteParts) → (is_preface_note n ≡ true) ↔ (kind_of n.key ≡ kinds.Preface)
unfolding is_preface_note
preface_note n = preface_kind (kind_of n.key)

pub set_note : (n : NoteParts) → (is_set_note n ≡ true) ↔ IsSetKind (kind_of n.key)
unfolding is_set_note
set_note n = set_kind (kind_of n.key)

In-zone : (notes : List NoteParts) (start bytes : ℕ) (n : NoteParts)
    → In n (zone_of start bytes (clear_notes notes)) ↔ (IsClear n notes × (start ≤ n.offset)
    × (end_of n ≤ start + bytes))
In-zone notes start bytes n =
    let clear = clear_notes notes in
    let g = In-filter (lies_in start bytes) clear n in (
      λ h.
          let z = g.0 h in
          let l = and_parts (nat_le start n.offset) (nat_le (end_of n) (start + bytes)) z.1 in
          ((In-clear_notes n notes).0 z.0, leb-true start n.offset l.0, leb-true (end_of n) (start + bytes) l.1),
      λ s. g.1 (
        (In-clear_notes n notes).1 s.0,
        and_from (nat_le start n.offset) (nat_le (end_of n) (start + bytes))
            (le-leb start n.offset s.1) (le-leb (end_of n) (start + bytes) s.2),
      ),
    )

In-prefaces : (notes : List NoteParts) (start bytes : ℕ) (n : NoteParts)
    → In n (filter is_preface_note (zone_of start bytes (clear_notes notes))) ↔ IsPrefaceIn notes start bytes n
In-prefaces notes start bytes n =
    let f = In-filter is_preface_note (zone_of start bytes (clear_notes notes)) n in
    let g = In-zone notes start bytes n in (
      λ h.
          let s = f.0 h in
          let z = g.0 s.0 in
          record { clear = z.0; kind = (preface_note n).0 s.1; from = z.1; before = z.2 },
      λ s. f.1 (g.1 (s.clear, s.from, s.before), (preface_note n).1 s.kind),
    )

prefaces_are : (notes : List NoteParts) (start bytes : ℕ) → IsContent notes
    → AreSoMany (prefaces_of start bytes (clear_notes notes)) (IsPrefaceIn notes start bytes)
prefaces_are notes start bytes r =
    let zone = zone_of start bytes (clear_notes notes) in
    let a = AreApart-filter (lies_in start bytes) 0 (clear_notes notes) (AreApart-clear_notes notes r) in
    record {
      list = filter is_preface_note zone;
      apart = AreApart-filter is_preface_note 0 zone a;
      members = In-prefaces notes start bytes;
      number = length-filter is_preface_note zone;
    }

one_number : (a b : ℕ) (IsSuch : NoteParts → Type 0) → AreSoMany a IsSuch → AreSoMany b IsSuch → a ≡ b
one_number a b IsSuch p q =
    let e = apart_same 0 p.list q.list p.apart q.apart (λ n. (
      λ h. (q.members n).1 ((p.members n).0 h),
      λ h. (p.members n).1 ((q.members n).0 h),
    )) in
    sym p.number ∙ e ∙ q.number

-- ---- one copy of a partition

copy_is : (notes : List NoteParts) (p : PartitionParts) → IsContent notes → has_metadata p ≡ true
    → IsCopyOf notes p (copy_of (clear_notes notes) p)
unfolding copy_of
copy_is notes p r h =
    let clear = clear_notes notes in
    let bytes = p.pack.numbers.header_byte_count in
    let some : 0 < bytes = ltb-true 0 bytes h in
    elim (start_of p.end clear) as (λ o. start_of p.end clear ≡ o → IsCopyOf notes p (copy_from clear p o)) [
      | None ↦ λ e. record {
        stated = some;
        partition = refl;
        bytes = refl;
        status = refl;
        start = λ s i. let t = (start_is notes p.end s r).1 i in cc (t, e);
        counts = (refl, refl);
        finished = (λ t. absurd cc, λ t. absurd (omega (arith, t, some)));
      }
      | Some s ↦ λ e. record {
        stated = some;
        partition = refl;
        bytes = refl;
        status = refl;
        start = (start_is notes p.end s r).0 e;
        counts = (zone-count clear 0 s bytes (AreApart-clear_notes notes r), prefaces_are notes s bytes r);
        finished = equals_itself (covered_of s bytes clear) bytes;
      }
    ] refl

one_start_found : (notes : List NoteParts) (end : ℕ) (s t : Option ℕ) → IsStartFound notes end s
    → IsStartFound notes end t → s ≡ t
one_start_found notes end None None a b = refl
one_start_found notes end None (Some t) a b = absurd (a t b)
one_start_found notes end (Some s) None a b = absurd (b s a)
one_start_found notes end (Some s) (Some t) a b = ap (λ (x : ℕ). Some x) (one_start notes end s t a b)

-- the counts are by the start and the bytes
abbrev Counted : List NoteParts → ℕ → Option ℕ → ℕ → ℕ → Type 0
Counted notes bytes None covered prefaces = (covered ≡ 0) × (prefaces ≡ 0)
Counted notes bytes (Some start) covered prefaces =
    (covered ≡ count_by (is_in_one (zone_of start bytes (clear_notes notes))) (range_with_len start bytes))
    × AreSoMany prefaces (IsPrefaceIn notes start bytes)

counted : (notes : List NoteParts) (c : CopyInfo) (o : Option ℕ) → CountsZone notes c o
    → Counted notes c.bytes o c.covered c.prefaces
counted notes c None x = x
counted notes c (Some s) x = x

one_counted : (notes : List NoteParts) (bytes : ℕ) (o : Option ℕ) (a b x y : ℕ) → Counted notes bytes o a x
    → Counted notes bytes o b y → (a ≡ b) × (x ≡ y)
one_counted notes bytes None a b x y p q = (p.0 ∙ sym q.0, p.1 ∙ sym q.1)
one_counted notes bytes (Some s) a b x y p q = (p.0 ∙ sym q.0, one_number x y (IsPrefaceIn notes s bytes) p.1 q.1)

one_copy : (notes : List NoteParts) (p : PartitionParts) (c d : CopyInfo) → IsCopyOf notes p c → IsCopyOf notes p d
    → c ≡ d
one_copy notes p c d a b =
    let partition = a.partition ∙ sym b.partition in
    let bytes : c.bytes ≡ d.bytes = a.bytes ∙ sym b.bytes in
    let status = a.status ∙ sym b.status in
    let start : c.start ≡ d.start = one_start_found notes p.end c.start d.start a.start b.start in
    let m = counted notes c c.start a.counts in
    let n : Counted notes c.bytes c.start d.covered d.prefaces =
    subst (λ (o : Option ℕ). Counted notes c.bytes o d.covered d.prefaces) (sym start)
    (subst (λ (k : ℕ). Counted notes k d.start d.covered d.prefaces) (sym bytes) (counted notes d d.start b.counts)) in
    let counts = one_counted notes c.bytes c.start c.covered d.covered c.prefaces d.prefaces m n in
    let finished : c.finished ≡ d.finished = same_bool c.finished d.finished
    (λ t. b.finished.1 (sym counts.0 ∙ a.finished.0 t ∙ bytes))
    (λ t. a.finished.1 (counts.0 ∙ b.finished.0 t ∙ sym bytes)) in
    λ i. record {
      partition = partition i;
      start = start i;
      bytes = bytes i;
      covered = counts.0 i;
      finished = finished i;
      prefaces = counts.1 i;
      status = status i;
    }

-- The copies are those of the partitions that have header metadata.
pub copies_are : (notes : List NoteParts) (c : CopyInfo) → IsContent notes → In c (copies_of notes) ↔ IsCopy notes c
unfolding copies_of
copies_are notes c r =
    let ps = partitions_of notes in
    let clear = clear_notes notes in
    let m = In-map (copy_of clear) (filter has_metadata ps) c in (
      λ h.
          let s = m.0 h in
          let f = (In-filter has_metadata ps s.0).0 s.1 in
          (s.0, f.0, subst (IsCopyOf notes s.0) (sym s.2) (copy_is notes s.0 r f.1)),
      λ s.
          let h : has_metadata s.0 ≡ true = lt-ltb 0 s.0.pack.numbers.header_byte_count s.2.stated in
          m.1 (
            s.0,
            (In-filter has_metadata ps s.0).1 (s.1, h),
            one_copy notes s.0 c (copy_of clear s.0) s.2 (copy_is notes s.0 r h),
          ),
    )

-- ---- sets

apart_from : (notes : List NoteParts) (bytes : ℕ) (o : Option ℕ) → IsContent notes
    → AreApart 0 (sets_from (clear_notes notes) bytes o)
apart_from notes bytes None r = tt
apart_from notes bytes (Some s) r = AreApart-filter is_set_note 0 (zone_of s bytes (clear_notes notes))
    (AreApart-filter (lies_in s bytes) 0 (clear_notes notes) (AreApart-clear_notes notes r))

apart_found : (notes : List NoteParts) (o : Option CopyInfo) → IsContent notes
    → AreApart 0 (sets_found (clear_notes notes) o)
apart_found notes None r = tt
apart_found notes (Some c) r = apart_from notes c.bytes c.start r

-- The sets of a copy stand apart.
pub sets_apart : (notes : List NoteParts) (partition : ℕ) → IsContent notes → AreApart 0 (sets_of notes partition)
unfolding sets_of
sets_apart notes partition r = apart_found notes (find (λ c. c.partition == partition) (copies_of notes)) r

In-sets_in : (notes : List NoteParts) (start bytes : ℕ) (n : NoteParts)
    → In n (sets_in start bytes (clear_notes notes)) ↔ (IsClear n notes × IsSetKind (kind_of n.key)
    × (start ≤ n.offset) × (end_of n ≤ start + bytes))
In-sets_in notes start bytes n =
    let f = In-filter is_set_note (zone_of start bytes (clear_notes notes)) n in
    let g = In-zone notes start bytes n in (
      λ h.
          let s = f.0 h in
          let z = g.0 s.0 in
          (z.0, (set_note n).0 s.1, z.1, z.2),
      λ s. f.1 (g.1 (s.0, s.2, s.3), (set_note n).1 s.1),
    )

-- two copies that name one partition are one
pub one_named : (notes : List NoteParts) (c d : CopyInfo) → IsContent notes → IsCopy notes c → IsCopy notes d
    → c.partition ≡ d.partition → c ≡ d
one_named notes c d r a b e =
    let same : a.0 ≡ b.0 = one_there (partitions_of notes) a.0 b.0 (partitions_rise notes r) a.1 b.1 (sym a.2.partition
    ∙ e ∙ b.2.partition) in
    one_copy notes b.0 c d (subst (λ (p : PartitionParts). IsCopyOf notes p c) same a.2) b.2

sets_says : (notes : List NoteParts) (partition : ℕ) (c : CopyInfo) (o : Option ℕ) (n : NoteParts) → IsCopy notes c
    → c.partition ≡ partition → c.start ≡ o → In n (sets_from (clear_notes notes) c.bytes o) → IsSetOf notes partition n
sets_says notes partition c None n i e s h = absurd h
sets_says notes partition c (Some start) n i e s h =
    let m = (In-sets_in notes start c.bytes n).0 h in
    record {
      copy = c;
      copied = i;
      there = e;
      start = start;
      begins = s;
      clear = m.0;
      kind = m.1;
      from = m.2;
      before = m.3;
    }

-- The sets of a copy are the clear sets that lie wholly in its bytes.
pub sets_are : (notes : List NoteParts) (partition : ℕ) (n : NoteParts) → IsContent notes
    → In n (sets_of notes partition) ↔ IsSetOf notes partition n
unfolding sets_of
sets_are notes partition n r =
    let clear = clear_notes notes in
    let named = λ (c : CopyInfo). c.partition == partition in
    elim (find named (copies_of notes)) as (λ o. find named (copies_of notes) ≡ o
    → In n (sets_found clear o) ↔ IsSetOf notes partition n) [
      | None ↦ λ e. (
        λ h. absurd h,
        λ s. absurd (none_found named (copies_of notes) s.copy e ((copies_are notes s.copy r).1 s.copied)
            (eq-eqb s.copy.partition partition s.there)),
      )
      | Some c ↦ λ e.
          let f = found-In named (copies_of notes) c e in
          let i = (copies_are notes c r).0 f.0 in
          let there : c.partition ≡ partition = eqb-true c.partition partition f.1 in (
            λ h. sets_says notes partition c c.start n i there refl h,
            λ s.
                let same : s.copy ≡ c = one_named notes s.copy c r s.copied i (s.there ∙ sym there) in
                let bytes : s.copy.bytes ≡ c.bytes = ap (λ (x : CopyInfo). x.bytes) same in
                let start : c.start ≡ Some s.start = sym (ap (λ (x : CopyInfo). x.start) same) ∙ s.begins in
                let before : end_of n ≤ s.start + s.copy.bytes = s.before in
                subst (λ (o : Option ℕ). In n (sets_from clear c.bytes o)) (sym start)
                ((In-sets_in notes s.start c.bytes n).1 (s.clear, s.kind, s.from, omega (arith, before, bytes))),
          )
    ] refl

-- ---- copies rise

-- the copy of a partition is at its offset
pub copy_there : (notes : List NoteParts) (p : PartitionParts) → (copy_of notes p).partition ≡ p.offset
unfolding copy_of
copy_there notes p = grind (arith)

pub copies_rise : (notes : List NoteParts) → IsContent notes → CopiesRise (copies_of notes)
unfolding copies_of
copies_rise notes h =
    let ps = partitions_of notes in
    let copy = copy_of (clear_notes notes) in
    let rising = (rise_by (λ (p : PartitionParts). p.offset) ps).0 (partitions_rise notes h) in
    (rise_by (λ (c : CopyInfo). c.partition) _).1
    (rises-map (λ p. p.offset) copy (λ c. c.partition) (filter has_metadata ps)
    (λ p k. copy_there (clear_notes notes) p) (rises-filter (λ p. p.offset) has_metadata ps rising))
