-- The copies of a well-formed file are those of its reading.
use Rattle.mxf_views.proofs.Common.{◌≡◌, ℕ, ◌+◌, ◌-◌, ◌<◌, ◌≤◌, true, false, cond, ◌&&◌, nat_le, ◌==◌, List, [], ◌∷◌}
use Rattle.mxf_views.proofs.Common.{◌++◌, map, filter, find, count_by, Some, None, is_some, IfSome, refl}
use Rattle.mxf_views.proofs.Common.{AllByRecursion, cons_option, list_all, option_and_then, option_map, sym, ◌∙◌, ap}
use Rattle.mxf_views.proofs.Common.{subst, arith, and_from, eq-eqb, lt-ltb, ltb-true, end_of, note_of, size_of}
use Rattle.mxf_views.proofs.Common.{NoteParts, PacketParts, notes_from, primer_at, PartitionPackParts, copies_of}
use Rattle.mxf_views.proofs.Common.{copy_from, copy_of, covered_of, has_metadata, is_fill_note, is_filled}
use Rattle.mxf_views.proofs.Common.{is_preface_note, is_primer, is_readable_primer, is_set_note, is_start, sets_found}
use Rattle.mxf_views.proofs.Common.{sets_from, zone_of, PartitionParts, partitions_read, read_pack, sizes, HasMetadata}
use Rattle.mxf_views.proofs.Common.{IsFill, IsWellFormed, is_readable_as, total_of, copies_among, CopyRead}
use Rattle.mxf_views.proofs.Common.{copies_alone, copies_read, copy_read, taken, value_as, IsPrimerPack, HasCopiesOf}
use Rattle.mxf_views.proofs.Common.{clear-laid, all-right, and_left, IsReadable}
use Rattle.std.proofs.Common.{le-leb}
use Rattle.mxf_views.specs.Copies.{sets_of, start_of}
use Rattle.mxf_views.specs.Reading.{after_fills, whole_copy, sets_read}
use Rattle.mxf_views.specs.WellFormed.{MetadataFollow}
use Rattle.mxf_views.proofs.Laid.{LastFrom, covered-laid, last_all, last_next, last_past, partitions_of-laid}
use Rattle.mxf_views.proofs.Laid.{primer-note, zone-laid}
use Rattle.mxf_views.proofs.PreferredRead.{preferred-rising, rise-read}

-- What holds of each packet holds of each of the last.
-- ---- the reading

-- Fills are passed over.
passed : (at : ℕ) (fills : List PacketParts) (p : PacketParts) (ps : List PacketParts) → AllByRecursion IsFill fills
    → IsPrimerPack p → after_fills at (fills ++ p ∷ ps) ≡ (at + total_of fills, p ∷ ps)
passed at [] p ps a k = rw k (let e : at ≡ at + 0 = omega arith in λ i. (e i, p ∷ ps))
passed at (f ∷ fs) p ps a k =
    let e : at + size_of f + total_of fs ≡ at + (size_of f + total_of fs) = omega arith in
    rw a.0 (passed (at + size_of f) fs p ps a.1 k ∙ (λ i. (e i, p ∷ ps)))

-- Packets that make up so many bytes are those that are taken.
taken-all : (bytes : ℕ) (xs ys : List PacketParts) → total_of xs ≡ bytes → taken bytes (xs ++ ys) ≡ xs
taken-all bytes [] [] e = refl
taken-all bytes [] (y ∷ ys) e = rw (sym e) refl
taken-all bytes (x ∷ xs) ys e =
    rw (lt-ltb 0 bytes (omega arith)) (ap (λ l. x ∷ l) (taken-all (bytes - size_of x) xs ys (omega arith)))

-- ---- the start

-- Among notes that end at or below the end of the pack there is no start.
find_past : (end : ℕ) (notes before rest : List NoteParts) → AllByRecursion (λ n. end_of n ≤ end) before
    → find (is_start end notes) (before ++ rest) ≡ find (is_start end notes) rest
find_past end notes [] rest a = refl
find_past end notes (n ∷ ns) rest a = grind (arith, find_past end notes ns rest a.1)

-- A fill is no readable primer.
no_primer : (at : ℕ) (p : PacketParts) → IsFill p → is_readable_primer (note_of at p) ≡ false
no_primer at p k = primer-note at p ∙ ap (λ kind. is_some (cond (is_primer kind) (value_as primer_at p) None)) k

-- Nor among fills.
find_past_fills : (end : ℕ) (notes : List NoteParts) (at : ℕ) (fills rest : List PacketParts)
    → AllByRecursion IsFill fills → find (is_start end notes) (notes_from at (fills ++ rest))
    ≡ find (is_start end notes) (notes_from (at + total_of fills) rest)
find_past_fills end notes at [] rest a =
    ap (λ x. find (is_start end notes) (notes_from x rest)) (let e : at ≡ at + 0 = omega arith in e)
find_past_fills end notes at (p ∷ ps) rest a =
    let n : NoteParts = note_of at p in
    let f : is_start end notes n ≡ false =
    and_left (is_readable_primer n && nat_le end n.offset) (is_filled end (n.offset - end) notes)
    (and_left (is_readable_primer n) (nat_le end n.offset) (no_primer at p a.0)) in
    let e : at + size_of p + total_of ps ≡ at + (size_of p + total_of ps) = omega arith in
    rw f (find_past_fills end notes (at + size_of p) ps rest a.1
    ∙ ap (λ x. find (is_start end notes) (notes_from x rest)) e)

-- The notes of fills are fills.
are_fills : (at : ℕ) (fills : List PacketParts) → AllByRecursion IsFill fills
    → list_all is_fill_note (notes_from at fills) ≡ true
unfolding is_fill_note
are_fills at [] a = refl
are_fills at (p ∷ ps) a = rw a.0 (are_fills (at + size_of p) ps a.1)

-- The primer after the fills can be read.
primer_read : (bytes at : ℕ) (ps : List PacketParts) → AllByRecursion IsReadable ps → (m : HasMetadata bytes ps)
    → is_readable_primer (note_of at m.primer) ≡ true
primer_read bytes at ps r m =
    let all = subst (AllByRecursion IsReadable) m.order r in
    let one : IsReadable m.primer = (all-right IsReadable m.fills (m.primer ∷ m.sets ++ m.rest) all).0 in
    primer-note at m.primer ∙ subst (λ kind. is_readable_as kind m.primer ≡ true) m.is_primer one

-- The header metadata begin after the fills.
start-laid : (notes : List NoteParts) (end : ℕ) (ps : List PacketParts) (bytes : ℕ) → LastFrom end ps notes
    → AllByRecursion IsReadable ps → (m : HasMetadata bytes ps) → start_of end notes ≡ Some (end + total_of m.fills)
start-laid notes end ps bytes f r m =
    let found : List PacketParts = m.primer ∷ m.sets ++ m.rest in
    let start : ℕ = end + total_of m.fills in
    let whole : LastFrom end (m.fills ++ found) notes = subst (λ l. LastFrom end l notes) m.order f in
    let e : start - end ≡ total_of m.fills = omega arith in
    let zone : zone_of end (start - end) notes ≡ notes_from end m.fills =
    zone-laid end (start - end) m.fills found notes whole (sym e) in
    let covered : covered_of end (start - end) notes ≡ start - end = ap sizes zone ∙ covered-laid end m.fills ∙ sym e in
    let filled : is_filled end (start - end) notes ≡ true =
    and_from (covered_of end (start - end) notes == (start - end))
    (list_all is_fill_note (zone_of end (start - end) notes))
    (eq-eqb (covered_of end (start - end) notes) (start - end) covered)
    (ap (list_all is_fill_note) zone ∙ are_fills end m.fills m.are_fills) in
    let n : NoteParts = note_of start m.primer in
    let test : is_start end notes n ≡ true =
    and_from (is_readable_primer n && nat_le end start) (is_filled end (start - end) notes)
    (and_from (is_readable_primer n) (nat_le end start) (primer_read bytes start ps r m)
    (le-leb end start (omega arith)))
    filled in
    let walk : find (is_start end notes) notes ≡ find (is_start end notes) (notes_from start found) =
    ap (find (is_start end notes)) whole.whole
    ∙ find_past end notes whole.before (notes_from end (m.fills ++ found)) whole.ends
    ∙ find_past_fills end notes end m.fills found m.are_fills in
    ap (option_map (λ (n : NoteParts). n.offset)) walk ∙ rw test refl

-- ---- one copy

-- The copy of a partition and its sets are what was read.
record IsCopyRead (notes : List NoteParts) (q : PartitionParts) (r : CopyRead) : Type 0 where
  copy : copy_of notes q ≡ r.copy
  sets : sets_from notes r.copy.bytes r.copy.start ≡ r.sets

-- The copy of a pack that header metadata come after.
copy-laid : (notes : List NoteParts) (q : PartitionParts) (ps : List PacketParts) → LastFrom q.end ps notes
    → AllByRecursion IsReadable ps → 0 < q.pack.numbers.header_byte_count
    → HasMetadata q.pack.numbers.header_byte_count ps
    → (read : CopyRead) × (copy_read ps q ≡ Some read) × IsCopyRead notes q read
unfolding copy_of
copy-laid notes q ps f r h m =
    let bytes : ℕ = q.pack.numbers.header_byte_count in
    let start : ℕ = q.end + total_of m.fills in
    let found : List PacketParts = m.primer ∷ m.sets in
    let from_fills : LastFrom q.end (m.fills ++ (found ++ m.rest)) notes =
    subst (λ l. LastFrom q.end l notes) m.order f in
    let from_primer : LastFrom start (found ++ m.rest) notes =
    last_past q.end m.fills (found ++ m.rest) notes from_fills in
    let walk : after_fills q.end ps ≡ (start, found ++ m.rest) =
    ap (after_fills q.end) m.order ∙ passed q.end m.fills m.primer (m.sets ++ m.rest) m.are_fills m.is_primer in
    let take : taken bytes (found ++ m.rest) ≡ found = taken-all bytes found m.rest m.exact in
    let zone : zone_of start bytes notes ≡ notes_from start found =
    zone-laid start bytes found m.rest notes from_primer m.exact in
    let covered : covered_of start bytes notes ≡ bytes = ap sizes zone ∙ covered-laid start found ∙ m.exact in
    let finished : (covered_of start bytes notes == bytes) ≡ true =
    eq-eqb (covered_of start bytes notes) bytes covered in
    let read : CopyRead = whole_copy q start (notes_from start found) in
    let copy : copy_from notes q (Some start) ≡ read.copy = λ i. record {
      partition = q.offset;
      start = Some start;
      bytes = bytes;
      covered = covered i;
      finished = finished i;
      prefaces = count_by is_preface_note (zone i);
      status = q.pack.status;
    } in (
      read,
      rw (lt-ltb 0 bytes h) (
          ap (λ (x : ℕ × List PacketParts). Some (whole_copy q x.0 (notes_from x.0 (taken bytes x.1)))) walk
          ∙ ap (λ t. Some (whole_copy q start (notes_from start t))) take
          ),
      record {
        copy = ap (copy_from notes q) (start-laid notes q.end ps bytes f r m) ∙ copy;
        sets = ap (filter is_set_note) zone;
      },
    )

-- ---- all copies

-- The copies of some partitions, with their sets, are what was read.
abbrev AreCopiesRead : List NoteParts → List PartitionParts → List CopyRead → Type 0
AreCopiesRead notes [] [] = Unit {0}
AreCopiesRead notes (q ∷ qs) (r ∷ rs) = IsCopyRead notes q r × AreCopiesRead notes qs rs
AreCopiesRead notes _ _ = ⊥

-- A partition in front has its copy in front, where it has one.
one_more : (notes : List NoteParts) (q : PartitionParts) (ps : List PacketParts) (qs : List PartitionParts)
    (reads : List CopyRead) → LastFrom q.end ps notes → AllByRecursion IsReadable ps
    → (0 < q.pack.numbers.header_byte_count → HasMetadata q.pack.numbers.header_byte_count ps)
    → AreCopiesRead notes qs reads
    → AreCopiesRead notes (cond (has_metadata q) (q ∷ qs) qs) (cons_option (copy_read ps q) reads)
one_more notes q ps qs reads f r m a = elim (has_metadata q) as (λ b. has_metadata q ≡ b
    → AreCopiesRead notes (cond b (q ∷ qs) qs) (cons_option (copy_read ps q) reads)) [
      | true ↦ λ e.
          let h : 0 < q.pack.numbers.header_byte_count = ltb-true 0 q.pack.numbers.header_byte_count e in
          let s = copy-laid notes q ps f r h (m h) in
          subst (λ o. AreCopiesRead notes (q ∷ qs) (cons_option o reads)) (sym s.1) (s.2, a)
      | false ↦ λ e. rw e a
    ] refl

-- The partition of a packet at an offset, by its pack.
abbrev placed : ℕ → PacketParts → PartitionPackParts → PartitionParts
placed at p pack = record { offset = at; end = at + size_of p; pack = pack }

-- The copies of packets that give the last of the notes are what is read of them.
read_all : (notes : List NoteParts) (at : ℕ) (l : List PacketParts) → LastFrom at l notes
    → AllByRecursion IsReadable l → MetadataFollow l
    → AreCopiesRead notes (filter has_metadata (partitions_read at l)) (copies_read at l)
read_all notes at [] f r m = tt
read_all notes at (p ∷ ps) f r m =
    let next : LastFrom (at + size_of p) ps notes = last_next at p ps notes f in
    let ih = read_all notes (at + size_of p) ps next r.1 m.1 in
    let later = partitions_read (at + size_of p) ps in
    let reads = copies_read (at + size_of p) ps in
    elim (read_pack p) as (λ o. IfSome o (λ pack. 0 < pack.numbers.header_byte_count
    → HasMetadata pack.numbers.header_byte_count ps)
    → AreCopiesRead notes (filter has_metadata (cons_option (option_map (placed at p) o) later))
    (cons_option (option_and_then (copy_read ps) (option_map (placed at p) o)) reads)) [
      | None ↦ λ h. ih
      | Some pack ↦ λ h. one_more notes (placed at p pack) ps (filter has_metadata later) reads next r.1 h ih
    ] m.0

copies-read : (notes : List NoteParts) (qs : List PartitionParts) (reads : List CopyRead)
    → AreCopiesRead notes (filter has_metadata qs) reads → copies_among notes qs ≡ copies_alone reads
copies-read notes qs reads a = each (filter has_metadata qs) reads a
  where
    each : (qs : List PartitionParts) (reads : List CopyRead) → AreCopiesRead notes qs reads
        → map (copy_of notes) qs ≡ copies_alone reads
    each [] [] a = refl
    each (q ∷ qs) [] a = absurd a
    each [] (r ∷ rs) a = absurd a
    each (q ∷ qs) (r ∷ rs) a = λ i. a.0.copy i ∷ each qs rs a.1 i

sets-read : (notes : List NoteParts) (qs : List PartitionParts) (reads : List CopyRead) → AreCopiesRead notes qs reads
    → (offset : ℕ) → sets_found notes (find (λ c. c.partition == offset) (copies_alone reads)) ≡ sets_read reads offset
sets-read notes [] [] a offset = refl
sets-read notes (q ∷ qs) [] a offset = absurd a
sets-read notes [] (r ∷ rs) a offset = absurd a
sets-read notes (q ∷ qs) (r ∷ rs) a offset = grind (arith, sets-read notes qs rs a.1 offset)

-- The copies of a file, with their sets, are what was read.
laid : (l : List PacketParts) → IsWellFormed l
    → AreCopiesRead (notes_from 0 l) (filter has_metadata (partitions_read 0 l)) (copies_read 0 l)
laid l w = read_all (notes_from 0 l) 0 l (last_all 0 l) w.readable w.metadata

copies_of-laid : (l : List PacketParts) → IsWellFormed l → copies_of (notes_from 0 l) ≡ copies_alone (copies_read 0 l)
unfolding copies_of
copies_of-laid l w = (λ i. copies_among (clear-laid 0 l i) (partitions_of-laid 0 l i))
    ∙ copies-read (notes_from 0 l) (partitions_read 0 l) (copies_read 0 l) (laid l w)

sets_of-laid : (l : List PacketParts) → IsWellFormed l → (offset : ℕ)
    → sets_of (notes_from 0 l) offset ≡ sets_read (copies_read 0 l) offset
unfolding sets_of
sets_of-laid l w offset =
    (λ i. sets_found (clear-laid 0 l i) (find (λ c. c.partition == offset) (copies_of-laid l w i)))
    ∙ sets-read (notes_from 0 l) (filter has_metadata (partitions_read 0 l)) (copies_read 0 l) (laid l w) offset

-- The copies, the sets of each and the preferred copy of a well-formed file.
pub copies-laid : (l : List PacketParts) → IsWellFormed l → HasCopiesOf (notes_from 0 l) l
copies-laid l w = grind (arith, copies_of-laid, sets_of-laid, preferred-rising, rise-read)
