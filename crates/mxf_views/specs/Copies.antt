-- Copies of the header metadata (ST 377-1, header metadata of a partition; which copy is preferred is this project's
-- profile). They go by the clear notes alone.
use Rattle.std.specs.Prelude.{◌≡◌, ◌↔◌, ℕ, ◌+◌, ◌-◌, ◌<◌, ◌≤◌, ◌⊎◌, Bool, true, false, ◌&&◌, ◌==◌, nat_le, nat_lt, cond}
use Rattle.std.specs.Prelude.{Option, Some, None, is_some, List, [], ◌∷◌, length, map, filter, find, count_by, IsTrue}
use Rattle.std.specs.Prelude.{◌||◌}
use Rattle.std.specs.Option.{option_map}
use Rattle.std.specs.List.{list_all, range_with_len}
use Rattle.mxf_klv.specs.declared.kinds.Kind.{Kind}
use Rattle.mxf_klv.specs.declared.kinds.Kind.TheVariants as kinds
use Rattle.mxf_klv.specs.declared.kinds.Status.{Status}
use Rattle.mxf_klv.specs.declared.kinds.Status.TheVariants.{OpenIncomplete, ClosedIncomplete, OpenComplete}
use Rattle.mxf_klv.specs.declared.kinds.Status.TheVariants.{ClosedComplete}
use Rattle.mxf_klv.specs.Parts.{NoteParts}
use Rattle.mxf_klv.specs.Note.{IsInSpan, end_of}
use Rattle.mxf_klv.specs.Kind.{kind_of}
use Rattle.mxf_klv.specs.Rising.{In}
use Rattle.mxf_sets.specs.Batch.{BatchParts}
use Rattle.mxf_sets.specs.PackReadings.{primer_at}
use Rattle.mxf_sets.specs.Readable.{read_as}
use Rattle.mxf_catalogue.specs.Disputes.{AreApart, IsClear, clear_notes, lies_in}
use Rattle.mxf_views.specs.Rises.{RiseBy}
use Rattle.mxf_views.specs.declared.copy.CopyInfo.{CopyInfo}
use Rattle.mxf_views.specs.Partitions.{PartitionParts, partitions_of}
use Rattle.mxf_views.specs.Readings.{IsReadAs}
use Rattle.mxf_views.specs.Spans.{is_in_one, sizes}

abbrev pub is_fill : Kind → Bool
is_fill kinds.Fill = true
is_fill _ = false

abbrev pub is_primer : Kind → Bool
is_primer kinds.Primer = true
is_primer _ = false

abbrev pub is_preface : Kind → Bool
is_preface kinds.Preface = true
is_preface _ = false

-- The kinds of header metadata sets: the metadata sets and the raw sets.
pub data IsSetKind (kind : Kind) : Type 0 where
  preface : kind ≡ kinds.Preface → IsSetKind kind
  identification : kind ≡ kinds.Identification → IsSetKind kind
  storage : kind ≡ kinds.ContentStorage → IsSetKind kind
  material_package : kind ≡ kinds.MaterialPackage → IsSetKind kind
  source_package : kind ≡ kinds.SourcePackage → IsSetKind kind
  raw_set : kind ≡ kinds.RawSet → IsSetKind kind

-- The same as a test.
abbrev pub is_set : Kind → Bool
is_set kinds.Preface = true
is_set kinds.Identification = true
is_set kinds.ContentStorage = true
is_set kinds.MaterialPackage = true
is_set kinds.SourcePackage = true
is_set kinds.RawSet = true
is_set _ = false

-- The kinds of header metadata: primer packs, metadata sets and raw sets.
abbrev pub IsMetadataKind : Kind → Type 0
IsMetadataKind kind = (kind ≡ kinds.Primer) ⊎ IsSetKind kind

-- A readable primer pack (ST 377-1, Primer Pack).
unfoldable pub is_readable_primer : NoteParts → Bool
is_readable_primer n = is_primer (kind_of n.key) && is_some (read_as primer_at n)

unfoldable pub is_fill_note : NoteParts → Bool
is_fill_note n = is_fill (kind_of n.key)

unfoldable pub is_set_note : NoteParts → Bool
is_set_note n = is_set (kind_of n.key)

unfoldable pub is_preface_note : NoteParts → Bool
is_preface_note n = is_preface (kind_of n.key)

-- The notes whose packets lie wholly in a range of a given number of bytes; for those of a copy it is its zone.
abbrev pub zone_of : ℕ → ℕ → List NoteParts → List NoteParts
zone_of start bytes notes = filter (lies_in start bytes) notes

-- The bytes of a range that lie in packets lying wholly in it. Clear packets share no byte, so it is the number of
-- offsets of the range that lie in one of them.
abbrev pub covered_of : ℕ → ℕ → List NoteParts → ℕ
covered_of start bytes notes = sizes (zone_of start bytes notes)

-- Each byte of a range lies in a fill that lies wholly in it.
abbrev pub is_filled : ℕ → ℕ → List NoteParts → Bool
is_filled start bytes notes = (covered_of start bytes notes == bytes) && list_all is_fill_note
    (zone_of start bytes notes)

-- A primer at or after the end of a pack, with nothing but fills between the two.
abbrev pub is_start : ℕ → List NoteParts → NoteParts → Bool
is_start end notes n = is_readable_primer n && nat_le end n.offset && is_filled end (n.offset - end) notes

-- Where the header metadata begin for a partition whose pack has this end.
abbrev pub start_of : ℕ → List NoteParts → Option ℕ
start_of end notes = option_map (λ n. n.offset) (find (is_start end notes) notes)

-- The sets of the header metadata that begin there.
abbrev pub sets_in : ℕ → ℕ → List NoteParts → List NoteParts
sets_in start bytes notes = filter is_set_note (zone_of start bytes notes)

-- The number of Prefaces among them.
abbrev pub prefaces_of : ℕ → ℕ → List NoteParts → ℕ
prefaces_of start bytes notes = count_by is_preface_note (zone_of start bytes notes)

-- The copy of a partition among the clear notes, by its start.
abbrev pub copy_from : List NoteParts → PartitionParts → Option ℕ → CopyInfo
copy_from notes p None =
    record {
      partition = p.offset;
      start = None;
      bytes = p.pack.numbers.header_byte_count;
      covered = 0;
      finished =
          false;
      prefaces = 0;
      status = p.pack.status;
    }
copy_from notes p (Some start) =
    let bytes = p.pack.numbers.header_byte_count in
    let covered = covered_of start bytes notes in
    record {
      partition = p.offset;
      start = Some start;
      bytes = bytes;
      covered = covered;
      finished = covered == bytes;
      prefaces = prefaces_of start bytes notes;
      status = p.pack.status;
    }

unfoldable pub copy_of : List NoteParts → PartitionParts → CopyInfo
copy_of notes p = copy_from notes p (start_of p.end notes)

-- A partition that has header metadata.
abbrev pub has_metadata : PartitionParts → Bool
has_metadata p = nat_lt 0 p.pack.numbers.header_byte_count

abbrev pub copies_among : List NoteParts → List PartitionParts → List CopyInfo
copies_among notes partitions = map (copy_of notes) (filter has_metadata partitions)

-- The copies, one of each partition that has header metadata.
unfoldable pub copies_of : List NoteParts → List CopyInfo
copies_of notes = copies_among (clear_notes notes) (partitions_of notes)

-- Each is that of a partition below those of all later ones.
abbrev pub CopiesRise : List CopyInfo → Type 0
CopiesRise copies = RiseBy (λ c. c.partition) copies

-- The sets of a copy by its start, none without one.
abbrev pub sets_from : List NoteParts → ℕ → Option ℕ → List NoteParts
sets_from notes bytes None = []
sets_from notes bytes (Some start) = sets_in start bytes notes

-- The sets of the copy of a partition, none if there is no such copy.
abbrev pub sets_found : List NoteParts → Option CopyInfo → List NoteParts
sets_found notes None = []
sets_found notes (Some copy) = sets_from notes copy.bytes copy.start

unfoldable pub sets_of : List NoteParts → ℕ → List NoteParts
sets_of notes partition = sets_found (clear_notes notes) (find (λ c. c.partition == partition) (copies_of notes))

-- The note has a primer pack, and this is the one that its value is (ST 377-1, Primer Pack).
abbrev pub IsPrimerOf : NoteParts → BatchParts → Type 0
IsPrimerOf n primer = (kind_of n.key ≡ kinds.Primer) × IsReadAs primer_at n primer

-- Where the header metadata of a partition begin (ST 377-1, header metadata of a partition): at a clear readable primer
-- at or after the end of the pack, such that each byte between the two lies in a clear fill between them.
pub record IsFilled (notes : List NoteParts) (low high offset : ℕ) : Type 0 where
  pub fill : NoteParts
  pub clear : IsClear fill notes
  pub kind : kind_of fill.key ≡ kinds.Fill
  pub from : low ≤ fill.offset
  pub before : end_of fill ≤ high
  pub within : IsInSpan fill offset

pub record IsStart (notes : List NoteParts) (end start : ℕ) : Type 0 where
  pub primer : NoteParts
  pub clear : IsClear primer notes
  pub readable : (pack : BatchParts) × IsPrimerOf primer pack
  pub there : primer.offset ≡ start
  pub after : end ≤ start
  pub filled : (offset : ℕ) → end ≤ offset → offset < start → IsFilled notes end start offset

-- A copy with a start and exactly one Preface.
abbrev pub is_candidate : CopyInfo → Bool
is_candidate c = is_some c.start && (c.prefaces == 1)

abbrev pub status_rank : Status → ℕ
status_rank OpenIncomplete = 0
status_rank OpenComplete = 1
status_rank ClosedIncomplete = 2
status_rank ClosedComplete = 3

-- How high a copy stands: all finished ones above all others, and then by the status of the partition.
abbrev pub rank : CopyInfo → ℕ
rank c = cond c.finished 4 0 + status_rank c.status

-- It stands above the other, or alike in a later partition; each stands above none.
abbrev pub is_above : CopyInfo → Option CopyInfo → Bool
is_above c None = true
is_above c (Some d) = nat_lt (rank d) (rank c) || ((rank d == rank c) && nat_lt d.partition c.partition)

-- The copy or the best so far, whichever is preferred.
abbrev pub better : Option CopyInfo → CopyInfo → Option CopyInfo
better best c = cond (is_candidate c && is_above c best) (Some c) best

-- The best of the copies and of the best before them.
abbrev pub best_of : Option CopyInfo → List CopyInfo → Option CopyInfo
best_of best [] = best
best_of best (c ∷ copies) = best_of (better best c) copies

-- The preferred one of the copies.
abbrev pub preferred_of : List CopyInfo → Option CopyInfo
preferred_of copies = best_of None copies

-- It stands below, or alike in a partition at or below.
abbrev pub IsNotAbove : CopyInfo → CopyInfo → Type 0
IsNotAbove d c = (rank d < rank c) ⊎ ((rank d ≡ rank c) × (d.partition ≤ c.partition))

-- The copy has a start and exactly one Preface.
pub record IsCandidate (c : CopyInfo) : Type 0 where
  pub start : ℕ
  pub begins : c.start ≡ Some start
  pub one : c.prefaces ≡ 1

-- The preferred copy: a candidate that no candidate stands above.
pub record IsBest (copies : List CopyInfo) (c : CopyInfo) : Type 0 where
  pub held : In c copies
  pub candidate : IsCandidate c
  pub best : (d : CopyInfo) → In d copies → IsCandidate d → IsNotAbove d c

-- The preferred copy, or none if there is no candidate.
abbrev pub IsPreferred : List CopyInfo → Option CopyInfo → Type 0
IsPreferred copies None = (d : CopyInfo) → In d copies → IsCandidate d → ⊥
IsPreferred copies (Some c) = IsBest copies c

-- What starts at the start of the header metadata of a partition, or that there is no start.
abbrev pub IsStartFound : List NoteParts → ℕ → Option ℕ → Type 0
IsStartFound notes end None = (start : ℕ) → ¬ IsStart notes end start
IsStartFound notes end (Some start) = IsStart notes end start

-- The note is a clear Preface that lies wholly in the bytes of a range.
pub record IsPrefaceIn (notes : List NoteParts) (start bytes : ℕ) (n : NoteParts) : Type 0 where
  pub clear : IsClear n notes
  pub kind : kind_of n.key ≡ kinds.Preface
  pub from : start ≤ n.offset
  pub before : end_of n ≤ start + bytes

-- This many notes are such: a list that has each of them once, since its notes share no byte, is that long.
pub record AreSoMany (count : ℕ) (IsSuch : NoteParts → Type 0) : Type 0 where
  pub list : List NoteParts
  pub apart : AreApart 0 list
  pub members : (n : NoteParts) → In n list ↔ IsSuch n
  pub number : length list ≡ count

-- The number of offsets of a range that lie in a clear note lying wholly in it, and of the clear Prefaces that lie
-- wholly in it; none without a start.
abbrev pub CountsZone : List NoteParts → CopyInfo → Option ℕ → Type 0
CountsZone notes c None = (c.covered ≡ 0) × (c.prefaces ≡ 0)
CountsZone notes c (Some start) =
    (c.covered ≡ count_by (is_in_one (zone_of start c.bytes (clear_notes notes))) (range_with_len start c.bytes))
    × AreSoMany c.prefaces (IsPrefaceIn notes start c.bytes)

-- The copy of a partition that has header metadata.
pub record IsCopyOf (notes : List NoteParts) (p : PartitionParts) (c : CopyInfo) : Type 0 where
  pub stated : 0 < p.pack.numbers.header_byte_count
  pub partition : c.partition ≡ p.offset
  pub bytes : c.bytes ≡ p.pack.numbers.header_byte_count
  pub status : c.status ≡ p.pack.status
  pub start : IsStartFound notes p.end c.start
  pub counts : CountsZone notes c c.start
  pub finished : IsTrue c.finished ↔ (c.covered ≡ c.bytes)

-- The copy is that of one of the partitions.
abbrev pub IsCopy : List NoteParts → CopyInfo → Type 0
IsCopy notes c = (p : PartitionParts) × In p (partitions_of notes) × IsCopyOf notes p c

-- The note is one of the sets of the copy of the partition at the offset: a clear set that lies wholly in the bytes
-- that the partition states, from the start of the copy on.
pub record IsSetOf (notes : List NoteParts) (partition : ℕ) (n : NoteParts) : Type 0 where
  pub copy : CopyInfo
  pub copied : IsCopy notes copy
  pub there : copy.partition ≡ partition
  pub start : ℕ
  pub begins : copy.start ≡ Some start
  pub clear : IsClear n notes
  pub kind : IsSetKind (kind_of n.key)
  pub from : start ≤ n.offset
  pub before : end_of n ≤ start + copy.bytes
