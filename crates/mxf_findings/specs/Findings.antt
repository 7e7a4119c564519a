-- Findings: where the notes of a file show something to be wrong or missing (this project's profile).
use Rattle.std.specs.Prelude.{if◌then◌else◌, ℕ, Bool, true, false, not, ◌&&◌, ◌||◌, ◌==◌, nat_lt, Option, Some, None, is_none}
use Rattle.std.specs.Prelude.{List, [], ◌∷◌, ◌++◌, map, flat_map, filter}
use Rattle.std.specs.List.{list_any}
use Rattle.mxf_klv.specs.declared.kinds.Status.{Status}
use Rattle.mxf_klv.specs.declared.kinds.Status.TheVariants.{OpenIncomplete, OpenComplete}
use Rattle.mxf_klv.specs.Parts.{NoteParts}
use Rattle.mxf_klv.specs.Note.{end_of}
use Rattle.mxf_klv.specs.Kind.{kind_of}
use Rattle.mxf_klv.specs.Rising.{union}
use Rattle.mxf_sets.specs.declared.pack.random_index.RipEntry.{RipEntry}
use Rattle.mxf_sets.specs.RandomIndexPack.{RipParts}
use Rattle.mxf_catalogue.specs.Disputes.{DisputedParts, clear_notes, disputed_notes}
use Rattle.mxf_views.specs.declared.chain.Link.{Link}
use Rattle.mxf_views.specs.declared.chain.Link.TheVariants.{Skips, Missing, Wrong}
use Rattle.mxf_views.specs.declared.chain.Chain.{Chain}
use Rattle.mxf_views.specs.declared.chain.Chain.TheVariants.{Whole, Broken}
use Rattle.mxf_views.specs.declared.copy.CopyInfo.{CopyInfo}
use Rattle.mxf_references.specs.declared.reference.target.Ref.{Ref}
use Rattle.mxf_references.specs.declared.reference.target.Target.{Target}
use Rattle.mxf_references.specs.declared.reference.target.Target.TheVariants.{Found}
use Rattle.mxf_findings.specs.declared.finding.Code.{Code}
use Rattle.mxf_findings.specs.declared.finding.Code.TheVariants.{F01, F02, F03, F04, F05, F06, F07, F08, F09, F10, F11}
use Rattle.mxf_findings.specs.declared.finding.Code.TheVariants.{F12, F13, F14}
use Rattle.mxf_findings.specs.declared.finding.Finding.{Finding}
use Rattle.mxf_views.specs.Partitions.{PartitionParts, chain_of, is_footer, is_no_unreadable_pack, link_of}
use Rattle.mxf_views.specs.Partitions.{partitions_of}
use Rattle.mxf_views.specs.Gaps.{gaps_of}
use Rattle.mxf_views.specs.Copies.{copies_of, is_primer, is_set}
use Rattle.mxf_views.specs.Places.{is_segment}
use Rattle.mxf_views.specs.RandomIndex.{is_rip_note, rip_in}
use Rattle.mxf_references.specs.Readable.{is_unreadable}
use Rattle.mxf_references.specs.Resolved.{ResolvedParts, resolved_of}
use Rattle.mxf_findings.specs.Codes.{all_codes, finding, finding_cmp}

-- ---- Partitions

-- The partition names another offset as its own.
abbrev pub is_misplaced : PartitionParts → Bool
is_misplaced p = not (p.pack.numbers.this_partition == p.offset)

-- The link is neither First nor Held.
abbrev pub is_unfit : Link → Bool
is_unfit Skips = true
is_unfit Missing = true
is_unfit Wrong = true
is_unfit _ = false

abbrev pub is_open : Status → Bool
is_open OpenIncomplete = true
is_open OpenComplete = true
is_open _ = false

-- A footer partition that isn't closed.
abbrev pub is_open_footer : PartitionParts → Bool
is_open_footer p = is_footer p.pack.part && is_open p.pack.status

-- A footer partition stands at the offset.
abbrev pub footer_stands_at : ℕ → List PartitionParts → Bool
footer_stands_at offset partitions = list_any (λ q. is_footer q.pack.part && q.offset == offset) partitions

-- The partition names an offset, 0 aside, as that of the footer partition, and none stands there.
abbrev pub lacks_footer : List PartitionParts → PartitionParts → Bool
lacks_footer partitions p =
    let footer = p.pack.numbers.footer_partition in not (footer == 0) && not (footer_stands_at footer partitions)

-- ---- Packets that can't be read

-- A primer pack, a metadata set or a raw set that isn't readable.
unfoldable pub is_unreadable_set : NoteParts → Bool
is_unreadable_set n = (is_primer (kind_of n.key) || is_set (kind_of n.key)) && is_unreadable n

-- An index table segment that isn't readable.
unfoldable pub is_unreadable_segment : NoteParts → Bool
is_unreadable_segment n = is_segment (kind_of n.key) && is_unreadable n

-- ---- Header metadata

-- The copy has no start, or isn't finished.
abbrev pub is_partial : CopyInfo → Bool
is_partial c = is_none c.start || not c.finished

abbrev pub is_found : Target → Bool
is_found (Found offset) = true
is_found _ = false

-- The offset of a set, once for each of its references that isn't found.
abbrev pub lost_at : ℕ → List Ref → List ℕ
lost_at offset refs = map (λ r. offset) (filter (λ r. not (is_found r.target)) refs)

-- By what the reference to the storage leads to: the storage, which holds those to the packages, or no such set. The
-- Preface holds this one.
abbrev pub lost_behind : ℕ → Target → List Ref → List ℕ
lost_behind preface (Found offset) packages = lost_at offset packages
lost_behind preface _ packages = preface ∷ []

-- The same if the Preface can't be read: it holds no reference then.
abbrev pub lost_beside : ℕ → Option Ref → List Ref → List ℕ
lost_beside preface None packages = []
lost_beside preface (Some storage) packages = lost_behind preface storage.target packages

-- The offsets of the Preface and of the storage, for their references that aren't found.
abbrev pub lost_by : ResolvedParts → List ℕ
lost_by r = lost_at r.preface r.identifications ++ lost_beside r.preface r.storage r.packages

-- The same for the preferred copy, if there is one.
abbrev pub lost_in : Option ResolvedParts → List ℕ
lost_in None = []
lost_in (Some r) = lost_by r

-- ---- Random index packs

-- The entries are those of the partitions, one after another: for each its BodySID and its offset.
abbrev pub are_entries_of : List PartitionParts → List RipEntry → Bool
are_entries_of [] [] = true
are_entries_of [] (e ∷ entries) = false
are_entries_of (p ∷ partitions) [] = false
are_entries_of (p ∷ partitions) (e ∷ entries) =
    e.body_sid == p.pack.numbers.body_sid && e.offset == p.offset && are_entries_of partitions entries

abbrev pub is_index_of : List PartitionParts → Option RipParts → Bool
is_index_of partitions None = false
is_index_of partitions (Some rip) = are_entries_of partitions rip.entries

-- One of the notes has a random index pack at another offset.
abbrev pub has_other_rip : NoteParts → List NoteParts → Bool
has_other_rip n notes = list_any (λ m. is_rip_note m && not (m.offset == n.offset)) notes

-- One of the notes of whole packets ends above the offset.
abbrev pub ends_above : ℕ → List NoteParts → Bool
ends_above end notes = list_any (λ m. m.whole && nat_lt end (end_of m)) notes

-- A random index pack that doesn't fit: another clear note has one too, some note ends above its end, or it can't be
-- read or doesn't list the partitions.
abbrev pub is_unfit_rip : List NoteParts → NoteParts → Bool
is_unfit_rip notes n =
    is_rip_note n && (has_other_rip n (clear_notes notes) || ends_above (end_of n) notes
    || not (is_index_of (partitions_of notes) (rip_in n)))

-- ---- The findings

abbrev pub is_broken : Chain → Bool
is_broken Broken = true
is_broken Whole = false

-- The code is that of how the note is disputed.
abbrev pub is_dispute_cause : Code → DisputedParts → Bool
is_dispute_cause F01 d = d.same_offset
is_dispute_cause F02 d = d.overlaps
is_dispute_cause _ d = false

-- The code is that of what is wrong with the partition, of these.
abbrev pub is_partition_cause : Code → List PartitionParts → PartitionParts → Bool
is_partition_cause F05 partitions p = is_misplaced p
is_partition_cause F06 partitions p = is_unfit (link_of partitions p)
is_partition_cause F07 partitions p = is_open_footer p
is_partition_cause F08 partitions p = lacks_footer partitions p
is_partition_cause _ partitions p = false

-- The code is that of a packet which isn't readable, as the note's isn't.
abbrev pub is_note_cause : Code → NoteParts → Bool
is_note_cause F10 n = is_unreadable_set n
is_note_cause F11 n = is_unreadable_segment n
is_note_cause _ n = false

-- Where disputed notes, partitions and clear notes have the cause of the code.
abbrev pub disputed_at : Code → List NoteParts → List ℕ
disputed_at code notes = map (λ d. d.note.offset) (filter (is_dispute_cause code) (disputed_notes notes))

abbrev pub partitions_at : Code → List NoteParts → List ℕ
partitions_at code notes =
    let partitions = partitions_of notes in map (λ p. p.offset) (filter (is_partition_cause code partitions) partitions)

abbrev pub clear_at : Code → List NoteParts → List ℕ
clear_at code notes = map (λ n. n.offset) (filter (is_note_cause code) (clear_notes notes))

-- Where the cause of a code is met: file offsets, some of which may stand there twice.
abbrev pub offsets_for : Code → List NoteParts → List ℕ
offsets_for F01 notes = disputed_at F01 notes
offsets_for F02 notes = disputed_at F02 notes
offsets_for F03 notes = map (λ r. r.start) (gaps_of notes)
offsets_for F04 notes = map (λ n. n.offset) (filter (λ n. not (is_no_unreadable_pack n)) (clear_notes notes))
offsets_for F05 notes = partitions_at F05 notes
offsets_for F06 notes = partitions_at F06 notes
offsets_for F07 notes = partitions_at F07 notes
offsets_for F08 notes = partitions_at F08 notes
offsets_for F09 notes = map (λ c. c.partition) (filter is_partial (copies_of notes))
offsets_for F10 notes = clear_at F10 notes
offsets_for F11 notes = clear_at F11 notes
offsets_for F12 notes = map (λ n. n.offset) (filter (is_unfit_rip notes) (clear_notes notes))
offsets_for F13 notes = lost_in (resolved_of notes)
offsets_for F14 notes = if is_broken (chain_of notes) then 0 ∷ [] else []

-- What is found of a code.
abbrev pub findings_for : Code → List NoteParts → List Finding
findings_for code notes = map (finding code) (offsets_for code notes)

-- What is found of all codes, in its order, none twice.
abbrev pub findings_of : List NoteParts → List Finding
findings_of notes = union finding_cmp [] (flat_map (λ code. findings_for code notes) all_codes)
