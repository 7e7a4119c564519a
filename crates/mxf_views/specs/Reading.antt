-- The reading of a file's packets from the front, with the offset that has been reached (ST 377-1; the names of the
-- answers are this project's profile). Nothing here knows of clear notes or of covered offsets: each part goes once
-- over the list.
use Rattle.std.specs.Prelude.{ℕ, ◌+◌, ◌-◌, nat_lt, Bool, true, false, not, ◌==◌, ◌&&◌, if◌then◌else◌, List, [], ◌∷◌}
use Rattle.std.specs.Prelude.{map, filter, fold, find, count_by, Option, Some, None, is_some}
use Rattle.std.specs.List.{cons_option, list_all}
use Rattle.std.specs.Option.{option_map, option_map_or, option_and_then}
use Rattle.mxf_klv.specs.Kind.{kind_of}
use Rattle.mxf_klv.specs.Packet.{size_of}
use Rattle.mxf_klv.specs.Parts.{PacketParts, NoteParts}
use Rattle.mxf_klv.specs.Piece.{notes_from}
use Rattle.mxf_sets.specs.Offset.{stream_offset}
use Rattle.mxf_sets.specs.Segment.{SegmentParts}
use Rattle.mxf_sets.specs.declared.pack.random_index.RipEntry.{RipEntry}
use Rattle.mxf_views.specs.Copies.{is_above, is_candidate, is_fill, is_preface_note, is_set_note}
use Rattle.mxf_views.specs.Partitions.{PartitionParts, is_footer}
use Rattle.mxf_views.specs.Places.{SegmentAtParts}
use Rattle.mxf_views.specs.Records.{read_pack, read_rip, read_segment}
use Rattle.mxf_views.specs.declared.chain.Chain.{Chain}
use Rattle.mxf_views.specs.declared.chain.Chain.TheVariants.{Whole, Broken}
use Rattle.mxf_views.specs.declared.chain.Link.{Link}
use Rattle.mxf_views.specs.declared.chain.Link.TheVariants as links
use Rattle.mxf_views.specs.declared.copy.CopyInfo.{CopyInfo}
use Rattle.mxf_views.specs.declared.index.place.Place.{Place}
use Rattle.mxf_views.specs.declared.index.place.Place.TheVariants.{NotIndexed, At}
use Rattle.mxf_views.specs.declared.random_index.RipView.{RipView}
use Rattle.mxf_views.specs.declared.random_index.RipView.TheVariants.{Absent, One}
use Rattle.mxf_views.specs.declared.random_index.Standing.{Standing}
use Rattle.mxf_views.specs.declared.random_index.Standing.TheVariants as standings

-- Partitions.

-- The partition of a packet at an offset, if it is a readable partition pack.
abbrev pub partition_read : ℕ → PacketParts → Option PartitionParts
partition_read offset p =
    option_map (λ pack. record { offset = offset; end = offset + size_of p; pack = pack }) (read_pack p)

-- The partitions in the order of the file.
abbrev pub partitions_read : ℕ → List PacketParts → List PartitionParts
partitions_read offset [] = []
partitions_read offset (p ∷ ps) = cons_option (partition_read offset p) (partitions_read (offset + size_of p) ps)

-- A pack is First if none came before it, and Held if it names the one that came before; otherwise it is neither.
abbrev pub link_read : Option ℕ → PartitionParts → Option Link
link_read None p = Some links.First
link_read (Some before) p = if p.pack.numbers.previous_partition == before then Some links.Held else None

-- Each pack's offset and link in the order of the file, after a pack at an offset or none.
abbrev pub links_read : Option ℕ → List PartitionParts → List (ℕ × Option Link)
links_read before [] = []
links_read before (p ∷ ps) = (p.offset, link_read before p) ∷ links_read (Some p.offset) ps

-- The link that was read of the pack at an offset.
abbrev pub link_read_at : ℕ → List (ℕ × Option Link) → Option Link
link_read_at offset links = option_and_then (λ l. l.1) (find (λ l. l.0 == offset) links)

-- The last of the packs is a footer.
abbrev pub ends_with_footer : List PartitionParts → Bool
ends_with_footer [] = false
ends_with_footer (p ∷ []) = is_footer p.pack.part
ends_with_footer (p ∷ q ∷ ps) = ends_with_footer (q ∷ ps)

-- The chain is whole if each pack is First or Held and the last is a footer.
abbrev pub chain_read : List PartitionParts → Chain
chain_read ps = if list_all (λ l. is_some l.1) (links_read None ps) && ends_with_footer ps then Whole else Broken

-- Copies of the header metadata.

-- Fills are passed over: the offset after them, and the packets after them.
abbrev pub after_fills : ℕ → List PacketParts → ℕ × List PacketParts
after_fills offset [] = (offset, [])
after_fills offset (p ∷ ps) =
    if is_fill (kind_of p.key) then after_fills (offset + size_of p) ps else (offset, p ∷ ps)

-- The packets that are taken until that many bytes are made up.
abbrev pub taken : ℕ → List PacketParts → List PacketParts
taken bytes [] = []
taken bytes (p ∷ ps) = if nat_lt 0 bytes then p ∷ taken (bytes - size_of p) ps else []

-- A copy, and the notes of its sets.
pub record CopyRead : Type 0 where
  pub copy : CopyInfo
  pub sets : List NoteParts

-- The copy of a partition that starts at an offset, is finished and has these notes.
abbrev pub whole_copy : PartitionParts → ℕ → List NoteParts → CopyRead
whole_copy p start notes = record {
  copy = record {
    partition = p.offset;
    start = Some start;
    bytes = p.pack.numbers.header_byte_count;
    covered = p.pack.numbers.header_byte_count;
    finished = true;
    prefaces = count_by is_preface_note notes;
    status = p.pack.status;
  };
  sets = filter is_set_note notes;
}

-- The copy of a partition, if its pack states header metadata, from the packets after the pack.
abbrev pub copy_read : List PacketParts → PartitionParts → Option CopyRead
copy_read after p =
    let bytes = p.pack.numbers.header_byte_count in
    let found = after_fills p.end after in
    if nat_lt 0 bytes then Some (whole_copy p found.0 (notes_from found.0 (taken bytes found.1))) else None

-- The copies in the order of the file.
abbrev pub copies_read : ℕ → List PacketParts → List CopyRead
copies_read offset [] = []
copies_read offset (p ∷ ps) =
    cons_option (option_and_then (copy_read ps) (partition_read offset p)) (copies_read (offset + size_of p) ps)

-- The same without their sets.
abbrev pub copies_alone : List CopyRead → List CopyInfo
copies_alone reads = map (λ r. r.copy) reads

-- The sets of the copy of the partition at an offset.
abbrev pub sets_read : List CopyRead → ℕ → List NoteParts
sets_read reads offset = option_map_or (λ r. r.sets) (find (λ r. r.copy.partition == offset) reads) []

-- A candidate replaces the best so far, unless the best stands above it.
abbrev pub better_read : Option CopyInfo → CopyInfo → Option CopyInfo
better_read None c = if is_candidate c then Some c else None
better_read (Some best) c = if is_candidate c && not (is_above best (Some c)) then Some c else Some best

-- The preferred copy of copies in the order of the file.
abbrev pub preferred_read : List CopyInfo → Option CopyInfo
preferred_read copies = fold better_read None copies

-- Index.

-- The segment of a packet at an offset, if it is a readable index table segment.
abbrev pub segment_read : ℕ → PacketParts → Option SegmentAtParts
segment_read offset p = option_map (λ segment. record { offset = offset; segment = segment }) (read_segment p)

-- The segments in the order of the file.
abbrev pub segments_read : ℕ → List PacketParts → List SegmentAtParts
segments_read offset [] = []
segments_read offset (p ∷ ps) = cons_option (segment_read offset p) (segments_read (offset + size_of p) ps)

-- Where a segment puts a unit of an index.
abbrev pub place_by_segment : ℕ → ℕ → SegmentParts → Option Place
place_by_segment index_sid unit segment =
    if segment.numbers.index_sid == index_sid
    then option_map (At segment.numbers.body_sid) (stream_offset segment unit)
    else None

-- The place of a unit: that by the first segment of the index that has one.
abbrev pub place_read : ℕ → ℕ → List SegmentAtParts → Place
place_read index_sid unit [] = NotIndexed
place_read index_sid unit (s ∷ ss) =
    option_map_or (λ place. place) (place_by_segment index_sid unit s.segment) (place_read index_sid unit ss)

-- Random index.

-- An entry beside the partition that stands at its place in the order of the file.
abbrev pub compared : RipEntry → PartitionParts → Standing
compared e p =
    if e.offset == p.offset
    then (if p.pack.numbers.body_sid == e.body_sid then standings.Held else standings.Differs)
    else standings.Missing

-- Entries beside partitions, one by one.
abbrev pub one_by_one : List RipEntry → List PartitionParts → List (RipEntry × Standing)
one_by_one [] ps = []
one_by_one (e ∷ es) [] = (e, standings.Missing) ∷ one_by_one es []
one_by_one (e ∷ es) (p ∷ ps) = (e, compared e p) ∷ one_by_one es ps

-- The first random index pack, its entries beside the partitions of the file; it is Absent if there is none.
abbrev pub rip_read : List PartitionParts → ℕ → List PacketParts → RipView
rip_read partitions offset [] = Absent
rip_read partitions offset (p ∷ ps) =
    option_map_or (λ rip. One (record { offset = offset; entries = one_by_one rip.entries partitions })) (read_rip p)
    (rip_read partitions (offset + size_of p) ps)
