-- The lines of a partition (this project's profile; the fields are those of ST 377-1, Partition Pack).
use Rattle.std.specs.Prelude.{ℕ, List, [], ◌∷◌, ◌++◌, slice_index, Option, None, Some, flat_map}
use Rattle.mxf_klv.specs.Words.{status_name}
use Rattle.mxf_sets.specs.declared.pack.numbers.PartitionNumbers.{PartitionNumbers}
use Rattle.mxf_sets.specs.Batch.{batch_items}
use Rattle.mxf_sets.specs.PartitionPack.{PartitionPackParts}
use Rattle.mxf_sets.specs.Pattern.{pattern_name}
use Rattle.mxf_sets.specs.Words.{part_name}
use Rattle.mxf_views.specs.declared.chain.Link.{Link}
use Rattle.mxf_views.specs.Partitions.{PartitionParts, link_of}
use Rattle.mxf_views.specs.Words.{link_name}
use Rattle.mxf_forms.specs.Forms.{Field, PrintedLine, line, number, number_member, word}
use Rattle.mxf_forms.specs.Hexadecimal.{hex_of}

-- The numbers of a partition pack in their order: its version, its KAG size, and where the partitions stand that it
-- names; and what it says of its header metadata, its index and its essence.
abbrev pub place_fields : PartitionNumbers → List Field
place_fields n =
    number " version " "major" n.major_version ∷ number "." "minor" n.minor_version ∷ number " kag " "kag" n.kag_size
    ∷ number " this " "this" n.this_partition ∷ number " previous " "previous" n.previous_partition
    ∷ number " footer " "footer" n.footer_partition ∷ []

abbrev pub part_fields : PartitionNumbers → List Field
part_fields n =
    number " header-bytes " "header-bytes" n.header_byte_count ∷ number " index-bytes " "index-bytes" n.index_byte_count
    ∷ number " index-sid " "index-sid" n.index_sid ∷ number " body-offset " "body-offset" n.body_offset
    ∷ number " body-sid " "body-sid" n.body_sid ∷ []

-- A label under this name: the name and the digits of the qualifier, byte 15; or all digits.
abbrev pub named_pattern : Option (List ℕ) → List ℕ → List Field
named_pattern (Some name) label =
    word " pattern " "pattern" name ∷ word " " "qualifier" (hex_of (slice_index label 14 ∷ [])) ∷ []
named_pattern None label = word " pattern " "pattern" (hex_of label) ∷ []

-- The label of an operational pattern.
abbrev pub pattern_fields : List ℕ → List Field
pattern_fields label = named_pattern (pattern_name label) label

-- What a partition pack states.
abbrev pub pack_fields : PartitionPackParts → List Field
pack_fields pack =
    word " " "part" (part_name pack.part) ∷ word " " "status" (status_name pack.status)
    ∷ (place_fields pack.numbers ++ (part_fields pack.numbers ++ pattern_fields pack.pattern))

-- The same, and its link.
unfoldable pub linked_fields : PartitionPackParts → Link → List Field
linked_fields pack link = pack_fields pack ++ word " link " "link" (link_name link) ∷ []

-- The line of a partition: its offset, what its pack states, and its link.
unfoldable pub partition_line : PartitionParts → Link → PrintedLine
partition_line p link =
    line "partition" (number " " "offset" p.offset ∷ linked_fields p.pack link)

-- The line of a label of an essence container: the label, and in JSON the offset of the partition that names it.
unfoldable pub container_line : ℕ → List ℕ → PrintedLine
container_line partition label =
    line "container" (word " " "label" (hex_of label) ∷ number_member "partition" partition ∷ [])

-- A line for each label of the essence containers of the partition at an offset.
abbrev pub container_lines : ℕ → List (List ℕ) → List PrintedLine
container_lines partition labels = flat_map (λ label. container_line partition label ∷ []) labels

-- The lines of one of the partitions: its own, with its link among them, and those of its essence containers.
abbrev pub partition_lines : List PartitionParts → PartitionParts → List PrintedLine
partition_lines partitions p =
    partition_line p (link_of partitions p) ∷ container_lines p.offset (batch_items p.pack.containers)
