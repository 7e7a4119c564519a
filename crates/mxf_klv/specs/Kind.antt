-- What a packet is, by its key (this project's profile of the keys of ST 377-1 and of ST 336's groups). Bytes of a
-- key are counted from 1, and byte 8, the version, decides nothing. The first line of the table that fits decides.
use Rattle.std.specs.Prelude.{ℕ, Bool, true, false, ◌&&◌, not, if◌then◌else◌, List, [], ◌∷◌, take, drop, Option, find}
use Rattle.std.specs.Prelude.{unwrap_or}
use Rattle.std.specs.Option.{option_map}
use Rattle.std.specs.Str.{bytes_eq}
use Rattle.mxf_klv.specs.declared.kinds.Kind.{Kind}
use Rattle.mxf_klv.specs.declared.kinds.Kind.TheVariants.{Header, Body, Footer, Primer, Segment, Rip, Fill, Preface}
use Rattle.mxf_klv.specs.declared.kinds.Kind.TheVariants.{Identification, ContentStorage, MaterialPackage}
use Rattle.mxf_klv.specs.declared.kinds.Kind.TheVariants.{SourcePackage, RawSet, Essence, Other}
use Rattle.mxf_klv.specs.declared.kinds.Status.{Status}
use Rattle.mxf_klv.specs.declared.kinds.Status.TheVariants.{OpenIncomplete, ClosedIncomplete, OpenComplete}
use Rattle.mxf_klv.specs.declared.kinds.Status.TheVariants.{ClosedComplete}
use Rattle.mxf_klv.specs.declared.kinds.table.Row.{Row}

-- A line of the table: bytes 5 to 7, bytes 9 to 16, and what they mean.
abbrev pub row : List ℕ → List ℕ → Kind → Row
row registry item kind = record { registry = registry; item = item; kind = kind }

-- The key of a pack: bytes 14 and 15 say which and of what status.
abbrev pub pack : ℕ → ℕ → Kind → Row
pack which status kind =
    row (0x02 ∷ 0x05 ∷ 0x01 ∷ []) (0x0D ∷ 0x01 ∷ 0x02 ∷ 0x01 ∷ 0x01 ∷ which ∷ status ∷ 0x00 ∷ []) kind

-- The keys of a partition pack, one for each status.
abbrev pub partition_packs : ℕ → (Status → Kind) → List Row → List Row
partition_packs which kind rows =
    pack which 0x01 (kind OpenIncomplete)
    ∷ pack which 0x02 (kind ClosedIncomplete)
    ∷ pack which 0x03 (kind OpenComplete)
    ∷ pack which 0x04 (kind ClosedComplete)
    ∷ rows

-- The key of a header metadata set: byte 15 says which.
abbrev pub set : ℕ → Kind → Row
set which kind =
    row (0x02 ∷ 0x53 ∷ 0x01 ∷ []) (0x0D ∷ 0x01 ∷ 0x01 ∷ 0x01 ∷ 0x01 ∷ 0x01 ∷ which ∷ 0x00 ∷ []) kind

-- The kinds whose keys are given in full: packs, the index table segment and sets of ST 377-1, and the fill item of
-- ST 336.
abbrev pub table : List Row
table =
    partition_packs 0x02 (λ s. Header s)
    (partition_packs 0x03 (λ s. Body s)
    (partition_packs 0x04 (λ s. Footer s)
    (pack 0x05 0x01 Primer
    ∷ pack 0x11 0x01 Rip
    ∷ row (0x02 ∷ 0x53 ∷ 0x01 ∷ []) (0x0D ∷ 0x01 ∷ 0x02 ∷ 0x01 ∷ 0x01 ∷ 0x10 ∷ 0x01 ∷ 0x00 ∷ []) Segment
    ∷ set 0x2F Preface
    ∷ set 0x30 Identification
    ∷ set 0x18 ContentStorage
    ∷ set 0x36 MaterialPackage
    ∷ set 0x37 SourcePackage
    ∷ row (0x01 ∷ 0x01 ∷ 0x01 ∷ []) (0x03 ∷ 0x01 ∷ 0x02 ∷ 0x10 ∷ 0x01 ∷ 0x00 ∷ 0x00 ∷ 0x00 ∷ []) Fill
    ∷ [])))

-- The key has the bytes of the line.
abbrev pub fits : List ℕ → Row → Bool
fits key r = bytes_eq (take 3 (drop 4 key)) r.registry && bytes_eq (drop 8 key) r.item

-- The key is that of a thing in an essence container.
abbrev pub is_in_containers : List ℕ → Bool
is_in_containers key = bytes_eq (take 4 (drop 8 key)) (0x0D ∷ 0x01 ∷ 0x03 ∷ 0x01 ∷ [])

-- The kinds whose keys are given in part: any other local set with tags and lengths of two bytes is a raw set, but not
-- one among the essence containers; an essence element is by ST 379's generic container key.
abbrev pub kind_in_part : List ℕ → Kind
kind_in_part key =
    if bytes_eq (take 2 (drop 4 key)) (0x02 ∷ 0x53 ∷ []) && not (is_in_containers key) then RawSet
    else (if bytes_eq (take 2 (drop 4 key)) (0x01 ∷ 0x02 ∷ []) && is_in_containers key then Essence else Other)

-- What the first line that fits says.
abbrev pub kind_in_full : List Row → List ℕ → Option Kind
kind_in_full rows key = option_map (λ r. r.kind) (find (fits key) rows)

-- The kind of a packet with this key.
abbrev pub kind_of : List ℕ → Kind
kind_of key = unwrap_or (kind_in_full table key) (kind_in_part key)

-- Whether packets of this kind make up the structure of a file: all but fill, essence and other.
abbrev pub is_structural : Kind → Bool
is_structural Fill = false
is_structural Essence = false
is_structural Other = false
is_structural _ = true
