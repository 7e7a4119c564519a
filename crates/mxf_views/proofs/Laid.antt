-- Notes of packets that are laid one after another: each is clear, and what a zone has of them.
use Rattle.mxf_views.proofs.Common.{◌≡◌, ℕ, ◌+◌, ◌≤◌, Bool, true, false, cond, ◌&&◌, List, [], ◌∷◌, ◌++◌, length}
use Rattle.mxf_views.proofs.Common.{filter, filter_map, None, Result, is_some, refl, AllByRecursion, cons_option}
use Rattle.mxf_views.proofs.Common.{option_map, result_ok, sym, ◌∙◌, ap, subst, arith, append_assoc, sum_by-cons}
use Rattle.mxf_views.proofs.Common.{kind_of, note_of, end_of, size_of, PacketParts, NoteParts, notes_from, pack_at}
use Rattle.mxf_views.proofs.Common.{primer_at, rip_at, read_as, is_primer, is_readable_primer, pack_of, partition_at}
use Rattle.mxf_views.proofs.Common.{partitions_of, is_rip, rip_in, partition_read, partitions_read, read_pack, sizes}
use Rattle.mxf_views.proofs.Common.{lies_in, total_of, lt-leb, filter-append, keeps, value_as, clear-laid}
use Rattle.std.proofs.Common.{le-leb}
use Rattle.mxf_views.specs.Records.{read_rip, read_primer}
use Rattle.mxf_catalogue.proofs.ClearLaws.{end_of-note_of}
use Rattle.mxf_catalogue.proofs.LaidNotes.{end_with_one, zone_none_before}
use Rattle.mxf_views.specs.Spans as spans

-- A value that is read only where it is kept is the same whatever is held of others.
read_where_kept : {A E : Type 0} (read : List ℕ → Result A E) (kept : Bool) (value other : List ℕ)
    → cond kept (result_ok (read (cond kept value other))) None ≡ cond kept (result_ok (read value)) None
read_where_kept read true value other = refl
read_where_kept read false value other = refl

-- What a packet's note is read as is what the packet is.
pub read_as-note : {A E : Type 0} (read : List ℕ → Result A E) (offset : ℕ) (p : PacketParts)
    → read_as read (note_of offset p) ≡ value_as read p
read_as-note read offset p = read_where_kept read (keeps p.key (length p.value)) p.value _

pub pack-note : (offset : ℕ) (p : PacketParts) → pack_of (note_of offset p) ≡ read_pack p
unfolding read_pack
pack-note offset p = read_as-note (pack_at (kind_of p.key)) offset p

pub primer-note : (offset : ℕ) (p : PacketParts) → is_readable_primer (note_of offset p) ≡ is_some (read_primer p)
unfolding is_readable_primer
primer-note offset p =
    let e = read_as-note primer_at offset p in
    elim (is_primer (kind_of p.key)) as (λ b. (b && is_some (read_as primer_at (note_of offset p)))
    ≡ is_some (cond b (value_as primer_at p) None)) [ true ↦ ap is_some e | false ↦ refl ]

pub rip-note : (offset : ℕ) (p : PacketParts) → is_rip (kind_of p.key) ≡ true → rip_in (note_of offset p) ≡ read_rip p
unfolding read_rip
rip-note offset p k = rw k (read_as-note (rip_at p.width) offset p)

-- The partition of a packet's note is that of the packet.
pub partition-note : (at : ℕ) (p : PacketParts) → partition_at (note_of at p) ≡ partition_read at p
unfolding partition_at
partition-note at p = λ i. option_map (λ pack. record { offset = at; end = end_of-note_of at p i; pack = pack })
    (pack-note at p i)

filter_map-laid : (at : ℕ) (l : List PacketParts) → filter_map partition_at (notes_from at l) ≡ partitions_read at l
filter_map-laid at [] = refl
filter_map-laid at (p ∷ ps) = λ i. cons_option (partition-note at p i) (filter_map-laid (at + size_of p) ps i)

-- The partitions of a file.
pub partitions_of-laid : (at : ℕ) (l : List PacketParts) → partitions_of (notes_from at l) ≡ partitions_read at l
unfolding partitions_of
partitions_of-laid at l = ap (filter_map partition_at) (clear-laid at l) ∙ filter_map-laid at l

-- The packets that are laid from an offset on give the last of the notes, and all others end at or below that offset.
pub record LastFrom (at : ℕ) (l : List PacketParts) (notes : List NoteParts) : Type 0 where
  pub before : List NoteParts
  pub whole : notes ≡ before ++ notes_from at l
  pub ends : AllByRecursion (λ n. end_of n ≤ at) before

pub last_all : (at : ℕ) (l : List PacketParts) → LastFrom at l (notes_from at l)
last_all at l = record { before = []; whole = refl; ends = tt }

pub last_next : (at : ℕ) (p : PacketParts) (ps : List PacketParts) (notes : List NoteParts)
    → LastFrom at (p ∷ ps) notes → LastFrom (at + size_of p) ps notes
last_next at p ps notes f = record {
  before = f.before ++ note_of at p ∷ [];
  whole = f.whole ∙ sym (append_assoc f.before (note_of at p ∷ []) (notes_from (at + size_of p) ps));
  ends = end_with_one at (at + size_of p) f.before (note_of at p) f.ends (omega arith) (omega arith);
}

pub last_past : (at : ℕ) (xs ys : List PacketParts) (notes : List NoteParts) → LastFrom at (xs ++ ys) notes
    → LastFrom (at + total_of xs) ys notes
last_past at [] ys notes f = subst (λ x. LastFrom x ys notes) (let e : at ≡ at + 0 = omega arith in e) f
last_past at (x ∷ xs) ys notes f =
    let e : at + size_of x + total_of xs ≡ at + (size_of x + total_of xs) = omega arith in
    subst (λ x. LastFrom x ys notes) e (last_past (at + size_of x) xs ys notes (last_next at x (xs ++ ys) notes f))

-- What is laid from the zone's end on isn't in it.
zone_none_after : (start bytes at : ℕ) (l : List PacketParts) → start + bytes ≤ at → start ≤ at
    → filter (lies_in start bytes) (notes_from at l) ≡ []
zone_none_after start bytes at [] h k = refl
zone_none_after start bytes at (p ∷ ps) h k =
    rw (le-leb start at k, lt-leb (end_of (note_of at p)) (start + bytes) (omega arith))
    (zone_none_after start bytes (at + size_of p) ps (omega arith) (omega arith))

zone_within : (start bytes at : ℕ) (xs ys : List PacketParts) → start ≤ at → at + total_of xs ≡ start + bytes
    → filter (lies_in start bytes) (notes_from at (xs ++ ys)) ≡ notes_from at xs
zone_within start bytes at [] ys h e = zone_none_after start bytes at ys (omega arith) h
zone_within start bytes at (x ∷ xs) ys h e =
    rw (le-leb start at h, le-leb (end_of (note_of at x)) (start + bytes) (omega arith))
    (ap (λ ns. note_of at x ∷ ns) (zone_within start bytes (at + size_of x) xs ys (omega arith) (omega arith)))

-- The notes of a zone are those of the packets that make it up.
pub zone-laid : (start bytes : ℕ) (xs ys : List PacketParts) (notes : List NoteParts)
    → LastFrom start (xs ++ ys) notes → total_of xs ≡ bytes → filter (lies_in start bytes) notes ≡ notes_from start xs
zone-laid start bytes xs ys notes f e = ap (filter (lies_in start bytes)) f.whole
    ∙ filter-append (lies_in start bytes) f.before (notes_from start (xs ++ ys))
    ∙ ap (λ ns. ns ++ filter (lies_in start bytes) (notes_from start (xs ++ ys)))
    (zone_none_before start bytes f.before f.ends) ∙ zone_within start bytes start xs ys (omega arith) (omega arith)

-- Laid packets cover as many bytes as they have.
pub covered-laid : (at : ℕ) (xs : List PacketParts) → sizes (notes_from at xs) ≡ total_of xs
covered-laid at [] = refl
covered-laid at (x ∷ xs) =
    let e : sizes (notes_from at (x ∷ xs)) ≡ spans.size_of (note_of at x) + sizes (notes_from (at + size_of x) xs)
    = sum_by-cons spans.size_of (note_of at x) (notes_from (at + size_of x) xs) in
    let ih : sizes (notes_from (at + size_of x) xs) ≡ total_of xs = covered-laid (at + size_of x) xs in
    let s : spans.size_of (note_of at x) ≡ size_of x = omega arith in
    omega (arith, e, ih, s)
