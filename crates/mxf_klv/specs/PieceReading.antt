-- The packets of a piece and its stop as functions of its offset and bytes (this project's profile). That they are the
-- packets, the rest and the stop of `Piece`, and that there are no others, is what the laws
-- `each_piece_is_read_one_way` and `each_piece_has_one_stop` say.
use Rattle.std.specs.Prelude.{◌≡◌, ◌<◌, ◌≤◌, ℕ, zero, suc, ◌+◌, ◌-◌, nat_le, nat_lt, nat_eq, Bool, false, ◌&&◌, ◌||◌}
use Rattle.std.specs.Prelude.{not, if◌then◌else◌, List, [], ◌∷◌, ◌++◌, length, take, drop, Option, None, Some}
use Rattle.std.specs.Option.{option_map_or, option_and_then}
use Rattle.byteorder.specs.Endian.{big_number}
use Rattle.mxf_klv.specs.Parts.{LengthParts, PacketParts, NoteParts, head_parts, packet_parts}
use Rattle.mxf_klv.specs.Label.{begins_as_label}
use Rattle.mxf_klv.specs.KeyAndLength.{BeginsWithKeyAndLength, HasNoKeyAndLength}
use Rattle.mxf_klv.specs.Packet.{size_of}
use Rattle.mxf_klv.specs.Note.{greatest_end, note_of}
use Rattle.mxf_klv.specs.Piece.{notes_from, end_after}
use Rattle.mxf_klv.specs.declared.piece.Stop.{Stop}
use Rattle.mxf_klv.specs.declared.piece.Stop.TheVariants.{End, NotUl, BadLength, TooFar, Truncated, NoStart}

-- The length at the front, if a whole one stands there. The law says that `ReadsLength` gives the same.
abbrev pub length_at : List ℕ → Option LengthParts
length_at [] = None
length_at (first ∷ rest) =
    if nat_le first 127 then Some (record { width = 1; value = first })
    else (if nat_lt 128 first && nat_le first 136 && nat_le (first - 128) (length rest)
    then Some (record { width = first - 127; value = big_number (first - 128) rest })
    else None)

-- The length of the packet at the front, if key and length are whole.
unfoldable pub head_at : List ℕ → Option LengthParts
head_at bytes = if begins_as_label bytes && nat_le 16 (length bytes) then length_at (drop 16 bytes) else None

-- Where a packet of this length would end.
abbrev pub end_with : ℕ → LengthParts → ℕ
end_with offset l = offset + (16 + l.width + l.value)

-- A packet of this length is whole, and ends at or below the greatest end.
abbrev pub fits_at : ℕ → List ℕ → LengthParts → Bool
fits_at offset bytes l = nat_le (16 + l.width + l.value) (length bytes) && nat_le (end_with offset l) greatest_end

-- The packet of this length at the front: its key is the first 16 bytes, and its value stands after its length.
abbrev pub packet_with : List ℕ → LengthParts → PacketParts
packet_with bytes l = packet_parts (take 16 bytes) l.width (take l.value (drop l.width (drop 16 bytes)))

-- The packet at the front, if a whole one stands there and ends at or below the greatest end.
unfoldable pub packet_at : ℕ → List ℕ → Option PacketParts
packet_at offset bytes =
    option_and_then (λ l. if fits_at offset bytes l then Some (packet_with bytes l) else None) (head_at bytes)

-- The packets of a piece, at most that many.
abbrev pub packets_by : ℕ → ℕ → List ℕ → List PacketParts
packets_by zero offset bytes = []
packets_by (suc n) offset bytes =
    option_map_or (λ p. p ∷ packets_by n (offset + size_of p) (drop (size_of p) bytes)) (packet_at offset bytes) []

-- What is left after them.
abbrev pub rest_by : ℕ → ℕ → List ℕ → List ℕ
rest_by zero offset bytes = bytes
rest_by (suc n) offset bytes =
    option_map_or (λ p. rest_by n (offset + size_of p) (drop (size_of p) bytes)) (packet_at offset bytes) bytes

-- The packets of a piece: no more than it has bytes.
unfoldable pub packets_in : ℕ → List ℕ → List PacketParts
packets_in offset bytes = packets_by (length bytes) offset bytes

-- The rest of a piece.
unfoldable pub rest_in : ℕ → List ℕ → List ℕ
rest_in offset bytes = rest_by (length bytes) offset bytes

-- A packet of this length at the front is cut: its value isn't whole, and it would end at or below the greatest end.
abbrev pub is_cut_at : ℕ → List ℕ → LengthParts → Bool
is_cut_at offset bytes l = nat_lt (length bytes) (16 + l.width + l.value) && nat_le (end_with offset l) greatest_end

-- The head of the packet at the front, if that is cut after its key and length; otherwise none.
unfoldable pub heads_at : ℕ → List ℕ → List NoteParts
heads_at offset bytes =
    option_map_or (λ l. if is_cut_at offset bytes l then head_parts offset (take 16 bytes) l.width l.value ∷ [] else [])
    (head_at bytes) []

-- The notes of a piece, in order: those of its packets, and the head of the packet that its end cuts.
abbrev pub notes_in : ℕ → List ℕ → List NoteParts
notes_in offset bytes =
    notes_from offset (packets_in offset bytes)
    ++ heads_at (end_after offset (packets_in offset bytes)) (rest_in offset bytes)

-- The length at the front is at fault: it is indefinite, or has more than eight bytes.
abbrev pub is_bad_length : List ℕ → Bool
is_bad_length [] = false
is_bad_length (first ∷ rest) = nat_eq first 128 || nat_lt 136 first

-- Key and length are whole, and the packet would end above the greatest end.
abbrev pub ends_too_far : ℕ → List ℕ → Bool
ends_too_far offset bytes = option_map_or (λ l. nat_lt greatest_end (end_with offset l)) (head_at bytes) false

-- Why no packet is noted at the front of a rest at an offset: the first cause that holds.
unfoldable pub stop_of : ℕ → List ℕ → Stop
stop_of offset rest =
    if nat_eq (length rest) 0 then End
    else (if not (begins_as_label rest) then NotUl offset
    else (if is_bad_length (drop 16 rest) then BadLength offset
    else (if ends_too_far offset rest then TooFar offset
    else Truncated offset)))

-- The stop of a piece: that of its rest.
abbrev pub stop_in : ℕ → List ℕ → Stop
stop_in offset bytes = stop_of (end_after offset (packets_in offset bytes)) (rest_in offset bytes)

-- The piece may go on after this stop, if more bytes come.
abbrev pub IsOpen : Stop → Type 0
IsOpen End = Unit {0}
IsOpen (Truncated place) = Unit {0}
IsOpen (NotUl place) = ⊥
IsOpen (BadLength place) = ⊥
IsOpen (TooFar place) = ⊥
IsOpen (NoStart place) = ⊥

-- The key and the length of the packet at the front, which would end at or below the greatest end.
pub record IsHeadOf (offset : ℕ) (bytes key : List ℕ) (l : LengthParts) : Type 0 where
  pub after : List ℕ
  pub begins : BeginsWithKeyAndLength bytes key l after
  pub within : end_with offset l ≤ greatest_end

-- No packet stands at the front, and the piece stops so. If it may go on, key and length aren't whole.
pub record IsNoHead (offset : ℕ) (bytes : List ℕ) (stop : Stop) : Type 0 where
  pub none : packet_at offset bytes ≡ None
  pub is : stop ≡ stop_of offset bytes
  pub cut : IsOpen stop → HasNoKeyAndLength bytes

-- The packet at the front is the first of the piece, and the piece after it has the others, and the stop.
pub record GoesOn (offset : ℕ) (bytes : List ℕ) (p : PacketParts) (size : ℕ) : Type 0 where
  pub some : 0 < size
  pub room : size ≤ length bytes
  pub within : offset + size ≤ greatest_end
  pub notes : notes_in offset bytes ≡ note_of offset p ∷ notes_in (offset + size) (drop size bytes)
  pub stop : stop_in offset bytes ≡ stop_in (offset + size) (drop size bytes)

-- The piece has no packets, no note but the head of a packet that is cut, and stops so.
pub record EndsAt (offset : ℕ) (bytes : List ℕ) (why : Stop) : Type 0 where
  pub notes : notes_in offset bytes ≡ heads_at offset bytes
  pub stop : stop_in offset bytes ≡ why
