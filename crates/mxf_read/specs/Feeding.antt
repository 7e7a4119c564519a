-- A piece whose bytes come in parts: what is known after those that came (this project's profile).
use Rattle.std.specs.Prelude.{◌≡◌, ℕ, ◌<◌, ◌≤◌, List, [], ◌∷◌, ◌++◌, length, take, Option, None, Some, Result, Ok, Err}
use Rattle.std.specs.Prelude.{Bool, false, if◌then◌else◌, nat_lt}
use Rattle.mxf_klv.specs.Parts.{NoteParts, head_parts}
use Rattle.mxf_klv.specs.KeyAndLength.{HasNoKeyAndLength}
use Rattle.mxf_klv.specs.Piece.{end_after, notes_from}
use Rattle.mxf_klv.specs.PieceReading.{IsOpen, heads_at, packet_at, packets_in, rest_in, stop_of}
use Rattle.mxf_klv.specs.declared.piece.Stop.{Stop}
use Rattle.mxf_klv.specs.Note.{end_of}
use Rattle.mxf_catalogue.specs.Content.{reduced_with}
use Rattle.mxf_read.specs.Coming.{HasCome}
use Rattle.mxf_read.specs.ValueSoFar.{is_passing}
use Rattle.mxf_read.specs.declared.coming.ComingValue.{ComingValue}
use Rattle.mxf_read.specs.declared.piece.Piece.{Piece}
use Rattle.mxf_skim.specs.PassedOver.{noted_by}
use Rattle.mxf_skim.specs.declared.scan.Scan.{Scan}

-- The notes are those of the packets that have come whole, as the scan notes them, and the next packet begins after
-- them.
pub record Knows (scan : Scan) (offset : ℕ) (bytes : List ℕ) (p : Piece) : Type 0 where
  pub taken_by : p.scan ≡ scan
  pub notes : p.notes ≡ noted_by scan (notes_from offset (packets_in offset bytes))
  pub at : p.at ≡ end_after offset (packets_in offset bytes)

-- No further packet was noted.
pub record NotesNone (old new : Piece) : Type 0 where
  pub scan : new.scan ≡ old.scan
  pub notes : new.notes ≡ old.notes
  pub at : new.at ≡ old.at

-- The note of the next packet was added, which no byte had come of, and the piece goes on behind it.
pub record NotesOne (old new : Piece) (n : NoteParts) : Type 0 where
  pub scan : new.scan ≡ old.scan
  pub notes : new.notes ≡ reduced_with n old.notes
  pub at : new.at ≡ end_of n
  pub stop : new.stop ≡ old.stop
  pub value : new.value ≡ old.value
  pub head : new.head.items ≡ old.head.items

-- What has come of the next packet stops the piece; or it isn't a whole key and length, and is held; or it is those and
-- a front of the value.
abbrev pub IsNext : Scan → ℕ → Option Stop → Option ComingValue → List ℕ → List ℕ → Type 0
IsNext scan at (Some stop) value head rest = (packet_at at rest ≡ None) × (stop ≡ stop_of at rest) × ¬ IsOpen stop
IsNext scan at None None head rest = (head ≡ rest) × HasNoKeyAndLength rest × IsOpen (stop_of at rest)
IsNext scan at None (Some value) head rest = (head ≡ []) × HasCome scan at value rest × (0 < value.left)

-- These bytes of a piece at an offset have come, to a scan.
pub record Fed (scan : Scan) (offset : ℕ) (bytes : List ℕ) (p : Piece) : Type 0 where
  pub knows : Knows scan offset bytes p
  pub next : IsNext scan p.at p.stop p.value p.head.items (rest_in offset bytes)

-- Some bytes of some piece have come.
abbrev pub IsFed : Piece → Type 0
IsFed p = (scan : Scan) × (offset : ℕ) × (bytes : List ℕ) × Fed scan offset bytes p

-- These bytes came after those before.
abbrev pub Feeds : Piece → Piece → List ℕ → Type 0
Feeds old new more =
    (scan : Scan) (offset : ℕ) (bytes : List ℕ) → Fed scan offset bytes old → Fed scan offset (bytes ++ more) new

-- Memory ran out among these bytes: the notes are those of the packets of a front.
abbrev pub Fails : Piece → Piece → List ℕ → Type 0
Fails old new more = (scan : Scan) (offset : ℕ) (bytes : List ℕ) → Fed scan offset bytes old
    → (done : List ℕ) × (left : List ℕ) × (more ≡ done ++ left) × Knows scan offset (bytes ++ done) new

-- Some bytes were taken from the front of these, `n` in all.
pub record HasTaken (old new : Piece) (bytes : List ℕ) (n : ℕ) : Type 0 where
  pub some : 0 < n
  pub room : n ≤ length bytes
  pub fed : Feeds old new (take n bytes)

-- The same; or out of memory, and no further packet was noted.
abbrev pub TakesFront : {E : Type 0} → Piece → Piece → List ℕ → Result ℕ E → Type 0
TakesFront old new bytes (Ok n) = HasTaken old new bytes n
TakesFront old new bytes (Err e) = NotesNone old new

-- Some bytes were taken from the front of these, `n` in all; or memory ran out among them.
abbrev pub TakesSome : {E : Type 0} → Piece → Piece → List ℕ → Result ℕ E → Type 0
TakesSome old new bytes (Ok n) = HasTaken old new bytes n
TakesSome old new bytes (Err e) = Fails old new bytes

-- The value that has begun, if there is one, has more than `left` bytes to come.
abbrev pub waits_for_more : Option ComingValue → ℕ → Bool
waits_for_more None left = false
waits_for_more (Some v) left = nat_lt left v.left

-- How many bytes are to come of a value that is passed over; none if there is no such value.
abbrev pub passing_left : Option Stop → Option ComingValue → ℕ
passing_left (Some stop) value = 0
passing_left None None = 0
passing_left None (Some v) = if is_passing v.so_far then v.left else 0

-- The head of the packet whose value has begun, if the piece hasn't stopped.
abbrev pub begun_heads : Option Stop → Option ComingValue → List NoteParts
begun_heads (Some stop) value = []
begun_heads None None = []
begun_heads None (Some v) = head_parts v.offset v.key v.ber.width v.ber.value ∷ []

-- The notes are those of the packets of these bytes, and the head is that of the packet that their end cuts.
pub record Tells (scan : Scan) (offset : ℕ) (bytes : List ℕ) (p : Piece) : Type 0 where
  pub knows : Knows scan offset bytes p
  pub head : begun_heads p.stop p.value ≡ heads_at p.at (rest_in offset bytes)

-- None or one.
abbrev pub option_list : {X : Type 0} → Option X → List X
option_list None = []
option_list (Some x) = x ∷ []
