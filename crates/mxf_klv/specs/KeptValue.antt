-- What a note keeps of a value (this project's profile).
use Rattle.std.specs.Prelude.{◌≡◌, ℕ, ◌+◌, ◌≤◌, Bool, true, false, List, [], length}
use Rattle.mxf_klv.specs.declared.note.front.Front.{Front}
use Rattle.mxf_klv.specs.declared.note.held.KeptValue.{KeptValue}
use Rattle.mxf_klv.specs.declared.note.held.KeptValue.TheVariants.{Whole, Digest, Head}
use Rattle.mxf_klv.specs.declared.note.held.Held.{Held}
use Rattle.mxf_klv.specs.declared.note.held.Held.TheVariants as held
use Rattle.mxf_klv.specs.Kind.{kind_of}
use Rattle.mxf_klv.specs.Label.{IsLabel}
use Rattle.mxf_klv.specs.Parts.{NoteParts, CanSpell}
use Rattle.mxf_klv.specs.Note.{greatest_end, keeps, keeps_value}

-- What stands ahead of the value.
abbrev pub front_of : KeptValue → Front
front_of (Whole f v) = f
front_of (Digest f d) = f
front_of (Head f) = f

-- The bytes that are kept.
abbrev pub kept_bytes : KeptValue → List ℕ
kept_bytes (Whole f v) = v.items
kept_bytes (Digest f d) = d
kept_bytes (Head f) = []

-- The packet was read whole.
abbrev pub is_whole : KeptValue → Bool
is_whole (Whole f v) = true
is_whole (Digest f d) = true
is_whole (Head f) = false

-- Of a packet that was read whole, the value is kept exactly if its key and number of bytes say so.
abbrev pub IsKeptBy : KeptValue → ℕ → Type 0
IsKeptBy (Whole f v) len = (keeps f.key len ≡ true) × (length v.items ≡ len)
IsKeptBy (Digest f d) len = (keeps f.key len ≡ false) × (length d ≡ 32)
IsKeptBy (Head f) len = Unit {0}

-- What holds of a note's fields: the key is a label and says the kind, the width can spell the length, the packet ends
-- at or below the greatest end, and as much is kept as has to be.
pub record AreNoteFields (offset len : ℕ) (kept : KeptValue) : Type 0 where
  pub label : IsLabel (front_of kept).key
  pub kind : (front_of kept).kind ≡ kind_of (front_of kept).key
  pub width : CanSpell (front_of kept).width len
  pub within : offset + 16 + (front_of kept).width + len ≤ greatest_end
  pub value : IsKeptBy kept len

-- What is shown of a note's value is what the note holds: the whole value exactly if the note keeps it, the digest
-- of another that was read whole, and nothing of a head's.
abbrev pub Shows : Held → NoteParts → Type 0
Shows (held.Whole v) n = (keeps_value n ≡ true) × (v.now ≡ n.held)
Shows (held.Digest d) n = (n.whole ≡ true) × (keeps_value n ≡ false) × (d.now ≡ n.held)
Shows held.Head n = (n.whole ≡ false) × (keeps_value n ≡ false)
