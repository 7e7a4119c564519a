-- What is held of a value that comes in parts (this project's profile).
use Rattle.std.specs.Prelude.{◌≡◌, ℕ, ◌-◌, Bool, true, false, if◌then◌else◌, List, length}
use Rattle.sha2.specs.Hashers.{Holds256}
use Rattle.mxf_klv.specs.Parts.{NoteParts}
use Rattle.mxf_skim.specs.PassedOver.{is_in_container, passed_note}
use Rattle.mxf_skim.specs.declared.scan.Scan.{Scan}
use Rattle.mxf_skim.specs.declared.scan.Scan.TheVariants.{Full, Skim}
use Rattle.mxf_read.specs.declared.coming.ValueSoFar.{ValueSoFar}
use Rattle.mxf_read.specs.declared.coming.ValueSoFar.TheVariants.{Gathered, Digested, PassedOver}

-- The value is gathered, and not digested.
abbrev pub is_gathered : ValueSoFar → Bool
is_gathered (Gathered v) = true
is_gathered (Digested h) = false
is_gathered PassedOver = false

-- The value is passed over.
abbrev pub is_passing : ValueSoFar → Bool
is_passing (Gathered v) = false
is_passing (Digested h) = false
is_passing PassedOver = true

-- How many of `total` bytes have come, if `left` of them are left.
abbrev pub came_of : ValueSoFar → ℕ → ℕ → ℕ
came_of (Gathered v) total left = length v.items
came_of (Digested h) total left = total - left
came_of PassedOver total left = total - left

-- These bytes have come; of a value that is passed over any may have.
abbrev pub Has : ValueSoFar → List ℕ → Type 0
Has (Gathered v) bytes = v.items ≡ bytes
Has (Digested h) bytes = Holds256 h bytes
Has PassedOver bytes = Unit {0}

-- A scan passes over the value of a packet with this key and length.
abbrev pub passes : Scan → List ℕ → ℕ → Bool
passes Full key len = false
passes Skim key len = is_in_container key len

-- The note of a packet, or that of the same packet, its value being passed over.
abbrev pub noted_if : Bool → NoteParts → NoteParts
noted_if passing n = if passing then passed_note n else n
