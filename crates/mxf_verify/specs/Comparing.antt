-- What notes of two readings of a recording say of each other (this project's profile).
use Rattle.std.specs.Prelude.{◌≡◌, ◌≢◌, ℕ, Bool, true, not, ◌&&◌, nat_lt}
use Rattle.mxf_klv.specs.Parts.{NoteParts}
use Rattle.mxf_klv.specs.Note.{IsCovered, covered_end, head_note}
use Rattle.mxf_catalogue.specs.Disputes.{is_same_note}

-- Both hold some byte: of a packet that was read whole each, of a head those of its key and its length.
abbrev pub SharesHeldByte : NoteParts → NoteParts → Type 0
SharesHeldByte m n = (offset : ℕ) × IsCovered m offset × IsCovered n offset

-- The first is the head of the second, whose packet was read whole.
abbrev pub IsHeadOf : NoteParts → NoteParts → Type 0
IsHeadOf m n = (n.whole ≡ true) × (head_note n ≡ m)

-- The notes can't be of one reading: they differ, both hold some byte, and neither is the head of the other. What a
-- head claims after its length contradicts nothing, since none of those bytes was read.
pub record Contradicts (m n : NoteParts) : Type 0 where
  pub differ : m ≢ n
  pub share : SharesHeldByte m n
  pub no_head : ¬ IsHeadOf m n
  pub no_packet : ¬ IsHeadOf n m

-- The same as tests. A law ties them to the relations above.

abbrev pub is_held_byte_shared : NoteParts → NoteParts → Bool
is_held_byte_shared m n = nat_lt m.offset (covered_end n) && nat_lt n.offset (covered_end m)

abbrev pub is_head_of : NoteParts → NoteParts → Bool
is_head_of m n = n.whole && is_same_note (head_note n) m

abbrev pub contradicts : NoteParts → NoteParts → Bool
contradicts m n =
    not (is_same_note m n) && is_held_byte_shared m n && not (is_head_of m n) && not (is_head_of n m)
