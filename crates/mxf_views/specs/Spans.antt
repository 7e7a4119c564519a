-- How many bytes packets take that share none, and the offsets that lie in them (this project's profile).
use Rattle.std.specs.Prelude.{ℕ, ◌-◌, ◌≤◌, Bool, ◌&&◌, nat_le, nat_lt, List, [], ◌∷◌, sum_by}
use Rattle.std.specs.List.{list_any}
use Rattle.mxf_klv.specs.Parts.{NoteParts}
use Rattle.mxf_klv.specs.Note.{end_of}

-- The bytes of a packet: key, length and value.
abbrev pub size_of : NoteParts → ℕ
size_of n = end_of n - n.offset

abbrev pub sizes : List NoteParts → ℕ
sizes notes = sum_by size_of notes

-- The offset lies in the packet.
abbrev pub is_in_span : ℕ → NoteParts → Bool
is_in_span offset n = nat_le n.offset offset && nat_lt offset (end_of n)

-- The offset lies in one of the packets.
abbrev pub is_in_one : List NoteParts → ℕ → Bool
is_in_one notes offset = list_any (is_in_span offset) notes

-- Each ends at or below the offset.
abbrev pub AllEndBy : ℕ → List NoteParts → Type 0
AllEndBy high [] = Unit {0}
AllEndBy high (n ∷ notes) = (end_of n ≤ high) × AllEndBy high notes
