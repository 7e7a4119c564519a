-- Heads by the offset at which their key and length end (this project's profile).
use Rattle.std.specs.Prelude.{◌≡◌, ℕ, ◌&&◌, ◌==◌, ◌++◌, not, Bool, List, filter, find, map}
use Rattle.std.specs.Option.{option_map_or}
use Rattle.std.specs.List.{AllByRecursion}
use Rattle.std.specs.List.Sorted.{IsNonDecreasingBy}
use denote.Bor.{Bor}
use Rattle.mxf_klv.specs.Parts.{NoteParts}
use Rattle.mxf_klv.specs.Ber.{length_bytes}
use Rattle.mxf_klv.specs.Note.{IsNote, covered_end}
use Rattle.mxf_places.specs.Held.{top_of}

-- The bytes of key and length of a packet (ST 336, KLV triplet).
abbrev pub key_and_length : NoteParts → List ℕ
key_and_length n = n.key ++ length_bytes n.width n.length

-- The note is a head whose key and length end at the offset.
abbrev pub is_head_to : ℕ → NoteParts → Bool
is_head_to x n = not n.whole && (covered_end n == x)

-- The heads whose key and length end at an offset.
abbrev pub heads_to : ℕ → List NoteParts → List NoteParts
heads_to end notes = filter (is_head_to end) notes

-- Where a packet begins whose rest is a section with this first byte: at the first head that ends there, or else at the
-- byte itself.
abbrev pub start_of : List NoteParts → ℕ → ℕ
start_of notes first = option_map_or (λ n. n.offset) (find (is_head_to first) notes) first

-- The greatest claimed end of the heads at an offset that end at another; 0 if there is none.
abbrev pub needed_of : List NoteParts → ℕ → ℕ → ℕ
needed_of notes start first = top_of (filter (λ n. is_head_to first n && (n.offset == start)) notes)

-- A table has the heads of notes, in their order.
pub record AreHeads (notes : List NoteParts) (heads : List (Bor NoteParts)) : Type 0 where
  pub listed : map (λ h. h.now) heads ≡ filter (λ n. not n.whole) notes
  pub rising : IsNonDecreasingBy (λ h. h.now.offset) heads
  pub members : AllByRecursion IsNote notes
