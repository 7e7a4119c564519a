-- Which notes of a fragment stand in a recording where it is said to lie (this project's profile).
use Rattle.std.specs.Prelude.{ℕ, ◌-◌, ◌==◌, ◌&&◌, ◌||◌, Bool, nat_le, not, List, count_by}
use Rattle.std.specs.List.{list_any}
use Rattle.mxf_klv.specs.Note.{greatest_end}
use Rattle.mxf_klv.specs.Parts.{NoteParts}
use Rattle.mxf_find.specs.Packets.{is_same_length, is_same_packet}
use Rattle.mxf_find.specs.Votes.{FragmentParts, place}

-- A note of a recording stands at an offset, with the key, width and length of another.
abbrev pub is_there : ℕ → NoteParts → NoteParts → Bool
is_there offset p n = (n.offset == offset) && is_same_length p n

-- A note agrees with a recording at an offset: one stands there with its key, width and length, and where both are
-- whole it holds the same bytes.
unfoldable pub agrees_at : List NoteParts → ℕ → NoteParts → Bool
agrees_at recording offset p =
    list_any (λ n. is_there offset p n && (not p.whole || not n.whole || is_same_packet p n)) recording

-- It agrees by key, width and length alone: it is a head, or no whole one stands there.
unfoldable pub agrees_as_head_at : List NoteParts → ℕ → NoteParts → Bool
agrees_as_head_at recording offset p =
    agrees_at recording offset p && (not p.whole || not (list_any (λ n. is_there offset p n && n.whole) recording))

-- Whether a shift moves a note of a fragment to an offset, and not below the first.
abbrev pub is_moved : FragmentParts → ℕ → NoteParts → Bool
is_moved f at p = nat_le (greatest_end - place f p) at

-- The offset to which it does.
abbrev pub moved_place : FragmentParts → ℕ → NoteParts → ℕ
moved_place f at p = at - (greatest_end - place f p)

-- A note of a fragment agrees at a shift.
unfoldable pub agrees : FragmentParts → List NoteParts → ℕ → NoteParts → Bool
agrees f recording at p = is_moved f at p && agrees_at recording (moved_place f at p) p

unfoldable pub agrees_as_head : FragmentParts → List NoteParts → ℕ → NoteParts → Bool
agrees_as_head f recording at p = is_moved f at p && agrees_as_head_at recording (moved_place f at p) p

-- How many notes of the fragment agree, and how many of these by key, width and length alone.
abbrev pub agreeing : FragmentParts → List NoteParts → ℕ → ℕ
agreeing f recording at = count_by (agrees f recording at) f.notes

abbrev pub agreeing_as_heads : FragmentParts → List NoteParts → ℕ → ℕ
agreeing_as_heads f recording at = count_by (agrees_as_head f recording at) f.notes

-- A note's packet at another offset, and the head of it there.
abbrev pub moved_to : ℕ → NoteParts → NoteParts
moved_to offset p = record {
  offset = offset;
  key = p.key;
  width = p.width;
  length = p.length;
  whole = p.whole;
  held = p.held;
}
