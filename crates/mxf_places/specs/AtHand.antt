-- What sources give of a file beside the packets that are noted of it (this project's profile).
use Rattle.std.specs.Prelude.{◌≡◌, ℕ, ◌+◌, ◌<◌, ◌≤◌, ◌⊎◌, Bool, true, false, ◌&&◌, not, nat_le, nat_lt, max, min}
use Rattle.std.specs.Prelude.{if◌then◌else◌, Option, None, Some, unwrap_or, List, [], ◌∷◌, ◌++◌, count_by}
use Rattle.std.specs.List.{list_any, range_with_len}
use Rattle.std.specs.Option.{option_map_or}
use Rattle.mxf_klv.specs.Parts.{NoteParts}
use Rattle.mxf_klv.specs.Note.{end_of}
use Rattle.mxf_klv.specs.Rising.{In}
use Rattle.mxf_catalogue.specs.declared.run.Run.{Run}
use Rattle.mxf_catalogue.specs.Covers.{IsCover}
use Rattle.mxf_catalogue.specs.Runs.{LiesIn}
use Rattle.mxf_places.specs.Held.{IsEndOfFile, end_of_file, top_of}
use Rattle.mxf_places.specs.declared.at_hand.OffsetRange.{OffsetRange}

-- The offsets whose byte some source gives, and those of them at which no source differs from another, as maximal runs.
pub record AtHandParts : Type 0 where
  pub given : List Run
  pub hand : List Run

-- Both are maximal runs, and what is at hand is given.
pub record AreAtHand (at : AtHandParts) : Type 0 where
  pub given : IsCover at.given
  pub hand : IsCover at.hand
  pub within : (x : ℕ) → LiesIn at.hand x → LiesIn at.given x

-- What is known of a file: the notes of what is held, and what is at hand.
pub record KnownParts : Type 0 where
  pub notes : List NoteParts
  pub at : AtHandParts

abbrev pub nothing_at_hand : AtHandParts
nothing_at_hand = record { given = []; hand = [] }

-- The offset lies between a start and an end, or is no less than the start if there is no end.
abbrev pub LiesBetween : ℕ → Option ℕ → ℕ → Type 0
LiesBetween start end x = (start ≤ x) × ((end ≡ None) ⊎ ((e : ℕ) × (end ≡ Some e) × (x < e)))

abbrev pub LiesInRange : OffsetRange → ℕ → Type 0
LiesInRange r x = LiesBetween r.start r.end x

-- A maximal range from a start up to an end that has no offset of the runs.
pub record IsLacking (runs : List Run) (start : ℕ) (end : Option ℕ) (r : OffsetRange) : Type 0 where
  pub some : LiesInRange r r.start
  pub between : (x : ℕ) → LiesInRange r x → LiesBetween start end x
  pub none : (x : ℕ) → LiesInRange r x → ¬ LiesIn runs x
  pub first : (r.start ≡ start) ⊎ ((x : ℕ) × (x + 1 ≡ r.start) × LiesIn runs x)
  pub last : (r.end ≡ end) ⊎ ((x : ℕ) × (r.end ≡ Some x) × LiesIn runs x)

-- The least offset to which all ends of notes reach at most, even those that heads claim, and below which all given
-- offsets lie.
pub record IsTop (at : AtHandParts) (notes : List NoteParts) (top : ℕ) : Type 0 where
  pub ends : (n : NoteParts) → In n notes → end_of n ≤ top
  pub above : (x : ℕ) → LiesIn at.given x → x < top
  pub least : (y : ℕ) → ((n : NoteParts) → In n notes → end_of n ≤ y) → ((x : ℕ) → LiesIn at.given x → x < y) → top ≤ y

-- How far the file reaches as far as it is known: to its end, or to the top if that isn't known.
abbrev pub IsEdge : AtHandParts → List NoteParts → ℕ → Type 0
IsEdge at notes edge =
    IsEndOfFile notes edge ⊎ (((end : ℕ) → IsEndOfFile notes end → ⊥) × IsTop at notes edge)

-- The same as functions. Laws tie them to the relations.

-- An offset, but no more than a bound.
abbrev pub up_to_bound : ℕ → Option ℕ → ℕ
up_to_bound x None = x
up_to_bound x (Some bound) = min x bound

-- The range, if it has an offset.
abbrev pub some_range : ℕ → Option ℕ → List OffsetRange
some_range start end =
    if option_map_or (λ e. nat_lt start e) end true then record { start = start; end = end } ∷ [] else []

-- The maximal ranges from a start up to an end that have no offset of the runs.
abbrev pub lacking : List Run → ℕ → Option ℕ → List OffsetRange
lacking [] start end = some_range start end
lacking (r ∷ runs) start end =
    some_range start (Some (up_to_bound r.start end)) ++ lacking runs (max start r.end) end

-- The offset lies in one of the runs.
abbrev pub has_offset : List Run → ℕ → Bool
has_offset runs x = list_any (λ r. nat_le r.start x && nat_lt x r.end) runs

-- The number of offsets below an end that lie in one of some runs and in none of others.
abbrev pub outside_below : List Run → List Run → ℕ → ℕ
outside_below hand runs end = count_by (λ x. has_offset hand x && not (has_offset runs x)) (range_with_len 0 end)

abbrev pub is_none : List OffsetRange → Bool
is_none [] = true
is_none (r ∷ ranges) = false

-- All offsets from one up to another do: the runs lack none.
abbrev pub has_offsets : List Run → ℕ → ℕ → Bool
has_offsets runs from to = is_none (lacking runs from (Some to))

-- The first offset above all of the runs.
abbrev pub runs_end : List Run → ℕ
runs_end [] = 0
runs_end (r ∷ runs) = max r.end (runs_end runs)

-- How far the file reaches as far as it is known: to its end, or to the greatest end of a note or of what is given.
abbrev pub edge_of : AtHandParts → List NoteParts → ℕ
edge_of at notes = unwrap_or (end_of_file notes) (max (top_of notes) (runs_end at.given))
