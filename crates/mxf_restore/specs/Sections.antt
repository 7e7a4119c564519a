-- Holes of a file, cut into sections at the places where packets begin, as far as what is held says (this project's
-- profile).
use Rattle.std.specs.Prelude.{◌≡◌, ℕ, ◌+◌, ◌⊎◌, Bool, true, false, ◌&&◌, not, nat_lt, if◌then◌else◌, Option, None, Some}
use Rattle.std.specs.Prelude.{is_some, List, [], ◌∷◌, ◌++◌, filter, flat_map, map}
use Rattle.std.specs.Option.{option_and_then, option_map_or}
use Rattle.std.specs.List.{filter_map}
use Rattle.std.specs.Ordering.{nat_cmp}
use Rattle.mxf_klv.specs.Parts.{NoteParts}
use Rattle.mxf_klv.specs.Rising.{In, union}
use Rattle.mxf_catalogue.specs.declared.run.Run.{Run}
use Rattle.mxf_views.specs.Gaps.{gaps_of}
use Rattle.mxf_places.specs.Held.{IsHeld, end_of_file, held_end, is_held, is_in_file}
use Rattle.mxf_places.specs.AtHand.{LiesBetween, LiesInRange}
use Rattle.mxf_places.specs.Claims.{claims_of, is_of_stretch}
use Rattle.mxf_places.specs.Named.{IsInFile, IsOfStretch, Names}
use Rattle.mxf_places.specs.declared.claim.Claim.{Claim}
use Rattle.mxf_places.specs.declared.at_hand.OffsetRange.{OffsetRange}
use Rattle.mxf_restore.specs.declared.section.Section.{Section}

-- What stands at the end of a hole: something is held there, or the end of the file isn't known.
abbrev pub IsEndOfHole : List NoteParts → Option ℕ → Type 0
IsEndOfHole notes None = end_of_file notes ≡ None
IsEndOfHole notes (Some e) = IsHeld notes e

-- A maximal range of offsets that aren't held.
pub record IsHole (notes : List NoteParts) (h : OffsetRange) : Type 0 where
  pub some : LiesInRange h h.start
  pub none_held : (x : ℕ) → LiesInRange h x → ¬ IsHeld notes x
  pub first : (x : ℕ) → x + 1 ≡ h.start → IsHeld notes x
  pub last : IsEndOfHole notes h.end

-- The same as functions. Laws tie them to the relations.

abbrev pub closed_hole : Run → OffsetRange
closed_hole gap = record { start = gap.start; end = Some gap.end }

-- The holes: the gaps that end where something is held, and the one after all that is held.
unfoldable pub holes_of : List NoteParts → List OffsetRange
holes_of notes =
    map closed_hole (filter (λ gap. is_held notes gap.end) (gaps_of notes))
    ++ (if is_some (end_of_file notes) then [] else record { start = held_end notes; end = None } ∷ [])

-- Where a hole may be cut: at a place that a pack names, or at the known end of a stretch.
abbrev pub cut_of : Claim → Option ℕ
cut_of c = if is_of_stretch c.reason then (if c.is_open then None else Some c.end) else Some c.from

-- Those that lie in the file and aren't held, rising.
unfoldable pub cuts_of : List NoteParts → List ℕ
cuts_of notes =
    union nat_cmp [] (filter (λ x. is_in_file notes x && not (is_held notes x)) (filter_map cut_of (claims_of notes)))

-- One that does.
abbrev pub free_cut : List NoteParts → Claim → Option ℕ
free_cut notes c =
    option_and_then (λ x. if is_in_file notes x && not (is_held notes x) then Some x else None) (cut_of c)

-- The sections of a hole from an offset on, which is cut at others above it.
abbrev pub sections_from : OffsetRange → ℕ → List ℕ → List Section
sections_from h first [] = record { first = first; end = h.end; hole = h } ∷ []
sections_from h first (cut ∷ cuts) = record { first = first; end = Some cut; hole = h } ∷ sections_from h cut cuts

-- The cut lies inside the hole, above its first byte.
abbrev pub is_inside : OffsetRange → ℕ → Bool
is_inside h cut = nat_lt h.start cut && option_map_or (λ e. nat_lt cut e) h.end true

abbrev pub sections_in : List ℕ → OffsetRange → List Section
sections_in cuts h = sections_from h h.start (filter (is_inside h) cuts)

-- The sections of all holes, rising.
unfoldable pub sections_of : List NoteParts → List Section
sections_of notes = flat_map (sections_in (cuts_of notes)) (holes_of notes)

-- The offset lies in a section.
abbrev pub LiesInSection : Section → ℕ → Type 0
LiesInSection p x = LiesBetween p.first p.end x

-- Where a claim cuts a hole: at the place that it names, or at the known end of its stretch.
abbrev pub CutsAt : Claim → ℕ → Type 0
CutsAt c x = Names c x ⊎ (IsOfStretch c × (c.is_open ≡ false) × (c.end ≡ x))

-- An offset where holes are cut: one at which some claim does, in the file and not held.
pub record IsCut (notes : List NoteParts) (x : ℕ) : Type 0 where
  pub claim : (c : Claim) × In c (claims_of notes) × CutsAt c x
  pub in_file : IsInFile notes x
  pub free : ¬ IsHeld notes x

-- The sections of a file: each lies in its hole, begins at the first byte of that or at a cut, and has a byte; each
-- offset of a hole lies in one of them, and in one alone; and at each cut inside a hole one begins.
pub record AreSections (notes : List NoteParts) (sections : List Section) : Type 0 where
  pub holes : (p : Section) → In p sections → IsHole notes p.hole
  pub within : (p : Section) (x : ℕ) → In p sections → LiesInSection p x → LiesInRange p.hole x
  pub some : (p : Section) → In p sections → LiesInSection p p.first
  pub begins : (p : Section) → In p sections → (p.first ≡ p.hole.start) ⊎ IsCut notes p.first
  pub cover : (h : OffsetRange) (x : ℕ) → IsHole notes h → LiesInRange h x
      → (p : Section) × In p sections × (p.hole ≡ h) × LiesInSection p x
  pub apart : (p q : Section) (x : ℕ) → In p sections → In q sections → LiesInSection p x → LiesInSection q x → p ≡ q
  pub cut : (h : OffsetRange) (x : ℕ) → IsHole notes h → LiesInRange h x → IsCut notes x
      → (p : Section) × In p sections × (p.first ≡ x)
