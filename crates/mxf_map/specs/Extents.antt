-- How each byte of a file stands, and the maximal ranges of bytes that stand alike (this project's profile).
use Rattle.std.specs.Prelude.{◌≡◌, ◌≢◌, ◌⊎◌, ℕ, ◌+◌, ◌<◌, ◌≤◌, if◌then◌else◌, List, [], ◌∷◌}
use Rattle.mxf_catalogue.specs.Runs.{LiesIn}
use Rattle.mxf_places.specs.AtHand.{KnownParts, has_offset}
use Rattle.mxf_places.specs.Held.{IsDisputedAt, IsHeld, is_disputed_at, is_held}
use Rattle.mxf_map.specs.declared.extent.ByteStanding.{ByteStanding}
use Rattle.mxf_map.specs.declared.extent.ByteStanding.TheVariants.{Disputed, Held, Hand, Missing}
use Rattle.mxf_map.specs.declared.extent.MapExtent.{MapExtent}

-- A byte stands so: a disputed note covers it; some note does, and no disputed one; none does, and it is at hand; or
-- it is neither held nor at hand.
abbrev pub StandsAs : KnownParts → ℕ → ByteStanding → Type 0
StandsAs known x Disputed = IsDisputedAt known.notes x
StandsAs known x Held = IsHeld known.notes x × ¬ IsDisputedAt known.notes x
StandsAs known x Hand = LiesIn known.at.hand x × ¬ IsHeld known.notes x
StandsAs known x Missing = (¬ LiesIn known.at.hand x) × ¬ IsHeld known.notes x

-- The offset is one of the range.
pub record IsOfExtent (e : MapExtent) (x : ℕ) : Type 0 where
  pub above : e.start ≤ x
  pub below : x < e.end

-- A maximal range of offsets below an end that stand alike: the offset before it, if there is one, and the first one
-- after it below the end stand otherwise.
pub record IsExtent (stands : ℕ → ByteStanding) (end : ℕ) (e : MapExtent) : Type 0 where
  pub some : e.start < e.end
  pub within : e.end ≤ end
  pub same : (x : ℕ) → IsOfExtent e x → stands x ≡ e.standing
  pub first : (e.start ≡ 0) ⊎ ((x : ℕ) × (x + 1 ≡ e.start) × (stands x ≢ e.standing))
  pub last : (e.end ≡ end) ⊎ (stands e.end ≢ e.standing)

-- The range that begins at an offset, as far as offsets below an end stand alike.
pub record IsExtentFrom (stands : ℕ → ByteStanding) (end from : ℕ) (e : MapExtent) : Type 0 where
  pub start : e.start ≡ from
  pub some : from < e.end
  pub within : e.end ≤ end
  pub same : (x : ℕ) → from ≤ x → x < e.end → stands x ≡ e.standing
  pub last : (e.end ≡ end) ⊎ (stands e.end ≢ e.standing)

-- Such ranges one after another, from an offset up to an end. A law says that these are the maximal ones.
abbrev pub AreExtents : (ℕ → ByteStanding) → ℕ → ℕ → List MapExtent → Type 0
AreExtents stands end from [] = end ≤ from
AreExtents stands end from (e ∷ extents) = IsExtentFrom stands end from e × AreExtents stands end e.end extents

-- How a byte stands, by tests. A law ties it to the relation.
abbrev pub standing_at : KnownParts → ℕ → ByteStanding
standing_at known x =
    if is_disputed_at known.notes x then Disputed
    else (if is_held known.notes x then Held else (if has_offset known.at.hand x then Hand else Missing))
