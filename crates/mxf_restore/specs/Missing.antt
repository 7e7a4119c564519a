-- The places that packs name and that are missing.
use Rattle.std.specs.Prelude.{◌≡◌, ◌⊎◌, ℕ, Bool, false, ◌&&◌, ◌||◌, not, List, filter}
use Rattle.std.specs.List.{filter_map}
use Rattle.mxf_klv.specs.Parts.{NoteParts}
use Rattle.mxf_klv.specs.Rising.{In}
use Rattle.mxf_places.specs.Held.{IsDisputedAt, IsHeld, begins_clear_head, is_disputed_at, is_held, is_in_file}
use Rattle.mxf_places.specs.Claims.{claims_of, named_place}
use Rattle.mxf_places.specs.Named.{IsInFile, Names, StandsAlone}
use Rattle.mxf_places.specs.declared.claim.Claim.{Claim}

-- A head that shares no byte with another packet begins there.
abbrev pub BeginsHead : List NoteParts → ℕ → Type 0
BeginsHead notes x = (n : NoteParts) × StandsAlone notes n x × (n.whole ≡ false)

-- The place may lie in the file, no disputed packet covers it, and what begins there isn't held whole: only the head of
-- a packet is, or nothing.
pub record IsMissing (notes : List NoteParts) (x : ℕ) : Type 0 where
  pub in_file : IsInFile notes x
  pub undisputed : ¬ IsDisputedAt notes x
  pub lacks : BeginsHead notes x ⊎ ¬ IsHeld notes x

-- A pack names the place, and it is missing.
abbrev pub IsMissingPlace : List NoteParts → ℕ → Type 0
IsMissingPlace notes x = (c : Claim) × In c (claims_of notes) × Names c x × IsMissing notes x

-- The same as functions. A law ties them to the relations.

abbrev pub is_missing : List NoteParts → ℕ → Bool
is_missing notes x =
    is_in_file notes x && not (is_disputed_at notes x) && (begins_clear_head notes x || not (is_held notes x))

-- The places that packs name and that are missing.
unfoldable pub missing_places : List NoteParts → List ℕ
missing_places notes = filter (is_missing notes) (filter_map named_place (claims_of notes))
