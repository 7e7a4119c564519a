-- The places that packs name and that are missing, as a list (this project's profile).
use Rattle.std.specs.Prelude.{◌↔◌, ℕ, ◌==◌, Bool, Option, List, find, is_some}
use Rattle.mxf_klv.specs.Parts.{NoteParts}
use Rattle.mxf_klv.specs.Rising.{In, IsRising}
use Rattle.mxf_restore.specs.NamedPlaces.{IsNamedPlace, place_cmp}
use Rattle.mxf_restore.specs.declared.named.NamedPlace.{NamedPlace}

-- A pack names the place, and what begins there isn't held whole; of those that name it this one is the first.
abbrev pub IsNamedBy : List NoteParts → ℕ → Option ℕ → Type 0
IsNamedBy notes x source = IsNamedPlace notes (record { place = x; source = source })

-- Some pack names the place.
abbrev pub IsNamed : List NoteParts → ℕ → Type 0
IsNamed notes x = (source : Option ℕ) × IsNamedBy notes x source

-- All of these places, rising.
pub record AreNamed (notes : List NoteParts) (named : List NamedPlace) : Type 0 where
  pub rising : IsRising place_cmp named
  pub members : (n : NamedPlace) → In n named ↔ IsNamedPlace notes n

-- The one of some that lies at an offset.
abbrev pub named_at : List NamedPlace → ℕ → Option NamedPlace
named_at named x = find (λ n. n.place == x) named

abbrev pub is_named : List NamedPlace → ℕ → Bool
is_named named x = is_some (named_at named x)
