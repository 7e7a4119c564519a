-- The places that packs name and that are missing, each with the pack that names it first (this project's profile).
use Rattle.std.specs.Prelude.{◌≡◌, ◌≢◌, ℕ, Bool, true, false, IsTrue, ◌==◌, if◌then◌else◌, Option, None, Some, List}
use Rattle.std.specs.Prelude.{◌∷◌, ◌++◌, find}
use Rattle.std.specs.Option.{option_and_then, option_map}
use Rattle.std.specs.Map.{lookup}
use Rattle.std.specs.BTreeMap.{is_at}
use Rattle.std.specs.Ordering.{nat_cmp, on}
use Rattle.std.specs.declared.cmp.Ordering.{Ordering}
use Rattle.mxf_klv.specs.Parts.{NoteParts}
use Rattle.mxf_klv.specs.Rising.{In}
use Rattle.mxf_places.specs.Claims.{claims_of, named_place}
use Rattle.mxf_places.specs.declared.claim.Claim.{Claim}
use Rattle.mxf_places.specs.declared.reason.Reason.{Reason}
use Rattle.mxf_places.specs.declared.reason.Reason.TheVariants.{Header}
use Rattle.mxf_restore.specs.Missing.{is_missing}
use Rattle.mxf_restore.specs.declared.named.NamedPlace.{NamedPlace}

-- The claim names the place, and isn't that of the header partition, which no pack names.
abbrev pub NamesPlace : Claim → ℕ → Type 0
NamesPlace c x = (c.reason ≢ Header) × (named_place c ≡ Some x)

-- The place is missing, and the source is that of the first claim that names it.
pub record IsNamedPlace (notes : List NoteParts) (n : NamedPlace) : Type 0 where
  pub missing : IsTrue (is_missing notes n.place)
  pub before : List Claim
  pub by : Claim
  pub later : List Claim
  pub claims : claims_of notes ≡ before ++ (by ∷ later)
  pub names : NamesPlace by n.place
  pub first : (c : Claim) → In c before → ¬ NamesPlace c n.place
  pub source : n.source ≡ by.source

-- They go by place.
abbrev pub place_cmp : NamedPlace → NamedPlace → Ordering
place_cmp = on (λ n. n.place) nat_cmp

-- The same as functions. Lemmas tie them to the relation.

abbrev pub is_header : Reason → Bool
is_header Header = true
is_header _ = false

-- The place that a claim names and that is missing, with the claim's source.
unfoldable pub named_place_of : List NoteParts → Claim → Option NamedPlace
named_place_of notes c =
    if is_header c.reason then None
    else option_and_then (λ x. if is_missing notes x then Some (record { place = x; source = c.source }) else None)
    (named_place c)

-- The source with which a place stands first in a list; none if it doesn't stand there.
abbrev pub source_in : List NamedPlace → ℕ → Option (Option ℕ)
source_in places x = option_map (λ n. n.source) (find (λ n. n.place == x) places)

-- A table has for each place the source with which it stands first.
abbrev pub AreFirst : List NamedPlace → List (ℕ × Option ℕ) → Type 0
AreFirst places entries = (x : ℕ) → lookup (is_at (nat_cmp x)) entries ≡ source_in places x

-- The places of a table.
abbrev pub entry_place : ℕ × Option ℕ → NamedPlace
entry_place e = record { place = e.0; source = e.1 }
