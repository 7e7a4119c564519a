-- The named places at which the partition that has an offset of a stream may stand (this project's profile).
use Rattle.std.specs.Prelude.{◌≡◌, ℕ, ◌≤◌, ◌⊎◌, Option, List}
use Rattle.mxf_klv.specs.Parts.{NoteParts}
use Rattle.mxf_klv.specs.Rising.{In}
use Rattle.mxf_sets.specs.declared.pack.random_index.RipEntry.{RipEntry}
use Rattle.mxf_views.specs.Partitions.{StandsAt, partitions_of}
use Rattle.mxf_views.specs.RandomIndex.{RipAtParts}
use Rattle.mxf_views.specs.RandomIndexView.{rip_view_of}
use Rattle.mxf_views.specs.declared.random_index.RipView.TheVariants.{One}
use Rattle.mxf_views.specs.declared.random_index.Standing.{Standing}
use Rattle.mxf_places.specs.AtHand.{LiesBetween}
use Rattle.mxf_partial.specs.Named.{IsNamed}
use Rattle.mxf_units.specs.Units.{UnitsParts}
use Rattle.mxf_partial.specs.Streams.{IsHigh, IsLow}

-- No entry of the only random index pack says that a partition of another stream stands at the place (ST 377-1, Random
-- Index Pack).
abbrev pub IsOfStream : List NoteParts → ℕ → ℕ → Type 0
IsOfStream notes body_sid x =
    (r : RipAtParts) (e : RipEntry × Standing) → rip_view_of notes ≡ One r → In e r.entries → e.0.offset ≡ x
    → e.0.body_sid ≡ body_sid

-- A place of a stream: one that packs name and that is missing, or where a partition stands.
abbrev pub IsPlaceOf : List NoteParts → ℕ → ℕ → Type 0
IsPlaceOf notes body_sid x = (IsNamed notes x ⊎ StandsAt (partitions_of notes) x) × IsOfStream notes body_sid x

abbrev pub IsNamedOf : List NoteParts → ℕ → ℕ → Type 0
IsNamedOf notes body_sid x = IsNamed notes x × IsOfStream notes body_sid x

-- Of the places of a stream from the last one at or below where the offset can lie (from the first, if there is none)
-- up to where it lies below, one that is named.
pub record IsNear (u : UnitsParts) (body_sid offset x : ℕ) : Type 0 where
  pub named : IsNamedOf u.known.notes body_sid x
  pub low : ℕ
  pub low_is : IsLow u.known.notes body_sid offset low
  pub from : (y : ℕ) → IsPlaceOf u.known.notes body_sid y → y ≤ low → y ≤ x
  pub high : Option ℕ
  pub high_is : IsHigh u body_sid offset high
  pub before : LiesBetween 0 high x

-- Where the offset may lie: at one of these; if there is none, at a named place of the stream; if there is none, at any
-- named place.
abbrev pub MayLieAt : UnitsParts → ℕ → ℕ → ℕ → Type 0
MayLieAt u body_sid offset x =
    IsNear u body_sid offset x
    ⊎ ((((y : ℕ) → ¬ IsNear u body_sid offset y) × IsNamedOf u.known.notes body_sid x)
    ⊎ (((y : ℕ) → ¬ IsNamedOf u.known.notes body_sid y) × IsNamed u.known.notes x))
