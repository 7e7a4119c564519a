-- Places of edit units, searched by what a note holds (this project's profile).
use Rattle.std.specs.Prelude.{◌≡◌, ◌⊎◌, ◌+◌, ◌-◌, ◌^◌, ◌<◌, ◌≤◌, ℕ, min, nat_lt, unwrap_or, if◌then◌else◌, Option, None}
use Rattle.std.specs.Prelude.{Some, List, length, slice_index, slice_index_or}
use Rattle.std.specs.List.{AllWithin}
use Rattle.mxf_klv.specs.Rising.{SameMembers}
use Rattle.mxf_units.specs.declared.unit.Extent.{Extent}
use Rattle.mxf_units.specs.Intervals.{greatest_ends}
use Rattle.mxf_verify.specs.declared.unit_places.UnitPlace.{UnitPlace}

-- The greatest number of 128 bits: no packet reaches as far.
abbrev pub greatest_number : ℕ
greatest_number = 2 ^ 128 - 1

-- Up to where bytes are asked about, as a number of 128 bits: to their end, or to the first alone.
abbrev pub cut_end : Extent → ℕ
cut_end e = unwrap_or e.end (min (e.start + 1) greatest_number)

-- The same of a place that has a byte; 0 of another.
abbrev pub reach_of : UnitPlace → ℕ
reach_of p = if nat_lt p.extent.start (cut_end p.extent) then cut_end p.extent else 0

-- How far ahead of the greatest number a place begins: the sooner it does, the greater that is.
abbrev pub back_of : UnitPlace → ℕ
back_of p = greatest_number - p.extent.start

-- By where they begin, then by their units.
abbrev pub BeginsBy : UnitPlace → UnitPlace → Type 0
BeginsBy p q = (p.extent.start < q.extent.start) ⊎ ((p.extent.start ≡ q.extent.start) × (p.unit ≤ q.unit))

-- By where they end, from the last on, then by their units, from the greatest on.
abbrev pub EndsBy : UnitPlace → UnitPlace → Type 0
EndsBy p q = (reach_of q < reach_of p) ⊎ ((reach_of q ≡ reach_of p) × (q.unit ≤ p.unit))

-- Each of the list comes before all later ones.
abbrev pub AreInOrder : (UnitPlace → UnitPlace → Type 0) → List UnitPlace → Type 0
AreInOrder R places =
    (i j : ℕ) (d : UnitPlace) → i ≤ j → j < length places → R (slice_index_or places i d) (slice_index_or places j d)

-- Places in both orders, and beside each how far it and those ahead of it reach.
pub record AreSearched (firsts : List UnitPlace) (reaches : List ℕ) (lasts : List UnitPlace) (backs : List ℕ)
    : Type 0 where
  pub begin : AreInOrder BeginsBy firsts
  pub reaches_are : reaches ≡ greatest_ends reach_of 0 firsts
  pub end : AreInOrder EndsBy lasts
  pub backs_are : backs ≡ greatest_ends back_of 0 lasts
  pub same : SameMembers lasts firsts

-- The first of the places beside which a number above a bound stands, if there is one.
abbrev pub IsFirstAbove : List UnitPlace → List ℕ → ℕ → Option UnitPlace → Type 0
IsFirstAbove places numbers bound None = AllWithin (λ n. n ≤ bound) numbers 0 (length numbers)
IsFirstAbove places numbers bound (Some p) =
    (k : ℕ) × (k < length places) × (p ≡ slice_index_or places k p) × AllWithin (λ n. n ≤ bound) numbers 0 k
    × (bound < slice_index numbers k)
