-- Which index is meant (this project's profile).
use Rattle.std.specs.Prelude.{⊤, ◌≡◌, ◌≤◌, ℕ, List, [], ◌∷◌, Option, None, Some, Result, Ok, Err, length, map}
use Rattle.std.specs.Ordering.{nat_cmp}
use Rattle.mxf_klv.specs.Parts.{NoteParts}
use Rattle.mxf_klv.specs.Rising.{union}
use Rattle.mxf_clocks.specs.Runs.{RunParts}
use Rattle.mxf_units.specs.Indexes.{index_sids_of}
use Rattle.mxf_asked.specs.Units.{timecode_in}
use Rattle.mxf_asked.specs.declared.units.IndexedUnits.{IndexedUnits}
use Rattle.mxf_hints.specs.declared.fault.RunFault.{RunFault}
use Rattle.mxf_hints.specs.declared.fault.RunFault.TheVariants as runs

-- The IndexSIDs of the indexes that have a clock, each once.
abbrev pub clocked : List RunParts → List ℕ
clocked clocks = union nat_cmp [] (map (λ r. r.index_sid) clocks)

-- The indexes that may be meant: those that have a clock if a timecode is among the words, otherwise those that are
-- held.
abbrev pub meant_by : List NoteParts → List RunParts → Option (List ℕ) → List ℕ
meant_by notes clocks (Some word) = clocked clocks
meant_by notes clocks None = index_sids_of notes

-- The index is the one that is named, or else the only one of these.
abbrev pub IsNamedOr : Option ℕ → List ℕ → ℕ → Type 0
IsNamedOr (Some named) meant index = index ≡ named
IsNamedOr None meant index = meant ≡ index ∷ []

-- The index that is meant. If none is named, there may be none to be meant, or several.
abbrev pub IsIndexOf : List NoteParts → List RunParts → IndexedUnits → Result ℕ RunFault → Type 0
IsIndexOf notes clocks asked (Ok index) =
    IsNamedOr asked.index (meant_by notes clocks (timecode_in asked.units)) index
IsIndexOf notes clocks asked (Err (runs.NoUnitAt word clock)) =
    (asked.index ≡ None) × (timecode_in asked.units ≡ Some word.now) × (clocked clocks ≡ [])
IsIndexOf notes clocks asked (Err runs.NoIndex) =
    (asked.index ≡ None) × (timecode_in asked.units ≡ None) × (index_sids_of notes ≡ [])
IsIndexOf notes clocks asked (Err (runs.SeveralIndexes meant)) =
    (asked.index ≡ None) × (meant.0.items ≡ meant_by notes clocks (timecode_in asked.units)) × (2 ≤ length meant.0.items)
IsIndexOf notes clocks asked (Err runs.OutOfMemory) = ⊤
IsIndexOf notes clocks asked (Err _) = ⊥

-- The only one of some, if there is one; the fault if there are several.
abbrev pub IsOnly : List ℕ → Result (Option ℕ) RunFault → Type 0
IsOnly some (Ok None) = some ≡ []
IsOnly some (Ok (Some index)) = some ≡ index ∷ []
IsOnly some (Err (runs.SeveralIndexes meant)) = (meant.0.items ≡ some) × (2 ≤ length some)
IsOnly some (Err _) = ⊥
