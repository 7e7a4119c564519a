-- The bytes of runs.
use Rattle.mxf_views.proofs.Common.{◌≤◌, ◌<◌, ◌+◌, ◌-◌, ℕ, List, [], ◌∷◌, arith, AllByRecursion, greatest_end, all-In}
use Rattle.mxf_views.proofs.Common.{all_from_In, IsCover, IsRun, AreMaximal, has_byte}
use Rattle.mxf_catalogue.specs.declared.run.Run.{Run}
use Rattle.mxf_places.specs.Held.{bytes_of}

pub runs_of_cover : (runs : List Run) → IsCover runs → AllByRecursion IsRun runs
runs_of_cover runs is = grind (arith, all_from_In, has_byte, all-In, greatest_end)

bytes_from : (low high : ℕ) (runs : List Run) → AreMaximal low runs → AllByRecursion (λ r. r.end ≤ high) runs
    → bytes_of runs ≤ high - low
bytes_from low high [] m w = omega arith
bytes_from low high (r ∷ runs) m w =
    let ih = bytes_from (r.end + 1) high runs m.2 w.1 in
    let from : low ≤ r.start = m.0 in
    let some : r.start < r.end = m.1 in
    let within : r.end ≤ high = w.0 in omega (arith, ih, from, some, within)

pub bytes_within : (runs : List Run) → IsCover runs → bytes_of runs ≤ greatest_end
bytes_within runs is = bytes_from 0 greatest_end runs is.maximal is.within
