-- The offsets of runs that aren't in others, by a walk over both (this project's profile).
use Rattle.std.specs.Prelude.{ℕ, List, [], ◌∷◌, Some, filter, if◌then◌else◌, max, min, nat_lt}
use Rattle.mxf_catalogue.specs.declared.run.Run.{Run}
use Rattle.mxf_catalogue.specs.Covers.{is_between, with_run}
use Rattle.mxf_catalogue.specs.Runs.{run}

-- Runs with the offsets from a start up to an end, if there is one.
abbrev pub with_some : ℕ → ℕ → List Run → List Run
with_some start end runs = if nat_lt start end then with_run (run start end) runs else runs

-- Runs with the offsets from one up to another that lie in none of the holes.
abbrev pub with_outside : List Run → ℕ → ℕ → List Run → List Run
with_outside runs reached end [] = with_some reached end runs
with_outside runs reached end (h ∷ holes) =
    with_outside (with_some reached (min h.start end) runs) (max reached h.end) end holes

-- Runs with the offsets of others that lie in none of the holes.
abbrev pub with_all_outside : List Run → List Run → List Run → List Run
with_all_outside runs [] holes = runs
with_all_outside runs (r ∷ others) holes =
    with_all_outside (with_outside runs r.start r.end (filter (is_between r.start (Some r.end)) holes)) others holes
