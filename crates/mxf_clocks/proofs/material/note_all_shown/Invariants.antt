use Rattle.mxf_views.proofs.Common.{◌≡◌, ◌||◌, ℕ, List, drop, list_any, nat_cmp}
use Rattle.std.specs.BTreeSet.{contains}
use Rattle.std.specs.Cmp.Lexicographic.{slice_cmp}
use Rattle.mxf_clocks.specs.ClockTracks.{components_of}
use Rattle.mxf_clocks.specs.Lookups.{index_kept, shows_file, timed_in}
use Rattle.mxf_clocks.proofs.material.note_all_shown.Given as goal

abbrev pub invariant-loop-component : goal.invariant-loop-component
invariant-loop-component l = (uid : List ℕ) →
    let shows = shows_file (timed_in l.tables.rates.by_index) (index_kept l.tables.indexes.by_package) l.clock_rate
    l.track uid in
    (contains (slice_cmp nat_cmp) l.shown uid || list_any shows (drop l.component-index l.component-items))
    ≡ (contains (slice_cmp nat_cmp) l.fn.shown uid || list_any shows (components_of l.track))
