-- Runs of offsets of which sets are gathered (this project's profile).
use Rattle.std.specs.Prelude.{min, unwrap_or}
use Rattle.mxf_klv.specs.Note.{greatest_end}
use Rattle.mxf_catalogue.specs.Runs.{run}
use Rattle.mxf_catalogue.specs.declared.run.Run.{Run}
use Rattle.mxf_restore.specs.declared.plan.Order.{Order}
use Rattle.mxf_units.specs.declared.unit.Extent.{Extent}

-- The run of an extent, as far as files reach.
abbrev pub run_of_extent : Extent → Run
run_of_extent e = run (min e.start greatest_end) (min (unwrap_or e.end greatest_end) greatest_end)

-- The run of an order, as far as files reach.
abbrev pub run_of_order : Order → Run
run_of_order o = run_of_extent (record { start = o.start; end = o.end })
