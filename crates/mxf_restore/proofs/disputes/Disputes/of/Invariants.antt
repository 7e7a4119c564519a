-- The least offset and the greatest end so far, with those of the notes that are to come.
use Rattle.mxf_views.proofs.Common.{◌≡◌, disputed_notes}
use Rattle.mxf_restore.specs.Disputes.{greatest_end, least_start}
use Rattle.mxf_restore.proofs.disputes.Disputes.of.Given as goal

abbrev pub invariant-loop-disputed : goal.invariant-loop-disputed
invariant-loop-disputed l = record {
  start : least_start l.start l.disputed-iterator ≡ least_start l.initial.start (disputed_notes l.catalogue);
  end : greatest_end l.end l.disputed-iterator ≡ greatest_end l.initial.end (disputed_notes l.catalogue);
}
