-- Those so far, and those of the copies to come.
use Rattle.std.proofs.Common.{◌≡◌, ◌++◌, drop, flat_map}
use Rattle.mxf_views.specs.Copies.{copies_of}
use Rattle.mxf_doubts.specs.Header.{unreferred}
use Rattle.mxf_doubts.proofs.doubt.header.all_unreferred.Given as goal

abbrev pub invariant-loop-copy : goal.invariant-loop-copy
invariant-loop-copy l = l.offsets.items ++ flat_map (unreferred l.views) (drop l.copy-index l.copy-items)
    ≡ flat_map (unreferred l.views) (copies_of l.views)
