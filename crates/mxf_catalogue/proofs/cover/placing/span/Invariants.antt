use Rattle.std.proofs.Common.{◌≡◌, drop}
use Rattle.mxf_catalogue.specs.Covers.{spanned}
use Rattle.mxf_catalogue.proofs.cover.placing.span.Given as goal

abbrev pub invariant-loop-next : goal.invariant-loop-next
invariant-loop-next l = spanned l.all (drop l.next-index l.others) ≡ spanned l.fn.run l.others
