use Rattle.mxf_views.proofs.Common.{◌≡◌, ◌+◌, AreApart, sizes}
use Rattle.mxf_views.proofs.copy.zone.covered.Given as goal

abbrev pub invariant-loop-note : goal.invariant-loop-note
invariant-loop-note l = (l.covered + sizes l.note-iterator ≡ sizes l.fn.notes) × AreApart l.covered l.note-iterator
