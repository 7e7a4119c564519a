use Rattle.std.proofs.Common.{[], subst, sym}
use Rattle.mxf_read.specs.Absorbs.{AbsorbsFrom}
use Rattle.mxf_read.proofs.Reports.{of_stream}
use Rattle.mxf_read.proofs.absorbing.notes_from.Goals as goal

pub returns-clause-taken : goal.returns-clause-taken
returns-clause-taken g c = subst (λ notes. AbsorbsFrom [] notes (g.R.Read.remaining c.args.from.now)
    (g.R.Read.remaining c.fill-outcome.new.from)
    c.args.offset c.args.limit c.fill-outcome.result) (sym c.into_notes.ensures)
    (c.fill-outcome.ensures.taken c.args.offset c.new-piece.ensures)

pub returns-clause-stream : goal.returns-clause-stream
returns-clause-stream g c =
    of_stream [] c.into_notes.result _ _ c.args.offset c.args.limit c.fill-outcome.result (returns-clause-taken g c)
