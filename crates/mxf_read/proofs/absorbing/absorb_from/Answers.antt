use Rattle.std.proofs.lemmas.Result.{err_from_is_err_and}
use Rattle.mxf_read.proofs.GoingOn.{content_from}
use Rattle.mxf_read.proofs.Reports.{from_merged, from_none, of_stream}
use Rattle.mxf_read.proofs.absorbing.absorb_from.Goals as goal

pub returns-in_err-merge_notes-clause-taken : goal.returns-in_err-merge_notes-clause-taken
returns-in_err-merge_notes-clause-taken g c =
    let p = err_from_is_err_and c.from_residual.result c.from_residual.ensures.1 in
    let refused = c.in_err-merge_notes.ensures in
    rw (p.1, p.2, refused.fault)
    (from_none c.args.views.now c.notes_from-notes.result.notes c.merge_notes.new.views _ _ c.args.offset c.args.limit
    c.notes_from-notes.result.outcome c.notes_from-notes.ensures.taken refused.err)

pub returns-clause-taken : goal.returns-clause-taken
returns-clause-taken g c =
    from_merged c.args.views.now c.notes_from-notes.result.notes c.merge_notes.new.views _ _ c.args.offset c.args.limit
    c.notes_from-notes.result.outcome c.notes_from-notes.ensures.taken
    c.in_ok-merge_notes.ensures.merged

pub returns-clause-stream : goal.returns-clause-stream
returns-clause-stream g c =
    of_stream c.args.views.now c.merge_notes.new.views _ _ c.args.offset c.args.limit c.notes_from-notes.result.outcome
    (returns-clause-taken g c)

pub returns-in_err-merge_notes-clause-history : goal.returns-in_err-merge_notes-clause-history
returns-in_err-merge_notes-clause-history g c h =
    content_from h c.args.views.now c.merge_notes.new.views _ _ c.args.offset c.args.limit c.from_residual.result
    (returns-in_err-merge_notes-clause-taken g c)

pub returns-clause-history : goal.returns-clause-history
returns-clause-history g c h = content_from h c.args.views.now c.merge_notes.new.views _ _ c.args.offset c.args.limit
    c.notes_from-notes.result.outcome (returns-clause-taken g c)
