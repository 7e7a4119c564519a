use Rattle.mxf_views.proofs.Common.{[], err_from_is_err_and}
use Rattle.mxf_read.specs.Absorbs.{Absorbs}
use Rattle.mxf_read.proofs.GoingOn.{content_with}
use Rattle.mxf_read.proofs.Taking.{absorbs_merged, absorbs_none}
use Rattle.mxf_read.proofs.absorbing.absorb.Goals as goal

pub returns-in_err-merge_notes-clause-absorbs : goal.returns-in_err-merge_notes-clause-absorbs
returns-in_err-merge_notes-clause-absorbs c =
    let p = err_from_is_err_and c.from_residual.result c.from_residual.ensures.1 in
    let step = c.note_packets-absorbed in
    let own : Absorbs [] step.new.catalogue c.args.offset c.args.bytes.now step.result =
    rw c.new-piece.ensures at step.ensures in
    let refused = c.in_err-merge_notes.ensures in
    rw (p.1, p.2, refused.fault)
    (absorbs_none c.args.views.now step.new.catalogue c.merge_notes.new.views c.args.offset c.args.bytes.now step.result
    own
    refused.some refused.err)

pub returns-in_err-merge_notes-clause-history : goal.returns-in_err-merge_notes-clause-history
returns-in_err-merge_notes-clause-history c h =
    content_with h c.args.views.now c.merge_notes.new.views c.args.offset c.args.bytes.now c.from_residual.result
    (returns-in_err-merge_notes-clause-absorbs c)

pub returns-clause-absorbs : goal.returns-clause-absorbs
returns-clause-absorbs c =
    let step = c.note_packets-absorbed in
    let own : Absorbs [] step.new.catalogue c.args.offset c.args.bytes.now step.result =
    rw c.new-piece.ensures at step.ensures in
    absorbs_merged c.args.views.now step.new.catalogue c.merge_notes.new.views c.args.offset c.args.bytes.now
    step.result own
    c.in_ok-merge_notes.ensures.merged

pub returns-clause-history : goal.returns-clause-history
returns-clause-history c h = content_with h c.args.views.now c.merge_notes.new.views c.args.offset c.args.bytes.now
    c.note_packets-absorbed.result (returns-clause-absorbs c)
