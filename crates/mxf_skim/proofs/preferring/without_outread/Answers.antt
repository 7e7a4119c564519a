use Rattle.std.proofs.Common.{[], ◌++◌, ◌∷◌, sym, ◌∙◌, append_assoc, ap, List}
use Rattle.mxf_klv.specs.Parts.{NoteParts}
use Rattle.mxf_skim.proofs.HeadsRead.{kept_begin, kept_end, kept_on}
use Rattle.mxf_skim.proofs.preferring.without_outread.Goals as goal

pub loop-note-init : goal.loop-note-init
loop-note-init c =
    let all = c.into_iter-note-iterator.ensures.into_iter_gives ∙ c.notes-note-items.ensures.notes in
    ([], sym all, kept_begin c.args.catalogue.now _ _ c.new-kept.ensures all)

pub loop-note-preserved : goal.loop-note-preserved
loop-note-preserved c =
    let (done, whole, kept) = c.loop-note.invariant in
    let step = c.in-Some.ensures.steps in (
      done ++ c.in-Some.note.now ∷ [],
      whole ∙ ap (λ (l : List NoteParts). done ++ l) step ∙ sym (append_assoc done (c.in-Some.note.now ∷ []) c.next.new.self),
      kept_on c.args.catalogue.now c.args.read.now c.loop-note.kept c.keep_unless_read.new.kept
          c.loop-note.note-iterator c.next.new.self done c.in-Some.note.now c.requires whole step
          c.in_ok-keep_unless_read.ensures.left c.in_ok-keep_unless_read.ensures.kept ∙ kept,
    )

pub returns : goal.returns
returns c =
    kept_end c.args.catalogue.now c.loop-note.kept c.loop-note.note-iterator c.in-None.ensures.steps.0
    c.loop-note.invariant.2 c.notes-note-items.ensures.catalogue.content c.notes-note-items.ensures.reduced
