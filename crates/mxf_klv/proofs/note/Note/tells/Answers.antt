use Rattle.std.proofs.Common.{◌∙◌, sym}
use Rattle.mxf_klv.proofs.HeadOrder.{same_note-Decides}
use Rattle.mxf_klv.proofs.note.Note.tells.Goals as goal

pub returns : goal.returns
returns c =
    let d = same_note-Decides c.to_head.result c.args.other.now in (
      λ h. sym c.to_head.ensures ∙ d.0 (sym c.eq-2.ensures ∙ h),
      λ e. c.eq-2.ensures ∙ d.1 (c.to_head.ensures ∙ e),
    )
