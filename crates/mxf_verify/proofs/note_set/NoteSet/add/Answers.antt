use Rattle.std.proofs.Common.{◌∙◌, ◌++◌, ap}
use Rattle.mxf_verify.specs.Telling.{notes_at}
use Rattle.mxf_verify.proofs.FinishingLaws.{added_members, added_once}
use Rattle.mxf_verify.proofs.note_set.NoteSet.add.Goals as goal

pub returns-then-len-self : goal.returns-then-len-self
returns-then-len-self c =
    let all = c.in_ok-push_all.ensures ∙ ap (λ l. l ++ notes_at c.args.notes.now) c.self.view_is in
    added_once c.args.self.now _ c.push_all.new.members.items _ all c.put_in_order.ensures

pub returns-else-len-self : goal.returns-else-len-self
returns-else-len-self c =
    let all = c.in_ok-push_all.ensures ∙ ap (λ l. l ++ notes_at c.args.notes.now) c.self.view_is in
    added_members c.args.self.now _ c.push_all.new.members.items all
