use Rattle.mxf_views.proofs.Common.{◌↔◌, ◌∙◌, ℕ, subst, LiesIn}
use Rattle.std.specs.Result.{IfOk}
use Rattle.mxf_verify.specs.Verifying.{IsHeldBy}
use Rattle.mxf_verify.proofs.note_set.OrderedNotes.bytes.Goals as goal

pub returns : goal.returns
returns c = subst (λ l. IfOk c.bytes_of.result (λ r. (at : ℕ) → LiesIn r at ↔ IsHeldBy l at))
    (c.deref.ensures.value ∙ c.self.view_is)
    c.bytes_of.ensures
