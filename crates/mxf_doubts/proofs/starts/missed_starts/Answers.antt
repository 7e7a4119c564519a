use Rattle.mxf_views.proofs.Common.{◌≡◌, ◌∙◌, IfOk, List, None, ap, subst}
use Rattle.mxf_doubts.specs.declared.starts.UnitStart.{UnitStart}
use Rattle.mxf_doubts.specs.UnitStarts.{first_misses, missed_starts, starts_of}
use Rattle.mxf_doubts.proofs.starts.missed_starts.Goals as goal

pub returns : goal.returns
unfolding missed_starts
returns c =
    subst (λ (l : List UnitStart). IfOk c.first_misses.result (λ v. v.items ≡ first_misses None l))
    (c.deref.ensures.value ∙ c.in_ok-starts.ensures ∙ ap starts_of c.in_ok-asked.ensures) c.first_misses.ensures
