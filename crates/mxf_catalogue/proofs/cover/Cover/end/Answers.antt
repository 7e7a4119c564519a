use Rattle.std.proofs.Common.{◌↔◌, ◌<◌, ◌≤◌, ℕ, List, subst, ◌∙◌}
use Rattle.mxf_catalogue.specs.declared.run.Run.{Run}
use Rattle.mxf_catalogue.specs.Runs.{LiesIn}
use Rattle.mxf_catalogue.proofs.cover.Cover.end.Goals as goal

pub returns : goal.returns
returns c = λ bound.
    subst (λ (runs : List Run). c.last_end.result ≤ bound ↔ ((offset : ℕ) → LiesIn runs offset → offset < bound))
    (c.deref.ensures.value ∙ c.self.view_is) (c.last_end.ensures bound)
