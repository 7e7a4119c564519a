use Rattle.std.proofs.Common.{◌↔◌, ◌<◌, ◌≤◌, ℕ, List, IsTrue, subst, ◌∙◌}
use Rattle.mxf_catalogue.specs.declared.run.Run.{Run}
use Rattle.mxf_catalogue.specs.Runs.{LiesIn}
use Rattle.mxf_catalogue.proofs.cover.Cover.has_all.Goals as goal

pub returns-else-end-start : goal.returns-else-end-start
returns-else-end-start c = subst (λ (runs : List Run). IsTrue c.has_all.result
    ↔ ((at : ℕ) → c.args.start ≤ at → at < c.args.end → LiesIn runs at)) (c.deref.ensures.value ∙ c.self.view_is)
    c.has_all.ensures
