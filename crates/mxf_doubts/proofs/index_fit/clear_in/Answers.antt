use Rattle.mxf_views.proofs.Common.{◌≡◌, ◌∙◌, [], List, NoteParts, ap, clear_notes, covered_run, map, subst, sym, union_of_runs}
use Rattle.mxf_doubts.specs.IndexFit.{AreClear}
use Rattle.mxf_doubts.proofs.FitLaws.{clear_runs}
use Rattle.mxf_doubts.proofs.index_fit.clear_in.Goals as goal

pub returns : goal.returns
returns c =
    let notes = c.args.catalogue.now in
    let all : c.loop-note.cover ≡ union_of_runs [] (map covered_run (clear_notes notes)) =
    sym (ap (λ (l : List NoteParts). union_of_runs c.loop-note.cover (map covered_run l)) c.in-None.ensures.steps.0)
    ∙ c.loop-note.invariant in
    subst (AreClear notes) (sym all) (clear_runs notes)
