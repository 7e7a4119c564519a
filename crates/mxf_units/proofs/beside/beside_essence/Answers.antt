use Rattle.mxf_views.proofs.Common.{◌≡◌, ◌∙◌, [], List, ap, filter, map, subst, sym, NoteParts, union_of_runs}
use Rattle.mxf_views.proofs.Common.{undisputed_notes, covered_run}
use Rattle.mxf_units.specs.Units.{AreBesideEssence}
use Rattle.mxf_units.proofs.BesideLaws.{beside_runs, cant_be}
use Rattle.mxf_units.proofs.beside.beside_essence.Goals as goal

pub returns : goal.returns
returns c =
    let notes = c.args.holdings.now in
    let all : c.loop-note.cover ≡ union_of_runs [] (map covered_run (filter cant_be (undisputed_notes notes))) =
    sym (ap (λ (l : List NoteParts). union_of_runs c.loop-note.cover (map covered_run (filter cant_be l)))
    c.in-None.ensures.steps.0) ∙ c.loop-note.invariant in
    subst (AreBesideEssence notes) (sym all) (beside_runs notes)
