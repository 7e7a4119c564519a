use Rattle.std.proofs.Common.{◌≡◌, ◌-◌, List, length, None, Some, arith, sym, ◌∙◌, subst}
use Rattle.std.specs.Prelude.{slice_get}
use Rattle.std.proofs.lemmas.Option.{get_or_from_slice_get, slice_get_within}
use Rattle.mxf_catalogue.specs.declared.run.Run.{Run}
use Rattle.mxf_catalogue.specs.Covers.{with_run}
use Rattle.mxf_catalogue.proofs.CoverLaws.{last_end, with_run_behind, with_run_first, with_run_grown}
use Rattle.mxf_catalogue.proofs.cover.placing.append_run.Goals as goal
use Rattle.mxf_catalogue.proofs.cover.placing.append_run.Goals.{in_default-via-in-Some+else-last-run}
use Rattle.mxf_catalogue.proofs.cover.placing.append_run.Goals.{in_default-via-in_default}

pub returns-in-Some-clause-items : goal.returns-in-Some-clause-items
returns-in-Some-clause-items c = grind (arith, with_run c.args.run, with_run_grown 0)

pub returns-in_default-clause-items : goal.returns-in_default-clause-items
returns-in_default-clause-items c =
    let runs = c.args.runs.now.items in
    c.push_reserved.ensures.items ∙ elim c.in_default.branch [
      | in_default-via-in-Some+else-last-run w ↦
          let last = w.in-Some.last.now in
          let at = subst (λ (l : List Run). slice_get l (length l - 1)
          ≡ Some last) c.deref.ensures.value (sym w.in-Some.ensures.value) in
          let within = slice_get_within runs (length runs - 1) last at in
          let low = (last_end runs last c.requires.cover.maximal at c.args.run.start).1 c.requires.above in
          let apart = w.if-last-run.false in
          with_run_behind 0 (length runs - 1) c.args.run last runs c.requires.cover.maximal (omega (arith, within))
          (get_or_from_slice_get runs (length runs - 1) last last at) (omega (arith, low, apart)) c.requires.run.order
      | in_default-via-in_default w ↦ with_run_first c.args.run runs (subst (λ (l : List Run). None
          ≡ slice_get l (length l - 1)) c.deref.ensures.value w.in_default.ensures.value)
    ]
