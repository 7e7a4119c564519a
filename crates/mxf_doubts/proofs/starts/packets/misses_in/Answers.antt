use Rattle.mxf_views.proofs.Common.{◌≡◌, ◌∙◌, [], List, NoteParts, ap, clear_notes, filter, map, subst, sym, union_of_runs}
use Rattle.mxf_doubts.specs.UnitStarts.{AreMisses, leads_to_packet}
use Rattle.mxf_doubts.proofs.MissLaws.{amid_run, miss_runs}
use Rattle.mxf_doubts.proofs.starts.packets.misses_in.Goals as goal

pub returns : goal.returns
returns c =
    let notes = c.args.catalogue.now in
    let all : c.loop-note.cover ≡ union_of_runs [] (map amid_run (filter (leads_to_packet notes) (clear_notes notes))) =
    sym (ap (λ (l : List NoteParts). union_of_runs c.loop-note.cover (map amid_run (filter (leads_to_packet notes) l)))
    c.in-None.ensures.steps.0)
    ∙ c.loop-note.invariant in
    subst (AreMisses notes) (sym all) (miss_runs notes)
