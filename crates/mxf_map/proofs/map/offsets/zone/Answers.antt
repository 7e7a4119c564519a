use Rattle.mxf_views.proofs.Common.{◌≡◌, ◌∙◌, [], List, ap, map, subst, sym, NoteParts, union_of_runs, clear_notes}
use Rattle.mxf_views.proofs.Common.{run_of}
use Rattle.mxf_catalogue.specs.declared.run.Run.{Run}
use Rattle.mxf_map.specs.Layers.{AreOffsets, LiesInZone, zone_notes}
use Rattle.mxf_map.proofs.LayerLaws.{zone_are}
use Rattle.mxf_map.proofs.map.offsets.zone.Goals as goal

pub returns : goal.returns
returns c =
    let notes = c.args.catalogue.now in
    let zone = c.args.zone in
    let all : c.loop-note.set ≡ union_of_runs [] (map run_of (zone_notes zone (clear_notes notes))) =
    sym (ap (λ (l : List NoteParts). union_of_runs c.loop-note.set (map run_of (zone_notes zone l)))
    c.in-None.ensures.steps.0) ∙ c.loop-note.invariant in
    subst (λ (runs : List Run). AreOffsets (LiesInZone notes zone) runs) (sym all) (zone_are notes zone)
