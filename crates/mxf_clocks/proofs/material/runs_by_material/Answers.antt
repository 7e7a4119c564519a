use Rattle.mxf_views.proofs.Common.{◌++◌, ◌+◌, SameMembers, drop, flat_map, subst, sym}
use Rattle.mxf_clocks.specs.ClockTracks.{found_packages}
use Rattle.mxf_clocks.specs.Clocks.{runs_by_material, runs_by_package}
use Rattle.mxf_clocks.specs.TracksFor.{is_timed}
use Rattle.mxf_clocks.proofs.FirstTracks.{material_all, material_next, material_passed}
use Rattle.mxf_clocks.proofs.material.runs_by_material.Goals as goal
use Rattle.mxf_clocks.proofs.material.runs_by_material.Goals.{in-Some+in_ok-add_runs_by_package, in_default}

pub loop-package-preserved : goal.loop-package-preserved
loop-package-preserved c =
    let l = c.loop-package in
    let packages = c.args.packages.now in
    let timed = is_timed c.args.segments.now in
    let all = runs_by_material timed packages in
    let rest = flat_map (runs_by_package timed packages) (found_packages (drop (l.package-index + 1) packages)) in
    elim c.match-package.branch [
      | in-Some+in_ok-add_runs_by_package w ↦ subst (λ v. SameMembers (v.items ++ rest) all) (sym w.runs-is)
          (material_next timed packages l.package-index c.package-item.result l.runs.items all w.in-Some.found
          w.add_runs_by_package.new.runs.items c.loop-package-test.true (sym c.package-item.is) w.in-Some.is
          (w.in_ok-add_runs_by_package.ensures c.args.segments.now packages c.in_ok-tables.ensures) l.invariant)
      | in_default w ↦ subst (λ v. SameMembers (v.items ++ rest) all) (sym w.runs-is)
          (material_passed timed packages l.package-index c.package-item.result l.runs.items all
          c.loop-package-test.true (sym c.package-item.is) w.in_default.is l.invariant)
    ]

pub returns : goal.returns
returns c =
    let l = c.loop-package in
    let timed = is_timed c.args.segments.now in
    material_all timed c.args.packages.now l.package-index l.runs.items (runs_by_material timed c.args.packages.now)
    c.loop-package-test.false l.invariant
