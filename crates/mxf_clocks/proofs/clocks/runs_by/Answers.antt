use Rattle.mxf_views.proofs.Common.{IfOk, SameMembers, subst, sym}
use Rattle.mxf_tracks.specs.declared.package.PackageKind.{PackageKind}
use Rattle.mxf_clocks.specs.Clocks.{runs_by}
use Rattle.mxf_clocks.specs.TracksFor.{is_timed}
use Rattle.mxf_clocks.proofs.clocks.runs_by.Goals as goal

pub returns-in-Material : goal.returns-in-Material
returns-in-Material c =
    subst (λ (k : PackageKind). IfOk c.runs_by_material.result
    (λ v. SameMembers v.items (runs_by k (is_timed c.args.segments.now) c.args.packages.now))) (sym c.in-Material.is)
    c.runs_by_material.ensures
