use Rattle.mxf_views.proofs.Common.{◌≡◌, ◌∙◌, [], Bool, true, ℕ, ap, cond, segments_of, sym, union}
use Rattle.mxf_sets.specs.declared.record.rate.Rate.{Rate}
use Rattle.mxf_tracks.specs.declared.package.PackageKind.{PackageKind}
use Rattle.mxf_clocks.specs.Clocks.{is_finished, runs_by, runs_of, teller}
use Rattle.mxf_clocks.specs.RunLaws.{run_cmp-IsAntisymmetric}
use Rattle.mxf_clocks.specs.RunOrder.{run_cmp}
use Rattle.mxf_clocks.specs.TracksFor.{is_timed}
use Rattle.mxf_clocks.proofs.SameRuns.{same_union}
use Rattle.mxf_clocks.proofs.TimedLaws.{same_timed}
use Rattle.mxf_clocks.proofs.clocks.runs_of.Goals as goal

pub sort_once-requires : goal.sort_once-requires
sort_once-requires c = run_cmp-IsAntisymmetric

pub returns-clause-runs : goal.returns-clause-runs
unfolding runs_of
returns-clause-runs c =
    let notes = c.args.views.now in
    let packages = c.args.packages.now in
    let stated = is_timed c.segments_in_numbers.result.now in
    let all = runs_by (teller packages) (is_timed (segments_of notes)) packages in
    let finished : is_finished notes ≡ true = sym c.is_finished.ensures ∙ c.if-not-is_finished.false in
    c.sort_once.ensures.members ∙ same_union c.in_ok-runs.runs.items (runs_by c.args.by stated packages) c.in_ok-runs.ensures
    ∙ ap (union run_cmp []) (ap (λ (k : PackageKind). runs_by k stated packages) c.requires
    ∙ ap (λ (t : ℕ → Rate → Bool). runs_by (teller packages) t packages)
    (ap is_timed c.segments_in_numbers.ensures.segments ∙ same_timed (segments_of notes)))
    ∙ ap (λ (b : Bool). cond b (union run_cmp [] all) []) (sym finished)
