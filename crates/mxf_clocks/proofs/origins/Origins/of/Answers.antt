use Rattle.mxf_views.proofs.Common.{◌∙◌, ◌+◌, ap, bytes_eq, drop, sym}
use Rattle.mxf_clocks.specs.ClockTracks.{found_packages, found_tracks}
use Rattle.mxf_clocks.specs.Lookups.{first_origin, tracks_with}
use Rattle.mxf_clocks.specs.declared.origins.Origins.{Origins}
use Rattle.mxf_clocks.proofs.FileTableLaws.{kept_at, origin_next, origin_passed, origin_yet, with_tracks}
use Rattle.mxf_clocks.proofs.origins.Origins.of.Goals as goal
use Rattle.mxf_clocks.proofs.origins.Origins.of.Goals.{in-Some+in_ok-add_tracks, in_default}

pub loop-package-preserved : goal.loop-package-preserved
loop-package-preserved c = λ uid id.
    let l = c.loop-package in
    let packages = c.args.packages.now in
    let all = first_origin id (tracks_with uid (found_packages packages)) in
    let rest = found_packages (drop (l.package-index + 1) packages) in
    elim c.match-package.branch [
      | in-Some+in_ok-add_tracks w ↦
          let grown = w.in_ok-add_tracks.ensures uid id ∙ (λ j. with_tracks (bytes_eq (w.package_uid.ensures j) uid)
          (kept_at l.origins.by_track uid id) id (found_tracks (w.as_slice.ensures j))) in
          ap (λ (o : Origins). origin_yet (kept_at o.by_track uid id) uid id rest) w.origins-is
          ∙ origin_next l.origins.by_track w.add_tracks.new.self.by_track packages l.package-index
          c.package-item.result w.in-Some.found uid id all c.loop-package-test.true (sym c.package-item.is)
          w.in-Some.is grown (l.invariant uid id)
      | in_default w ↦ ap (λ (o : Origins). origin_yet (kept_at o.by_track uid id) uid id rest) w.origins-is
          ∙ origin_passed l.origins.by_track packages l.package-index c.package-item.result uid id all
          c.loop-package-test.true (sym c.package-item.is) w.in_default.is (l.invariant uid id)
    ]
