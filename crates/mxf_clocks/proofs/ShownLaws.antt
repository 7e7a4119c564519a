-- The runs of clocks tell what is shown, by the functions that choose.
use Rattle.mxf_views.proofs.Common.{◌≡◌, ◌∙◌, ◌↔◌, ◌&&◌, ◌+◌, ◌*◌, ◌/◌, ℕ, Bool, true, false, cond, refl, sym, ap, subst}
use Rattle.mxf_views.proofs.Common.{arith, inl, inr, not, List, [], Some, None, and_parts, find, nat_lt}
use Rattle.mxf_views.proofs.Common.{In, In-filter_map, In-flat_map, In-union, found-In, ltb-true, NoteParts, union}
use Rattle.mxf_views.proofs.Common.{option_and_then, segments_of, list_any}
use Rattle.std.specs.Prelude.{◌+ℤ◌}
use Rattle.std.proofs.lemmas.Option.{cond_some}
use Rattle.mxf_sets.specs.Component.{TimecodeParts}
use Rattle.mxf_sets.specs.Rate.{is_good}
use Rattle.mxf_sets.specs.declared.record.rate.Rate.{Rate}
use Rattle.mxf_tracks.specs.declared.package.PackageAt.{PackageAt}
use Rattle.mxf_tracks.specs.declared.package.PackageKind.{PackageKind}
use Rattle.mxf_tracks.specs.declared.package.PackageKind.TheVariants.{Material, Source}
use Rattle.mxf_tracks.specs.declared.track.FoundTrack.{FoundTrack}
use Rattle.mxf_tracks.specs.declared.track.TrackAt.{TrackAt}
use Rattle.mxf_clocks.specs.declared.clock_track.ClockTrack.{ClockTrack}
use Rattle.mxf_clocks.specs.ClockTracks.{IsClock, begins_at_zero, clock_by, clock_of, clock_with, components_of}
use Rattle.mxf_clocks.specs.ClockTracks.{found_packages, found_tracks, is_essence, is_of_kind, is_timecode, only_timecode}
use Rattle.mxf_clocks.specs.Clocks.{clocks_of, is_finished, run_by, run_by_own_clock, run_by_source, run_of_clip}
use Rattle.mxf_clocks.specs.Clocks.{run_of_component, run_of_own_track, runs_by, runs_by_clock, runs_by_material}
use Rattle.mxf_clocks.specs.Clocks.{runs_by_package, runs_by_sources, runs_for, runs_for_index, runs_of, runs_of_track, teller}
use Rattle.mxf_clocks.specs.FilePackages.{file_index, is_material}
use Rattle.mxf_clocks.specs.Fractions.{lesser, rate_over, units_left}
use Rattle.mxf_clocks.specs.RunLaws.{run_cmp-IsAntisymmetric, run_total}
use Rattle.mxf_clocks.specs.RunOrder.{run_cmp}
use Rattle.mxf_clocks.specs.Runs.{RunParts, clock_number, number_at}
use Rattle.mxf_clocks.specs.Shown.{IsWithin, StandsAt}
use Rattle.mxf_clocks.specs.TracksFor.{clip_of, is_below, is_beside, is_clip_of, is_timed, origin_of, shows}
use Rattle.mxf_clocks.specs.TracksFor.{track_for}
use Rattle.mxf_clocks.proofs.FoundShown.{IsFound, IsFoundBy, IsFoundByClip, IsFoundByFile}
use Rattle.mxf_clocks.proofs.MomentLaws.{labels_some}
use Rattle.mxf_clocks.proofs.Members.{then_to, then_with, to_option, to_test, with_option, with_test}
use Rattle.mxf_clocks.proofs.RateLaws.{left-is, lesser-is, over, stands-is}
use Rattle.mxf_clocks.proofs.RunFacts.{HasRunAt, has_run, of_run}

-- ---- what tracks are found

-- A clock is good, and of a base above 0.
pub clock_good : (tracks : List TrackAt) (c : ClockTrack) → clock_of tracks ≡ Some c → IsClock c
unfolding clock_of clock_by
clock_good tracks c e =
    let t = then_with clock_by (find (is_of_kind is_timecode) (found_tracks tracks)) c e in
    by_track t.0 t.2
  where
    by_timecode : (rate : Rate) (t : TimecodeParts) → is_good rate ≡ true → clock_with rate t ≡ Some c → IsClock c
    by_timecode rate t good e =
        let p = cond_some (nat_lt 0 t.base) _ c e in
        subst IsClock p.1 (record { good = good; base = ltb-true 0 t.base p.0 })

    by_test : (t : FoundTrack) (b : Bool) → (is_good t.track.edit_rate && begins_at_zero t) ≡ b
        → cond b (option_and_then (clock_with t.track.edit_rate) (only_timecode (components_of t))) None ≡ Some c
        → IsClock c
    by_test t false test e = absurd cc
    by_test t true test e =
        let p = then_with (clock_with t.track.edit_rate) (only_timecode (components_of t)) c e in
        by_timecode t.track.edit_rate p.0 (and_parts (is_good t.track.edit_rate) (begins_at_zero t) test).0 p.2

    by_track : (t : FoundTrack) → clock_by t ≡ Some c → IsClock c
    by_track t e = by_test t (is_good t.track.edit_rate && begins_at_zero t) refl e

-- A track that fits has a good rate.
beside_good : (timed : ℕ → Rate → Bool) (index_sid : ℕ) (rate : Rate) (t : FoundTrack)
    → is_beside timed index_sid rate t ≡ true → is_good t.track.edit_rate ≡ true
unfolding is_beside
beside_good timed index_sid rate t e =
    let kind = is_of_kind is_essence t in
    let good = is_good t.track.edit_rate in
    let low = not (is_below t.track.edit_rate rate) in
    let p = and_parts (kind && good && low) (timed index_sid t.track.edit_rate) e in
    let q = and_parts (kind && good) low p.0 in
    (and_parts kind good q.0).1

pub first_good : (timed : ℕ → Rate → Bool) (index_sid : ℕ) (rate : Rate) (tracks : List TrackAt) (t : FoundTrack)
    → find (is_beside timed index_sid rate) (found_tracks tracks) ≡ Some t → is_good t.track.edit_rate ≡ true
first_good timed index_sid rate tracks t e =
    beside_good timed index_sid rate t (found-In (is_beside timed index_sid rate) (found_tracks tracks) t e).1

pub track_good : (timed : ℕ → Rate → Bool) (index_sid : ℕ) (rate : Rate) (uid : List ℕ) (tracks : List TrackAt)
    (t : FoundTrack) → track_for timed index_sid rate uid tracks ≡ Some t → is_good t.track.edit_rate ≡ true
unfolding track_for
track_good timed index_sid rate uid tracks t e =
    let s = found-In (shows timed index_sid rate uid) (found_tracks tracks) t e in
    let p = and_parts (is_beside timed index_sid rate t && begins_at_zero t)
    (list_any (is_clip_of uid) (components_of t)) s.1 in
    beside_good timed index_sid rate t (and_parts (is_beside timed index_sid rate t) (begins_at_zero t) p.0).0

-- ---- runs that tell a number of a position

abbrev pub Tells : List RunParts → ℕ → ℕ → ℕ → Type 0
Tells runs index_sid position number =
    (r : RunParts) × In r runs × (r.index_sid ≡ index_sid) × (number_at r position ≡ Some number)

-- ---- by material packages

run_of_shown : (timed : ℕ → Rate → Bool) (packages : List PackageAt) (index_sid position number : ℕ)
    (s : IsFoundByClip timed packages index_sid position number)
    → HasRunAt index_sid s.clock (rate_over s.clock.rate s.track.track.edit_rate)
    (s.started.clip.start_position +ℤ s.origin) s.started.start
    (lesser s.started.clip.duration
    (units_left (rate_over s.clock.rate s.track.track.edit_rate) s.started.start s.clock.duration)) position s.units
run_of_shown timed packages index_sid position number s =
    let c = s.clock in
    let rate = s.track.track.edit_rate in
    let step = rate_over c.rate rate in
    let good = clock_good s.material.tracks c s.tells in
    let o = over c.rate rate good.good (track_good timed index_sid c.rate s.file.properties.package_uid
    s.material.tracks s.track s.track_is) in
    has_run index_sid c step (s.started.clip.start_position +ℤ s.origin) s.started.start
    (lesser s.started.clip.duration (units_left step s.started.start c.duration)) position s.units
    (labels_some c.base c.is_drop good.base) o.denominator s.behind
    ((lesser-is s.started.clip.duration (units_left step s.started.start c.duration) s.units).1
    (s.in_clip, (left-is c rate o s.started.start s.units).1 s.in_time))

to_clip : (timed : ℕ → Rate → Bool) (packages : List PackageAt) (index_sid position number : ℕ)
    → IsFoundByClip timed packages index_sid position number
    → Tells (runs_by_material timed packages) index_sid position number
unfolding run_of_clip
to_clip timed packages index_sid position number s =
    let c = s.clock in
    let rate = s.track.track.edit_rate in
    let uid = s.file.properties.package_uid in
    let good = clock_good s.material.tracks c s.tells in
    let o = over c.rate rate good.good (track_good timed index_sid c.rate uid s.material.tracks s.track s.track_is) in
    let h = run_of_shown timed packages index_sid position number s in
    let r = h.run in
    let clip : run_of_clip index_sid c s.file.tracks rate s.started ≡ Some r =
    then_to (run_by index_sid c rate s.started) (origin_of s.file.tracks s.started.clip.source_track rate) s.origin r
    s.origin_is h.made in
    let component : run_of_component index_sid c s.file rate s.component ≡ Some r =
    then_to (run_of_clip index_sid c s.file.tracks rate) (clip_of uid s.component) s.started r s.clip_is clip in
    let in_track : In r (runs_of_track index_sid c s.file s.track) =
    (In-filter_map (run_of_component index_sid c s.file rate) (components_of s.track) r).1
    (s.component, s.held, component) in
    let in_index = to_option (runs_of_track index_sid c s.file)
    (track_for timed index_sid c.rate uid s.material.tracks) s.track r s.track_is in_track in
    let in_file = to_option (runs_for_index timed s.material.tracks c s.file) (file_index packages s.file) index_sid r
    s.index in_index in
    let in_clock : In r (runs_by_clock timed packages s.material.tracks c) =
    (In-flat_map (runs_for timed packages s.material.tracks c) (found_packages packages) r).1
    (s.file, s.file_found, in_file) in
    let in_package : In r (runs_by_package timed packages s.material) =
    to_test (is_material s.material.kind) r _ (ap is_material s.kind)
    (to_option (runs_by_clock timed packages s.material.tracks) (clock_of s.material.tracks) c r s.tells in_clock) in (
      r,
      (In-flat_map (runs_by_package timed packages) (found_packages packages) r).1
          (s.material, s.material_found, in_package),
      h.index,
      h.tells ∙ ap (λ x. Some x) (sym ((stands-is c rate o (s.started.start + s.units) number).0 s.stands)),
    )

material-is : (k : PackageKind) → is_material k ≡ true → k ≡ Material
material-is Material e = refl
material-is Source e = absurd cc

from_clip : (timed : ℕ → Rate → Bool) (packages : List PackageAt) (index_sid position number : ℕ)
    → Tells (runs_by_material timed packages) index_sid position number
    → IsFoundByClip timed packages index_sid position number
unfolding run_of_clip
from_clip timed packages index_sid position number t =
    let r = t.0 in
    let m = (In-flat_map (runs_by_package timed packages) (found_packages packages) r).0 t.1 in
    let p = with_test (is_material m.0.kind) r _ m.2 in
    let k = with_option (runs_by_clock timed packages m.0.tracks) (clock_of m.0.tracks) r p.1 in
    let c = k.0 in
    let f = (In-flat_map (runs_for timed packages m.0.tracks c) (found_packages packages) r).0 k.2 in
    let uid = f.0.properties.package_uid in
    let i = with_option (runs_for_index timed m.0.tracks c f.0) (file_index packages f.0) r f.2 in
    let tr = with_option (runs_of_track i.0 c f.0) (track_for timed i.0 c.rate uid m.0.tracks) r i.2 in
    let rate = tr.0.track.edit_rate in
    let co = (In-filter_map (run_of_component i.0 c f.0 rate) (components_of tr.0) r).0 tr.2 in
    let s = then_with (run_of_clip i.0 c f.0.tracks rate) (clip_of uid co.0) r co.2 in
    let o = then_with (run_by i.0 c rate s.0) (origin_of f.0.tracks s.0.clip.source_track rate) r s.2 in
    let good = clock_good m.0.tracks c k.1 in
    let v = over c.rate rate good.good (track_good timed i.0 c.rate uid m.0.tracks tr.0 tr.1) in
    let step = rate_over c.rate rate in
    let u = of_run i.0 c step (s.0.clip.start_position +ℤ o.0) s.0.start
    (lesser s.0.clip.duration (units_left step s.0.start c.duration)) r position number
    (labels_some c.base c.is_drop good.base) v.denominator o.2 t.3 in
    let both = (lesser-is s.0.clip.duration (units_left step s.0.start c.duration) u.units).0 u.within in
    subst (λ n. IsFoundByClip timed packages n position number) (sym u.index ∙ t.2) (record {
      material = m.0;
      material_found = m.1;
      kind = material-is m.0.kind p.0;
      clock = c;
      tells = k.1;
      file = f.0;
      file_found = f.1;
      index = i.1;
      track = tr.0;
      track_is = tr.1;
      component = co.0;
      held = co.1;
      started = s.0;
      clip_is = s.1;
      origin = o.0;
      origin_is = o.1;
      units = u.units;
      behind = u.behind;
      in_clip = both.0;
      in_time = (left-is c rate v s.0.start u.units).0 both.1;
      stands = (stands-is c rate v (s.0.start + u.units) number).1 u.number_is;
    })

-- ---- by file packages

to_file : (timed : ℕ → Rate → Bool) (packages : List PackageAt) (index_sid position number : ℕ)
    → IsFoundByFile timed packages index_sid position number
    → Tells (runs_by_sources timed packages) index_sid position number
unfolding run_by_source
to_file timed packages index_sid position number s =
    let c = s.clock in
    let rate = s.track.track.edit_rate in
    let step = rate_over c.rate rate in
    let good = clock_good s.file.tracks c s.tells in
    let o = over c.rate rate good.good (first_good timed index_sid c.rate s.file.tracks s.track s.track_is) in
    let zero_more : 0 + s.units ≡ s.units = omega arith in
    let h = has_run index_sid c step s.track.track.origin 0 (units_left step 0 c.duration) position s.units
    (labels_some c.base c.is_drop good.base) o.denominator s.behind
    ((left-is c rate o 0 s.units).1 (subst (IsWithin c rate) (sym zero_more) s.in_time)) in
    let r = h.run in
    let own : run_by_own_clock timed s.file.tracks index_sid c ≡ Some r =
    then_to (run_of_own_track index_sid c) (find (is_beside timed index_sid c.rate) (found_tracks s.file.tracks))
    s.track r s.track_is h.made in
    let source : run_by_source timed packages s.file ≡ Some r =
    then_to _ (file_index packages s.file) index_sid r s.index
    (then_to (run_by_own_clock timed s.file.tracks index_sid) (clock_of s.file.tracks) c r s.tells own) in (
      r,
      (In-filter_map (run_by_source timed packages) (found_packages packages) r).1 (s.file, s.file_found, source),
      h.index,
      h.tells ∙ ap (λ x. Some x) (ap (λ u. clock_number c (u * step.numerator / step.denominator)) zero_more
          ∙ sym ((stands-is c rate o s.units number).0 s.stands)),
    )

from_file : (timed : ℕ → Rate → Bool) (packages : List PackageAt) (index_sid position number : ℕ)
    → Tells (runs_by_sources timed packages) index_sid position number
    → IsFoundByFile timed packages index_sid position number
unfolding run_by_source
from_file timed packages index_sid position number t =
    let r = t.0 in
    let f = (In-filter_map (run_by_source timed packages) (found_packages packages) r).0 t.1 in
    let i = then_with (λ n. option_and_then (run_by_own_clock timed f.0.tracks n) (clock_of f.0.tracks))
    (file_index packages f.0) r f.2 in
    let k = then_with (run_by_own_clock timed f.0.tracks i.0) (clock_of f.0.tracks) r i.2 in
    let c = k.0 in
    let tr = then_with (run_of_own_track i.0 c) (find (is_beside timed i.0 c.rate) (found_tracks f.0.tracks)) r k.2 in
    let rate = tr.0.track.edit_rate in
    let step = rate_over c.rate rate in
    let good = clock_good f.0.tracks c k.1 in
    let v = over c.rate rate good.good (first_good timed i.0 c.rate f.0.tracks tr.0 tr.1) in
    let u = of_run i.0 c step tr.0.track.origin 0 (units_left step 0 c.duration) r position number
    (labels_some c.base c.is_drop good.base) v.denominator tr.2 t.3 in
    let zero_more : 0 + u.units ≡ u.units = omega arith in
    subst (λ n. IsFoundByFile timed packages n position number) (sym u.index ∙ t.2) (record {
      file = f.0;
      file_found = f.1;
      index = i.1;
      clock = c;
      tells = k.1;
      track = tr.0;
      track_is = tr.1;
      units = u.units;
      behind = u.behind;
      in_time = subst (IsWithin c rate) zero_more ((left-is c rate v 0 u.units).0 u.within);
      stands = subst (λ n. StandsAt c rate n number) zero_more
          ((stands-is c rate v (0 + u.units) number).1 u.number_is);
    })

-- ---- all

by_kind : (k : PackageKind) (timed : ℕ → Rate → Bool) (packages : List PackageAt) (index_sid position number : ℕ)
    → IsFoundBy k timed packages index_sid position number
    ↔ Tells (runs_by k timed packages) index_sid position number
by_kind Material timed packages index_sid position number =
    (to_clip timed packages index_sid position number, from_clip timed packages index_sid position number)
by_kind Source timed packages index_sid position number =
    (to_file timed packages index_sid position number, from_file timed packages index_sid position number)

pub found-is : (notes : List NoteParts) (packages : List PackageAt) (index_sid position number : ℕ)
    → IsFound notes packages index_sid position number
    ↔ Tells (clocks_of notes packages).runs index_sid position number
unfolding runs_of
found-is notes packages index_sid position number =
    let all = runs_by (teller packages) (is_timed (segments_of notes)) packages in
    let runs = union run_cmp [] all in
    let by = by_kind (teller packages) (is_timed (segments_of notes)) packages index_sid position number in (
      λ s.
          let t = by.0 s.by in (
            t.0,
            to_test (is_finished notes) t.0 runs s.finished
                ((In-union run_total run_cmp-IsAntisymmetric t.0 [] all).1 (inr t.1)),
            t.2,
            t.3,
          ),
      λ t.
          let p = with_test (is_finished notes) t.0 runs t.1 in
          let i = elim ((In-union run_total run_cmp-IsAntisymmetric t.0 [] all).0 p.1) as (λ _. In t.0 all) [
            | inl n ↦ absurd n
            | inr h ↦ h
          ] in
          record { finished = p.0; by = by.1 (t.0, i, t.2, t.3) },
    )
