-- Of each file package the first track that shows it gives the runs.
use Rattle.mxf_views.proofs.Common.{◌≡◌, ◌∙◌, ◌&&◌, ◌||◌, ◌++◌, ◌⊎◌, ℕ, ℤ, Bool, true, false, cond, refl, sym, ap}
use Rattle.mxf_views.proofs.Common.{subst, inl, inr, List, [], ◌∷◌, Option, Some, None, filter_map, find, is_some}
use Rattle.mxf_views.proofs.Common.{and_from, and_parts, bytes_eq, bytes_eq-Decides, In, In-append, In-filter_map}
use Rattle.mxf_views.proofs.Common.{In-flat_map, list_any, list_any-In, option_and_then, option_map, option_map_or}
use Rattle.mxf_views.proofs.Common.{or_parts, same_Some, SameMembers, SegmentAtParts, flat_map}
use Rattle.mxf_views.proofs.Common.{◌+◌, ◌<◌, ◌≤◌, append-nil, drop, get_or, length}
use Rattle.std.proofs.lemmas.Option.{cond_some}
use Rattle.mxf_sets.specs.Component.{ClipParts}
use Rattle.mxf_sets.specs.declared.record.rate.Rate.{Rate}
use Rattle.mxf_tracks.specs.declared.component.Component.{Component}
use Rattle.mxf_tracks.specs.declared.package.FoundPackage.{FoundPackage}
use Rattle.mxf_tracks.specs.declared.package.PackageAt.{PackageAt}
use Rattle.mxf_tracks.specs.declared.track.FoundTrack.{FoundTrack}
use Rattle.mxf_tracks.specs.declared.track.TrackAt.{TrackAt}
use Rattle.mxf_clocks.specs.declared.clock_track.ClockTrack.{ClockTrack}
use Rattle.mxf_clocks.specs.declared.tables.Tables.{Tables}
use Rattle.mxf_clocks.specs.ClockTracks.{begins_at_zero, clock_of, components_of, found_packages, found_tracks}
use Rattle.mxf_clocks.specs.Clocks.{run_by, run_of_clip, run_of_component, runs_by_clock, runs_for, runs_for_index}
use Rattle.mxf_clocks.specs.Clocks.{runs_by_package, runs_of_track}
use Rattle.mxf_clocks.specs.FilePackages.{file_index, is_material}
use Rattle.mxf_clocks.specs.Lookups.{AreTablesOf, index_beside, index_kept, index_of, new_run, origin_kept, origin_with}
use Rattle.mxf_clocks.specs.Lookups.{run_beside, run_with_origin, shows_file, started_at, started_in, timed_in}
use Rattle.mxf_clocks.specs.Runs.{RunParts}
use Rattle.mxf_clocks.specs.TracksFor.{StartedClip, clip_in, clip_of, is_beside, is_clip_of, is_timed, naming, origin_of}
use Rattle.mxf_clocks.specs.TracksFor.{shows, track_for}
use Rattle.mxf_clocks.proofs.LookupLaws.{file-by_index, index-of_file}
use Rattle.mxf_clocks.proofs.LoopSteps.{mapped_all, mapped_next, mapped_passed}
use Rattle.mxf_clocks.proofs.SameRuns.{same_behind, same_itself, same_on, same_step}
use Rattle.mxf_clocks.proofs.Members.{then_to, then_with, to_denial, to_option, with_denial, with_option}

-- ---- clips that name a package

abbrev if_named : List ℕ → StartedClip → Option StartedClip
if_named uid s = cond (bytes_eq s.clip.source_package uid) (Some s) None

named_parts : (uid : List ℕ) (start : Option ℕ) (clip : Option ClipParts)
    → option_and_then (λ s. option_and_then (naming uid s) clip) start
    ≡ option_and_then (if_named uid) (option_and_then (λ s. option_map (started_at s) clip) start)
named_parts uid None clip = refl
named_parts uid (Some s) None = refl
named_parts uid (Some s) (Some c) = refl

named-is : (uid : List ℕ) (c : Component) → clip_of uid c ≡ option_and_then (if_named uid) (started_in c)
unfolding clip_of started_in
named-is uid c = named_parts uid c.start (option_and_then clip_in c.part)

named-from : (uid : List ℕ) (c : Component) (s : StartedClip) → clip_of uid c ≡ Some s
    → (started_in c ≡ Some s) × (s.clip.source_package ≡ uid)
named-from uid c s e =
    let w = then_with (if_named uid) (started_in c) s (sym (named-is uid c) ∙ e) in
    let p = cond_some (bytes_eq w.0.clip.source_package uid) w.0 s w.2 in (
      w.1 ∙ ap (λ x. Some x) p.1,
      ap (λ x. x.clip.source_package) (sym p.1) ∙ (bytes_eq-Decides w.0.clip.source_package uid).0 p.0,
    )

named-to : (uid : List ℕ) (c : Component) (s : StartedClip) → started_in c ≡ Some s → s.clip.source_package ≡ uid
    → clip_of uid c ≡ Some s
named-to uid c s e same =
    named-is uid c ∙ then_to (if_named uid) (started_in c) s s e
    (ap (λ b. cond b (Some s) None) ((bytes_eq-Decides s.clip.source_package uid).1 same))

-- ---- tracks that show a file package

module _ (timed : ℕ → Rate → Bool) (index : List ℕ → Option ℕ) (rate : Rate) (t : FoundTrack) where
  abbrev fits : ℕ → Bool
  fits index_sid = is_beside timed index_sid rate t && begins_at_zero t

  and_false : (b : Bool) → false ≡ (b && false)
  and_false true = refl
  and_false false = refl

  chosen : (b : Bool) (n : ℕ) → is_some (cond b (Some n) None) ≡ (b && true)
  chosen true n = refl
  chosen false n = refl

  shows_one : (uid : List ℕ) (index_sid : ℕ) (c : Component) → index uid ≡ Some index_sid
      → shows_file timed index rate t uid c ≡ (fits index_sid && is_clip_of uid c)
  shows_one uid index_sid c e = by_start (started_in c) ∙ ap (λ o. fits index_sid && is_some o) (sym (named-is uid c))
    where
      by_test : (s : StartedClip) (b : Bool) → bytes_eq s.clip.source_package uid ≡ b
          → (b && is_some (index_beside timed index rate t s)) ≡ (fits index_sid && is_some (cond b (Some s) None))
      by_test s true same =
          ap (λ o. is_some (option_and_then (λ n. cond (fits n) (Some n) None) o))
          (ap index ((bytes_eq-Decides s.clip.source_package uid).0 same) ∙ e) ∙ chosen (fits index_sid) index_sid
      by_test s false same = and_false (fits index_sid)

      by_start : (o : Option StartedClip)
          → option_map_or (λ s. bytes_eq s.clip.source_package uid && is_some (index_beside timed index rate t s)) o false
          ≡ (fits index_sid && is_some (option_and_then (if_named uid) o))
      by_start None = and_false (fits index_sid)
      by_start (Some s) = by_test s (bytes_eq s.clip.source_package uid) refl

  any_and : (b : Bool) (p : Component → Bool) (cs : List Component) → list_any (λ c. b && p c) cs ≡ (b && list_any p cs)
  any_and true p cs = refl
  any_and false p [] = refl
  any_and false p (c ∷ cs) = any_and false p cs

  shows-is : (uid : List ℕ) (index_sid : ℕ) → index uid ≡ Some index_sid
      → list_any (shows_file timed index rate t uid) (components_of t) ≡ shows timed index_sid rate uid t
  shows-is uid index_sid e =
      ap (λ (p : Component → Bool). list_any p (components_of t)) (λ i c. shows_one uid index_sid c e i)
      ∙ any_and (fits index_sid) (is_clip_of uid) (components_of t)

-- ---- over the tracks

module _ (timed : ℕ → Rate → Bool) (index : List ℕ → Option ℕ) (origin : List ℕ → ℕ → Rate → Option ℤ) (c : ClockTrack)
  where
    -- A file package is shown by a track before, or by this one.
    abbrev pub shown_with : (List ℕ → Bool) → FoundTrack → List ℕ → Bool
    shown_with shown t uid = shown uid || list_any (shows_file timed index c.rate t uid) (components_of t)

    -- The runs of tracks one behind another, of file packages that none before shows.
    abbrev pub runs_one_by_one : (List ℕ → Bool) → List FoundTrack → List RunParts
    runs_one_by_one shown [] = []
    runs_one_by_one shown (t ∷ ts) =
        filter_map (new_run timed index origin shown c t) (components_of t) ++ runs_one_by_one (shown_with shown t) ts

    -- A run of a clip of the first track that shows the file package with an identifier.
    pub record IsOfFirst (shown : List ℕ → Bool) (ts : List FoundTrack) (r : RunParts) (uid : List ℕ) : Type 0 where
      index_sid : ℕ
      index_is : index uid ≡ Some index_sid
      new : shown uid ≡ false
      track : FoundTrack
      track_is : find (shows timed index_sid c.rate uid) ts ≡ Some track
      component : Component
      held : In component (components_of track)
      started : StartedClip
      clip_is : clip_of uid component ≡ Some started
      run_is : run_with_origin origin index_sid c track.track.edit_rate started ≡ Some r

    -- A run of a track's own.
    of_track : (shown : List ℕ → Bool) (t : FoundTrack) (ts : List FoundTrack) (r : RunParts)
        → In r (filter_map (new_run timed index origin shown c t) (components_of t))
        → (uid : List ℕ) × IsOfFirst shown (t ∷ ts) r uid
    of_track shown t ts r h =
        let m = (In-filter_map (new_run timed index origin shown c t) (components_of t) r).0 h in
        let s = then_with _ (started_in m.0) r m.2 in
        let uid = s.0.clip.source_package in
        let d = with_denial (shown uid) (run_beside timed index origin c t s.0) r s.2 in
        let b = then_with (λ n. run_with_origin origin n c t.track.edit_rate s.0) (index_beside timed index c.rate t s.0) r
        d.1 in
        let i = then_with _ (index uid) b.0 b.1 in
        let f = cond_some (fits timed index c.rate t i.0) i.0 b.0 i.2 in
        let clip = named-to uid m.0 s.0 s.1 refl in
        let any : list_any (is_clip_of uid) (components_of t) ≡ true =
        (list_any-In (is_clip_of uid) (components_of t)).1 (m.0, m.1, ap is_some clip) in
        let all : shows timed i.0 c.rate uid t ≡ true =
        and_from (fits timed index c.rate t i.0) (list_any (is_clip_of uid) (components_of t)) f.0 any in (
          uid,
          record {
            index_sid = i.0;
            index_is = i.1;
            new = d.0;
            track = t;
            track_is = ap (λ b. cond b (Some t) (find (shows timed i.0 c.rate uid) ts)) all;
            component = m.0;
            held = m.1;
            started = s.0;
            clip_is = clip;
            run_is = subst (λ n. run_with_origin origin n c t.track.edit_rate s.0 ≡ Some r) (sym f.1) b.2;
          },
        )

    -- A run of a later track.
    of_later : (shown : List ℕ → Bool) (t : FoundTrack) (ts : List FoundTrack) (r : RunParts) (uid : List ℕ)
        → IsOfFirst (shown_with shown t) ts r uid → IsOfFirst shown (t ∷ ts) r uid
    of_later shown t ts r uid w =
        let p = or_parts (shown uid) (list_any (shows_file timed index c.rate t uid) (components_of t)) w.new in
        let not_here : shows timed w.index_sid c.rate uid t ≡ false =
        sym (shows-is timed index c.rate t uid w.index_sid w.index_is) ∙ p.1 in
        record {
          index_sid = w.index_sid;
          index_is = w.index_is;
          new = p.0;
          track = w.track;
          track_is = ap (λ b. cond b (Some t) (find (shows timed w.index_sid c.rate uid) ts)) not_here ∙ w.track_is;
          component = w.component;
          held = w.held;
          started = w.started;
          clip_is = w.clip_is;
          run_is = w.run_is;
        }

    first-to : (shown : List ℕ → Bool) (ts : List FoundTrack) (r : RunParts) → In r (runs_one_by_one shown ts)
        → (uid : List ℕ) × IsOfFirst shown ts r uid
    first-to shown [] r h = absurd h
    first-to shown (t ∷ ts) r h =
        elim ((In-append r (filter_map (new_run timed index origin shown c t) (components_of t))
        (runs_one_by_one (shown_with shown t) ts)).0 h) [
          | inl a ↦ of_track shown t ts r a
          | inr b ↦
              let w = first-to (shown_with shown t) ts r b in (w.0, of_later shown t ts r w.0 w.1)
        ]

    -- The run of the first track itself.
    here : (shown : List ℕ → Bool) (t : FoundTrack) (ts : List FoundTrack) (r : RunParts) (uid : List ℕ)
        (w : IsOfFirst shown (t ∷ ts) r uid) → shows timed w.index_sid c.rate uid t ≡ true
        → In r (filter_map (new_run timed index origin shown c t) (components_of t))
    here shown t ts r uid w all =
        let same : t ≡ w.track =
        same_Some t w.track (sym (ap (λ b. cond b (Some t) (find (shows timed w.index_sid c.rate uid) ts)) all) ∙ w.track_is)
        in
        let n = named-from uid w.component w.started w.clip_is in
        let own = w.started.clip.source_package in
        let fit : fits timed index c.rate t w.index_sid ≡ true =
        (and_parts (fits timed index c.rate t w.index_sid) (list_any (is_clip_of uid) (components_of t)) all).0 in
        let beside : index_beside timed index c.rate t w.started ≡ Some w.index_sid =
        then_to _ (index own) w.index_sid w.index_sid (ap index n.1 ∙ w.index_is)
        (ap (λ b. cond b (Some w.index_sid) None) fit) in
        let run : run_with_origin origin w.index_sid c t.track.edit_rate w.started ≡ Some r =
        ap (λ u. run_with_origin origin w.index_sid c u.track.edit_rate w.started) same ∙ w.run_is in
        (In-filter_map (new_run timed index origin shown c t) (components_of t) r).1 (
          w.component,
          subst (λ u. In w.component (components_of u)) (sym same) w.held,
          then_to _ (started_in w.component) w.started r n.0
              (to_denial (shown own) (run_beside timed index origin c t w.started) r (ap shown n.1 ∙ w.new)
              (then_to (λ k. run_with_origin origin k c t.track.edit_rate w.started)
              (index_beside timed index c.rate t w.started) w.index_sid r beside run)),
        )

    later : (shown : List ℕ → Bool) (t : FoundTrack) (ts : List FoundTrack) (r : RunParts) (uid : List ℕ)
        (w : IsOfFirst shown (t ∷ ts) r uid) → shows timed w.index_sid c.rate uid t ≡ false
        → IsOfFirst (shown_with shown t) ts r uid
    later shown t ts r uid w none =
        record {
          index_sid = w.index_sid;
          index_is = w.index_is;
          new = ap (λ b. b || list_any (shows_file timed index c.rate t uid) (components_of t)) w.new
              ∙ shows-is timed index c.rate t uid w.index_sid w.index_is ∙ none;
          track = w.track;
          track_is = sym (ap (λ b. cond b (Some t) (find (shows timed w.index_sid c.rate uid) ts)) none) ∙ w.track_is;
          component = w.component;
          held = w.held;
          started = w.started;
          clip_is = w.clip_is;
          run_is = w.run_is;
        }

    first-from : (shown : List ℕ → Bool) (ts : List FoundTrack) (r : RunParts) (uid : List ℕ)
        → IsOfFirst shown ts r uid → In r (runs_one_by_one shown ts)
    first-from shown [] r uid w = absurd (let e = w.track_is in cc e)
    first-from shown (t ∷ ts) r uid w =
        (In-append r (filter_map (new_run timed index origin shown c t) (components_of t))
        (runs_one_by_one (shown_with shown t) ts)).1
        (elim (shows timed w.index_sid c.rate uid t) as (λ b. shows timed w.index_sid c.rate uid t ≡ b
        → In r (filter_map (new_run timed index origin shown c t) (components_of t))
        ⊎ In r (runs_one_by_one (shown_with shown t) ts)) [
          | true ↦ λ e. inl (here shown t ts r uid w e)
          | false ↦ λ e. inr (first-from (shown_with shown t) ts r uid (later shown t ts r uid w e))
        ] refl)

-- ---- the runs by a clock

abbrev no_file : List ℕ → Bool
no_file uid = false

clock-to : (timed : ℕ → Rate → Bool) (packages : List PackageAt) (tracks : List TrackAt) (c : ClockTrack) (r : RunParts)
    (uid : List ℕ) → IsOfFirst timed (index_of packages) (origin_with packages) c no_file (found_tracks tracks) r uid
    → In r (runs_by_clock timed packages tracks c)
unfolding track_for run_of_clip
clock-to timed packages tracks c r uid w =
    let f = file-by_index packages uid w.index_sid w.index_is in
    let own = f.0.properties.package_uid in
    let sid = w.index_sid in
    let rate = w.track.track.edit_rate in
    let n = named-from uid w.component w.started w.clip_is in
    let track_is : track_for timed sid c.rate own tracks ≡ Some w.track =
    ap (λ u. track_for timed sid c.rate u tracks) f.1.uid_is ∙ w.track_is in
    let origins : origin_with packages w.started.clip.source_package w.started.clip.source_track rate
    ≡ origin_of f.0.tracks w.started.clip.source_track rate =
    ap (λ u. origin_with packages u w.started.clip.source_track rate) n.1
    ∙ f.1.origin w.started.clip.source_track rate in
    let run : run_of_clip sid c f.0.tracks rate w.started ≡ Some r =
    ap (option_and_then (run_by sid c rate w.started)) (sym origins) ∙ w.run_is in
    let component : run_of_component sid c f.0 rate w.component ≡ Some r =
    then_to (run_of_clip sid c f.0.tracks rate) (clip_of own w.component) w.started r
    (ap (λ u. clip_of u w.component) f.1.uid_is ∙ w.clip_is) run in
    (In-flat_map (runs_for timed packages tracks c) (found_packages packages) r).1 (
      f.0,
      f.1.found,
      to_option (runs_for_index timed tracks c f.0) (file_index packages f.0) sid r f.1.index
          (to_option (runs_of_track sid c f.0) (track_for timed sid c.rate own tracks) w.track r track_is
          ((In-filter_map (run_of_component sid c f.0 rate) (components_of w.track) r).1
          (w.component, w.held, component))),
    )

clock-from : (timed : ℕ → Rate → Bool) (packages : List PackageAt) (tracks : List TrackAt) (c : ClockTrack) (r : RunParts)
    → In r (runs_by_clock timed packages tracks c)
    → (uid : List ℕ) × IsOfFirst timed (index_of packages) (origin_with packages) c no_file (found_tracks tracks) r uid
unfolding track_for run_of_clip
clock-from timed packages tracks c r h =
    let f = (In-flat_map (runs_for timed packages tracks c) (found_packages packages) r).0 h in
    let uid = f.0.properties.package_uid in
    let i = with_option (runs_for_index timed tracks c f.0) (file_index packages f.0) r f.2 in
    let tr = with_option (runs_of_track i.0 c f.0) (track_for timed i.0 c.rate uid tracks) r i.2 in
    let rate = tr.0.track.edit_rate in
    let co = (In-filter_map (run_of_component i.0 c f.0 rate) (components_of tr.0) r).0 tr.2 in
    let s = then_with (run_of_clip i.0 c f.0.tracks rate) (clip_of uid co.0) r co.2 in
    let index_is = index-of_file packages f.0 i.0 f.1 i.1 in
    let n = named-from uid co.0 s.0 s.1 in
    let g = file-by_index packages uid i.0 index_is in
    let same : f.0 ≡ g.0 = g.1.only f.0 f.1 refl in
    let origins : origin_with packages s.0.clip.source_package s.0.clip.source_track rate
    ≡ origin_of f.0.tracks s.0.clip.source_track rate =
    ap (λ u. origin_with packages u s.0.clip.source_track rate) n.1 ∙ g.1.origin s.0.clip.source_track rate
    ∙ ap (λ p. origin_of p.tracks s.0.clip.source_track rate) (sym same) in (
      uid,
      record {
        index_sid = i.0;
        index_is = index_is;
        new = refl;
        track = tr.0;
        track_is = tr.1;
        component = co.0;
        held = co.1;
        started = s.0;
        clip_is = s.1;
        run_is = ap (option_and_then (run_by i.0 c rate s.0)) origins ∙ s.2;
      },
    )

pub runs_by_clock-is : (segments : List SegmentAtParts) (packages : List PackageAt) (tables : Tables)
    (tracks : List TrackAt) (c : ClockTrack) → AreTablesOf segments packages tables
    → SameMembers (runs_one_by_one (timed_in tables.rates.by_index) (index_kept tables.indexes.by_package)
    (origin_kept tables.origins.by_track) c (λ uid. false) (found_tracks tracks))
    (runs_by_clock (is_timed segments) packages tracks c)
runs_by_clock-is segments packages tables tracks c are =
    let timed = is_timed segments in
    let index = index_of packages in
    let origin = origin_with packages in
    let same : runs_one_by_one (timed_in tables.rates.by_index) (index_kept tables.indexes.by_package)
    (origin_kept tables.origins.by_track) c no_file (found_tracks tracks)
    ≡ runs_one_by_one timed index origin c no_file (found_tracks tracks) =
    λ i. runs_one_by_one (λ sid rate. are.timed sid rate i) (λ uid. are.index uid i) (λ uid id rate. are.origin uid id rate i)
    c no_file (found_tracks tracks) in
    λ r. (
      λ h.
          let w = first-to timed index origin c no_file (found_tracks tracks) r (subst (In r) same h) in
          clock-to timed packages tracks c r w.0 w.1,
      λ h.
          let w = clock-from timed packages tracks c r h in
          subst (In r) (sym same) (first-from timed index origin c no_file (found_tracks tracks) r w.0 w.1),
    )

-- ---- the loop over the tracks

pub clock_all : (segments : List SegmentAtParts) (packages : List PackageAt) (tables : Tables)
    (tracks : List TrackAt) (c : ClockTrack) (i : ℕ) (runs old : List RunParts) (shown : List ℕ → Bool)
    → length tracks ≤ i
    → runs ++ runs_one_by_one (timed_in tables.rates.by_index) (index_kept tables.indexes.by_package)
    (origin_kept tables.origins.by_track) c shown (found_tracks (drop i tracks))
    ≡ old ++ runs_one_by_one (timed_in tables.rates.by_index) (index_kept tables.indexes.by_package)
    (origin_kept tables.origins.by_track) c (λ uid. false) (found_tracks tracks)
    → AreTablesOf segments packages tables
    → SameMembers runs (old ++ runs_by_clock (is_timed segments) packages tracks c)
clock_all segments packages tables tracks c i runs old shown there e are =
    let one_by_one = runs_one_by_one (timed_in tables.rates.by_index) (index_kept tables.indexes.by_package)
    (origin_kept tables.origins.by_track) c in
    let all : runs ≡ old ++ one_by_one (λ uid. false) (found_tracks tracks) =
    sym (ap (λ ts. runs ++ one_by_one shown ts) (mapped_all (λ x. x.found) tracks i there)
    ∙ append-nil runs) ∙ e in
    same_on runs (old ++ one_by_one (λ uid. false) (found_tracks tracks))
    (old ++ runs_by_clock (is_timed segments) packages tracks c)
    (same_itself runs (old ++ one_by_one (λ uid. false) (found_tracks tracks)) all)
    (same_behind old (one_by_one (λ uid. false) (found_tracks tracks)) (runs_by_clock (is_timed segments) packages tracks c)
    (runs_by_clock-is segments packages tables tracks c are))

-- ---- the runs by a package

pub package_by_clock : (timed : ℕ → Rate → Bool) (packages : List PackageAt) (m : FoundPackage) (c : ClockTrack)
    (runs new : List RunParts) → is_material m.kind ≡ true → clock_of m.tracks ≡ Some c
    → SameMembers new (runs ++ runs_by_clock timed packages m.tracks c)
    → SameMembers new (runs ++ runs_by_package timed packages m)
package_by_clock timed packages m c runs new material e same =
    subst (λ rs. SameMembers new (runs ++ rs))
    (sym (ap (λ b. cond b (option_map_or (runs_by_clock timed packages m.tracks) (clock_of m.tracks) []) []) material
    ∙ ap (λ o. option_map_or (runs_by_clock timed packages m.tracks) o []) e)) same

-- ---- the loop over the packages

module _ (timed : ℕ → Rate → Bool) (packages : List PackageAt) (i : ℕ) (item : PackageAt) (before all : List RunParts) where
  pub material_next : (p : FoundPackage) (after : List RunParts) → i < length packages
      → get_or packages i item ≡ item → item.found ≡ Some p
      → SameMembers after (before ++ runs_by_package timed packages p)
      → SameMembers (before ++ flat_map (runs_by_package timed packages) (found_packages (drop i packages))) all
      → SameMembers (after ++ flat_map (runs_by_package timed packages) (found_packages (drop (i + 1) packages))) all
  material_next p after here at found grown so_far =
      let runs = runs_by_package timed packages in
      let rest = found_packages (drop (i + 1) packages) in
      same_step before after (runs p) (flat_map runs rest) all grown
      (subst (λ ps. SameMembers (before ++ flat_map runs ps) all)
      (mapped_next (λ x. x.found) packages i item p here (ap (λ x. x.found) at ∙ found)) so_far)

  pub material_passed : i < length packages → get_or packages i item ≡ item → item.found ≡ None
      → SameMembers (before ++ flat_map (runs_by_package timed packages) (found_packages (drop i packages))) all
      → SameMembers (before ++ flat_map (runs_by_package timed packages) (found_packages (drop (i + 1) packages))) all
  material_passed here at none so_far =
      subst (λ ps. SameMembers (before ++ flat_map (runs_by_package timed packages) ps) all)
      (mapped_passed (λ x. x.found) packages i item here (ap (λ x. x.found) at ∙ none)) so_far

pub material_all : (timed : ℕ → Rate → Bool) (packages : List PackageAt) (i : ℕ) (runs all : List RunParts)
    → length packages ≤ i
    → SameMembers (runs ++ flat_map (runs_by_package timed packages) (found_packages (drop i packages))) all
    → SameMembers runs all
material_all timed packages i runs all there so_far =
    subst (λ rs. SameMembers rs all)
    (ap (λ ps. runs ++ flat_map (runs_by_package timed packages) ps) (mapped_all (λ x. x.found) packages i there)
    ∙ append-nil runs) so_far
