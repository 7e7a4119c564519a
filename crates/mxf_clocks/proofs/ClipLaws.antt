-- The runs of clips, and the file packages that they show.
use Rattle.mxf_views.proofs.Common.{◌≡◌, ◌∙◌, ◌&&◌, ◌||◌, ℕ, ℤ, Bool, true, false, cond, refl, sym, ap, List, Option}
use Rattle.mxf_views.proofs.Common.{Some, None, bytes_eq, is_at, is_some, nat_cmp, option_and_then, option_map_or}
use Rattle.std.specs.BTreeSet.{BTreeSet, contains}
use Rattle.std.specs.Cmp.Lexicographic.{slice_cmp}
use Rattle.mxf_sets.specs.declared.record.rate.Rate.{Rate}
use Rattle.mxf_tracks.specs.declared.component.Component.{Component}
use Rattle.mxf_tracks.specs.declared.track.FoundTrack.{FoundTrack}
use Rattle.mxf_tracks.proofs.ContainerLaws.{same_test}
use Rattle.mxf_clocks.specs.declared.clock_track.ClockTrack.{ClockTrack}
use Rattle.mxf_clocks.specs.Lookups.{index_beside, new_run, run_beside, shows_file, started_in}
use Rattle.mxf_clocks.specs.Runs.{RunParts}
use Rattle.mxf_clocks.specs.TracksFor.{StartedClip}

module _ (timed : ℕ → Rate → Bool) (index : List ℕ → Option ℕ) (origin : List ℕ → ℕ → Rate → Option ℤ)
    (shown : List ℕ → Bool) (c : ClockTrack) (t : FoundTrack) (component : Component) (s : StartedClip) (uid : List ℕ)
  where
    abbrev if_new : StartedClip → Bool → Option RunParts
    if_new s b = cond b None (run_beside timed index origin c t s)

    -- A clip of a file package that no track before shows, and of one that such a track shows.
    pub run_new : started_in component ≡ Some s → uid ≡ s.clip.source_package → shown uid ≡ false
        → run_beside timed index origin c t s ≡ new_run timed index origin shown c t component
    run_new e same new =
        sym (ap (if_new s) (ap shown (sym same) ∙ new))
        ∙ sym (ap (λ o. option_and_then (λ s. if_new s (shown s.clip.source_package)) o) e)

    pub run_shown : started_in component ≡ Some s → uid ≡ s.clip.source_package → shown uid ≡ true
        → ◌≡◌ {A = Option RunParts} None (new_run timed index origin shown c t component)
    run_shown e same there =
        sym (ap (if_new s) (ap shown (sym same) ∙ there))
        ∙ sym (ap (λ o. option_and_then (λ s. if_new s (shown s.clip.source_package)) o) e)

-- A file package that a clip shows is noted.
pub noted : (timed : ℕ → Rate → Bool) (index : List ℕ → Option ℕ) (rate : Rate) (t : FoundTrack) (component : Component)
    (s : StartedClip) (old new : BTreeSet (List ℕ)) (key : List ℕ) → started_in component ≡ Some s
    → key ≡ s.clip.source_package → is_some (index_beside timed index rate t s) ≡ true
    → ((q : List ℕ) → contains (slice_cmp nat_cmp) new q
    ≡ cond (is_at (slice_cmp nat_cmp key) q) true (contains (slice_cmp nat_cmp) old q))
    → (uid : List ℕ) → contains (slice_cmp nat_cmp) new uid
    ≡ (contains (slice_cmp nat_cmp) old uid || shows_file timed index rate t uid component)
noted timed index rate t component s old new key e same beside updated uid =
    let before = contains (slice_cmp nat_cmp) old uid in
    updated uid ∙ ap (λ b. cond b true before) (same_test key uid)
    ∙ ap (λ k. cond (bytes_eq k uid) true before) same ∙ either (bytes_eq s.clip.source_package uid) before
    ∙ ap (λ b. before || (bytes_eq s.clip.source_package uid && b)) (sym beside)
    ∙ ap (λ o. before || option_map_or (λ s. bytes_eq s.clip.source_package uid
    && is_some (index_beside timed index rate t s)) o false) (sym e)
  where
    either : (b before : Bool) → cond b true before ≡ (before || (b && true))
    either true true = refl
    either true false = refl
    either false true = refl
    either false false = refl
