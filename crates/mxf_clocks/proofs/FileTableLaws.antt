-- What is kept of packages and of the Origins of their tracks, by identifiers.
use Rattle.mxf_views.proofs.Common.{◌≡◌, ◌∙◌, ◌&&◌, ◌==◌, ℕ, Bool, true, false, cond, refl, sym, ap}
use Rattle.mxf_views.proofs.Common.{List, [], ◌∷◌, ◌++◌, Option, Some, None, BTreeMap, get, is_at, nat_cmp}
use Rattle.mxf_views.proofs.Common.{filter, find, flat_map, is_some, is_eq, option_and_then, option_map, option_or}
use Rattle.mxf_views.proofs.Common.{and_parts, bytes_eq, bytes_eq-Decides, eqb-true, Ordering}
use Rattle.mxf_views.proofs.Common.{Less, Equal, Greater, ordering_then, at_equal, at_other}
use Rattle.mxf_views.proofs.Common.{◌+◌, ◌<◌, drop, get_or, length}
use Rattle.std.specs.Cmp.Lexicographic.{slice_cmp}
use Rattle.mxf_tracks.specs.declared.package.FoundPackage.{FoundPackage}
use Rattle.mxf_tracks.specs.declared.package.PackageAt.{PackageAt}
use Rattle.mxf_tracks.specs.declared.track.FoundTrack.{FoundTrack}
use Rattle.mxf_tracks.proofs.ContainerLaws.{same_test}
use Rattle.mxf_clocks.specs.declared.origins.TrackOrigin.{TrackOrigin}
use Rattle.mxf_clocks.specs.ClockTracks.{found_packages, found_tracks}
use Rattle.mxf_clocks.specs.FilePackages.{has_identifier}
use Rattle.mxf_clocks.proofs.LoopSteps.{mapped_next, mapped_passed}
use Rattle.mxf_clocks.specs.Lookups.{first_origin, only_one, origin_key_cmp}
use Rattle.mxf_clocks.specs.Lookups.{own_index, track_origin, tracks_with}

-- ---- file packages

-- What is put in under an identifier.
pub put-in : {V : Type 0} (old new : BTreeMap (List ℕ) V) (key : List ℕ) (value : V) (of : Option V → V)
    → value ≡ of (get (slice_cmp nat_cmp) old key)
    → ((q : List ℕ) → get (slice_cmp nat_cmp) new q
    ≡ cond (is_at (slice_cmp nat_cmp key) q) (Some value) (get (slice_cmp nat_cmp) old q))
    → (uid : List ℕ) → get (slice_cmp nat_cmp) new uid
    ≡ cond (bytes_eq key uid) (Some (of (get (slice_cmp nat_cmp) old uid))) (get (slice_cmp nat_cmp) old uid)
put-in old new key value of kept updated uid =
    updated uid
    ∙ ap (λ b. cond b (Some value) (get (slice_cmp nat_cmp) old uid)) (same_test key uid)
    ∙ elim (bytes_eq key uid) as (λ b. bytes_eq key uid ≡ b → cond b (Some value) (get (slice_cmp nat_cmp) old uid)
    ≡ cond b (Some (of (get (slice_cmp nat_cmp) old uid))) (get (slice_cmp nat_cmp) old uid)) [
      | true ↦ λ e. ap (λ v. Some v)
          (kept ∙ ap (λ k. of (get (slice_cmp nat_cmp) old k)) ((bytes_eq-Decides key uid).0 e))
      | false ↦ λ e. refl
    ] refl

-- What is kept of an identifier, and the packages with it that are left, tell the index.
abbrev pub index_yet : Option (Option ℕ) → List FoundPackage → Option ℕ
index_yet None ps = option_and_then own_index (only_one ps)
index_yet (Some kept) [] = kept
index_yet (Some kept) (p ∷ ps) = None

-- ---- origins

or_none : {A : Type 0} (o : Option A) → option_or o None ≡ o
or_none None = refl
or_none (Some x) = refl

-- A package's identifier with a TrackID is another pair's where both are.
pair_test : (uid other : List ℕ) (own id : ℕ)
    → is_at (origin_key_cmp (uid, own)) (other, id) ≡ (bytes_eq uid other && (own == id))
pair_test uid other own id =
    both (slice_cmp nat_cmp uid other) (nat_cmp own id) ∙ ap (λ b. b && is_eq (nat_cmp own id)) (same_test uid other)
    ∙ ap (λ b. bytes_eq uid other && b) (number_test own id)
  where
    both : (a b : Ordering) → is_eq (ordering_then a b) ≡ (is_eq a && is_eq b)
    both Less b = refl
    both Equal b = refl
    both Greater b = refl

    number_test : (a b : ℕ) → is_eq (nat_cmp a b) ≡ (a == b)
    number_test a b = elim (a == b) as (λ t. (a == b) ≡ t → is_eq (nat_cmp a b) ≡ t) [
      | true ↦ λ e. at_equal a b (eqb-true a b e)
      | false ↦ λ e. at_other a b e
    ] refl

-- What is kept of a package's TrackID, with one more track of a package.
abbrev pub with_tracks : Bool → Option TrackOrigin → ℕ → List FoundTrack → Option TrackOrigin
with_tracks same kept id tracks = cond same (option_or kept (first_origin id tracks)) kept

one_track : (same has : Bool) (t : FoundTrack) (old new : Option TrackOrigin)
    → new ≡ cond (same && has) (Some (track_origin t)) old → ((same && has) ≡ true → old ≡ None)
    → new ≡ cond same (option_or old (option_map track_origin (cond has (Some t) None))) old
one_track true true t old new e none =
    e ∙ ap (λ o. option_or o (Some (track_origin t))) (sym (none refl))
one_track true false t old new e none = e ∙ sym (or_none old)
one_track false has t old new e none = e

abbrev pub kept_at : BTreeMap (List ℕ × ℕ) TrackOrigin → List ℕ → ℕ → Option TrackOrigin
kept_at kept uid id = get origin_key_cmp kept (uid, id)

same_key : (uid other : List ℕ) (own id : ℕ) → (bytes_eq uid other && (own == id)) ≡ true
    → ◌≡◌ {A = List ℕ × ℕ} (uid, own) (other, id)
same_key uid other own id e =
    let p = and_parts (bytes_eq uid other) (own == id) e in
    let first = (bytes_eq-Decides uid other).0 p.0 in
    let second = eqb-true own id p.1 in
    λ i. (first i, second i)

pub origin-added : (old new : BTreeMap (List ℕ × ℕ) TrackOrigin) (uid : List ℕ) (t : FoundTrack) (own : ℕ)
    (value : TrackOrigin) → own ≡ t.track.id → value ≡ track_origin t
    → is_some (get origin_key_cmp old (uid, own)) ≡ false
    → ((q : List ℕ × ℕ) → get origin_key_cmp new q
    ≡ cond (is_at (origin_key_cmp (uid, own)) q) (Some value) (get origin_key_cmp old q))
    → (other : List ℕ) (id : ℕ)
    → kept_at new other id ≡ with_tracks (bytes_eq uid other) (kept_at old other id) id (t ∷ [])
origin-added old new uid t own value id_is value_is absent updated other id =
    one_track (bytes_eq uid other) (t.track.id == id) t (kept_at old other id) (kept_at new other id)
    (updated (other, id)
    ∙ ap (λ b. cond b (Some value) (kept_at old other id)) (pair_test uid other own id)
    ∙ ap (λ v. cond (bytes_eq uid other && (own == id)) (Some v) (kept_at old other id)) value_is
    ∙ ap (λ n. cond (bytes_eq uid other && (n == id)) (Some (track_origin t)) (kept_at old other id)) id_is)
    (λ e. ap (get origin_key_cmp old) (sym (same_key uid other own id
    (ap (λ n. bytes_eq uid other && (n == id)) id_is ∙ e))) ∙ is_none (get origin_key_cmp old (uid, own)) absent)
  where
    is_none : (o : Option TrackOrigin) → is_some o ≡ false → o ≡ None
    is_none None e = refl
    is_none (Some x) e = absurd cc

first_of_both : (id : ℕ) (ts us : List FoundTrack)
    → first_origin id (ts ++ us) ≡ option_or (first_origin id ts) (first_origin id us)
first_of_both id [] us = refl
first_of_both id (t ∷ ts) us =
    elim (t.track.id == id) as (λ b. option_map track_origin (cond b (Some t) (find (λ t. t.track.id == id) (ts ++ us)))
    ≡ option_or (option_map track_origin (cond b (Some t) (find (λ t. t.track.id == id) ts))) (first_origin id us)) [
      | true ↦ refl
      | false ↦ first_of_both id ts us
    ]

or_assoc : {A : Type 0} (a b c : Option A) → option_or (option_or a b) c ≡ option_or a (option_or b c)
or_assoc None b c = refl
or_assoc (Some x) b c = refl

-- What is kept of a package's TrackID, and the packages that are left, tell the first track with it.
abbrev pub origin_yet : Option TrackOrigin → List ℕ → ℕ → List FoundPackage → Option TrackOrigin
origin_yet kept uid id ps = option_or kept (first_origin id (tracks_with uid ps))

pub origin_step : (kept new : Option TrackOrigin) (uid : List ℕ) (id : ℕ) (p : FoundPackage) (ps : List FoundPackage)
    → new ≡ with_tracks (has_identifier uid p) kept id (found_tracks p.tracks)
    → origin_yet new uid id ps ≡ origin_yet kept uid id (p ∷ ps)
origin_step kept new uid id p ps e = ap (λ o. origin_yet o uid id ps) e ∙ by_test (has_identifier uid p)
  where
    by_test : (b : Bool) → origin_yet (with_tracks b kept id (found_tracks p.tracks)) uid id ps
        ≡ option_or kept (first_origin id (flat_map (λ p. found_tracks p.tracks)
        (cond b (p ∷ filter (has_identifier uid) ps) (filter (has_identifier uid) ps))))
    by_test true = or_assoc kept (first_origin id (found_tracks p.tracks)) (first_origin id (tracks_with uid ps))
        ∙ ap (option_or kept) (sym (first_of_both id (found_tracks p.tracks) (tracks_with uid ps)))
    by_test false = refl

-- The next package was added, or isn't found.
pub origin_next : (old new : BTreeMap (List ℕ × ℕ) TrackOrigin) (packages : List PackageAt) (i : ℕ) (item : PackageAt)
    (p : FoundPackage) (uid : List ℕ) (id : ℕ) (all : Option TrackOrigin) → i < length packages
    → get_or packages i item ≡ item → item.found ≡ Some p
    → kept_at new uid id ≡ with_tracks (has_identifier uid p) (kept_at old uid id) id (found_tracks p.tracks)
    → origin_yet (kept_at old uid id) uid id (found_packages (drop i packages)) ≡ all
    → origin_yet (kept_at new uid id) uid id (found_packages (drop (i + 1) packages)) ≡ all
origin_next old new packages i item p uid id all here at found e before =
    origin_step (kept_at old uid id) (kept_at new uid id) uid id p (found_packages (drop (i + 1) packages)) e
    ∙ sym (ap (origin_yet (kept_at old uid id) uid id)
    (mapped_next (λ p. p.found) packages i item p here (ap (λ x. x.found) at ∙ found))) ∙ before

pub origin_passed : (old : BTreeMap (List ℕ × ℕ) TrackOrigin) (packages : List PackageAt) (i : ℕ) (item : PackageAt)
    (uid : List ℕ) (id : ℕ) (all : Option TrackOrigin) → i < length packages
    → get_or packages i item ≡ item → item.found ≡ None
    → origin_yet (kept_at old uid id) uid id (found_packages (drop i packages)) ≡ all
    → origin_yet (kept_at old uid id) uid id (found_packages (drop (i + 1) packages)) ≡ all
origin_passed old packages i item uid id all here at none before =
    sym (ap (origin_yet (kept_at old uid id) uid id)
    (mapped_passed (λ p. p.found) packages i item here (ap (λ x. x.found) at ∙ none))) ∙ before
