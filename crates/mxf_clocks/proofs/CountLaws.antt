-- There are no more runs than clips and file packages that are found.
use Rattle.mxf_views.proofs.Common.{◌≡◌, ◌∙◌, ◌&&◌, ◌+◌, ◌<◌, ◌≤◌, ◌++◌, ℕ, suc, Bool, true, false, cond, refl, sym}
use Rattle.mxf_views.proofs.Common.{ap, arith, inl, inr, not, List, [], ◌∷◌, Option, Some, None, length, filter}
use Rattle.mxf_views.proofs.Common.{filter_map, flat_map, find, and_from, and_parts, cases_lt, cons_option, count_by}
use Rattle.mxf_views.proofs.Common.{count_by-cons, eqb-true, found-In, In, is_eq, is_lt, is_some, length-append}
use Rattle.mxf_views.proofs.Common.{NoteParts, option_and_then, option_map_or, segments_of, sum_by-cons, union, with_one}
use Rattle.mxf_views.proofs.Common.{tally, Ordering, Less, Equal, Greater, bytes_eq, bytes_eq-Decides}
use Rattle.std.specs.List.{sum_by}
use Rattle.mxf_sets.specs.Component.{ClipParts}
use Rattle.mxf_sets.specs.declared.record.rate.Rate.{Rate}
use Rattle.mxf_tracks.specs.declared.component.Component.{Component}
use Rattle.mxf_tracks.specs.declared.package.FoundPackage.{FoundPackage}
use Rattle.mxf_tracks.specs.declared.package.PackageAt.{PackageAt}
use Rattle.mxf_tracks.specs.declared.package.PackageKind.{PackageKind}
use Rattle.mxf_tracks.specs.declared.package.PackageKind.TheVariants.{Material, Source}
use Rattle.mxf_tracks.specs.declared.track.FoundTrack.{FoundTrack}
use Rattle.mxf_tracks.specs.declared.track.TrackAt.{TrackAt}
use Rattle.mxf_clocks.specs.declared.clock_track.ClockTrack.{ClockTrack}
use Rattle.mxf_clocks.specs.ClockTracks.{clock_of, components_of, found_packages, found_tracks}
use Rattle.mxf_clocks.specs.Clocks.{clips_found, clips_in, clocks_of, files_found, is_clip, is_finished, run_by_own_clock}
use Rattle.mxf_clocks.specs.Clocks.{run_by_source, run_of_clip, run_of_component, runs_by, runs_by_clock, runs_by_material}
use Rattle.mxf_clocks.specs.Clocks.{runs_by_package, runs_by_sources, runs_for, runs_for_index, runs_of, runs_of_track}
use Rattle.mxf_clocks.specs.Clocks.{teller}
use Rattle.mxf_clocks.specs.FilePackages.{file_index, has_identifier, index_in, is_material, is_of_one, is_zeros}
use Rattle.mxf_clocks.specs.RunOrder.{run_cmp}
use Rattle.mxf_clocks.specs.TracksFor.{StartedClip, clip_in, clip_of, is_clip_of, is_timed, naming, shows, track_for}
use Rattle.mxf_clocks.proofs.Members.{then_with}

-- ---- lists

length-with_one : {K : Type 0} (R : K → K → Ordering) (x : K) (ys : List K) → length (with_one R x ys) ≤ suc (length ys)
length-with_one R x [] = omega arith
length-with_one R x (y ∷ ys) = elim (R x y) as (λ o.
    length (cond (is_lt o) (x ∷ y ∷ ys) (cond (is_eq o) (y ∷ ys) (y ∷ with_one R x ys))) ≤ suc (length (y ∷ ys))) [
      | Less ↦ omega arith
      | Equal ↦ omega arith
      | Greater ↦ omega (arith, length-with_one R x ys)
    ]

length-union : {K : Type 0} (R : K → K → Ordering) (xs ys : List K) → length (union R xs ys) ≤ length xs + length ys
length-union R xs [] = omega arith
length-union R xs (y ∷ ys) = omega (arith, length-with_one R y xs, length-union R (with_one R y xs) ys)

-- Lists one behind another are as long as their lengths together, if each is no longer than its part.
length-flat_map : {X Y : Type 0} (f : X → List Y) (n : X → ℕ) (xs : List X) → ((x : X) → length (f x) ≤ n x)
    → length (flat_map f xs) ≤ sum_by n xs
length-flat_map f n [] le = omega arith
length-flat_map f n (x ∷ xs) le =
    omega (arith, length-append (f x) (flat_map f xs), sum_by-cons n x xs, le x, length-flat_map f n xs le)

sum-lengths : {X Y : Type 0} (g : X → List Y) (xs : List X) → sum_by (λ x. length (g x)) xs ≡ length (flat_map g xs)
sum-lengths g [] = refl
sum-lengths g (x ∷ xs) =
    omega (arith, length-append (g x) (flat_map g xs), sum_by-cons (λ x. length (g x)) x xs, sum-lengths g xs)

-- What a map that leaves out leaves is no more than what passes a test, if what it keeps passes.
mapped_le : {X Y : Type 0} (f : X → Option Y) (p : X → Bool) (xs : List X) → ((x : X) (y : Y) → f x ≡ Some y → p x ≡ true)
    → length (filter_map f xs) ≤ count_by p xs
mapped_le f p [] says = omega arith
mapped_le f p (x ∷ xs) says =
    let ih = mapped_le f p xs says in
    let c = count_by-cons p x xs in
    elim (f x) as (λ o. f x ≡ o → length (cons_option o (filter_map f xs)) ≤ count_by p (x ∷ xs)) [
      | None ↦ λ e. omega (arith, ih, c)
      | Some y ↦ λ e.
          let one : tally (p x) ≡ 1 = ap tally (says x y e) in omega (arith, ih, c, one)
    ] refl

pub counted_length : {X : Type 0} (p : X → Bool) (xs : List X) → count_by p xs ≡ length (filter p xs)
counted_length p [] = refl
counted_length p (x ∷ xs) = grind (arith, count_by-cons p x xs, counted_length p xs)

-- ---- what is counted in two ways

sum-zeros : {Y : Type 0} (ys : List Y) → sum_by (λ _. 0) ys ≡ 0
sum-zeros [] = refl
sum-zeros (y ∷ ys) = omega (arith, sum_by-cons (λ _. 0) y ys, sum-zeros ys)

sum-plus : {Y : Type 0} (a b : Y → ℕ) (ys : List Y) → sum_by (λ y. a y + b y) ys ≡ sum_by a ys + sum_by b ys
sum-plus a b [] = refl
sum-plus a b (y ∷ ys) =
    omega (arith, sum_by-cons (λ y. a y + b y) y ys, sum_by-cons a y ys, sum_by-cons b y ys, sum-plus a b ys)

same_sums : {Y : Type 0} (a b : Y → ℕ) (ys : List Y) → ((y : Y) → a y ≡ b y) → sum_by a ys ≡ sum_by b ys
same_sums a b ys e = ap (λ (f : _ → ℕ). sum_by f ys) (λ i y. e y i)

swapped : {X Y : Type 0} (q : X → Y → Bool) (xs : List X) (ys : List Y)
    → sum_by (λ x. count_by (q x) ys) xs ≡ sum_by (λ y. count_by (λ x. q x y) xs) ys
swapped q [] ys = sym (sum-zeros ys)
swapped q (x ∷ xs) ys =
    sum_by-cons (λ x. count_by (q x) ys) x xs ∙ ap (λ n. count_by (q x) ys + n) (swapped q xs ys)
    ∙ sym (sum-plus (λ y. tally (q x y)) (λ y. count_by (λ x. q x y) xs) ys)
    ∙ sym (same_sums (λ y. count_by (λ x. q x y) (x ∷ xs)) (λ y. tally (q x y) + count_by (λ x. q x y) xs) ys
    (λ y. count_by-cons (λ x. q x y) x xs))

sum-ones : {Y : Type 0} (n : Y → ℕ) (ys : List Y) → ((y : Y) → n y ≤ 1) → sum_by n ys ≤ length ys
sum-ones n [] le = omega arith
sum-ones n (y ∷ ys) le = omega (arith, sum_by-cons n y ys, le y, sum-ones n ys le)

some_counted : {X : Type 0} (p : X → Bool) (xs : List X) → 0 < count_by p xs → (x : X) × (p x ≡ true)
some_counted p [] h = absurd (omega (arith, h))
some_counted p (x ∷ xs) h =
    let c = count_by-cons p x xs in
    elim (p x) as (λ b. p x ≡ b → (x : _) × (p x ≡ true)) [
      | true ↦ λ e. (x, e)
      | false ↦ λ e. some_counted p xs (let none : tally (p x) ≡ 0 = ap tally e in omega (arith, c, none, h))
    ] refl

counted_le : {X : Type 0} (p q : X → Bool) (xs : List X) → ((x : X) → p x ≡ true → q x ≡ true)
    → count_by p xs ≤ count_by q xs
counted_le p q [] says = omega arith
counted_le p q (x ∷ xs) says =
    let ih = counted_le p q xs says in
    let c = count_by-cons p x xs in
    let d = count_by-cons q x xs in
    elim (p x) as (λ b. p x ≡ b → count_by p (x ∷ xs) ≤ count_by q (x ∷ xs)) [
      | true ↦ λ e.
          let one : tally (p x) ≡ 1 = ap tally e in
          let two : tally (q x) ≡ 1 = ap tally (says x e) in omega (arith, ih, c, d, one, two)
      | false ↦ λ e. let none : tally (p x) ≡ 0 = ap tally e in omega (arith, ih, c, d, none)
    ] refl

-- If each that passes one test passes another that one passes at most, one passes the first at most.
one_at_most : {X : Type 0} (p q : X → Bool) (xs : List X) → ((x : X) → p x ≡ true → q x ≡ true)
    → ((x : X) → p x ≡ true → count_by q xs ≤ 1) → count_by p xs ≤ 1
one_at_most p q xs says one = elim (cases_lt 0 (count_by p xs)) [
  | inl some ↦
      let x = some_counted p xs some in
      let le = counted_le p q xs says in
      let few = one x.0 x.1 in omega (arith, le, few)
  | inr none ↦ omega (arith, none)
]

counted_append : {X : Type 0} (p : X → Bool) (xs ys : List X) → count_by p (xs ++ ys) ≡ count_by p xs + count_by p ys
counted_append p [] ys = omega arith
counted_append p (x ∷ xs) ys =
    omega (arith, count_by-cons p x (xs ++ ys), count_by-cons p x xs, counted_append p xs ys)

-- In lists one behind another as many pass as in one of them, at least.
counted_in : {X Y : Type 0} (p : Y → Bool) (g : X → List Y) (xs : List X) (x : X) → In x xs
    → count_by p (g x) ≤ count_by p (flat_map g xs)
counted_in p g [] x h = absurd h
counted_in p g (z ∷ xs) x (inl e) =
    let a = counted_append p (g z) (flat_map g xs) in
    let same : count_by p (g x) ≡ count_by p (g z) = ap (λ z. count_by p (g z)) e in omega (arith, a, same)
counted_in p g (z ∷ xs) x (inr h) =
    let a = counted_append p (g z) (flat_map g xs) in omega (arith, a, counted_in p g xs x h)

counted_filter : {X : Type 0} (p q : X → Bool) (xs : List X) → ((x : X) → p x ≡ true → q x ≡ true)
    → count_by p xs ≤ count_by p (filter q xs)
counted_filter p q [] says = omega arith
counted_filter p q (x ∷ xs) says =
    let ih = counted_filter p q xs says in
    let c = count_by-cons p x xs in
    elim (q x) as (λ b. q x ≡ b → count_by p (x ∷ xs) ≤ count_by p (cond b (x ∷ filter q xs) (filter q xs))) [
      | true ↦ λ e. omega (arith, ih, c, count_by-cons p x (filter q xs))
      | false ↦ λ e. elim (p x) as (λ b. p x ≡ b → count_by p (x ∷ xs) ≤ count_by p (filter q xs)) [
        | true ↦ λ f. absurd (let t = says x f in cc)
        | false ↦ λ f. let none : tally (p x) ≡ 0 = ap tally f in omega (arith, ih, c, none)
      ] refl
    ] refl

-- ---- clips of a package

-- The SourcePackageID of a component that is a clip.
abbrev source_in : Option ClipParts → List ℕ
source_in k = option_map_or (λ c. c.source_package) k []

clip_says : (uid : List ℕ) (start : Option ℕ) (k : Option ClipParts)
    → is_some (option_and_then (λ s. option_and_then (naming uid s) k) start) ≡ true
    → (is_some k ≡ true) × (bytes_eq (source_in k) uid ≡ true)
clip_says uid None k e = absurd cc
clip_says uid (Some s) None e = absurd cc
clip_says uid (Some s) (Some k) e = (refl, by_test (bytes_eq k.source_package uid) (record { start = s; clip = k }) e)
  where
    by_test : (b : Bool) (c : StartedClip) → is_some (cond b (Some c) None) ≡ true → b ≡ true
    by_test true c e = refl
    by_test false c e = absurd cc

clip_of_says : (uid : List ℕ) (x : Component) → is_clip_of uid x ≡ true
    → (is_clip x ≡ true) × (bytes_eq (source_in (option_and_then clip_in x.part)) uid ≡ true)
unfolding clip_of
clip_of_says uid x e = clip_says uid x.start (option_and_then clip_in x.part) e

file_says : (packages : List PackageAt) (f : FoundPackage) → is_some (file_index packages f) ≡ true
    → is_of_one packages f.properties.package_uid ≡ true
unfolding file_index
file_says packages f e =
    let uid = f.properties.package_uid in
    let some = not (is_material f.kind) && not (is_zeros uid) in
    elim (some && is_of_one packages uid) as (λ b. (some && is_of_one packages uid) ≡ b
    → is_some (cond b (index_in f.container) None) ≡ true → is_of_one packages uid ≡ true) [
      | true ↦ λ t e. (and_parts some (is_of_one packages uid) t).1
      | false ↦ λ t e. absurd cc
    ] refl e

-- A file package that a component is a clip of.
abbrev named : List PackageAt → FoundPackage → Component → Bool
named packages f x = is_some (file_index packages f) && is_clip_of f.properties.package_uid x

-- No component is a clip of two file packages.
named_once : (packages : List PackageAt) (x : Component)
    → count_by (λ f. named packages f x) (found_packages packages) ≤ 1
named_once packages x =
    let u = source_in (option_and_then clip_in x.part) in
    let same : (f : FoundPackage) → named packages f x ≡ true → u ≡ f.properties.package_uid = λ f e.
    let p = and_parts (is_some (file_index packages f)) (is_clip_of f.properties.package_uid x) e in
    (bytes_eq-Decides u f.properties.package_uid).0 (clip_of_says f.properties.package_uid x p.1).1 in
    one_at_most (λ f. named packages f x) (has_identifier u) (found_packages packages)
    (λ f e. (bytes_eq-Decides f.properties.package_uid u).1 (sym (same f e))) (λ f e.
    let p = and_parts (is_some (file_index packages f)) (is_clip_of f.properties.package_uid x) e in
    let one : count_by (has_identifier f.properties.package_uid) (found_packages packages) ≡ 1 =
    eqb-true _ 1 (file_says packages f p.0) in
    let here : count_by (has_identifier u) (found_packages packages) ≡ 1 =
    ap (λ v. count_by (has_identifier v) (found_packages packages)) (same f e) ∙ one in
    omega (arith, here))

-- ---- by material packages

runs_of_track_le : (packages : List PackageAt) (index_sid : ℕ) (c : ClockTrack) (f : FoundPackage)
    (tracks : List TrackAt) (t : FoundTrack) → file_index packages f ≡ Some index_sid → In t (found_tracks tracks)
    → length (runs_of_track index_sid c f t)
    ≤ count_by (named packages f) (flat_map (λ t. filter is_clip (components_of t)) (found_tracks tracks))
runs_of_track_le packages index_sid c f tracks t file h =
    let uid = f.properties.package_uid in
    let rate = t.track.edit_rate in
    let xs = components_of t in
    let some : is_some (file_index packages f) ≡ true = ap is_some file in
    let first = mapped_le (run_of_component index_sid c f rate) (named packages f) xs (λ x r e.
    let s = then_with (run_of_clip index_sid c f.tracks rate) (clip_of uid x) r e in
    and_from (is_some (file_index packages f)) (is_clip_of uid x) some (ap is_some s.1)) in
    let second = counted_filter (named packages f) is_clip xs (λ x e.
    (clip_of_says uid x (and_parts (is_some (file_index packages f)) (is_clip_of uid x) e).1).0) in
    let third = counted_in (named packages f) (λ t. filter is_clip (components_of t)) (found_tracks tracks) t h in
    omega (arith, first, second, third)

runs_for_le : (timed : ℕ → Rate → Bool) (packages : List PackageAt) (tracks : List TrackAt) (c : ClockTrack)
    (f : FoundPackage) → length (runs_for timed packages tracks c f)
    ≤ count_by (named packages f) (flat_map (λ t. filter is_clip (components_of t)) (found_tracks tracks))
unfolding track_for
runs_for_le timed packages tracks c f =
    let all = flat_map (λ t. filter is_clip (components_of t)) (found_tracks tracks) in
    let uid = f.properties.package_uid in
    elim (file_index packages f) as (λ o. file_index packages f ≡ o
    → length (option_map_or (runs_for_index timed tracks c f) o []) ≤ count_by (named packages f) all) [
      | None ↦ λ e. omega arith
      | Some i ↦ λ e.
          elim (find (shows timed i c.rate uid) (found_tracks tracks)) as (λ o.
          find (shows timed i c.rate uid) (found_tracks tracks) ≡ o
          → length (option_map_or (runs_of_track i c f) o []) ≤ count_by (named packages f) all) [
            | None ↦ λ g. omega arith
            | Some t ↦ λ g. runs_of_track_le packages i c f tracks t e
                (found-In (shows timed i c.rate uid) (found_tracks tracks) t g).0
          ] refl
    ] refl

runs_by_clock_le : (timed : ℕ → Rate → Bool) (packages : List PackageAt) (tracks : List TrackAt) (c : ClockTrack)
    → length (runs_by_clock timed packages tracks c)
    ≤ length (flat_map (λ t. filter is_clip (components_of t)) (found_tracks tracks))
runs_by_clock_le timed packages tracks c =
    let all = flat_map (λ t. filter is_clip (components_of t)) (found_tracks tracks) in
    let files = found_packages packages in
    let first = length-flat_map (runs_for timed packages tracks c) (λ f. count_by (named packages f) all) files
    (runs_for_le timed packages tracks c) in
    let both = swapped (named packages) files all in
    let ones = sum-ones (λ x. count_by (λ f. named packages f x) files) all (named_once packages) in
    omega (arith, first, both, ones)

runs_by_package_le : (timed : ℕ → Rate → Bool) (packages : List PackageAt) (m : FoundPackage)
    → length (runs_by_package timed packages m) ≤ length (clips_in m)
runs_by_package_le timed packages m = elim (is_material m.kind) as (λ b.
    length (cond b (option_map_or (runs_by_clock timed packages m.tracks) (clock_of m.tracks) []) [])
    ≤ length (clips_in m)) [
      | false ↦ omega arith
      | true ↦ elim (clock_of m.tracks) as (λ o.
          length (option_map_or (runs_by_clock timed packages m.tracks) o []) ≤ length (clips_in m)) [
            | None ↦ omega arith
            | Some c ↦ runs_by_clock_le timed packages m.tracks c
          ]
    ]

runs_by_material_le : (timed : ℕ → Rate → Bool) (packages : List PackageAt)
    → length (runs_by_material timed packages) ≤ length (clips_found packages)
runs_by_material_le timed packages =
    let a = length-flat_map (runs_by_package timed packages) (λ m. length (clips_in m)) (found_packages packages)
    (runs_by_package_le timed packages) in
    let b = sum-lengths clips_in (found_packages packages) in
    omega (arith, a, b)

-- ---- by file packages

runs_by_sources_le : (timed : ℕ → Rate → Bool) (packages : List PackageAt)
    → length (runs_by_sources timed packages) ≤ length (files_found packages)
unfolding run_by_source
runs_by_sources_le timed packages =
    let a = mapped_le (run_by_source timed packages) (λ f. is_some (file_index packages f)) (found_packages packages)
    (λ f r e. ap is_some (then_with (λ i. option_and_then (run_by_own_clock timed f.tracks i) (clock_of f.tracks))
    (file_index packages f) r e).1) in
    let b = counted_length (λ f. is_some (file_index packages f)) (found_packages packages) in
    omega (arith, a, b)

runs_by_le : (k : PackageKind) (timed : ℕ → Rate → Bool) (packages : List PackageAt)
    → length (runs_by k timed packages) ≤ length (clips_found packages) + length (files_found packages)
runs_by_le Material timed packages = let a = runs_by_material_le timed packages in omega (arith, a)
runs_by_le Source timed packages = let a = runs_by_sources_le timed packages in omega (arith, a)

pub no_more : (notes : List NoteParts) (packages : List PackageAt)
    → length (clocks_of notes packages).runs ≤ length (clips_found packages) + length (files_found packages)
unfolding runs_of
no_more notes packages =
    let all = runs_by (teller packages) (is_timed (segments_of notes)) packages in
    let bound = length (clips_found packages) + length (files_found packages) in
    elim (is_finished notes) as (λ b. length (cond b (union run_cmp [] all) []) ≤ bound) [
      | false ↦ omega arith
      | true ↦
          let a = length-union run_cmp [] all in
          let b = runs_by_le (teller packages) (is_timed (segments_of notes)) packages in omega (arith, a, b)
    ]
