-- The file package that an identifier leads to, and its tracks.
use Rattle.mxf_views.proofs.Common.{◌≡◌, ◌∙◌, ◌&&◌, ◌==◌, ℕ, Bool, true, refl, sym, ap, subst, arith}
use Rattle.mxf_views.proofs.Common.{inl, inr, not, List, [], ◌∷◌, Option, Some, None, filter, filter_map, find}
use Rattle.mxf_views.proofs.Common.{and_from, and_parts, append-nil, bytes_eq-Decides, count_by}
use Rattle.mxf_views.proofs.Common.{eq-eqb, eqb-true, cons_option, flat_map, In, In-filter, length, option_and_then}
use Rattle.mxf_views.proofs.Common.{◌++◌, ◌≤◌, drop, option_map, SegmentAtParts}
use Rattle.mxf_sets.specs.declared.record.rate.Rate.{Rate}
use Rattle.mxf_tracks.specs.declared.package.FoundPackage.{FoundPackage}
use Rattle.mxf_tracks.specs.declared.package.PackageAt.{PackageAt}
use Rattle.mxf_tracks.specs.declared.track.FoundTrack.{FoundTrack}
use Rattle.mxf_clocks.specs.declared.tables.Tables.{Tables}
use Rattle.mxf_clocks.specs.ClockTracks.{clock_of, found_packages, found_tracks}
use Rattle.mxf_clocks.specs.Clocks.{run_by_own_clock, run_by_source, runs_by_sources}
use Rattle.mxf_clocks.specs.Runs.{RunParts}
use Rattle.mxf_clocks.specs.FilePackages.{file_index, has_identifier, index_in, is_material, is_of_one, is_zeros}
use Rattle.mxf_clocks.specs.Lookups.{first_origin, index_of, only_one, origin_if, origin_with, own_index, run_by_index}
use Rattle.mxf_clocks.specs.Lookups.{AreTablesOf, index_kept, timed_in, track_origin}
use Rattle.mxf_clocks.specs.TracksFor.{is_timed, origin_at, origin_of}
use Rattle.mxf_clocks.proofs.CountLaws.{counted_length}
use Rattle.mxf_clocks.proofs.LoopSteps.{mapped_all}
use Rattle.mxf_clocks.proofs.Members.{then_with, with_choice, to_choice}

only_found : {A : Type 0} (xs : List A) (x : A) → only_one xs ≡ Some x → xs ≡ x ∷ []
only_found [] x e = absurd cc
only_found (y ∷ []) x e = grind (arith, e)
only_found (y ∷ z ∷ ys) x e = absurd cc

only_member : {A : Type 0} (xs : List A) (x : A) → length xs ≡ 1 → In x xs → only_one xs ≡ Some x
only_member [] x e h = absurd h
only_member (y ∷ []) x e (inl p) = ap (λ z. Some z) (sym p)
only_member (y ∷ []) x e (inr h) = absurd h
only_member (y ∷ z ∷ ys) x e h = absurd (omega (arith, e))

-- A file package, and what its identifier leads to.
pub record IsFileWith (packages : List PackageAt) (uid : List ℕ) (index_sid : ℕ) (f : FoundPackage) : Type 0 where
  pub found : In f (found_packages packages)
  pub uid_is : f.properties.package_uid ≡ uid
  pub index : file_index packages f ≡ Some index_sid
  pub origin : (id : ℕ) (rate : Rate) → origin_with packages uid id rate ≡ origin_of f.tracks id rate
  pub only : (g : FoundPackage) → In g (found_packages packages) → g.properties.package_uid ≡ uid → g ≡ f

origin_alike : (o : Option FoundTrack) (rate : Rate)
    → option_and_then (origin_if rate) (option_map track_origin o) ≡ option_and_then (origin_at rate) o
origin_alike None rate = refl
origin_alike (Some t) rate = refl

pub file-by_index : (packages : List PackageAt) (uid : List ℕ) (index_sid : ℕ) → index_of packages uid ≡ Some index_sid
    → (f : FoundPackage) × IsFileWith packages uid index_sid f
unfolding file_index origin_of
file-by_index packages uid index_sid e =
    let found = found_packages packages in
    let with_it = filter (has_identifier uid) found in
    let w = then_with own_index (only_one with_it) index_sid e in
    let f = w.0 in
    let one : with_it ≡ f ∷ [] = only_found with_it f w.1 in
    let m = (In-filter (has_identifier uid) found f).0 (subst (In f) (sym one) (inl refl)) in
    let same : f.properties.package_uid ≡ uid = (bytes_eq-Decides f.properties.package_uid uid).0 m.1 in
    let counted : count_by (has_identifier uid) found ≡ 1 =
    counted_length (has_identifier uid) found ∙ ap length one in
    let of_one : is_of_one packages f.properties.package_uid ≡ true =
    ap (is_of_one packages) same ∙ eq-eqb (count_by (has_identifier uid) found) 1 counted in
    let own = f.properties.package_uid in
    let tests = not (is_material f.kind) && not (is_zeros own) in
    let c = with_choice tests (index_in f.container) index_sid w.2 in (
      f,
      record {
        found = m.0;
        uid_is = same;
        index = to_choice (tests && is_of_one packages own) (index_in f.container) index_sid
            (and_from tests (is_of_one packages own) c.0 of_one) c.1;
        origin = λ id rate.
            ap (λ ps. option_and_then (origin_if rate) (first_origin id (flat_map (λ p. found_tracks p.tracks) ps))) one
            ∙ ap (λ ts. option_and_then (origin_if rate) (first_origin id ts)) (append-nil (found_tracks f.tracks))
            ∙ origin_alike (find (λ t. t.track.id == id) (found_tracks f.tracks)) rate;
        only = λ g h u.
            elim (subst (In g) one ((In-filter (has_identifier uid) found g).1
            (h, (bytes_eq-Decides g.properties.package_uid uid).1 u))) as (λ _. g ≡ f) [
              | inl p ↦ p
              | inr n ↦ absurd n
            ];
      },
    )

pub index-of_file : (packages : List PackageAt) (f : FoundPackage) (index_sid : ℕ) → In f (found_packages packages)
    → file_index packages f ≡ Some index_sid → index_of packages f.properties.package_uid ≡ Some index_sid
unfolding file_index
index-of_file packages f index_sid h e =
    let found = found_packages packages in
    let uid = f.properties.package_uid in
    let with_it = filter (has_identifier uid) found in
    let tests = not (is_material f.kind) && not (is_zeros uid) in
    let c = with_choice (tests && is_of_one packages uid) (index_in f.container) index_sid e in
    let p = and_parts tests (is_of_one packages uid) c.0 in
    let one : length with_it ≡ 1 =
    sym (counted_length (has_identifier uid) found) ∙ eqb-true (count_by (has_identifier uid) found) 1 p.1 in
    let m = (In-filter (has_identifier uid) found f).1 (h, (bytes_eq-Decides uid uid).1 refl) in
    ap (option_and_then own_index) (only_member with_it f one m)
    ∙ to_choice tests (index_in f.container) index_sid p.0 c.1

-- ---- file packages with clocks of their own

same_options : (a b : Option ℕ) → ((n : ℕ) → a ≡ Some n → b ≡ Some n) → ((n : ℕ) → b ≡ Some n → a ≡ Some n) → a ≡ b
same_options None None to from = refl
same_options None (Some n) to from = from n refl
same_options (Some n) b to from = sym (to n refl)

same_index : (packages : List PackageAt) (f : FoundPackage) → In f (found_packages packages)
    → index_of packages f.properties.package_uid ≡ file_index packages f
same_index packages f h =
    same_options (index_of packages f.properties.package_uid) (file_index packages f) (λ n e.
    let w = file-by_index packages f.properties.package_uid n e in
    ap (file_index packages) (w.1.only f h refl) ∙ w.1.index) (λ n e. index-of_file packages f n h e)

mapped_alike : {A B : Type 0} (f g : A → Option B) (xs : List A) → ((x : A) → In x xs → f x ≡ g x)
    → filter_map f xs ≡ filter_map g xs
mapped_alike f g [] same = refl
mapped_alike f g (x ∷ xs) same =
    ap (λ o. cons_option o (filter_map f xs)) (same x (inl refl))
    ∙ ap (cons_option (g x)) (mapped_alike f g xs (λ y h. same y (inr h)))

pub sources-by_index : (timed : ℕ → Rate → Bool) (packages : List PackageAt)
    → filter_map (run_by_index timed (index_of packages)) (found_packages packages) ≡ runs_by_sources timed packages
unfolding run_by_index run_by_source
sources-by_index timed packages =
    mapped_alike (run_by_index timed (index_of packages)) (run_by_source timed packages) (found_packages packages)
    (λ f h. ap (λ (o : Option ℕ). option_and_then (by_own f) o) (same_index packages f h))
  where
    by_own : FoundPackage → ℕ → Option RunParts
    by_own f index_sid = option_and_then (run_by_own_clock timed f.tracks index_sid) (clock_of f.tracks)

pub sources-by_tables : (segments : List SegmentAtParts) (packages : List PackageAt) (tables : Tables)
    → AreTablesOf segments packages tables
    → filter_map (run_by_index (timed_in tables.rates.by_index) (index_kept tables.indexes.by_package))
    (found_packages packages) ≡ runs_by_sources (is_timed segments) packages
sources-by_tables segments packages tables are =
    (λ i. filter_map (run_by_index (λ sid rate. are.timed sid rate i) (λ uid. are.index uid i)) (found_packages packages))
    ∙ sources-by_index (is_timed segments) packages

-- The runs of packages that were gone over.
pub sources_all : (segments : List SegmentAtParts) (packages : List PackageAt) (tables : Tables) (i : ℕ)
    (runs : List RunParts) → length packages ≤ i
    → runs ++ filter_map (run_by_index (timed_in tables.rates.by_index) (index_kept tables.indexes.by_package))
    (found_packages (drop i packages))
    ≡ filter_map (run_by_index (timed_in tables.rates.by_index) (index_kept tables.indexes.by_package))
    (found_packages packages)
    → AreTablesOf segments packages tables → runs ≡ runs_by_sources (is_timed segments) packages
sources_all segments packages tables i runs there e are =
    let run = run_by_index (timed_in tables.rates.by_index) (index_kept tables.indexes.by_package) in
    sym (ap (λ ps. runs ++ filter_map run ps) (mapped_all (λ p. p.found) packages i there) ∙ append-nil runs) ∙ e
    ∙ sources-by_tables segments packages tables are
