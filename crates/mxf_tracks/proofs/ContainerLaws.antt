-- What is kept of the containers that sets name, with one more set.
use Rattle.std.proofs.Common.{◌≡◌, ◌∙◌, ℕ, Bool, true, false, cond, List, [], ◌∷◌, ◌++◌, Option, Some, None, refl, ap}
use Rattle.std.proofs.Common.{sym, Less, Equal, Greater, nat_cmp}
use Rattle.std.specs.BTreeMap.{BTreeMap, get, is_at}
use Rattle.std.specs.Cmp.Lexicographic.{nat_list_cmp_total, slice_cmp}
use Rattle.std.specs.FinSet.{slice_cmp-IsAntisymmetric}
use Rattle.std.specs.List.{list_all, cons_option}
use Rattle.std.specs.Option.{option_and_then}
use Rattle.std.specs.Ordering.{is_eq}
use Rattle.std.specs.Prelude.{◌&&◌}
use Rattle.std.specs.Str.{bytes_eq}
use Rattle.std.proofs.lemmas.Cmp.{tied_itself}
use Rattle.std.proofs.lemmas.List.Elements.{filter_map-append}
use Rattle.std.proofs.lemmas.List.Folds.{list_all-append}
use Rattle.mxf_views.proofs.Common.{nat_cmp-IsAntisymmetric, bytes_eq-Decides, false_from_ne_true}
use Rattle.mxf_klv.specs.Parts.{NoteParts}
use Rattle.mxf_sets.specs.ContainerData.{ContainerDataParts}
use Rattle.mxf_tracks.specs.declared.container.Container.{Container}
use Rattle.mxf_tracks.specs.Containers.{AreContainersOf, container_data_in, is_same, kept_of, named_by, named_for}
use Rattle.mxf_tracks.specs.Containers.{streams_for, with_container}

-- Identifiers compare alike where they have the same bytes.
pub same_test : (a b : List ℕ) → is_eq (slice_cmp nat_cmp a b) ≡ bytes_eq a b
same_test a b =
    let itself : a ≡ b → slice_cmp nat_cmp a b ≡ Equal = λ e.
    ap (λ u. slice_cmp nat_cmp u b) e ∙ tied_itself nat_list_cmp_total b in
    elim (slice_cmp nat_cmp a b) as (λ o. slice_cmp nat_cmp a b ≡ o → is_eq o ≡ bytes_eq a b) [
      | Less ↦ λ e. sym (false_from_ne_true (bytes_eq a b) (λ t.
          let q = itself ((bytes_eq-Decides a b).0 t) in cc (e, q)))
      | Equal ↦ λ e. sym ((bytes_eq-Decides a b).1 (slice_cmp-IsAntisymmetric nat_cmp-IsAntisymmetric a b e))
      | Greater ↦ λ e. sym (false_from_ne_true (bytes_eq a b) (λ t.
          let q = itself ((bytes_eq-Decides a b).0 t) in cc (e, q)))
    ] refl

more_of : (d c : Container) (l s : Bool)
    → Some (cond (l && (s && true)) (Some d) None) ≡ Some (cond l (cond s (Some d) None) None)
more_of d c true true = refl
more_of d c true false = refl
more_of d c false s = refl

kept_by : (d c : Container) (l : Bool)
    → with_container (Some (cond l (Some d) None)) c ≡ cond l (cond (is_same d c) (Some d) None) None
kept_by d c true = refl
kept_by d c false = refl

-- What is kept with one more.
pub kept_more : (cs : List Container) (c : Container) → kept_of (cs ++ c ∷ []) ≡ Some (with_container (kept_of cs) c)
kept_more [] c = refl
kept_more (d ∷ ds) c =
    let l = list_all (is_same d) ds in
    ap (λ (b : Bool). Some (cond b (Some d) None)) (list_all-append (is_same d) ds (c ∷ []))
    ∙ more_of d c l (is_same d c) ∙ ap (λ (o : Option Container). Some o) (sym (kept_by d c l))

-- What a set names with those before it.
pub named_more : (uid : List ℕ) (sets : List NoteParts) (n : NoteParts)
    → named_for uid (sets ++ n ∷ []) ≡ named_for uid sets ++ cons_option (named_by uid n) []
named_more uid sets n = filter_map-append (named_by uid) sets (n ∷ [])

append_none : {A : Type 0} (xs : List A) → xs ++ [] ≡ xs
append_none [] = refl
append_none (x ∷ xs) = ap (λ l. x ∷ l) (append_none xs)

-- A set that is none of them changes nothing.
pub none_more : (kept : BTreeMap (List ℕ) (Option Container)) (sets : List NoteParts) (n : NoteParts)
    → container_data_in n ≡ None → AreContainersOf sets kept → AreContainersOf (sets ++ n ∷ []) kept
none_more kept sets n none are uid =
    let nothing : named_by uid n ≡ None = ap (option_and_then (streams_for uid)) none in
    let same : named_for uid (sets ++ n ∷ []) ≡ named_for uid sets = named_more uid sets n
    ∙ ap (λ (o : Option Container). named_for uid sets ++ cons_option o []) nothing
    ∙ append_none (named_for uid sets) in
    are uid ∙ ap kept_of (sym same)

abbrev pub streams : ContainerDataParts → Container
streams d = record { body_sid = d.body_sid; index_sid = d.index_sid }

-- One that names the streams of a package changes what is kept of that package.
pub one_more_set : (old new : BTreeMap (List ℕ) (Option Container)) (sets : List NoteParts) (n : NoteParts)
    (d : ContainerDataParts) → container_data_in n ≡ Some d → ((q : List ℕ) → get (slice_cmp nat_cmp) new q
    ≡ cond (is_at (slice_cmp nat_cmp d.linked_package) q)
    (Some (with_container (get (slice_cmp nat_cmp) old d.linked_package) (streams d))) (get (slice_cmp nat_cmp) old q))
    → AreContainersOf sets old → AreContainersOf (sets ++ n ∷ []) new
one_more_set old new sets n d some updated are uid =
    let linked = d.linked_package in
    let named : named_by uid n ≡ streams_for uid d = ap (option_and_then (streams_for uid)) some in
    let all : named_for uid (sets ++ n ∷ []) ≡ named_for uid sets ++ cons_option (streams_for uid d) [] =
    named_more uid sets n ∙ ap (λ (o : Option Container). named_for uid sets ++ cons_option o []) named in
    updated uid ∙ ap (λ (b : Bool). cond b
    (Some (with_container (get (slice_cmp nat_cmp) old linked) (streams d))) (get (slice_cmp nat_cmp) old uid))
    (same_test linked uid) ∙ elim (bytes_eq linked uid) as (λ b. bytes_eq linked uid ≡ b
    → cond b (Some (with_container (get (slice_cmp nat_cmp) old linked) (streams d))) (get (slice_cmp nat_cmp) old uid)
    ≡ kept_of (named_for uid sets ++ cons_option (cond b (Some (streams d)) None) [])) [
      | true ↦ λ t.
          let same : linked ≡ uid = (bytes_eq-Decides linked uid).0 t in
          ap (λ (u : List ℕ). Some (with_container (get (slice_cmp nat_cmp) old u) (streams d))) same
          ∙ ap (λ (o : Option (Option Container)). Some (with_container o (streams d))) (are uid)
          ∙ sym (kept_more (named_for uid sets) (streams d))
      | false ↦ λ t. are uid ∙ ap kept_of (sym (append_none (named_for uid sets)))
    ] refl ∙ ap kept_of (sym all)

-- The same by the key and the value that are put in.
pub one_put_in : (old new : BTreeMap (List ℕ) (Option Container)) (sets : List NoteParts) (n : NoteParts)
    (d : ContainerDataParts) (key : List ℕ) (value : Option Container) → container_data_in n ≡ Some d
    → key ≡ d.linked_package → value ≡ with_container (get (slice_cmp nat_cmp) old key) (streams d)
    → ((q : List ℕ) → get (slice_cmp nat_cmp) new q
    ≡ cond (is_at (slice_cmp nat_cmp key) q) (Some value) (get (slice_cmp nat_cmp) old q))
    → AreContainersOf sets old → AreContainersOf (sets ++ n ∷ []) new
one_put_in old new sets n d key value some same kept updated are = one_more_set old new sets n d some (λ q. updated q
    ∙ ap (λ (v : Option Container). cond (is_at (slice_cmp nat_cmp key) q) (Some v)
    (get (slice_cmp nat_cmp) old q)) kept ∙ ap (λ (k : List ℕ). cond (is_at (slice_cmp nat_cmp k) q)
    (Some (with_container (get (slice_cmp nat_cmp) old k) (streams d))) (get (slice_cmp nat_cmp) old q)) same) are
