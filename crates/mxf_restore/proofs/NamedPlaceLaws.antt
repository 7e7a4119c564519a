-- Places that packs name and that are missing: by claims, by a list, and by a table.
use Rattle.mxf_views.proofs.Common.{◌≡◌, ◌≢◌, ◌↔◌, ◌∙◌, ◌==◌, ℕ, Bool, true, false, cond, IsTrue, Option, None, Some}
use Rattle.mxf_views.proofs.Common.{arith, option_map, List, [], ◌∷◌, ◌++◌, filter_map, find, map, refl, sym, ap, subst}
use Rattle.mxf_views.proofs.Common.{inl, inr, eqb-true, eq-eqb, AllByRecursion, cons_option, lookup, is_at, nat_cmp}
use Rattle.mxf_views.proofs.Common.{Less, false≢true, same_Some, NoteParts, In, IsRising, lt_from_less, at_equal}
use Rattle.mxf_views.proofs.Common.{at_other}
use Rattle.std.specs.List.Sorted.{IsStrictlySortedBy}
use Rattle.std.specs.Map.{keys_of}
use Rattle.std.specs.Option.{option_and_then}
use Rattle.std.proofs.lemmas.Bool.{ne_eqb}
use Rattle.std.proofs.lemmas.Map.Keys.{sorted_head, sorted_tail}
use Rattle.std.proofs.lemmas.Option.{cond_some, option_and_then_some}
use Rattle.mxf_klv.proofs.Tests.{none_some}
use Rattle.mxf_places.specs.Claims.{claims_of, named_place}
use Rattle.mxf_places.specs.declared.claim.Claim.{Claim}
use Rattle.mxf_places.specs.declared.reason.Reason.{Reason}
use Rattle.mxf_places.specs.declared.reason.Reason.TheVariants.{Header}
use Rattle.mxf_restore.specs.Missing.{is_missing}
use Rattle.mxf_restore.specs.NamedPlaces.{AreFirst, IsNamedPlace, NamesPlace, entry_place, is_header, named_place_of}
use Rattle.mxf_restore.specs.NamedPlaces.{place_cmp, source_in}
use Rattle.mxf_restore.specs.declared.named.NamedPlace.{NamedPlace}
use Rattle.mxf_restore.proofs.Options.{some_from}

abbrev place_in : NamedPlace → ℕ
place_in n = n.place

abbrev stands_at : ℕ → NamedPlace → Bool
stands_at x n = n.place == x

-- ---- what a claim names

not_header : (r : Reason) → r ≢ Header → is_header r ≡ false
not_header Header h = absurd (h refl)
not_header _ h = refl

other_than_header : (r : Reason) → is_header r ≡ false → r ≢ Header
other_than_header r e h = false≢true (sym e ∙ ap is_header h)

-- The place, where it is missing.
abbrev missing_one : List NoteParts → Claim → ℕ → Option NamedPlace
missing_one notes c x = cond (is_missing notes x) (Some (record { place = x; source = c.source })) None

abbrev IsNamedBy : List NoteParts → Claim → NamedPlace → Type 0
IsNamedBy notes c n = NamesPlace c n.place × IsTrue (is_missing notes n.place) × (n.source ≡ c.source)

named_says : (notes : List NoteParts) (c : Claim) (n : NamedPlace)
    → (named_place_of notes c ≡ Some n) ↔ IsNamedBy notes c n
unfolding named_place_of
named_says notes c n = (
  elim (is_header c.reason) as (λ b. is_header c.reason ≡ b
      → cond b None (option_and_then (missing_one notes c) (named_place c)) ≡ Some n → IsNamedBy notes c n) [
        | true ↦ λ t e. absurd cc
        | false ↦ λ t e. option_and_then_some (missing_one notes c) (named_place c) n e (λ x named told.
            let k = cond_some (is_missing notes x) (record { place = x; source = c.source }) n told in
            let place : x ≡ n.place = ap place_in k.1 in (
              (other_than_header c.reason t, named ∙ ap (λ (y : ℕ). Some y) place),
              subst (λ y. IsTrue (is_missing notes y)) place k.0,
              sym (ap (λ (m : NamedPlace). m.source) k.1),
            ))
      ] refl,
  λ k. ap (λ b. cond b None (option_and_then (missing_one notes c) (named_place c))) (not_header c.reason k.0.0)
      ∙ ap (option_and_then (missing_one notes c)) k.0.1
      ∙ ap (λ b. cond b (Some (record { place = n.place; source = c.source })) None) k.1
      ∙ (λ i. Some (record { place = n.place; source = sym k.2 i })),
)

-- ---- the first of some claims

-- The place is missing, and its source is that of the first of some claims that names it.
record IsNamedIn (notes : List NoteParts) (claims : List Claim) (n : NamedPlace) : Type 0 where
  missing : IsTrue (is_missing notes n.place)
  before : List Claim
  by : Claim
  later : List Claim
  are : claims ≡ before ++ (by ∷ later)
  names : NamesPlace by n.place
  first : (c : Claim) → In c before → ¬ NamesPlace c n.place
  source : n.source ≡ by.source

module _ (notes : List NoteParts) (n : NamedPlace) where
  abbrev found_in : List Claim → Option NamedPlace
  found_in claims = find (stands_at n.place) (filter_map (named_place_of notes) claims)

  -- Where one claim more stands before them that doesn't name the place.
  behind : (c : Claim) (claims : List Claim) (k : IsNamedIn notes claims n) → ¬ NamesPlace c n.place
      → IsNamedIn notes (c ∷ claims) n
  behind c claims k none = record {
    missing = k.missing;
    before = c ∷ k.before;
    by = k.by;
    later = k.later;
    are = ap (λ l. c ∷ l) k.are;
    names = k.names;
    first = λ d h. elim h [
      | inl e ↦ λ names. none (subst (λ (x : Claim). NamesPlace x n.place) e names)
      | inr j ↦ k.first d j
    ];
    source = k.source;
  }

  -- A claim that names the missing place gives it with its own source.
  told_of : (c : Claim) → NamesPlace c n.place → IsTrue (is_missing notes n.place)
      → named_place_of notes c ≡ Some (record { place = n.place; source = c.source })
  told_of c names missing =
      (named_says notes c (record { place = n.place; source = c.source })).1 (names, missing, refl)

  -- One that gives another place doesn't name it.
  other_named : (c : Claim) (m : NamedPlace) → IsTrue (is_missing notes n.place) → named_place_of notes c ≡ Some m
      → m.place ≢ n.place → ¬ NamesPlace c n.place
  other_named c m missing e apart names =
      let told : NamedPlace = record { place = n.place; source = c.source } in
      apart (ap place_in (same_Some m told (sym e ∙ told_of c names missing)))

  first_of : (claims : List Claim) → found_in claims ≡ Some n → IsNamedIn notes claims n
  first_of [] e = absurd cc
  first_of (c ∷ claims) e = elim (named_place_of notes c) as (λ o. named_place_of notes c ≡ o
      → find (stands_at n.place) (cons_option o (filter_map (named_place_of notes) claims)) ≡ Some n
      → IsNamedIn notes (c ∷ claims) n) [
        | None ↦ λ o f.
            let k = first_of claims f in
            behind c claims k (λ names. none_some (named_place_of notes c) _ o (told_of c names k.missing))
        | Some m ↦ λ o f. elim (m.place == n.place) as (λ b. (m.place == n.place) ≡ b
            → cond b (Some m) (found_in claims) ≡ Some n → IsNamedIn notes (c ∷ claims) n) [
              | true ↦ λ t g. here c claims ((named_says notes c n).0 (o ∙ g))
              | false ↦ λ t g.
                  let k = first_of claims g in
                  behind c claims k
                  (other_named c m k.missing o (λ same. false≢true (sym t ∙ eq-eqb m.place n.place same)))
            ] refl f
      ] refl e
    where
      here : (c : Claim) (claims : List Claim) → IsNamedBy notes c n → IsNamedIn notes (c ∷ claims) n
      here c claims k = record {
        missing = k.1;
        before = [];
        by = c;
        later = claims;
        are = refl;
        names = k.0;
        first = λ d h. absurd h;
        source = k.2;
      }

  found_by : (before : List Claim) (by : Claim) (later : List Claim) → IsNamedBy notes by n
      → ((c : Claim) → In c before → ¬ NamesPlace c n.place) → found_in (before ++ (by ∷ later)) ≡ Some n
  found_by [] by later k first =
      ap (λ o. find (stands_at n.place) (cons_option o (filter_map (named_place_of notes) later)))
      ((named_says notes by n).1 k) ∙ ap (λ b. cond b (Some n) (found_in later)) (eq-eqb n.place n.place refl)
  found_by (c ∷ before) by later k first =
      let rest = before ++ (by ∷ later) in
      let ih = found_by before by later k (λ d h. first d (inr h)) in
      elim (named_place_of notes c) as (λ o. named_place_of notes c ≡ o
      → find (stands_at n.place) (cons_option o (filter_map (named_place_of notes) rest)) ≡ Some n) [
        | None ↦ λ o. ih
        | Some m ↦ λ o.
            let apart : m.place ≢ n.place = λ same.
            first c (inl refl) (subst (λ x. NamesPlace c x) same ((named_says notes c m).0 o).0) in
            ap (λ b. cond b (Some m) (found_in rest)) (ne_eqb m.place n.place apart) ∙ ih
      ] refl

  found_says : (found_in (claims_of notes) ≡ Some n) ↔ IsNamedPlace notes n
  found_says = (
    λ e.
        let k = first_of (claims_of notes) e in record {
          missing = k.missing;
          before = k.before;
          by = k.by;
          later = k.later;
          claims = k.are;
          names = k.names;
          first = k.first;
          source = k.source;
        },
    λ k. ap found_in k.claims ∙ found_by k.before k.by k.later (k.names, k.missing, k.source) k.first,
  )

-- ---- by a table

passes : {A : Type 0} (p : A → Bool) (xs : List A) (x : A) → find p xs ≡ Some x → p x ≡ true
passes p [] x e = absurd cc
passes p (y ∷ ys) x e =
    elim (p y) as (λ b. p y ≡ b → cond b (Some y) (find p ys) ≡ Some x → p x ≡ true) [
      | true ↦ λ t f. ap p (sym (same_Some y x f)) ∙ t
      | false ↦ λ t f. passes p ys x f
    ] refl e

source_says : (places : List NamedPlace) (n : NamedPlace)
    → (source_in places n.place ≡ Some n.source) ↔ (find (stands_at n.place) places ≡ Some n)
source_says places n = (
  λ e.
      let m = some_from (λ (x : NamedPlace). x.source) (find (stands_at n.place) places) n.source e in
      let place : m.0.place ≡ n.place =
      eqb-true m.0.place n.place (passes (stands_at n.place) places m.0 m.1) in
      m.1 ∙ (λ i. Some (record { place = place i; source = m.2 i })),
  ap (option_map (λ (x : NamedPlace). x.source)),
)

-- A table of the first sources tells the named places.
pub named_is : (notes : List NoteParts) (entries : List (ℕ × Option ℕ)) (n : NamedPlace)
    → AreFirst (filter_map (named_place_of notes) (claims_of notes)) entries
    → (lookup (is_at (nat_cmp n.place)) entries ≡ Some n.source) ↔ IsNamedPlace notes n
named_is notes entries n told =
    let places = filter_map (named_place_of notes) (claims_of notes) in
    let found = found_says notes n in
    let source = source_says places n in (
      λ e. found.0 (source.0 (sym (told n.place) ∙ e)),
      λ k. told n.place ∙ source.1 (found.1 k),
    )

-- The list of a table's places.
abbrev pub places_of : List (ℕ × Option ℕ) → List NamedPlace
places_of entries = map entry_place entries

above : (x : ℕ) (entries : List (ℕ × Option ℕ)) (n : NamedPlace)
    → AllByRecursion (λ y. nat_cmp x y ≡ Less) (keys_of entries) → In n (places_of entries) → nat_cmp x n.place ≡ Less
above x [] n all h = absurd h
above x (e ∷ entries) n all (inl q) = ap (λ (m : NamedPlace). nat_cmp x m.place) q ∙ all.0
above x (e ∷ entries) n all (inr h) = above x entries n all.1 h

below_all : (x : ℕ) (source : Option ℕ) (entries : List (ℕ × Option ℕ))
    → AllByRecursion (λ y. nat_cmp x y ≡ Less) (keys_of entries)
    → AllByRecursion (λ m. place_cmp (record { place = x; source = source }) m ≡ Less) (places_of entries)
below_all x source [] all = tt
below_all x source (e ∷ entries) all = (all.0, below_all x source entries all.1)

pub places_rise : (entries : List (ℕ × Option ℕ)) → IsStrictlySortedBy nat_cmp (keys_of entries)
    → IsRising place_cmp (places_of entries)
places_rise [] s = tt
places_rise (e ∷ entries) s = (
  below_all e.0 e.1 entries (sorted_head nat_cmp e.0 (keys_of entries) s),
  places_rise entries (sorted_tail nat_cmp e.0 (keys_of entries) s),
)

pub places_say : (entries : List (ℕ × Option ℕ)) (n : NamedPlace) → IsStrictlySortedBy nat_cmp (keys_of entries)
    → In n (places_of entries) ↔ (lookup (is_at (nat_cmp n.place)) entries ≡ Some n.source)
places_say [] n s = (λ h. absurd h, λ e. absurd cc)
places_say (e ∷ entries) n s =
    let rest = lookup (is_at (nat_cmp n.place)) entries in
    let ih = places_say entries n (sorted_tail nat_cmp e.0 (keys_of entries) s) in (
      λ h. elim h [
        | inl q ↦ grind (arith, cond, rest, at_equal)
        | inr j ↦
            let less = lt_from_less e.0 n.place (above e.0 entries n (sorted_head nat_cmp e.0 (keys_of entries) s) j) in
            let apart : n.place ≢ e.0 = omega arith in
            ap (λ b. cond b (Some e.1) rest) (at_other n.place e.0 (ne_eqb n.place e.0 apart)) ∙ ih.0 j
      ],
      λ told.
          elim (n.place == e.0) as (λ b. (n.place == e.0) ≡ b → In n (places_of (e ∷ entries))) [
            | true ↦ λ t.
                let place : n.place ≡ e.0 = eqb-true n.place e.0 t in
                let source : n.source ≡ e.1 =
                sym (same_Some e.1 n.source
                (ap (λ b. cond b (Some e.1) rest) (sym (at_equal n.place e.0 place)) ∙ told)) in
                inl (λ i. record { place = place i; source = source i })
            | false ↦ λ t. inr (ih.1 (ap (λ b. cond b (Some e.1) rest) (sym (at_other n.place e.0 t)) ∙ told))
          ] refl,
    )

-- A table with one more place before those that it was made of.
pub first_sources-insert : (places : List NamedPlace) (n : NamedPlace) (old new : List (ℕ × Option ℕ))
    → AreFirst places old → ((x : ℕ) → lookup (is_at (nat_cmp x)) new
    ≡ cond (is_at (nat_cmp n.place) x) (Some n.source) (lookup (is_at (nat_cmp x)) old)) → AreFirst (n ∷ places) new
first_sources-insert places n old new told updates x = updates x ∙ elim (n.place == x) as (λ b. (n.place == x) ≡ b
    → cond (is_at (nat_cmp n.place) x) (Some n.source) (lookup (is_at (nat_cmp x)) old)
    ≡ option_map (λ (m : NamedPlace). m.source) (cond b (Some n) (find (stands_at x) places))) [
      | true ↦ λ t. ap (λ b. cond b (Some n.source) (lookup (is_at (nat_cmp x)) old))
          (at_equal n.place x (eqb-true n.place x t))
      | false ↦ λ t. ap (λ b. cond b (Some n.source) (lookup (is_at (nat_cmp x)) old)) (at_other n.place x t) ∙ told x
    ] refl
