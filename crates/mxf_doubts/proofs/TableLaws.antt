-- Tables of identifiers, and what stands in them when one more is put in.
use Rattle.mxf_views.proofs.Common.{◌≡◌, ◌∙◌, ◌||◌, ◌∷◌, ℕ, Bool, true, false, List, [], Option, Some, ap, sym, refl, cond}
use Rattle.mxf_views.proofs.Common.{◌==◌, if◌then◌else◌, eq-eqb}
use Rattle.mxf_views.proofs.Common.{NoteParts, bytes_eq, cons_option, filter, filter_map, list_any, nat_cmp, subst}
use Rattle.mxf_views.proofs.Common.{nat_cmp-IsAntisymmetric, bytes_eq-Decides, false_from_ne_true, Less, Equal, Greater, length, inl, inr, arith}
use Rattle.std.specs.List.{AllByRecursion}
use Rattle.std.specs.BTreeMap.{is_at}
use Rattle.std.specs.BTreeSet.{BTreeSet, contains}
use Rattle.std.specs.Cmp.Lexicographic.{nat_list_cmp_total, slice_cmp}
use Rattle.std.specs.FinSet.{slice_cmp-IsAntisymmetric}
use Rattle.std.specs.Option.{option_map_or}
use Rattle.std.specs.Ordering.{is_eq}
use Rattle.std.proofs.lemmas.Cmp.{tied_itself}
use Rattle.mxf_sets.specs.Batch.{BatchParts, HasItemsOf, batch_items, sized_items}
use Rattle.mxf_views.specs.Copies.{is_set_note}
use Rattle.mxf_doubts.specs.Header.{has_instance, instance_of}
use Rattle.mxf_doubts.specs.Tracks.{is_any}

-- A key is found where it has the same bytes.
same_key : (key q : List ℕ) → is_eq (slice_cmp nat_cmp key q) ≡ bytes_eq q key
same_key key q =
    let itself : q ≡ key → slice_cmp nat_cmp key q ≡ Equal = λ e.
    ap (slice_cmp nat_cmp key) e ∙ tied_itself nat_list_cmp_total key in
    elim (slice_cmp nat_cmp key q) as (λ o. slice_cmp nat_cmp key q ≡ o → is_eq o ≡ bytes_eq q key) [
      | Less ↦ λ e. sym (false_from_ne_true (bytes_eq q key) (λ t.
          let s = itself ((bytes_eq-Decides q key).0 t) in cc (e, s)))
      | Equal ↦ λ e.
          sym ((bytes_eq-Decides q key).1 (sym (slice_cmp-IsAntisymmetric nat_cmp-IsAntisymmetric key q e)))
      | Greater ↦ λ e. sym (false_from_ne_true (bytes_eq q key) (λ t.
          let s = itself ((bytes_eq-Decides q key).0 t) in cc (e, s)))
    ] refl

itself : (key : List ℕ) → bytes_eq key key ≡ true
itself key = (bytes_eq-Decides key key).1 refl

either : (b before : Bool) → cond b true before ≡ (before || b)
either true true = refl
either true false = refl
either false true = refl
either false false = refl

either_of_three : (a b c : Bool) → ((a || b) || c) ≡ (a || (b || c))
either_of_three true b c = refl
either_of_three false b c = refl

-- The new table has the old keys and one more.
abbrev pub HasOneMore : BTreeSet (List ℕ) → BTreeSet (List ℕ) → List ℕ → Type 0
HasOneMore old new key = (q : List ℕ) → contains (slice_cmp nat_cmp) new q
    ≡ cond (is_at (slice_cmp nat_cmp key) q) true (contains (slice_cmp nat_cmp) old q)

added : (old new : BTreeSet (List ℕ)) (key : List ℕ) → HasOneMore old new key → (q : List ℕ)
    → contains (slice_cmp nat_cmp) new q ≡ (contains (slice_cmp nat_cmp) old q || bytes_eq q key)
added old new key u q =
    let before = contains (slice_cmp nat_cmp) old q in
    u q ∙ ap (λ b. cond b true before) (same_key key q) ∙ either (bytes_eq q key) before

-- The first of what is left gave the key.
pub one_more : {X : Type 0} (f : X → Option (List ℕ)) (old new : BTreeSet (List ℕ)) (key : List ℕ) (x : X) (rest all : List X)
    → HasOneMore old new key → f x ≡ Some key → all ≡ x ∷ rest → (q : List ℕ)
    → (contains (slice_cmp nat_cmp) new q || list_any (bytes_eq q) (filter_map f rest))
    ≡ (contains (slice_cmp nat_cmp) old q || list_any (bytes_eq q) (filter_map f all))
one_more {X} f old new key x rest all u e s q =
    let before = contains (slice_cmp nat_cmp) old q in
    ap (λ b. b || list_any (bytes_eq q) (filter_map f rest)) (added old new key u q)
    ∙ either_of_three before (bytes_eq q key) (list_any (bytes_eq q) (filter_map f rest))
    ∙ ap (λ (o : Option (List ℕ)). before || list_any (bytes_eq q) (cons_option o (filter_map f rest))) (sym e)
    ∙ ap (λ (l : List X). before || list_any (bytes_eq q) (filter_map f l)) (sym s)

-- The same of the sets among notes.
pub one_more_instance : (old new : BTreeSet (List ℕ)) (key : List ℕ) (n : NoteParts) (rest all : List NoteParts)
    → HasOneMore old new key → is_set_note n ≡ true → instance_of n ≡ Some key → all ≡ n ∷ rest → (q : List ℕ)
    → (contains (slice_cmp nat_cmp) new q || has_instance (filter is_set_note rest) q)
    ≡ (contains (slice_cmp nat_cmp) old q || has_instance (filter is_set_note all) q)
one_more_instance old new key n rest all u set e s q =
    let before = contains (slice_cmp nat_cmp) old q in
    let sets = filter is_set_note rest in
    ap (λ b. b || has_instance sets q) (added old new key u q)
    ∙ either_of_three before (bytes_eq q key) (has_instance sets q)
    ∙ ap (λ (o : Option (List ℕ)). before || (option_map_or (bytes_eq q) o false || has_instance sets q)) (sym e)
    ∙ ap (λ (b : Bool). before || has_instance (cond b (n ∷ sets) sets) q) (sym set)
    ∙ ap (λ (l : List NoteParts). before || has_instance (filter is_set_note l) q) (sym s)

-- The items of a batch of references have sixteen bytes each.
pub are_sixteen : (batch : BatchParts) (items : List (List ℕ)) → HasItemsOf 16 batch → items ≡ batch_items batch
    → AllByRecursion (λ i. length i ≡ batch.size) items → AllByRecursion (λ i. length i ≡ 16) items
are_sixteen batch items (inl none) e a = subst (AllByRecursion (λ i. length i ≡ 16)) (sym (e ∙ no_items batch none)) tt
  where
    no_items : (batch : BatchParts) → batch.count ≡ 0 → batch_items batch ≡ []
    no_items batch none = ap (λ count. sized_items count batch.size batch.items) none
are_sixteen batch items (inr size) e a = subst (λ s. AllByRecursion (λ i. length i ≡ s) items) size a

-- What a test says of sixteen bytes.
pub tested : (reference : List ℕ) (b r : Bool) → length reference ≡ 16
    → r ≡ (if length reference == 16 then b else false) → b ≡ r
tested reference b r e h = grind (arith, eq-eqb)

-- A table with keys has those of some list that it is told by, and one without has none.
pub any_listed : (keys listed : List (List ℕ))
    → ((q : List ℕ) → list_any (is_at (slice_cmp nat_cmp q)) keys ≡ list_any (bytes_eq q) listed) → (length keys ≡ 0 → ⊥)
    → is_any listed ≡ true
any_listed [] listed same some = absurd (some refl)
any_listed (k ∷ keys) [] same some =
    let there = ap (λ b. b || list_any (is_at (slice_cmp nat_cmp k)) keys) (sym (same_key k k ∙ itself k)) ∙ same k in
    absurd cc
any_listed (k ∷ keys) (l ∷ listed) same some = refl

pub none_listed : (keys listed : List (List ℕ))
    → ((q : List ℕ) → list_any (is_at (slice_cmp nat_cmp q)) keys ≡ list_any (bytes_eq q) listed) → length keys ≡ 0
    → is_any listed ≡ false
none_listed (k ∷ keys) listed same none = absurd (omega (arith, none))
none_listed [] [] same none = refl
none_listed [] (l ∷ listed) same none =
    let there = same l ∙ ap (λ b. b || list_any (bytes_eq l) listed) (itself l) in absurd cc
