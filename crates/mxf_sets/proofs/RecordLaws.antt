-- A value is read under a table exactly where its items meet the table.
use Rattle.std.proofs.Common.{◌≡◌, ℕ, Bool, true, false, cond, List, [], ◌∷◌, Option, Some, None, Result, Ok, Err}
use Rattle.std.proofs.Common.{length, refl, ap, ◌∙◌, sym, subst, ltb-false, le-ltb}
use Rattle.std.specs.Prelude.{find, is_none, not, ◌&&◌, ◌==◌, ◌-◌, IsSome}
use Rattle.std.specs.Option.{option_map, option_map_or}
use Rattle.std.specs.List.{AllByRecursion}
use Rattle.mxf_klv.specs.Bytes.{AreBytes}
use Rattle.mxf_sets.specs.declared.record.Field.{Field}
use Rattle.mxf_sets.specs.declared.record.FieldFault.TheVariants.{Set, RepeatedTag, Missing, WrongWidth}
use Rattle.mxf_sets.specs.Items.{ItemParts, AreItems, items_of, left_of}
use Rattle.mxf_sets.specs.Lookup.{value_of, count_of}
use Rattle.mxf_sets.specs.Fields.{Meets, checked, fields_at, has_shape, first_tag, is_missing, is_repeated, is_wrong}
use Rattle.mxf_sets.specs.Fields.{or_else}
use Rattle.mxf_sets.proofs.ItemLemmas.{are_items, empty_from_test, only_are}
use Rattle.mxf_sets.proofs.Checks.{head_clear}
use Rattle.std.proofs.lemmas.Bool.{not-false}

-- ---- one field

there_of : (b : Bool) (o : Option (List ℕ)) → (b && is_none o) ≡ false → b ≡ true → IsSome o
there_of true None h e = absurd cc
there_of true (Some v) h e = refl
there_of false o h e = absurd cc

of_there : (b : Bool) (o : Option (List ℕ)) → (b ≡ true → IsSome o) → (b && is_none o) ≡ false
of_there true None h = let some : IsSome {T = List ℕ} None = h refl in absurd cc
of_there true (Some v) h = refl
of_there false o h = refl

shaped_of : (t : List ℕ → Bool) (o : Option (List ℕ)) → option_map_or (λ v. not (t v)) o false ≡ false → (v : List ℕ)
    → o ≡ Some v → t v ≡ true
shaped_of t None h v e = absurd cc
shaped_of t (Some w) h v e = (let same : w ≡ v = cc in subst (λ (u : List ℕ). t u ≡ true) same (not-false (t w) h))

of_shaped : (t : List ℕ → Bool) (o : Option (List ℕ)) → ((v : List ℕ) → o ≡ Some v → t v ≡ true)
    → option_map_or (λ v. not (t v)) o false ≡ false
of_shaped t None h = refl
of_shaped t (Some w) h = ap not (h w refl)

meets_of : (items : List ItemParts) (f : Field) → is_repeated items f ≡ false → is_missing items f ≡ false
    → is_wrong items f ≡ false → Meets items f
meets_of items f r m w = record {
  once = ltb-false 1 (count_of f.tag items) r;
  there = there_of f.required (value_of f.tag items) m;
  shaped = shaped_of (has_shape f.shape) (value_of f.tag items) w;
}

-- ---- the table

all_clear : (cause : Field → Bool) (fields : List Field) → first_tag cause fields ≡ None
    → AllByRecursion (λ f. cause f ≡ false) fields
all_clear cause [] h = tt
all_clear cause (f ∷ fs) h = let c = head_clear cause f fs h in (c.0, all_clear cause fs c.1)

none_found : (cause : Field → Bool) (fields : List Field) → AllByRecursion (λ f. cause f ≡ false) fields
    → first_tag cause fields ≡ None
none_found cause [] h = refl
none_found cause (f ∷ fs) h = ap (λ (b : Bool). option_map (λ (g : Field). g.tag) (cond b (Some f) (find cause fs))) h.0
    ∙ none_found cause fs h.1

passed : {A F : Type 0} (o : Option ℕ) (fault : ℕ → F) (next : Result A F) (x : A) → or_else o fault next ≡ Ok x
    → (o ≡ None) × (next ≡ Ok x)
passed None fault next x h = (refl, h)
passed (Some tag) fault next x h = absurd cc

all_meet : (items : List ItemParts) (fields : List Field) → AllByRecursion (λ f. is_repeated items f ≡ false) fields
    → AllByRecursion (λ f. is_missing items f ≡ false) fields
    → AllByRecursion (λ f. is_wrong items f ≡ false) fields → AllByRecursion (Meets items) fields
all_meet items [] r m w = tt
all_meet items (f ∷ fs) r m w = (meets_of items f r.0 m.0 w.0, all_meet items fs r.1 m.1 w.1)

none_repeated : (items : List ItemParts) (fields : List Field) → AllByRecursion (Meets items) fields
    → AllByRecursion (λ f. is_repeated items f ≡ false) fields
none_repeated items [] h = tt
none_repeated items (f ∷ fs) h = (le-ltb 1 (count_of f.tag items) h.0.once, none_repeated items fs h.1)

none_missing : (items : List ItemParts) (fields : List Field) → AllByRecursion (Meets items) fields
    → AllByRecursion (λ f. is_missing items f ≡ false) fields
none_missing items [] h = tt
none_missing items (f ∷ fs) h = (of_there f.required (value_of f.tag items) h.0.there, none_missing items fs h.1)

none_wrong : (items : List ItemParts) (fields : List Field) → AllByRecursion (Meets items) fields
    → AllByRecursion (λ f. is_wrong items f ≡ false) fields
none_wrong items [] h = tt
none_wrong items (f ∷ fs) h = (of_shaped (has_shape f.shape) (value_of f.tag items) h.0.shaped, none_wrong items fs h.1)

-- items that nothing is found at fault in meet the table
checked_meets : (fields : List Field) (items given x : List ItemParts) → checked fields items given ≡ Ok x
    → AllByRecursion (Meets items) fields × (given ≡ x)
checked_meets fields items given x h =
    let a = passed (first_tag (is_repeated items) fields) RepeatedTag
    (or_else (first_tag (is_missing items) fields) Missing
    (or_else (first_tag (is_wrong items) fields) WrongWidth (Ok given))) x h in
    let b = passed (first_tag (is_missing items) fields) Missing
    (or_else (first_tag (is_wrong items) fields) WrongWidth (Ok given)) x a.1 in
    let c = passed (first_tag (is_wrong items) fields) WrongWidth (Ok given) x b.1 in
    let last = c.1 in (
      all_meet items fields (all_clear (is_repeated items) fields a.0) (all_clear (is_missing items) fields b.0)
          (all_clear (is_wrong items) fields c.0),
      (let same : given ≡ x = cc in same),
    )

meets_checked : (fields : List Field) (items x : List ItemParts) → AllByRecursion (Meets items) fields
    → checked fields items x ≡ Ok x
meets_checked fields items x h =
    rw (
      none_found (is_repeated items) fields (none_repeated items fields h),
      none_found (is_missing items) fields (none_missing items fields h),
      none_found (is_wrong items) fields (none_wrong items fields h),
    ) refl

-- ---- the value

pub read_meets : (fields : List Field) (bytes : List ℕ) (items : List ItemParts) → AreBytes bytes
    → fields_at fields bytes ≡ Ok items → AreItems bytes items × AllByRecursion (Meets items) fields
read_meets fields bytes items h r = elim (length (left_of bytes) == 0) as (λ b. (length (left_of bytes) == 0) ≡ b
    → cond b (checked fields (items_of bytes) (items_of bytes)) (Err (Set (length bytes - length (left_of bytes))))
    ≡ Ok items → AreItems bytes items × AllByRecursion (Meets items) fields) [
      | true ↦ λ e q.
          let m = checked_meets fields (items_of bytes) (items_of bytes) items q in
          subst (λ (it : List ItemParts). AreItems bytes it × AllByRecursion (Meets it) fields) m.1
          (are_items bytes h (empty_from_test (left_of bytes) (sym e)), m.0)
      | false ↦ λ e q. absurd cc
    ] refl r

pub meets_read : (fields : List Field) (bytes : List ℕ) (items : List ItemParts) → AreItems bytes items
    → AllByRecursion (Meets items) fields → fields_at fields bytes ≡ Ok items
meets_read fields bytes items are meet =
    let o = only_are bytes items are in
    ap (λ (l : List ℕ). cond (length l == 0) (checked fields (items_of bytes) (items_of bytes))
    (Err (Set (length bytes - length l)))) o.1 ∙ ap (λ (it : List ItemParts). checked fields it it) o.0
    ∙ meets_checked fields items items meet
