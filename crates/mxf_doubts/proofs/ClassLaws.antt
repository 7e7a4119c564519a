-- Items that sets of a class don't have.
use Rattle.mxf_views.proofs.Common.{◌≡◌, ◌↔◌, ◌∙◌, ◌≤◌, ℕ, Bool, true, false, List, ◌&&◌, ◌||◌, Option, Some, None, IsTrue, sym, ap, refl}
use Rattle.mxf_views.proofs.Common.{and_from, and_parts, list_any, list_any-In, leb-true, le-leb, nat_le, not, arith, In, NoteParts}
use Rattle.mxf_views.proofs.Common.{AreBytes, false_from_ne_true}
use Rattle.std.specs.Option.{option_map_or}
use Rattle.mxf_sets.specs.Items.{ItemParts}
use Rattle.mxf_views.specs.SetItems.{IsMadeUpOf, set_items}
use Rattle.mxf_views.proofs.SetItemLaws.{set_items_iff}
use Rattle.mxf_doubts.specs.declared.classes.Row.{Row}
use Rattle.mxf_doubts.specs.Classes.{IsMisfit, class_of, fits, has_tag, is_known, is_misfit, is_taken, rows, takes}

known : (tag : ℕ) → is_known tag rows ≡ true → (r : Row) × In r rows × (r.first_tag ≤ tag) × (tag ≤ r.last_tag)
known tag t =
    let s = (list_any-In (has_tag tag) rows).0 t in
    let both = and_parts (nat_le s.0.first_tag tag) (nat_le tag s.0.last_tag) s.2 in
    (s.0, s.1, leb-true _ _ both.0, leb-true _ _ both.1)

so_known : (tag : ℕ) (r : Row) → In r rows → r.first_tag ≤ tag → tag ≤ r.last_tag → is_known tag rows ≡ true
so_known tag r i from to = (list_any-In (has_tag tag) rows).1 (r, i, and_from _ _ (le-leb _ _ from) (le-leb _ _ to))

-- No row that knows the tag takes the class.
abbrev TakesNone : ℕ → ℕ → Type 0
TakesNone class tag =
    (r : Row) → In r rows → r.first_tag ≤ tag → tag ≤ r.last_tag → r.first_class ≤ class → class ≤ r.last_class → ⊥

not_taken : (class tag : ℕ) → is_taken class tag rows ≡ false → TakesNone class tag
not_taken class tag f r i a b c d =
    let t = (list_any-In (λ (r : Row). has_tag tag r && takes class r) rows).1 (
      r,
      i,
      and_from _ _ (and_from _ _ (le-leb _ _ a) (le-leb _ _ b)) (and_from _ _ (le-leb _ _ c) (le-leb _ _ d)),
    ) in
    absurd (let e = sym f ∙ t in cc e)

taken : (class tag : ℕ) → TakesNone class tag → is_taken class tag rows ≡ false
taken class tag none = false_from_ne_true (is_taken class tag rows) (λ t.
    let s = (list_any-In (λ (r : Row). has_tag tag r && takes class r) rows).0 t in
    let both = and_parts (has_tag tag s.0) (takes class s.0) s.2 in
    let tags = and_parts (nat_le s.0.first_tag tag) (nat_le tag s.0.last_tag) both.0 in
    let classes = and_parts (nat_le s.0.first_class class) (nat_le class s.0.last_class) both.1 in
    none s.0 s.1 (leb-true _ _ tags.0) (leb-true _ _ tags.1) (leb-true _ _ classes.0) (leb-true _ _ classes.1))

back : (k : Bool) → not (not k) ≡ true → k ≡ true
back k t = grind arith

known_back : (k t : Bool) → not (not k || t) ≡ true → k ≡ true
known_back k t e = grind arith

taken_back : (k t : Bool) → not (not k || t) ≡ true → t ≡ false
taken_back k t e = grind arith

forth : (k : Bool) → k ≡ true → not (not k) ≡ true
forth k e = grind arith

both_forth : (k t : Bool) → k ≡ true → t ≡ false → not (not k || t) ≡ true
both_forth k t e f = grind arith

unfit_known : (class : Option ℕ) (tag : ℕ) → not (fits class tag) ≡ true → is_known tag rows ≡ true
unfit_known None tag t = back (is_known tag rows) t
unfit_known (Some c) tag t = known_back (is_known tag rows) (is_taken c tag rows) t

unfit_taken : (class : Option ℕ) (c tag : ℕ) → not (fits class tag) ≡ true → class ≡ Some c → is_taken c tag rows ≡ false
unfit_taken class c tag t e =
    taken_back (is_known tag rows) (is_taken c tag rows) (ap (λ (o : Option ℕ). not (fits o tag)) (sym e) ∙ t)

so_unfit : (class : Option ℕ) (tag : ℕ) → is_known tag rows ≡ true
    → ((c : ℕ) → class ≡ Some c → is_taken c tag rows ≡ false) → not (fits class tag) ≡ true
so_unfit None tag k f = forth (is_known tag rows) k
so_unfit (Some c) tag k f = both_forth (is_known tag rows) (is_taken c tag rows) k (f c refl)

abbrev unfit : NoteParts → ItemParts → Bool
unfit n i = not (fits (class_of n.key) i.tag)

of_items : (n : NoteParts) (items : List ItemParts) → IsMadeUpOf n items → list_any (unfit n) items ≡ true → IsMisfit n
of_items n items made t =
    let s = (list_any-In (unfit n) items).0 t in
    let k = known s.0.tag (unfit_known (class_of n.key) s.0.tag s.2) in record {
      items = items;
      made = made;
      item = s.0;
      there = s.1;
      row = k.0;
      one = k.1;
      from = k.2;
      to = k.3;
      none = λ c r e i a b l h. not_taken c s.0.tag (unfit_taken (class_of n.key) c s.0.tag s.2 e) r i a b l h;
    }

to_items : (n : NoteParts) (m : IsMisfit n) → list_any (unfit n) m.items ≡ true
to_items n m = (list_any-In (unfit n) m.items).1 (
  m.item,
  m.there,
  so_unfit (class_of n.key) m.item.tag
      (so_known m.item.tag m.row m.one m.from m.to)
      (λ c e. taken c m.item.tag (λ r i a b l h. m.none c r e i a b l h)),
)

pub misfit : (n : NoteParts) → AreBytes n.held → IsTrue (is_misfit n) ↔ IsMisfit n
unfolding is_misfit
misfit n b = (
  λ t. elim (set_items n) as (λ o. set_items n ≡ o
      → IsTrue (option_map_or (λ (items : List ItemParts). list_any (unfit n) items) o false) → IsMisfit n) [
        | None ↦ λ e u. absurd cc
        | Some items ↦ λ e u. of_items n items ((set_items_iff n (Some items) b).0 e) u
      ] refl t,
  λ m.
      let e = (set_items_iff n (Some m.items) b).1 m.made in
      ap (λ (o : Option (List ItemParts)). option_map_or (λ (items : List ItemParts). list_any (unfit n) items) o false) e
      ∙ to_items n m,
)
