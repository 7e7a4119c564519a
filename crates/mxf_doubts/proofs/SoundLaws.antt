-- Zones with the greatest ends so far have what the zones have.
use Rattle.mxf_views.proofs.Common.{◌≡◌, ◌↔◌, ◌∙◌, ◌+◌, ◌≤◌, ◌<◌, ℕ, zero, suc, Bool, true, false, List, [], ◌∷◌, ◌&&◌}
use Rattle.mxf_views.proofs.Common.{◌||◌, sym, ap, refl, arith, length, nat_le, get_or, AllWithin, In, list_any-In}
use Rattle.mxf_views.proofs.Common.{and_from, and_parts, list_any, IsTrue, same_bool, le-leb, leb-true, subst, cases_lt, inl, inr}
use Rattle.mxf_views.proofs.Common.{false_from_ne_true, ◌==◌, map, eq-eqb, eqb-true}
use Rattle.std.specs.Prelude.{max}
use Rattle.std.proofs.Common.{IfOk, Result, Ok, Err}
use Rattle.std.specs.List.Sorted.{IsNonDecreasingBy, IsPermutation}
use Rattle.std.proofs.lemmas.List.Sorted.{list_any-IsPermutation}
use Rattle.mxf_klv.proofs.Lists.{In-at}
use Rattle.mxf_views.proofs.Common.{Some, None, NoteParts, filter_map, cons_option, end_of, IsContent}
use Rattle.std.specs.Option.{option_map_or}
use Rattle.mxf_views.specs.declared.copy.CopyInfo.{CopyInfo}
use Rattle.mxf_views.specs.Copies.{copies_of}
use Rattle.mxf_views.proofs.CopyLaws.{copies_are}
use Rattle.mxf_doubts.specs.declared.sound.Zone.{Zone}
use Rattle.mxf_doubts.specs.Sound.{AreReachesOf, IsInSoundZone, begin_at, filled_by, has_all, is_in_sound_zone, lie_in}
use Rattle.mxf_doubts.specs.Sound.{reaches_from}

pub IfOk_then : {X E : Type 0} (r : Result X E) {P Q : X → Type 0} → IfOk r P → ((x : X) → P x → Q x) → IfOk r Q
IfOk_then (Ok x) p f = f x p
IfOk_then (Err e) p f = p

-- Some zone begins at or below the offset.
abbrev begins_below : ℕ → List Zone → Bool
begins_below offset zones = list_any (λ (z : Zone). nat_le z.start offset) zones

-- If the first begins at the least place, it begins below wherever another does.
first_below : (offset : ℕ) (z : Zone) (zones : List Zone) → IsNonDecreasingBy (λ (z : Zone). z.start) (z ∷ zones)
    → begins_below offset zones ≡ true → nat_le z.start offset ≡ true
first_below offset z zones up t =
    let s = (list_any-In (λ (y : Zone). nat_le y.start offset) zones).0 t in
    let p = In-place s.0 zones s.1 in
    let l = up 0 (suc p.0) z (omega arith) (omega (arith, p.1)) in
    let e = ap (λ (y : Zone). y.start) (p.2 z) in
    let m = leb-true _ _ s.2 in
    le-leb _ _ (omega (arith, l, e, m))
  where
    In-place : (x : Zone) (xs : List Zone) → In x xs → (i : ℕ) × (i < length xs) × ((d : Zone) → get_or xs i d ≡ x)
    In-place x [] i = absurd i
    In-place x (y ∷ xs) (inl e) = (0, omega arith, λ d. sym e)
    In-place x (y ∷ xs) (inr i) = let r = In-place x xs i in (suc r.0, omega (arith, r.1), r.2)

rest_rises : (z : Zone) (zones : List Zone) → IsNonDecreasingBy (λ (z : Zone). z.start) (z ∷ zones)
    → IsNonDecreasingBy (λ (z : Zone). z.start) zones
rest_rises z zones up i j d l h = up (suc i) (suc j) d (omega arith) (omega arith)

le-max : (e a b : ℕ) → nat_le e (max a b) ≡ (nat_le e a || nat_le e b)
le-max e a b = grind arith

step : (s ez er ef l b r : Bool) → r ≡ (l || (ef && b)) → ef ≡ (er || ez) → (b ≡ true → s ≡ true)
    → ((s && ef) || r) ≡ (((s && ez) || l) || (er && (s || b)))
step s ez er ef l b r e f g = grind arith

reached : (offset end r : ℕ) (zones : List Zone) → IsNonDecreasingBy (λ (z : Zone). z.start) zones
    → lie_in offset end (reaches_from r zones) ≡ (lie_in offset end zones || (nat_le end r && begins_below offset zones))
reached offset end r [] up = grind arith
reached offset end r (z ∷ zones) up =
    step (nat_le z.start offset) (nat_le end z.end) (nat_le end r) (nat_le end (max r z.end)) (lie_in offset end zones)
    (begins_below offset zones) (lie_in offset end (reaches_from (max r z.end) zones))
    (reached offset end (max r z.end) zones (rest_rises z zones up)) (le-max end r z.end) (first_below offset z zones up)

-- An end of 0 lies in all that begins below.
from_none : (offset end : ℕ) (zones : List Zone)
    → (lie_in offset end zones || (nat_le end 0 && begins_below offset zones)) ≡ lie_in offset end zones
from_none offset zero zones = grind (arith, same_there offset zones)
  where
    same_there : (offset : ℕ) (zones : List Zone) → lie_in offset 0 zones ≡ begins_below offset zones
    same_there offset [] = refl
    same_there offset (z ∷ zones) = grind (arith, same_there offset zones)
from_none offset (suc end) zones = grind arith

same_length : (r : ℕ) (zones : List Zone) → length (reaches_from r zones) ≡ length zones
same_length r [] = refl
same_length r (z ∷ zones) = ap suc (same_length (max r z.end) zones)

same_start : (r : ℕ) (zones : List Zone) (i : ℕ) (d : Zone) → i < length zones
    → (get_or (reaches_from r zones) i d).start ≡ (get_or zones i d).start
same_start r [] i d h = absurd (omega arith)
same_start r (z ∷ zones) zero d h = refl
same_start r (z ∷ zones) (suc i) d h = same_start (max r z.end) zones i d (omega arith)

not_below : (r : ℕ) (zones : List Zone) (i : ℕ) (d : Zone) → i < length (reaches_from r zones)
    → r ≤ (get_or (reaches_from r zones) i d).end
not_below r [] i d h = absurd (omega arith)
not_below r (z ∷ zones) zero d h = omega (arith, le_max r z.end)
  where
    le_max : (a b : ℕ) → a ≤ max a b
    le_max a b = grind arith
not_below r (z ∷ zones) (suc i) d h =
    let l = not_below (max r z.end) zones i d (omega arith) in omega (arith, l, le_max r z.end)
  where
    le_max : (a b : ℕ) → a ≤ max a b
    le_max a b = grind arith

ends_rise : (r : ℕ) (zones : List Zone) → IsNonDecreasingBy (λ (z : Zone). z.end) (reaches_from r zones)
ends_rise r [] i j d l h = absurd (omega arith)
ends_rise r (z ∷ zones) zero zero d l h = omega arith
ends_rise r (z ∷ zones) zero (suc j) d l h = not_below (max r z.end) zones j d (omega arith)
ends_rise r (z ∷ zones) (suc i) zero d l h = absurd (omega arith)
ends_rise r (z ∷ zones) (suc i) (suc j) d l h = ends_rise (max r z.end) zones i j d (omega arith) (omega arith)

starts_rise : (r : ℕ) (zones : List Zone) → IsNonDecreasingBy (λ (z : Zone). z.start) zones
    → IsNonDecreasingBy (λ (z : Zone). z.start) (reaches_from r zones)
starts_rise r zones up i j d l h =
    let n = same_length r zones in
    let a = same_start r zones i d (omega (arith, n)) in
    let b = same_start r zones j d (omega (arith, n)) in
    let m = up i j d l (omega (arith, n)) in
    omega (arith, a, b, m)

same_begins : (offset r : ℕ) (zones : List Zone) → begin_at offset (reaches_from r zones) ≡ begin_at offset zones
same_begins offset r [] = refl
same_begins offset r (z ∷ zones) = ap (λ b. z.start == offset || b) (same_begins offset (max r z.end) zones)

pub are_reaches : (zones sorted reaches : List Zone) → IsPermutation zones sorted
    → IsNonDecreasingBy (λ (z : Zone). z.start) sorted → reaches ≡ reaches_from 0 sorted → AreReachesOf zones reaches
are_reaches zones sorted reaches p up e = subst (λ (l : List Zone). AreReachesOf zones l) (sym e) record {
  starts = starts_rise 0 sorted up;
  ends = ends_rise 0 sorted;
  same = λ offset end.
      reached offset end 0 sorted up ∙ from_none offset end sorted
      ∙ sym (list_any-IsPermutation (has_all offset end) zones sorted p);
  begins = λ offset.
      same_begins offset 0 sorted ∙ sym (list_any-IsPermutation (λ (z : Zone). z.start == offset) zones sorted p);
}

-- ---- One search tells whether they do.

place_of : (x : Zone) (xs : List Zone) → In x xs → (i : ℕ) × (i < length xs) × ((d : Zone) → get_or xs i d ≡ x)
place_of x [] i = absurd i
place_of x (y ∷ xs) (inl e) = (0, omega arith, λ d. sym e)
place_of x (y ∷ xs) (inr i) = let r = place_of x xs i in (suc r.0, omega (arith, r.1), r.2)

-- Where those that begin at or below an offset end.
pub record IsPlace (offset : ℕ) (zones : List Zone) (k : ℕ) : Type 0 where
  pub below : AllWithin (λ (z : Zone). z.start ≤ offset) zones 0 k
  pub above : AllWithin (λ (z : Zone). offset < z.start) zones k (length zones)

-- What has the bytes begins below that place.
has_place : (offset end : ℕ) (zones : List Zone) (k : ℕ) → IsPlace offset zones k → lie_in offset end zones ≡ true
    → (i : ℕ) × (i < k) × (i < length zones) × ((d : Zone) → end ≤ (get_or zones i d).end)
has_place offset end zones k p t =
    let s = (list_any-In (has_all offset end) zones).0 t in
    let at = place_of s.0 zones s.1 in
    let both = and_parts (nat_le s.0.start offset) (nat_le end s.0.end) s.2 in
    let start = leb-true _ _ both.0 in
    let low : at.0 < k = elim (cases_lt at.0 k) [
      | inl l ↦ l
      | inr m ↦ absurd (
          let a = p.above at.0 s.0 m at.1 in
          let e = ap (λ (y : Zone). y.start) (at.2 s.0) in
          omega (arith, a, e, start))
    ] in
    (at.0, low, at.1, λ d. let e = ap (λ (y : Zone). y.end) (at.2 d) in let l = leb-true _ _ both.1 in omega (arith, e, l))

pub none_below : (offset end : ℕ) (zones : List Zone) → IsPlace offset zones 0 → false ≡ lie_in offset end zones
none_below offset end zones p =
    sym (false_from_ne_true (lie_in offset end zones) (λ t. let h = has_place offset end zones 0 p t in omega (arith, h.1)))

pub last_below : (offset end : ℕ) (zones : List Zone) (k : ℕ) (z : Zone) → IsPlace offset zones (suc k)
    → IsNonDecreasingBy (λ (z : Zone). z.end) zones → k < length zones → ((d : Zone) → z ≡ get_or zones k d)
    → nat_le end z.end ≡ lie_in offset end zones
last_below offset end zones k z p up l same =
    same_bool (nat_le end z.end) (lie_in offset end zones) (λ t.
    let start = p.below k z (omega arith) (omega arith) in
    let e = ap (λ (y : Zone). y.start) (same z) in
    (list_any-In (has_all offset end) zones).1 (
      z,
      subst (λ (y : Zone). In y zones) (sym (same z)) (In-at zones k z l),
      and_from _ _ (le-leb _ _ (omega (arith, start, e))) t,
    )) (λ t.
    let h = has_place offset end zones (suc k) p t in
    let m = up h.0 k z (omega (arith, h.1)) l in
    let e = ap (λ (y : Zone). y.end) (same z) in
    let n = h.3 z in
    le-leb _ _ (omega (arith, m, e, n)))

-- ---- In words of copies.

filled : (offset end : ℕ) (c : CopyInfo) → IsTrue (option_map_or (has_all offset end) (filled_by c) false)
    ↔ ((c.finished ≡ true) × ((start : ℕ) × (c.start ≡ Some start) × (start ≤ offset) × (end ≤ start + c.bytes)))
filled offset end c = (λ t. grind (arith, and_parts, leb-true), λ s. grind (arith, and_from, le-leb))

in_filled : (offset end : ℕ) (copies : List CopyInfo) → lie_in offset end (filter_map filled_by copies)
    ≡ list_any (λ (c : CopyInfo). option_map_or (has_all offset end) (filled_by c) false) copies
in_filled offset end [] = refl
in_filled offset end (c ∷ copies) = elim (filled_by c) as (λ o. lie_in offset end (cons_option o (filter_map filled_by copies))
    ≡ (option_map_or (has_all offset end) o false
    || list_any (λ (c : CopyInfo). option_map_or (has_all offset end) (filled_by c) false) copies)) [
      | None ↦ in_filled offset end copies
      | Some z ↦ ap (λ b. has_all offset end z || b) (in_filled offset end copies)
    ]

pub in_sound_zone : (notes : List NoteParts) (n : NoteParts) → IsContent notes
    → IsTrue (is_in_sound_zone notes n) ↔ IsInSoundZone notes n
in_sound_zone notes n content =
    let copied = λ (c : CopyInfo). option_map_or (has_all n.offset (end_of n)) (filled_by c) false in
    let same = in_filled n.offset (end_of n) (copies_of notes) in (
      λ t.
          let s = (list_any-In copied (copies_of notes)).0 (sym same ∙ t) in
          let f = (filled n.offset (end_of n) s.0).0 s.2 in record {
            copy = s.0;
            copied = (copies_are notes s.0 content).0 s.1;
            finished = f.0;
            start = f.1.0;
            begins = f.1.1;
            from = f.1.2;
            before = f.1.3;
          },
      λ s.
          same ∙ (list_any-In copied (copies_of notes)).1 (
            s.copy,
            (copies_are notes s.copy content).1 s.copied,
            (filled n.offset (end_of n) s.copy).1 (s.finished, (s.start, s.begins, s.from, s.before)),
          ),
    )

-- Whether a place stands among the starts is whether a zone begins there.
pub begins_there : (offset : ℕ) (zones : List Zone) (b : Bool)
    → IsTrue b ↔ In offset (map (λ (z : Zone). z.start) zones) → b ≡ begin_at offset zones
begins_there offset zones b s = same_bool b (begin_at offset zones)
    (λ t. to_any zones (s.0 t)) (λ t. s.1 (to_list zones t))
  where
    to_any : (zones : List Zone) → In offset (map (λ (z : Zone). z.start) zones) → begin_at offset zones ≡ true
    to_any [] i = absurd i
    to_any (z ∷ zones) i = grind (arith, eq-eqb, to_any zones)

    to_list : (zones : List Zone) → begin_at offset zones ≡ true → In offset (map (λ (z : Zone). z.start) zones)
    to_list [] t = absurd cc
    to_list (z ∷ zones) t = grind (arith, eqb-true, to_list zones)
