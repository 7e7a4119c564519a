-- Units one after another.
use Rattle.mxf_views.proofs.Common.{◌≡◌, ◌∙◌, ◌==◌, ◌+◌, ◌++◌, ◌≤◌, ℕ, List, [], ◌∷◌, Option, None, Some, Result, Err}
use Rattle.mxf_views.proofs.Common.{◌-◌, ap, arith, drop, filter_map, flat_map, if◌then◌else◌, length, map, min, refl}
use Rattle.mxf_views.proofs.Common.{cons_option, count_by-cons, range_with_len, subst, suc, sym}
use Rattle.mxf_views.proofs.Common.{tally, zero}
use Rattle.std.proofs.lemmas.List.{drop-map}
use Rattle.mxf_timed.specs.Shown.{TimedParts}
use Rattle.mxf_units.proofs.RangeLaws.{units_length}
use Rattle.mxf_units.specs.Units.{UnitsParts, unit_of}
use Rattle.mxf_units.specs.declared.standing.UnitStanding.{UnitStanding}
use Rattle.mxf_units.specs.declared.unit.EditUnit.{EditUnit}
use Rattle.mxf_units.specs.Ranges.{least_of, needed_from, units_from, units_with_keys}
use Rattle.mxf_forms.specs.Forms.{PrintedLine}
use Rattle.mxf_lines.specs.UnitLines.{hand_count, held_count, is_hand, is_held, last_line, unit_line, unit_lines}
use Rattle.mxf_lines.specs.UnitLines.{units_line, units_status}
use Rattle.mxf_lines.specs.declared.printing.AnswerFault.{AnswerFault}
use Rattle.mxf_lines.specs.declared.printing.AnswerFault.TheVariants.{OutOfMemory, Write, BadUnit}
use Rattle.mxf_forms.specs.declared.form.Form.{Form}
use Rattle.mxf_lines.proofs.PrintLaws.{Leads, PrintsPart}
use Rattle.mxf_units.specs.declared.standing.UnitStanding.TheVariants as standings

-- One unit more.
pub held-step : (u : EditUnit) (us : List EditUnit) → held_count (u ∷ us) ≡ held_count (u ∷ []) + held_count us
held-step u us =
    let all = count_by-cons (λ (v : EditUnit). is_held v.standing) u us in
    let one = count_by-cons (λ (v : EditUnit). is_held v.standing) u [] in
    omega (arith, all, one)

pub hand-step : (u : EditUnit) (us : List EditUnit) → hand_count (u ∷ us) ≡ hand_count (u ∷ []) + hand_count us
hand-step u us =
    let all = count_by-cons (λ (v : EditUnit). is_hand v.standing) u us in
    let one = count_by-cons (λ (v : EditUnit). is_hand v.standing) u [] in
    omega (arith, all, one)

pub from-step : (first : ℕ) (u : EditUnit) (us : List EditUnit)
    → needed_from first (u ∷ us) ≡ needed_from (needed_from first (u ∷ [])) us
from-step first u us = by u.key
  where
    by : (o : Option ℕ) → least_of first (cons_option o (filter_map (λ (v : EditUnit). v.key) us))
        ≡ least_of (least_of first (cons_option o [])) (filter_map (λ (v : EditUnit). v.key) us)
    by None = refl
    by (Some key) = refl

-- ---- those that are asked for, behind those before them that they need

-- Numbers one after another, from a later one on.
numbers_behind : (k from count all first : ℕ) → all ≡ k + count → first ≡ from + k
    → drop k (range_with_len from all) ≡ range_with_len first count
numbers_behind zero from count all first e f =
    let as_many : all ≡ count = omega arith in
    let same : from ≡ first = omega arith in λ i. range_with_len (same i) (as_many i)
numbers_behind (suc k) from count zero first e f = absurd (omega arith)
numbers_behind (suc k) from count (suc all) first e f =
    numbers_behind k (from + 1) count all first (omega arith) (omega arith)

least-below : (x : ℕ) (ys : List ℕ) → least_of x ys ≤ x
least-below x [] = omega arith
least-below x (y ∷ ys) = omega (arith, least-below (min x y) ys)

pub wanted_length : (u : UnitsParts) (first count : ℕ)
    → length (units_with_keys u first count) ≡ first - needed_from first (units_from u first count) + count
wanted_length u first count =
    let from = needed_from first (units_from u first count) in units_length u from (first - from + count)

-- They are the last ones.
pub asked-last : (u : UnitsParts) (first count : ℕ)
    → drop (length (units_with_keys u first count) - count) (units_with_keys u first count) ≡ units_from u first count
asked-last u first count =
    let unit = unit_of u.known u.index_sid in
    let from = needed_from first (units_from u first count) in
    let all = first - from + count in
    let low = least-below first (filter_map (λ (v : EditUnit). v.key) (units_from u first count)) in
    let many = wanted_length u first count in
    let before : length (units_with_keys u first count) - count ≡ first - from = omega (arith, many) in
    ap (λ k. drop k (units_with_keys u first count)) before ∙ drop-map unit (first - from) (range_with_len from all)
    ∙ ap (map unit) (numbers_behind (first - from) from count all first (omega arith) (omega (arith, low)))

-- ---- no unit is counted as both

one_count : (s : UnitStanding) → tally (is_held s) + tally (is_hand s) ≤ 1
one_count standings.Held = omega arith
one_count standings.Hand = omega arith
one_count _ = omega arith

pub most-one : (u : EditUnit) → held_count (u ∷ []) + hand_count (u ∷ []) ≤ 1
most-one u =
    let held = count_by-cons (λ (v : EditUnit). is_held v.standing) u [] in
    let hand = count_by-cons (λ (v : EditUnit). is_hand v.standing) u [] in
    omega (arith, held, hand, one_count u.standing)

-- ---- no unit is left

module _ (first : ℕ) (all left : List EditUnit) (units held hand from : ℕ) (none : left ≡ [])
    (as_many : units ≡ length all) (counted : held + held_count left ≡ held_count all)
    (others : hand + hand_count left ≡ hand_count all) (needed : needed_from from left ≡ needed_from first all) where
  all_held : held ≡ held_count all
  all_held = let z : held_count left ≡ 0 = ap held_count none in omega (arith, z, counted)

  all_hand : hand ≡ hand_count all
  all_hand = let z : hand_count left ≡ 0 = ap hand_count none in omega (arith, z, others)

  pub all_counted : (if held + hand == units then 0 else 1) ≡ units_status all
  all_counted i = if all_held i + all_hand i == as_many i then 0 else 1

  line_is : units_line units held hand from ≡ last_line first all
  line_is i = units_line (as_many i) (all_held i) (all_hand i) ((sym (ap (needed_from from) none) ∙ needed) i)

  -- What is answered of the last line is answered of all.
  pub answered : {f g : Form} {a b : Option (List ℕ)} {before mid : ℕ} (shown : Option TimedParts)
      → Leads f a before (unit_lines shown first all) g b mid
      (flat_map (λ u. unit_line shown u ∷ []) left ++ last_line first all ∷ [])
      → (c : Option (List ℕ)) (after : ℕ) (r : Result (Unit {0}) AnswerFault)
      → PrintsPart g b c mid after r (units_line units held hand from ∷ [])
      → PrintsPart f a c before after r (unit_lines shown first all)
  answered {f} {g} {a} {b} {before} {mid} shown led c after r printed =
      led.leads c after r (subst (PrintsPart g b c mid after r) (sym (ap (λ (us : List EditUnit).
      flat_map (λ u. unit_line shown u ∷ []) us ++ last_line first all ∷ []) none
      ∙ ap (λ (l : PrintedLine). l ∷ []) (sym line_is))) printed)

-- A fault of one call is that of another.
pub as_fault : (X Y : Type 0) (f : Form) (a c : Option (List ℕ)) (before after : ℕ) (e : AnswerFault)
    (lines : List PrintedLine) → PrintsPart {X = X} f a c before after (Err e) lines
    → PrintsPart {X = Y} f a c before after (Err e) lines
as_fault X Y f a c before after (Write fault) lines p = p
as_fault X Y f a c before after OutOfMemory lines p = p
as_fault X Y f a c before after BadUnit lines p = p
