-- Edit units as they are gathered in runs, and their places.
use Rattle.mxf_views.proofs.Common.{◌≡◌, ◌∙◌, ◌<◌, ◌≤◌, ◌+◌, ◌-◌, ◌^◌, ◌++◌, ◌∷◌, ℕ, suc, Bool, true, List, []}
use Rattle.mxf_views.proofs.Common.{Option, None, Some, refl, sym, ap, subst, inl, inr, append_assoc, arith, cond, drop}
use Rattle.mxf_views.proofs.Common.{filter, filter_map, get_or, length, AllByRecursion, cons_option, range_with_len}
use Rattle.mxf_views.proofs.Common.{cases_lt, at_drop_more, In-at, all-In}
use Rattle.mxf_units.specs.declared.standing.UnitStanding.{UnitStanding}
use Rattle.mxf_verify.specs.Fixities.{AreUnitRuns, units_in}
use Rattle.mxf_verify.specs.UnitRuns.{AreCounted, TakesUnit}
use Rattle.mxf_verify.specs.declared.fixity.UnitFixity.{UnitFixity}
use Rattle.mxf_verify.specs.declared.fixity.UnitFixity.TheVariants.{Unplaced}
use Rattle.mxf_verify.specs.declared.verified_units.UnitRun.{UnitRun}

-- ---- runs of units

-- The runs so far and a last one, which any runs can follow that go on as it does.
pub record AreUnitsSoFar (P : ℕ → UnitFixity → Type 0) (from to next : ℕ) (runs : List UnitRun) (last : UnitRun)
    : Type 0 where
  pub order : last.first ≤ last.last
  pub next_is : last.last + 1 ≡ next
  pub alike : (unit : ℕ) → last.first ≤ unit → unit ≤ last.last → P unit last.fixity
  pub goes_on : (r : UnitRun) (rest : List UnitRun) → r.first ≡ last.first → r.fixity ≡ last.fixity
      → AreUnitRuns P last.first to (r ∷ rest) → AreUnitRuns P from to (runs ++ r ∷ rest)

module _ (P : ℕ → UnitFixity → Type 0) (from to : ℕ) where
  pub units-first : (fixity : UnitFixity) → P from fixity
      → AreUnitsSoFar P from to (from + 1) [] (record { first = from; last = from; fixity = fixity })
  units-first fixity here = record {
    order = omega arith;
    next_is = refl;
    alike = λ unit l r. let same : from ≡ unit = omega (arith, l, r) in subst (λ (n : ℕ). P n fixity) same here;
    goes_on = λ r rest e f h. h;
  }

  grown : (next : ℕ) (fixity : UnitFixity) (runs : List UnitRun) (last : UnitRun) → P next fixity
      → AreUnitsSoFar P from to next runs last → last.fixity ≡ fixity
      → AreUnitsSoFar P from to (next + 1) runs (record { first = last.first; last = next; fixity = fixity })
  grown next fixity runs last here so same =
      let order = so.order in
      let next_is = so.next_is in record {
        order = omega (arith, order, next_is);
        next_is = refl;
        alike = λ unit l r. elim (cases_lt unit next) [
          | inl below ↦ subst (λ (f : UnitFixity). P unit f) same (so.alike unit l (omega (arith, below, next_is)))
          | inr above ↦ (let at : next ≡ unit = omega (arith, above, r) in subst (λ (n : ℕ). P n fixity) at here)
        ];
        goes_on = λ r rest e f h. so.goes_on r rest e (f ∙ sym same) h;
      }

  begun : (next : ℕ) (fixity : UnitFixity) (runs : List UnitRun) (last : UnitRun) → next ≤ to → P next fixity
      → AreUnitsSoFar P from to next runs last → (last.fixity ≡ fixity → ⊥)
      → AreUnitsSoFar P from to (next + 1) (runs ++ last ∷ []) (record { first = next; last = next; fixity = fixity })
  begun next fixity runs last within here so other =
      let next_is = so.next_is in record {
        order = omega arith;
        next_is = refl;
        alike = λ unit l r. let same : next ≡ unit = omega (arith, l, r) in subst (λ (n : ℕ). P n fixity) same here;
        goes_on = grind (arith, append_assoc, next_is);
      }

  pub units-step : (next : ℕ) (fixity : UnitFixity) (runs new : List UnitRun) (last more : UnitRun) → next ≤ to
      → P next fixity → AreUnitsSoFar P from to next runs last → TakesUnit runs last next fixity new more
      → AreUnitsSoFar P from to (next + 1) new more
  units-step next fixity runs new last more within here so (inl t) = grind (arith, grown)
  units-step next fixity runs new last more within here so (inr t) =
      subst (λ (m : UnitRun). AreUnitsSoFar P from to (next + 1) new m) (sym t.2)
      (subst (λ (l : List UnitRun). AreUnitsSoFar P from to (next + 1) l
      (record { first = next; last = next; fixity = fixity })) (sym t.1)
      (begun next fixity runs last within here so t.0))

  pub units-end : (next : ℕ) (runs whole : List UnitRun) (last : UnitRun) → AreUnitsSoFar P from to next runs last
      → next ≡ to + 1 → whole ≡ runs ++ last ∷ [] → AreUnitRuns P from to whole
  units-end next runs whole last so ended pushed = grind arith

-- ---- how many there are

-- What a list of runs answers behind its end.
abbrev pub no_run : UnitRun
no_run = record { first = 0; last = 0; fixity = Unplaced UnitStanding.NotIndexed }

units-count : (P : ℕ → UnitFixity → Type 0) (from to : ℕ) (runs : List UnitRun) → from ≤ to + 1
    → AreUnitRuns P from to runs → units_in runs + from ≡ to + 1
units-count P from to [] l h = omega (arith, h, l)
units-count P from to (r ∷ runs) l h =
    let first : r.first ≡ from = h.0 in
    let some : from ≤ r.last = h.1 in
    let within : r.last ≤ to = h.2 in
    let ih = units-count P (r.last + 1) to runs (omega (arith, within)) h.5 in
    omega (arith, first, some, within, ih)

units-order : (P : ℕ → UnitFixity → Type 0) (from to : ℕ) (runs : List UnitRun) → AreUnitRuns P from to runs
    → AllByRecursion (λ r. r.first ≤ r.last) runs
units-order P from to [] h = tt
units-order P from to (r ∷ runs) h =
    let first : r.first ≡ from = h.0 in
    let some : from ≤ r.last = h.1 in (omega (arith, first, some), units-order P (r.last + 1) to runs h.5)

pub units-counted : (P : ℕ → UnitFixity → Type 0) (from to : ℕ) (runs : List UnitRun) → from ≤ to
    → to + 1 < 2 ^ 64 → AreUnitRuns P from to runs → AreCounted runs
units-counted P from to runs order bound h =
    let count = units-count P from to runs (omega (arith, order)) h in
    record { order = units-order P from to runs h; bound = omega (arith, count, bound) }

pub run_order : (runs : List UnitRun) (i : ℕ) (d : UnitRun) → AreCounted runs → i < length runs
    → (get_or runs i d).first ≤ (get_or runs i d).last
run_order runs i d is here =
    all-In (λ (r : UnitRun). r.first ≤ r.last) runs (get_or runs i d) is.order (In-at runs i d here)

-- The units of a run and those of the runs behind it.
pub units-more : (runs : List UnitRun) (i : ℕ) (d : UnitRun) → i < length runs → units_in (drop i runs)
    ≡ ((get_or runs i d).last + 1 - (get_or runs i d).first) + units_in (drop (i + 1) runs)
units-more runs i d here = at_drop_more units_in runs i d here

module _ (p : UnitRun → Bool) where
  pub units-fewer : (runs : List UnitRun) → units_in (filter p runs) ≤ units_in runs
  units-fewer [] = omega arith
  units-fewer (r ∷ runs) = grind (arith, units-fewer runs)

  pub chosen-more : (runs : List UnitRun) (i : ℕ) (d : UnitRun) → i < length runs → p (get_or runs i d) ≡ true
      → units_in (filter p (drop i runs))
      ≡ ((get_or runs i d).last + 1 - (get_or runs i d).first) + units_in (filter p (drop (i + 1) runs))
  chosen-more runs i d here t =
      let r = get_or runs i d in
      let rest = filter p (drop (i + 1) runs) in
      at_drop_more (λ l. units_in (filter p l)) runs i d here ∙ ap (λ b. units_in (cond b (r ∷ rest) rest)) t

-- ---- places

one_then : {K : Type 0} (o : Option K) (rest : List K) → cons_option o [] ++ rest ≡ cons_option o rest
one_then None rest = refl
one_then (Some x) rest = refl

-- The places so far, with those of the units to come.
pub places-step : {K : Type 0} (f : ℕ → Option K) (next to : ℕ) (so_far new whole : List K) → next ≤ to
    → new ≡ so_far ++ cons_option (f next) [] → so_far ++ filter_map f (range_with_len next (to + 1 - next)) ≡ whole
    → new ++ filter_map f (range_with_len (next + 1) (to + 1 - (next + 1))) ≡ whole
places-step {K} f next to so_far new whole within pushed before =
    let k = to - next in
    let rest = filter_map f (range_with_len (next + 1) k) in
    let left : to + 1 - next ≡ suc k = omega (arith, within) in
    let right : to + 1 - (next + 1) ≡ k = omega (arith, within) in
    subst (λ (n : ℕ). new ++ filter_map f (range_with_len (next + 1) n) ≡ whole) (sym right)
    (ap (λ (l : List K). l ++ rest) pushed ∙ append_assoc so_far (cons_option (f next) []) rest
    ∙ ap (λ (l : List K). so_far ++ l) (one_then (f next) rest)
    ∙ subst (λ (n : ℕ). so_far ++ filter_map f (range_with_len next n) ≡ whole) left before)
