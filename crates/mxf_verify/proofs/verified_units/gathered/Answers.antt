use Rattle.std.proofs.Common.{◌∙◌, ◌++◌, ◌+◌, ◌≤◌, [], List, ap, arith, refl, subst, sym, ℕ}
use Rattle.std.specs.List.{cons_option}
use Rattle.mxf_catalogue.specs.declared.run.Run.{Run}
use Rattle.mxf_units.specs.Units.{UnitsParts, unit_of}
use Rattle.mxf_units.specs.declared.unit.EditUnit.{EditUnit}
use Rattle.mxf_verify.specs.Fixities.{IsFixityOf, place_of, places_of}
use Rattle.mxf_verify.specs.declared.fixity.UnitFixity.{UnitFixity}
use Rattle.mxf_verify.specs.declared.unit_places.UnitPlace.{UnitPlace}
use Rattle.mxf_verify.specs.declared.verified_units.UnitRun.{UnitRun}
use Rattle.mxf_verify.proofs.UnitRunLaws.{AreUnitsSoFar, places-step, units-end, units-first, units-step}
use Rattle.mxf_verify.proofs.verified_units.gathered.Goals as goal

-- A unit stands so beside these runs.
abbrev Stands : List Run → List Run → UnitsParts → ℕ → UnitFixity → Type 0
Stands verified altered u unit fixity = IsFixityOf verified altered (unit_of u.known u.index_sid unit) fixity

pub loop-number-init : goal.loop-number-init
loop-number-init c =
    let u = c.args.units.now in
    let from = c.args.from in
    let P = Stands c.args.verified.now c.args.altered.now u in
    let fixity = c.fixity_of.result in
    let here = subst (λ (e : EditUnit). IsFixityOf c.args.verified.now c.args.altered.now e fixity)
    c.unit-first.ensures c.fixity_of.ensures in
    let pushed = c.in_ok-add_place.ensures
    ∙ ap (λ (l : List UnitPlace). l ++ cons_option (place_of c.unit-first.result) []) c.new-places.ensures.items
    ∙ ap (λ (e : EditUnit). cons_option (place_of e) []) c.unit-first.ensures in (
      subst (λ (l : List UnitRun). AreUnitsSoFar P from c.args.to (from + 1) l
          (record { first = from; last = from; fixity = fixity })) (sym c.new-runs.ensures.items)
          (units-first P from c.args.to fixity here),
      places-step (λ (unit : ℕ). place_of (unit_of u.known u.index_sid unit)) from c.args.to []
          c.add_place.new.places.items (places_of u.known u.index_sid from c.args.to) c.requires.order pushed refl,
    )

pub loop-number-preserved : goal.loop-number-preserved
loop-number-preserved c =
    let u = c.args.units.now in
    let next = c.loop-number.number in
    let so = c.loop-number.invariant in
    let fixity = c.fixity_of-in-loop-number.result in
    let within : next ≤ c.args.to = omega (arith, c.loop-number-test.true) in
    let here = subst (λ (e : EditUnit). IsFixityOf c.args.verified.now c.args.altered.now e fixity)
    c.unit-unit.ensures c.fixity_of-in-loop-number.ensures in
    let pushed = c.in_ok-add_place-2.ensures
    ∙ ap (λ (e : EditUnit). c.loop-number.places.items ++ cons_option (place_of e) []) c.unit-unit.ensures in (
      units-step (Stands c.args.verified.now c.args.altered.now u) c.args.from c.args.to next fixity
          c.loop-number.runs.items c.with_unit.new.runs.items c.loop-number.last c.in_ok-last.last within here so.0
          c.in_ok-last.ensures,
      places-step (λ (unit : ℕ). place_of (unit_of u.known u.index_sid unit)) next c.args.to
          c.loop-number.places.items c.add_place-in-loop-number.new.places.items
          (places_of u.known u.index_sid c.args.from c.args.to) within pushed so.1,
    )

pub returns-clause-runs : goal.returns-clause-runs
returns-clause-runs c = grind (arith, units-end)
