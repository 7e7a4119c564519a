use Rattle.std.proofs.Common.{◌∙◌, ◌<◌, ◌≤◌, ◌-◌, List, None, Option, Some, ap, arith, subst, sym, ℕ}
use Rattle.mxf_klv.specs.Note.{covered_end, greatest_end}
use Rattle.mxf_verify.specs.Fixities.{AreUnitsOf}
use Rattle.mxf_verify.specs.Touching.{back_of, greatest_number, reach_of}
use Rattle.mxf_verify.specs.declared.unit_places.UnitPlace.{UnitPlace}
use Rattle.mxf_verify.specs.declared.unit_places.UnitSpan.{UnitSpan}
use Rattle.mxf_verify.proofs.TouchLaws.{as_many, both_found, last_found, none_above, none_before, numbers_rise}
use Rattle.mxf_verify.proofs.TouchLaws.{same_above}
use Rattle.mxf_verify.proofs.unit_places.UnitPlaces.units_of.Goals as goal

pub first_above-requires-clause-rising : goal.first_above-requires-clause-rising
first_above-requires-clause-rising c =
    numbers_rise reach_of c.self.inside.firsts.items c.self.inside.reaches.items c.deref-2.result.now
    c.deref-2.ensures.value c.self.invariant.reaches_are

pub first_above-requires-clause-length : goal.first_above-requires-clause-length
first_above-requires-clause-length c = grind (arith, as_many, reach_of)

pub first_above-requires-2-clause-rising : goal.first_above-requires-2-clause-rising
first_above-requires-2-clause-rising c =
    numbers_rise back_of c.self.inside.lasts.items c.self.inside.backs.items c.deref-4.result.now
    c.deref-4.ensures.value c.self.invariant.backs_are

pub first_above-requires-2-clause-length : goal.first_above-requires-2-clause-length
first_above-requires-2-clause-length c = grind (arith, as_many, back_of)

pub returns-in_err-first : goal.returns-in_err-first
returns-in_err-first c =
    let n = c.args.note.now in
    let s = c.self.inside in
    let e = c.covered_end.ensures in
    let some : n.offset < covered_end n = omega (arith, e.some, e.covered) in
    let low : covered_end n ≤ greatest_end = omega (arith, e.within, e.covered) in
    let none = same_above c.deref.result.now s.firsts.items c.deref-2.result.now s.reaches.items c.from.result n.offset
    None c.deref.ensures.value c.deref-2.ensures.value (c.from.ensures ∙ c.offset.ensures.offset)
    c.in_err-first.ensures in
    subst (λ (o : Option UnitSpan). AreUnitsOf c.args.self.now n o) (sym c.from_residual.ensures)
    (subst (λ (l : List UnitPlace). AreUnitsOf l n None) c.self.view_is
    (none_above n some low s.firsts.items s.reaches.items s.lasts.items s.backs.items c.self.invariant none))

pub returns-then-first-end : goal.returns-then-first-end
returns-then-first-end c =
    let n = c.args.note.now in
    let s = c.self.inside in
    let e = c.covered_end.ensures in
    let some : n.offset < covered_end n = omega (arith, e.some, e.covered) in
    let low : covered_end n ≤ greatest_end = omega (arith, e.within, e.covered) in
    let first = same_above c.deref.result.now s.firsts.items c.deref-2.result.now s.reaches.items c.from.result n.offset
    (Some c.in_ok-first.first) c.deref.ensures.value c.deref-2.ensures.value (c.from.ensures ∙ c.offset.ensures.offset)
    c.in_ok-first.ensures in
    let late : covered_end n ≤ c.in_ok-first.first.extent.start =
    omega (arith, c.if-first-end.true, c.from-end.ensures, e.covered) in
    subst (λ (l : List UnitPlace). AreUnitsOf l n None) c.self.view_is
    (none_before n some low s.firsts.items s.reaches.items s.lasts.items s.backs.items c.self.invariant
    c.in_ok-first.first first late)

pub returns-in_err-last : goal.returns-in_err-last
returns-in_err-last c =
    let n = c.args.note.now in
    let s = c.self.inside in
    let e = c.covered_end.ensures in
    let some : n.offset < covered_end n = omega (arith, e.some, e.covered) in
    let low : covered_end n ≤ greatest_end = omega (arith, e.within, e.covered) in
    let first = same_above c.deref.result.now s.firsts.items c.deref-2.result.now s.reaches.items c.from.result n.offset
    (Some c.in_ok-first.first) c.deref.ensures.value c.deref-2.ensures.value (c.from.ensures ∙ c.offset.ensures.offset)
    c.in_ok-first.ensures in
    let begins : c.in_ok-first.first.extent.start < covered_end n =
    omega (arith, c.if-first-end.false, c.from-end.ensures, e.covered) in
    let none = same_above c.deref-3.result.now s.lasts.items c.deref-4.result.now s.backs.items
    (greatest_number - c.from-end.result) (greatest_number - covered_end n) None c.deref-3.ensures.value
    c.deref-4.ensures.value (ap (λ (k : ℕ). greatest_number - k) (c.from-end.ensures ∙ e.covered))
    c.in_err-last.ensures in
    absurd (last_found n some low s.firsts.items s.reaches.items s.lasts.items s.backs.items c.self.invariant
    c.in_ok-first.first first begins none)

pub returns : goal.returns
returns c =
    let n = c.args.note.now in
    let s = c.self.inside in
    let e = c.covered_end.ensures in
    let some : n.offset < covered_end n = omega (arith, e.some, e.covered) in
    let low : covered_end n ≤ greatest_end = omega (arith, e.within, e.covered) in
    let first = same_above c.deref.result.now s.firsts.items c.deref-2.result.now s.reaches.items c.from.result n.offset
    (Some c.in_ok-first.first) c.deref.ensures.value c.deref-2.ensures.value (c.from.ensures ∙ c.offset.ensures.offset)
    c.in_ok-first.ensures in
    let begins : c.in_ok-first.first.extent.start < covered_end n =
    omega (arith, c.if-first-end.false, c.from-end.ensures, e.covered) in
    let last = same_above c.deref-3.result.now s.lasts.items c.deref-4.result.now s.backs.items
    (greatest_number - c.from-end.result) (greatest_number - covered_end n)
    (Some c.in_ok-last.last) c.deref-3.ensures.value c.deref-4.ensures.value
    (ap (λ (k : ℕ). greatest_number - k) (c.from-end.ensures ∙ e.covered)) c.in_ok-last.ensures in
    subst (λ (l : List UnitPlace). AreUnitsOf l n
    (Some (record { first = c.in_ok-first.first.unit; last = c.in_ok-last.last.unit }))) c.self.view_is
    (both_found n some low s.firsts.items s.reaches.items s.lasts.items s.backs.items c.self.invariant
    c.in_ok-first.first c.in_ok-last.last first begins last)
