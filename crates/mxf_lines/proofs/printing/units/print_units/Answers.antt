use Rattle.std.proofs.Common.{◌≡◌, ◌∙◌, ◌++◌, ℕ, List, [], ◌∷◌, ap, arith, flat_map, length, sym, Err, Ok}
use Rattle.std.proofs.lemmas.Result.{err_from_is_err_and}
use Rattle.mxf_units.specs.declared.unit.EditUnit.{EditUnit}
use Rattle.mxf_units.specs.Ranges.{needed_from, units_from}
use Rattle.mxf_lines.specs.UnitLines.{hand_count, held_count, last_line, unit_line, unit_lines}
use Rattle.mxf_lines.specs.declared.printing.units.UnitsLine.{UnitsLine}
use Rattle.mxf_lines.proofs.PrintLaws.{leads_failed, leads_first, leads_more}
use Rattle.mxf_lines.proofs.UnitLineLaws.{all_counted, answered, as_fault, from-step, hand-step, held-step, most-one}
use Rattle.mxf_units.proofs.RangeLaws.{units_length}
use Rattle.mxf_lines.proofs.printing.units.print_units.Goals as goal

pub loop-unit-init : goal.loop-unit-init
loop-unit-init g c =
    let first = c.args.range.first in
    let units = units_from c.args.units.now first c.args.range.count in
    let items = c.into_iter-unit-iterator.ensures.into_iter_gives ∙ c.of-unit-items.ensures in
    let none : c.of_none-last.result.held ≡ 0 = ap (λ (l : UnitsLine). l.held) c.of_none-last.ensures in
    let no_hand : c.of_none-last.result.hand ≡ 0 = ap (λ (l : UnitsLine). l.hand) c.of_none-last.ensures in
    let many : length c.into_iter-unit-iterator.result ≡ c.args.range.count =
    ap (λ (us : List EditUnit). length us) items ∙ units_length c.args.units.now first c.args.range.count in
    let counts : held_count c.into_iter-unit-iterator.result ≡ held_count units = ap held_count items in
    let others : hand_count c.into_iter-unit-iterator.result ≡ hand_count units = ap hand_count items in
    record {
      lines = leads_first (ap (λ (us : List EditUnit). flat_map (λ u. unit_line c.args.shown.now u ∷ []) us
          ++ last_line first units ∷ []) items);
      units = ap (λ (l : UnitsLine). l.units) c.of_none-last.ensures ∙ c.count.ensures;
      held = omega (arith, none, counts);
      hand = omega (arith, no_hand, others);
      from = (λ i. needed_from (c.of_none-last.ensures i).from (items i))
          ∙ ap (λ k. needed_from k units) c.first.ensures;
      bound = omega (arith, none, no_hand, many);
    }

pub returns-in_err-print_to-clause-lines : goal.returns-in_err-print_to-clause-lines
returns-in_err-print_to-clause-lines g c =
    let first = c.args.range.first in
    let units = units_from c.args.units.now first c.args.range.count in
    let last = last_line first units ∷ [] in
    let p = err_from_is_err_and c.from_residual.result c.from_residual.ensures.1 in
    rw (p.1, p.2) (as_fault (Unit {0}) ℕ c.args.printer.now.fields.form (g.W.Write.contents c.args.writer.now)
    (g.W.Write.contents c.print_to.new.writer) c.args.printer.now.progress.written
    c.print_to.new.printer.progress.written c.in_err-print_to.field-0.0 (unit_lines c.args.shown.now first units)
    (leads_failed (g.W.Write.contents c.print_to.new.writer) c.print_to.new.printer.progress.written
    c.in_err-print_to.field-0.0 (unit_line c.args.shown.now c.in-Some.unit ∷ [])
    (flat_map (λ u. unit_line c.args.shown.now u ∷ []) c.next.new.self ++ last)
    (ap (λ (us : List EditUnit). flat_map (λ u. unit_line c.args.shown.now u ∷ []) us ++ last) c.in-Some.ensures.steps)
    c.loop-unit.invariant.lines c.in_err-print_to.ensures.lines))

pub add-requires : goal.add-requires
add-requires g c =
    let inv = c.loop-unit.invariant in
    let many = ap (λ (us : List EditUnit). length us) c.in-Some.ensures.steps in
    omega (arith, inv.bound, inv.units, many)

pub loop-unit-preserved : goal.loop-unit-preserved
loop-unit-preserved g c =
    let first = c.args.range.first in
    let units = units_from c.args.units.now first c.args.range.count in
    let last = last_line first units ∷ [] in
    let inv = c.loop-unit.invariant in
    let u = c.in-Some.unit in
    let left = c.next.new.self in
    let steps = c.in-Some.ensures.steps in
    let added = c.add.ensures in
    let counts = ap held_count steps in
    let others = ap hand_count steps in
    let many = ap (λ (us : List EditUnit). length us) steps in
    record {
      lines = leads_more (unit_line c.args.shown.now u ∷ []) (flat_map (λ u. unit_line c.args.shown.now u ∷ []) left ++ last)
          (ap (λ (us : List EditUnit). flat_map (λ u. unit_line c.args.shown.now u ∷ []) us ++ last) steps) inv.lines
          c.in_ok-print_to.ensures.lines c.in_ok-print_to.ensures.form;
      units = added.units ∙ inv.units;
      held = omega (arith, added.held, held-step u left, counts, inv.held);
      hand = omega (arith, added.hand, hand-step u left, others, inv.hand);
      from = ap (λ k. needed_from k left) added.from ∙ sym (from-step c.loop-unit.last.from u left)
          ∙ sym (ap (needed_from c.loop-unit.last.from) steps) ∙ inv.from;
      bound = omega (arith, added.held, added.hand, most-one u, many, inv.bound);
    }

pub returns-in_err-print_to-2-clause-lines : goal.returns-in_err-print_to-2-clause-lines
returns-in_err-print_to-2-clause-lines g c =
    let first = c.args.range.first in
    let units = units_from c.args.units.now first c.args.range.count in
    let inv = c.loop-unit.invariant in
    let many = inv.units ∙ sym (units_length c.args.units.now first c.args.range.count) in
    let r = c.from_residual-in_err-print_to-2 in
    let p = err_from_is_err_and r.result r.ensures.1 in
    rw (p.1, p.2) (as_fault (Unit {0}) ℕ c.args.printer.now.fields.form (g.W.Write.contents c.args.writer.now)
    (g.W.Write.contents c.print_to-2.new.writer) c.args.printer.now.progress.written
    c.print_to-2.new.printer.progress.written c.in_err-print_to-2.field-0.0 (unit_lines c.args.shown.now first units)
    (answered first units _ _ _ _ _ c.in-None.ensures.steps.0 many inv.held inv.hand inv.from c.args.shown.now inv.lines
    (g.W.Write.contents c.print_to-2.new.writer) c.print_to-2.new.printer.progress.written
    (Err c.in_err-print_to-2.field-0.0)
    c.in_err-print_to-2.ensures.lines))

pub returns-clause-lines : goal.returns-clause-lines
returns-clause-lines g c =
    let first = c.args.range.first in
    let units = units_from c.args.units.now first c.args.range.count in
    let inv = c.loop-unit.invariant in
    let many = inv.units ∙ sym (units_length c.args.units.now first c.args.range.count) in
    answered first units _ _ _ _ _ c.in-None.ensures.steps.0 many inv.held inv.hand inv.from c.args.shown.now inv.lines
    (g.W.Write.contents c.print_to-2.new.writer) c.print_to-2.new.printer.progress.written (Ok tt)
    c.in_ok-print_to-2.ensures.lines

pub returns-clause-status : goal.returns-clause-status
returns-clause-status g c =
    let first = c.args.range.first in
    let units = units_from c.args.units.now first c.args.range.count in
    let inv = c.loop-unit.invariant in
    let many = inv.units ∙ sym (units_length c.args.units.now first c.args.range.count) in
    c.status.ensures ∙ all_counted first units _ _ _ _ _ c.in-None.ensures.steps.0 many inv.held inv.hand inv.from

pub status-requires : goal.status-requires
status-requires g c =
    let inv = c.loop-unit.invariant in
    omega (arith, inv.bound, inv.units)
