use Rattle.mxf_views.proofs.Common.{◌∙◌, ◌<◌, arith, sym, same_bool}
use Rattle.mxf_places.specs.Held.{IsHeld, held_end}
use Rattle.mxf_units.specs.Units.{are_all_held}
use Rattle.mxf_units.proofs.RangeLaws.{all-empty, all-past, all_held-says, held-below, lt-leb}
use Rattle.mxf_units.proofs.location.are_all_held.Goals as goal

pub returns-then-from-to : goal.returns-then-from-to
returns-then-from-to c = grind (arith, all-empty, all_held-says)

pub returns-then-to-end : goal.returns-then-to-end
returns-then-to-end c = grind (arith, all_held-says, same_bool)

pub returns-else-to-end : goal.returns-else-to-end
returns-else-to-end c =
    let notes = c.args.holdings.now in
    let past : held_end notes < c.args.to =
    omega (arith, c.if-to-end.false, c.from-end.ensures, c.held_end.ensures) in
    lt-leb c.args.to c.from-end.result (omega (arith, c.if-to-end.false))
    ∙ sym (all-past (IsHeld notes) c.args.from c.args.to (are_all_held notes c.args.from c.args.to) (held_end notes)
    (all_held-says notes c.args.from c.args.to) (held-below notes) (omega (arith, c.if-from-to.false)) past)
