use Rattle.std.proofs.Common.{rules}
use Rattle.mxf_hints.proofs.ShiftLaws.{shift_in, shifts_one}
use Rattle.mxf_hints.proofs.contents.keep.Goals as goal

pub returns-clause-shifts : goal.returns-clause-shifts
returns-clause-shifts c =
    shifts_one c.args.contents.now.contents.items c.push-2.new.self.items c.args.contents.now.shifts.items
    c.push.new.self.items c.into_parts-views.result.0 c.shift_of.result (search rules) (search rules)
    (shift_in c.into_parts-views.result.0 c.shift_of.result c.shift_of.ensures)
