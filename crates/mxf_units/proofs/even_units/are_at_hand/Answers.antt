use Rattle.mxf_units.proofs.EvenLaws.{hand_tests}
use Rattle.mxf_units.proofs.even_units.are_at_hand.Goals as goal

pub returns-then-are_all_known : goal.returns-then-are_all_known
returns-then-are_all_known c = λ t.
    hand_tests c.args.units.now c.holdings.result.now c.known.result.now c.args.from c.args.to c.are_all_known.result
    c.is_any_held.result c.holdings.ensures c.known.ensures c.are_all_known.ensures c.is_any_held.ensures
    c.if-are_all_known.true t
