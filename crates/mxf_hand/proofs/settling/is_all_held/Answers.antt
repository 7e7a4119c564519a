use Rattle.std.proofs.Common.{arith}
use Rattle.mxf_hand.proofs.SettlingLaws.{all_held-by}
use Rattle.mxf_hand.proofs.settling.is_all_held.Goals as goal

pub returns-then-size-gt0 : goal.returns-then-size-gt0
returns-then-size-gt0 c =
    let start = c.offset-start.ensures in
    let size = c.size-then-size-gt0.ensures in
    let first = c.size.ensures in
    let some = c.if-size-gt0.true in
    let covers = c.spans.ensures.spans in
    all_held-by c.args.catalogue.now c.args.extent c.has_all.result (
      λ t. (
        omega (arith, first, some),
        λ x above below.
            (covers x).0 (c.has_all.ensures.0 t x (omega (arith, above, start)) (omega (arith, below, start, size))),
      ),
      λ p. c.has_all.ensures.1 (λ x above below.
          (covers x).1 (p.1 x (omega (arith, above, start)) (omega (arith, below, start, size)))),
    )
