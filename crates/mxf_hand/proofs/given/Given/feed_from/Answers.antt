use Rattle.std.proofs.Common.{◌≡◌, ◌+◌, ◌≤◌, ◌∙◌, ℕ, List, [], arith, length, refl, subst, sym}
use Rattle.mxf_read.specs.Feeding.{Fed, Tells}
use Rattle.mxf_hand.specs.Given.{AreTold, bytes_between}
use Rattle.mxf_hand.proofs.ReadBytes.{between_len, between_more, between_none}
use Rattle.mxf_hand.proofs.given.Given.feed_from.Goals as goal

pub reads-init : goal.reads-init
reads-init g c = (
  refl,
  omega arith,
  refl,
  (c.args.scan, c.args.at, [], c.requires.fed),
  λ given byte are of. subst (λ (m : List ℕ). Fed c.args.scan c.args.at m c.args.piece.now)
      (sym (between_none byte c.args.at)) c.requires.fed,
)

pub reads-preserved : goal.reads-preserved
reads-preserved g c =
    let (told, from, count, fed, so_far) = c.reads.invariant in
    let n = c.in_ok-count.count in
    let step = c.in_ok-count.ensures.taken in
    let some = step.some in
    let less : n ≤ c.reads.left = step.within in
    let at = c.reads.at in
    let end : at + n ≤ c.args.at + c.args.left = omega (arith, less, count) in (
      c.in_ok-count.ensures.told ∙ told,
      omega (arith, from),
      omega (arith, less, count),
      step.goes_on,
      λ given byte are of.
          let there : AreTold (g.S.Sources.told c.reads.sources) c.args.self.now.extents given =
          record { is = told ∙ are.is; extents = are.extents } in
          subst (λ (m : List ℕ). Fed c.args.scan c.args.at m c.feed_step.new.piece)
          (between_more byte c.args.at at (at + n) from (omega arith))
          (step.fed given byte there (λ x b l m. of x b (omega (arith, from, l)) (omega (arith, end, m)))
          c.args.scan c.args.at (bytes_between byte c.args.at at) (so_far given byte are of)),
    )

pub returns-clause-tells : goal.returns-clause-tells
returns-clause-tells g c = λ given byte are of.
    let (told, from, count, fed, so_far) = c.reads.invariant in
    let to = c.args.at + c.args.left in
    let rest = bytes_between byte c.reads.at to in
    let len : length rest ≡ c.reads.left = omega (arith, between_len byte c.reads.at to, count) in
    subst (λ (m : List ℕ). Tells c.args.scan c.args.at m c.reads.piece)
    (between_more byte c.args.at c.reads.at to from (omega (arith, count)))
    (c.wants.ensures.enough c.reads-test.false c.args.scan c.args.at (bytes_between byte c.args.at c.reads.at) rest
    len (so_far given byte are of))
