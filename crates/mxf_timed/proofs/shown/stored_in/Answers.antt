use Rattle.std.proofs.Common.{◌≡◌, ◌∙◌, ◌+◌, List, ap, arith, length, subst, sym}
use Rattle.mxf_timed.specs.declared.shown.Stored.{Stored}
use Rattle.mxf_timed.specs.Shown.{AreStored, IsWithPosition}
use Rattle.mxf_timed.proofs.StoredPositions.{stored-next, whole}
use Rattle.mxf_timed.proofs.shown.stored_in.Goals as goal

pub loop-position-preserved : goal.loop-position-preserved
loop-position-preserved c =
    let u = c.args.units.now in
    let end = c.loop-position.position in
    let old = c.loop-position.stored.items in
    let new = c.add.new.stored in
    let len : length new ≡ length old = c.add.auto.stored ∙ ap length c.deref_mut.ensures.value in
    let e = whole old new c.loop-position.stored.len len c.loop-position.stored.ok.0 in
    let w = subst (λ (xs : List Stored). IsWithPosition c.args.range.first c.stored_at-unit.result end xs new)
    c.deref_mut.ensures.value (subst (λ n. IsWithPosition n c.stored_at-unit.result end c.deref_mut.result.now new)
    c.first.ensures c.add.ensures) in
    record {
      len = ap length e ∙ len ∙ c.loop-position.invariant.len;
      each = subst (λ (xs : List Stored). AreStored u c.args.from (end + 1) c.args.range.first xs) (sym e)
          (stored-next u c.args.from end c.args.range.first old new c.loop-position.auto.position
          c.loop-position.invariant.each
          (subst (λ n. IsWithPosition c.args.range.first n end old new) c.stored_at-unit.ensures.stored w));
    }

pub returns-clause-each : goal.returns-clause-each
returns-clause-each c =
    let end : c.loop-position.position ≡ c.args.end =
    let a = c.loop-position.auto.position-end c.requires.order in omega (arith, a, c.loop-position-test.false) in
    subst (λ n. AreStored c.args.units.now c.args.from n c.args.range.first c.loop-position.stored.items) end
    c.loop-position.invariant.each
