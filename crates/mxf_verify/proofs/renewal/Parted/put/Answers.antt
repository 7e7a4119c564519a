use Rattle.std.proofs.Common.{◌∙◌, ◌++◌, ap, arith, length, sym}
use Rattle.std.proofs.lemmas.List.{append-nil}
use Rattle.std.proofs.lemmas.Result.{on_ok_weaker}
use Rattle.mxf_catalogue.specs.Content.{has_note, reduced_union, reduced_with}
use Rattle.mxf_verify.specs.Opposing.{IsOpposed}
use Rattle.mxf_verify.proofs.AnotherLaws.{had-essence, lacked-essence, opposed-essence, spared-essence}
use Rattle.mxf_verify.proofs.RenewalSteps.{had-added, lacked-added, not_opposed-dropped, opposed-added, opposed-dropped}
use Rattle.mxf_verify.proofs.renewal.Parted.put.Goals as goal

pub returns-then-opposes : goal.returns-then-opposes
returns-then-opposes c =
    grind (arith, on_ok_weaker, reduced_union, opposed-added, opposed-dropped, length, opposed-essence, lacked-essence)

pub returns-then-has : goal.returns-then-has
returns-then-has c =
    grind (
      arith,
      has_note,
      reduced_union,
      had-added,
      not_opposed-dropped,
      append-nil,
      length,
      spared-essence,
      had-essence,
    )

pub returns : goal.returns
returns c =
    let n = c.args.note.now in
    let later = c.args.later.now in
    let l : has_note later n → ⊥ = λ h. let t = c.has.ensures.1 h in cc (t, c.if-has.false) in
    let f : IsOpposed n later → ⊥ = λ o. let t = c.opposes.ensures.1 o in cc (t, c.if-opposes.false) in
    record {
      added = c.in_ok-add.ensures.added ∙ ap (λ m. reduced_with m c.args.self.now.added) c.in_ok-clone_in.ensures.equal
          ∙ ap (reduced_union c.args.self.now.added) (sym (lacked-added n later l f));
      dropped = sym (ap (λ l. c.args.self.now.dropped ++ l) (not_opposed-dropped n later f)
          ∙ append-nil c.args.self.now.dropped);
      dropped_essence = let none = ap length (spared-essence n later f) in omega (arith, none);
      had_essence = let none = ap length (lacked-essence n later l) in omega (arith, none);
    }
