use Rattle.mxf_views.proofs.Common.{◌∙◌, ◌∷◌, ◌++◌, ℕ, List, ap, arith, drop, get_or, sym, take, reaches_from}
use Rattle.mxf_views.proofs.Common.{reaches_of}
use Rattle.mxf_views.proofs.ReachLaws.{reaches_go_on}
use Rattle.mxf_klv.proofs.ListSteps.{before_taken}
use Rattle.mxf_views.proofs.kept.reaches.refill_reaches.Goals as goal

pub loop-copy-init : goal.loop-copy-init
loop-copy-init c =
    let settled = c.args.settled in
    let copies = c.args.copies.now in
    let old = c.args.reaches.now.items in
    let all = reaches_of copies in
    let first = λ (l : List ℕ). get_or (0 ∷ l) settled 0 in
    let high = c.greatest-greatest.ensures ∙ ap first c.deref.ensures.value ∙ before_taken 0 old settled 0
    ∙ ap first c.requires.settled ∙ sym (before_taken 0 all settled 0) in
    let kept = c.truncate.ensures.len in
    let there = c.requires.reaches in
    let room = c.requires.room in
    let same = c.truncate.ensures.capacity in (
      ap (λ l. l ++ reaches_from c.greatest-greatest.result (drop settled copies))
          (c.truncate.ensures.items ∙ c.requires.settled)
          ∙ ap (λ h. take settled all ++ reaches_from h (drop settled copies)) high
          ∙ reaches_go_on 0 copies settled c.requires.bound,
      omega (arith, kept, there),
      omega (arith, room, same),
    )
