use Rattle.mxf_klv.proofs.Common.{subst, sym, true≢false, IfNone, IsNote}
use Rattle.mxf_klv.proofs.Lists.{all-In}
use Rattle.mxf_find.specs.Agreeing.{moved_to}
use Rattle.mxf_find.proofs.agreeing.holds_moved.Goals as goal

pub returns-in-None : goal.returns-in-None
returns-in-None c =
    let r = c.args.content.now in
    let m = moved_to c.args.offset c.args.note.now in
    let none : IsNote m → ⊥ = subst (λ o. IfNone o (IsNote m → ⊥)) c.in-None.is c.in_ok-moved.ensures.none in
    (λ t. absurd (true≢false (sym t)), λ i. absurd (none (all-In IsNote r m c.laws.ensures.catalogue.members i)))
