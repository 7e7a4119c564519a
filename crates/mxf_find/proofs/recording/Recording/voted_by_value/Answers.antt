use Rattle.std.proofs.Common.{◌≡◌, arith, false, true}
use Rattle.std.proofs.lemmas.Option.{IfSome_then}
use Rattle.mxf_klv.proofs.Common.{not-false}
use Rattle.std.proofs.lemmas.Bool.{not-true}
use Rattle.mxf_find.proofs.VoteLaws.{IfNone_then, head_value, no_value, untold_value, value_vote}
use Rattle.mxf_find.proofs.recording.Recording.voted_by_value.Goals as goal

pub returns-then-is_head-clause-none : goal.returns-then-is_head-clause-none
returns-then-is_head-clause-none c =
    let head : c.args.note.now.whole ≡ false = grind (arith, c.if-is_head.ensures) in
    head_value c.args.tells c.args.self.now c.args.note.now head

pub returns-then-not-tells-clause-none : goal.returns-then-not-tells-clause-none
returns-then-not-tells-clause-none c =
    untold_value c.args.tells c.args.self.now c.args.note.now (not-true _ c.if-not-tells.true)

pub returns-clause-some : goal.returns-clause-some
returns-clause-some c =
    let whole : c.args.note.now.whole ≡ true = grind (arith, c.if-is_head.ensures) in
    IfSome_then c.teller_by_value.result c.teller_by_value.ensures.some
    (λ n is. value_vote c.args.tells c.args.self.now c.args.note.now n.now (not-false _ c.if-not-tells.false) whole is)

pub returns-clause-none : goal.returns-clause-none
returns-clause-none c = IfNone_then c.teller_by_value.result c.teller_by_value.ensures.none
    (λ none. no_value c.args.tells c.args.self.now c.args.note.now none)
