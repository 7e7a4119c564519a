use Rattle.std.proofs.Common.{refl, arith}
use Rattle.std.proofs.lemmas.Result.{on_ok_weaker}
use Rattle.mxf_read.proofs.Feeding.{noted, waits}
use Rattle.mxf_read.proofs.piece.Piece.go_on.Goals as goal

pub returns-then-left-gt0-clause-fed : goal.returns-then-left-gt0-clause-fed
returns-then-left-gt0-clause-fed c = λ scan o m x knows come.
    waits scan o m x c.args.self.now _ c.args.value knows come (omega (arith, c.left.ensures, c.if-left-gt0.true)) refl refl refl
    c.requires.goes_on refl c.requires.head

pub returns-clause-fed : goal.returns-clause-fed
returns-clause-fed c = on_ok_weaker c.add_note.result (λ one scan o m x knows come.
    noted scan o m x c.args.self.now _ c.args.value c.into_note.result knows come
    (omega (arith, c.left.ensures, c.if-left-gt0.false)) c.into_note.ensures one c.requires.goes_on c.requires.value
    c.requires.head) c.add_note.ensures.added
