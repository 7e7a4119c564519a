use Rattle.mxf_timed.specs.Positions.{IsRange}
use Rattle.mxf_timed.proofs.AnswerLaws.{one_answer}
use Rattle.mxf_timed.proofs.positions.one_answer.Goals as goal

pub returns : goal.returns
returns c = λ runs w a b. one_answer (IsRange runs w) a b
