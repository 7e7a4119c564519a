-- How a run of the program ends that printed an answer (this project's profile).
use Rattle.std.specs.Prelude.{ℕ, ◌==◌, if◌then◌else◌, Bool, true, false, Result, Ok, Err}
use Rattle.mxf_hints.specs.declared.exit.Exit.{Exit}
use Rattle.mxf_hints.specs.declared.exit.Exit.TheVariants.{Done, Found, Usage, NoMemory, Unwritten}
use Rattle.mxf_lines.specs.declared.printing.AnswerFault.{AnswerFault}
use Rattle.mxf_lines.specs.declared.printing.AnswerFault.TheVariants as answers

-- The end of a run whose answer is printed and flushed has the answer's status, 0 or 1. What isn't flushed isn't
-- written, otherwise the end is that of the fault.
abbrev pub exit_of_answer : Result ℕ AnswerFault → Bool → Exit
exit_of_answer (Ok status) true = if status == 0 then Done else Found
exit_of_answer (Ok status) false = Unwritten
exit_of_answer (Err answers.OutOfMemory) flushed = NoMemory
exit_of_answer (Err (answers.Write fault)) flushed = Unwritten
exit_of_answer (Err answers.BadUnit) flushed = Usage
