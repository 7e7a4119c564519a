use Rattle.mxf_lines.proofs.printing.references.write_target.Goals as goal

pub returns-in_ok-word-in-WrongKind : goal.returns-in_ok-word-in-WrongKind
returns-in_ok-word-in-WrongKind c = rw c.in-WrongKind.is (rw c.in_ok-word-in-WrongKind.ensures at c.number.ensures)

pub returns-in_ok-word-in-Unreadable : goal.returns-in_ok-word-in-Unreadable
returns-in_ok-word-in-Unreadable c =
    rw c.in-Unreadable.is (rw c.in_ok-word-in-Unreadable.ensures at c.number-in-Unreadable.ensures)
