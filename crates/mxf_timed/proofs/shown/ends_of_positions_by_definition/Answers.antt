use Rattle.mxf_timed.proofs.ShownLaws.{greatest-shown, least-shown}
use Rattle.mxf_timed.proofs.shown.ends_of_positions_by_definition.Goals as goal

pub returns-clause-least : goal.returns-clause-least
returns-clause-least c = least-shown

pub returns-clause-greatest : goal.returns-clause-greatest
returns-clause-greatest c = greatest-shown
