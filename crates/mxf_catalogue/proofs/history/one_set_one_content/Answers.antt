use Rattle.mxf_catalogue.proofs.HistoryLaws.{equal_history_content, head_adds_nothing, same_history_content}
use Rattle.mxf_catalogue.proofs.history.one_set_one_content.Goals as goal

pub returns-clause-equal : goal.returns-clause-equal
returns-clause-equal c = equal_history_content

pub returns-clause-same : goal.returns-clause-same
returns-clause-same c = same_history_content

pub returns-clause-heads : goal.returns-clause-heads
returns-clause-heads c = head_adds_nothing
