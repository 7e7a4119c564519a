use Rattle.mxf_catalogue.proofs.HistoryLaws.{AreReduced-content, IsContent-content, In-content}
use Rattle.mxf_catalogue.proofs.history.histories_leave_what_they_were_handed.Goals as goal

pub returns : goal.returns
returns c = record { content = IsContent-content; reduced = AreReduced-content; members = In-content }
