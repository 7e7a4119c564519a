use Rattle.mxf_views.proofs.Common.{◌∙◌, ℕ, Option, ap, list_any, sym}
use Rattle.mxf_doubts.specs.Header.{is_within}
use Rattle.mxf_doubts.proofs.SpanLaws.{none_within}
use Rattle.mxf_doubts.proofs.spans.Spans.has_one_in.Goals as goal

pub returns-in-None : goal.returns-in-None
returns-in-None c =
    none_within c.args.copy.now.bytes c.args.self.now
    ∙ ap (λ (start : Option ℕ). list_any (is_within c.args.copy.now.bytes start) c.args.self.now) (sym c.in-None.is)
