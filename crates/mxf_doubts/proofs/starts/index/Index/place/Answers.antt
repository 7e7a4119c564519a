use Rattle.mxf_views.proofs.Common.{◌∙◌, ℕ, List, NoteParts, ap}
use Rattle.mxf_units.specs.Streams.{place_of, segments_for}
use Rattle.mxf_units.proofs.WalkLaws.{said-place}
use Rattle.mxf_doubts.proofs.starts.index.Index.place.Goals as goal

pub returns : goal.returns
returns c =
    c.place.ensures
    ∙ said-place c.args.unit (segments_for c.self.inside.views.now c.self.inside.index_sid) c.self.inside.segments c.self.invariant
    ∙ ap (λ (v : List NoteParts × ℕ). place_of (segments_for v.0 v.1) c.args.unit) c.self.view_is
