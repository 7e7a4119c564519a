use Rattle.mxf_views.proofs.Common.{◌∙◌, ap, not, DisputedParts}
use Rattle.mxf_hand.proofs.SettlingLaws.{not_twice}
use Rattle.mxf_hand.proofs.settling.is_whole.Goals as goal

pub returns : goal.returns
returns c = ap not c.is_head.ensures ∙ not_twice c.disputed.inside.note.now.whole
    ∙ ap (λ (d : DisputedParts). d.note.whole) c.disputed.view_is
