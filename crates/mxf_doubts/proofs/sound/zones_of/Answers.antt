use Rattle.mxf_views.proofs.Common.{◌∙◌, List, ap}
use Rattle.mxf_doubts.specs.declared.sound.Zone.{Zone}
use Rattle.mxf_doubts.specs.Sound.{reaches_from}
use Rattle.mxf_doubts.proofs.SoundLaws.{IfOk_then, are_reaches}
use Rattle.mxf_doubts.proofs.sound.zones_of.Goals as goal

pub returns : goal.returns
returns c =
    let by_start = c.in_ok-zones.ensures in
    IfOk_then c.with_reaches.result c.with_reaches.ensures (λ v e. are_reaches _ _ _ by_start.permutation
    by_start.rising (e ∙ ap (λ (l : List Zone). reaches_from 0 l) c.deref.ensures.value))
