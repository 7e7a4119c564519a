use Rattle.std.proofs.Common.{◌∙◌, ap, sym}
use Rattle.mxf_partial.proofs.PlaceLaws.{listed_none, listed_one}
use Rattle.mxf_partial.proofs.place_streams.listed_streams.Goals as goal
use Rattle.mxf_partial.proofs.place_streams.listed_streams.Goals.{in-One+in_ok-listed-in-One, in_default}

pub returns : goal.returns
returns c =
    let notes = c.args.views.now in
    let sorted = c.sort_once.new.items.items in
    elim c.match-rip.branch [
      | in-One+in_ok-listed-in-One w ↦
          listed_one notes w.in-One.rip c.match-rip.listed.items sorted (sym c.rip.ensures ∙ w.in-One.is)
          (ap (λ v. v.items) w.listed-is ∙ w.in_ok-listed-in-One.ensures) c.sort_once.ensures.members
          c.sort_once.ensures.rising
      | in_default w ↦
          listed_none notes c.match-rip.listed.items sorted (λ r e. w.in_default.not-One r (c.rip.ensures ∙ e))
          (ap (λ v. v.items) w.listed-is ∙ w.new-listed.ensures.items) c.sort_once.ensures.members
          c.sort_once.ensures.rising
    ]
