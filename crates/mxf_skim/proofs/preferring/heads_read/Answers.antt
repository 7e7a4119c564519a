use Rattle.std.proofs.Common.{◌∙◌, ap, sym}
use Rattle.mxf_catalogue.specs.Disputes.{DisputedParts}
use Rattle.mxf_skim.proofs.HeadsRead.{heads_begin, heads_found, heads_on}
use Rattle.mxf_skim.proofs.preferring.heads_read.Goals as goal

pub loop-disputed-init : goal.loop-disputed-init
loop-disputed-init c = λ h. heads_begin _ _ _ h c.new-read.ensures
    (c.into_iter-disputed-iterator.ensures.into_iter_gives ∙ c.disputed-disputed-items.ensures.notes)

pub loop-disputed-preserved : goal.loop-disputed-preserved
loop-disputed-preserved c = λ h.
    let i = c.loop-disputed.invariant h in
    let k = heads_on c.loop-disputed.read c.add_if_read.new.read c.in-Some.disputed _
    c.loop-disputed.disputed-iterator c.next.new.self h (sym (ap (λ (d : DisputedParts). d.note) c.disputed.view_is)) (c.in_ok-add_if_read.ensures h) c.in-Some.ensures.steps in
    (λ a. i.0 (k.0 a), λ a. k.1 (i.1 a))

pub returns : goal.returns
returns c =
    heads_found c.args.catalogue.now c.loop-disputed.read (λ h. (rw c.in-None.ensures.steps.0 at c.loop-disputed.invariant h))
