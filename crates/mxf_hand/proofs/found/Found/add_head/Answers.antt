use Rattle.mxf_views.proofs.Common.{◌∙◌, ◌+◌, [], map, refl, subst, sym, Option, NoteParts, with_run, run}
use Rattle.mxf_read.specs.Feeding.{option_list}
use Rattle.mxf_hand.specs.Finding.{Grows}
use Rattle.mxf_hand.specs.declared.found.CutHead.{CutHead}
use Rattle.mxf_hand.specs.declared.found.Found.{Found}
use Rattle.mxf_hand.proofs.FindingLaws.{grow_head}
use Rattle.mxf_hand.proofs.found.Found.add_head.Goals as goal

pub returns-in_ok-push-in-Some : goal.returns-in_ok-push-in-Some
returns-in_ok-push-in-Some c =
    let f = c.args.self.now in
    let new : Found =
    record { packets = f.packets; made = f.made; heads = c.push.new.self; starts = c.add.new.self } in
    let cut : CutHead = record { note = c.in-Some.note; hole_end = c.args.hole_end } in
    let started = c.in_ok-add-in-Some.ensures.added
    ∙ (λ i. with_run (run (c.offset.ensures.offset i) (c.offset-in-Some.ensures.offset i + 1)) f.starts) in
    subst (λ (o : Option NoteParts). Grows f new [] [] (map (λ n. record { note = n; hole_end = c.args.hole_end })
    (option_list o))) (sym c.in-Some.is) (grow_head f new cut refl refl c.in_ok-push-in-Some.ensures.items started)
