use Rattle.std.proofs.Common.{◌≡◌, ◌∙◌, ◌+◌, ◌^◌, ◌<◌, ◌∷◌, [], ℕ, Option, ap, sym, subst, length, length-append, rules}
use Rattle.std.specs.Prelude.{IfSome}
use Rattle.mxf_views.specs.Copies.{sets_of}
use Rattle.mxf_tracks.specs.Walk.{end_of_part}
use Rattle.mxf_tracks.proofs.ComponentLaws.{next_room, parts_kept, room, start_kept}
use Rattle.mxf_tracks.proofs.component.components_of.Goals as goal

pub end_of-start-requires : goal.end_of-start-requires
end_of-start-requires c =
    let l = c.loop-uid in
    let sets = sets_of c.args.copy.now.notes c.args.copy.now.partition in
    let same = ap (λ o. o.0.start) c.in_ok-component.ensures ∙ start_kept sets l.start l.reached c.in-Some.uid in
    let fits : length l.items.items < 2 ^ 63 = search rules in
    subst (λ (o : Option ℕ). IfSome o (λ s. s < 2 ^ 127)) (sym same)
    (room l.start (length l.items.items) fits l.invariant.bound)

pub loop-uid-preserved : goal.loop-uid-preserved
loop-uid-preserved c =
    let l = c.loop-uid in
    let sets = sets_of c.args.copy.now.notes c.args.copy.now.partition in
    let component = c.in_ok-component.component in
    let same = ap (λ o. o.0.start) c.in_ok-component.ensures ∙ start_kept sets l.start l.reached c.in-Some.uid in
    let end : c.end_of-start.result ≡ end_of_part l.start component.part = c.end_of-start.ensures.end
    ∙ ap (λ (o : Option ℕ). end_of_part o component.part) same in
    let near = subst (λ (o : Option ℕ). IfSome o (λ s. IfSome c.end_of-start.result (λ e. e < s + 2 ^ 64))) same
    c.end_of-start.ensures.bound in
    let pushed = c.in_ok-push.ensures.items in
    let parts = parts_kept sets l.items.items l.start c.end_of-start.result l.reached c.in-Some.uid l.uid-iterator
    c.next.new.self component c.component_of.new.reached _ l.invariant.parts c.in-Some.ensures.steps
    c.in_ok-component.ensures end in
    let bound = next_room l.start c.end_of-start.result component.part (length l.items.items) end near
    l.invariant.bound in
    record { parts = rw pushed parts; bound = rw (pushed, length-append l.items.items (component ∷ [])) bound }
