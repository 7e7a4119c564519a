use Rattle.mxf_views.proofs.Common.{◌≡◌, ◌∙◌, [], List, ap, map, subst, sym, union_of_runs, with_run, run, covered_end}
use Rattle.mxf_views.proofs.Common.{NoteParts, DisputedParts, disputed_notes, covered_run}
use Rattle.mxf_places.specs.Held.{AreDisputed}
use Rattle.mxf_places.proofs.HeldLaws.{disputed_runs}
use Rattle.mxf_places.proofs.held.disputed_in.Goals as goal

pub loop-disputed-init : goal.loop-disputed-init
loop-disputed-init c = (λ i. union_of_runs (c.new-cover.ensures i) (map covered_run (map (λ d. d.note)
    ((c.into_iter-disputed-iterator.ensures.into_iter_gives ∙ c.disputed-disputed-items.ensures.notes) i))))

pub loop-disputed-preserved : goal.loop-disputed-preserved
loop-disputed-preserved c =
    let v : c.disputed.inside.note.now ≡ c.in-Some.disputed.note = ap (λ (d : DisputedParts). d.note)
    c.disputed.view_is in
    let same : run c.offset.result c.covered_end.result ≡ covered_run c.in-Some.disputed.note =
    λ i. run ((c.offset.ensures.offset ∙ ap (λ (n : NoteParts). n.offset) v) i)
    ((c.covered_end.ensures.covered ∙ ap covered_end v) i) in
    let left = map covered_run (map (λ d. d.note) c.next.new.self) in
    (λ i. union_of_runs ((c.in_ok-add.ensures.added ∙ ap (λ r. with_run r c.loop-disputed.cover) same) i) left)
    ∙ sym (ap (λ (l : List DisputedParts). union_of_runs c.loop-disputed.cover (map covered_run (map (λ d. d.note)
    l)))
    c.in-Some.ensures.steps) ∙ c.loop-disputed.invariant

pub returns : goal.returns
returns c =
    let notes = c.args.catalogue.now in
    let all : c.loop-disputed.cover ≡ union_of_runs [] (map covered_run (map (λ d. d.note) (disputed_notes notes))) =
    sym (ap (λ (l : List DisputedParts). union_of_runs c.loop-disputed.cover (map covered_run (map (λ d. d.note) l)))
    c.in-None.ensures.steps.0) ∙ c.loop-disputed.invariant in
    subst (AreDisputed notes) (sym all) (disputed_runs notes)
