use Rattle.mxf_views.proofs.Common.{None, get_or, ◌∙◌, List, subst, NoteParts}
use Rattle.mxf_restore.specs.declared.section.Section.{Section}
use Rattle.mxf_hand.specs.Finding.{Finds, GrowsBySection}
use Rattle.mxf_hand.specs.Rounds.{made_in, packets_in, read_heads_in}
use Rattle.mxf_hand.proofs.FindingLaws.{all_found, next_found}
use Rattle.mxf_hand.proofs.HandLaws.{told_after}
use Rattle.mxf_hand.proofs.putting.found_in.Goals as goal

pub loop-section-preserved : goal.loop-section-preserved
loop-section-preserved g c = (
  c.in_ok-add_section.ensures.told ∙ c.loop-section.invariant.0,
  λ h t b.
      let so_far = c.loop-section.invariant.1 h t b in
      let (packets, made, heads, found, p, m, k) = so_far.1 in
      let told = told_after c.loop-section.invariant.0 t in
      let none : Section = record { first = 0; end = None; hole = record { start = 0; end = None } } in
      let items = c.deref-section-items.result.now in
      let index = c.loop-section.section-index in
      let grown = subst (λ (l : List NoteParts). GrowsBySection h l (get_or items index none) c.loop-section.found
      c.add_section.new.found) (c.in_ok-heads.ensures ∙ c.catalogue.ensures)
      (c.in_ok-add_section.ensures.added h told so_far.0) in (
        c.in_ok-add_section.ensures.barren h told so_far.0,
        next_found h c.args.views.now items index none c.loop-section.found c.add_section.new.found packets made heads
            c.loop-section-test.true grown found p m k,
      ),
)

pub returns-clause-found : goal.returns-clause-found
returns-clause-found g c = λ h t b.
    let (packets, made, heads, found, p, m, k) = (c.loop-section.invariant.1 h t b).1 in
    let views = c.args.views.now in
    let all = all_found h views c.deref-section-items.result.now c.loop-section.section-index c.loop-section.found
    packets made heads c.loop-section-test.false found p m k in
    subst (λ (l : List Section). Finds c.loop-section.found (packets_in h views l) (made_in h views l)
    (read_heads_in h views l)) (c.deref-section-items.ensures.value ∙ c.in_ok-sections.ensures) all

pub returns-clause-barren : goal.returns-clause-barren
returns-clause-barren g c = λ h t b. (c.loop-section.invariant.1 h t b).0
