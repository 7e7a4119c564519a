use Rattle.std.proofs.Common.{◌≡◌, ◌∙◌, ◌-◌, ◌≤◌, ◌<◌, ℕ, List, ap, arith, subst}
use Rattle.mxf_klv.specs.Note.{greatest_end}
use Rattle.mxf_klv.specs.Parts.{NoteParts}
use Rattle.mxf_find.specs.Agreeing.{agrees_as_head_at, agrees_at, moved_place}
use Rattle.mxf_find.specs.Votes.{place}
use Rattle.mxf_find.proofs.AgreeingLaws.{IfOk_then, agrees_moved, agrees_unmoved, as_head_moved, as_head_unmoved}
use Rattle.mxf_find.proofs.agreeing.agreement_of.Goals as goal

below : (p q at : ℕ) → p ≡ q → (greatest_end - p ≤ at → ⊥) → at < greatest_end - q
below p q at e none = grind (arith, e, none)

pub returns-in_default-clause-agrees : goal.returns-in_default-clause-agrees
returns-in_default-clause-agrees c = agrees_unmoved c.args.fragment.now c.args.recording.now c.args.at c.args.note.now
    (below _ _ _ c.place.ensures.place c.in_default.ensures)

pub returns-clause-agrees : goal.returns-clause-agrees
returns-clause-agrees c =
    let f = c.args.fragment.now in
    let r = c.args.recording.now in
    let p = c.args.note.now in
    let place_is = c.place.ensures.place in
    let some = c.in-Some.ensures in
    let l : greatest_end - place f p ≤ c.args.at = subst (λ (k : ℕ). greatest_end - k ≤ c.args.at) place_is some.0 in
    let o : c.in-Some.offset ≡ moved_place f c.args.at p =
    some.1 ∙ ap (λ (k : ℕ). c.args.at - (greatest_end - k)) place_is in
    IfOk_then c.agreement_at.result c.agreement_at.ensures.agrees
    (λ a e. e ∙ ap (λ (l : List NoteParts). agrees_at l c.in-Some.offset p) c.content.ensures
    ∙ ap (λ (k : ℕ). agrees_at r k p) o ∙ agrees_moved f r c.args.at p l)

pub returns-in_default-clause-as_head : goal.returns-in_default-clause-as_head
returns-in_default-clause-as_head c = as_head_unmoved c.args.fragment.now c.args.recording.now c.args.at c.args.note.now
    (below _ _ _ c.place.ensures.place c.in_default.ensures)

pub returns-clause-as_head : goal.returns-clause-as_head
returns-clause-as_head c =
    let f = c.args.fragment.now in
    let r = c.args.recording.now in
    let p = c.args.note.now in
    let place_is = c.place.ensures.place in
    let some = c.in-Some.ensures in
    let l : greatest_end - place f p ≤ c.args.at = subst (λ (k : ℕ). greatest_end - k ≤ c.args.at) place_is some.0 in
    let o : c.in-Some.offset ≡ moved_place f c.args.at p =
    some.1 ∙ ap (λ (k : ℕ). c.args.at - (greatest_end - k)) place_is in
    IfOk_then c.agreement_at.result c.agreement_at.ensures.as_head
    (λ a e. e ∙ ap (λ (l : List NoteParts). agrees_as_head_at l c.in-Some.offset p) c.content.ensures
    ∙ ap (λ (k : ℕ). agrees_as_head_at r k p) o ∙ as_head_moved f r c.args.at p l)
