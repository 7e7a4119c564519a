use Rattle.mxf_klv.proofs.Common.{◌≡◌, ◌∙◌, ℕ, List, refl, subst, sym, true≢false, CanHead, NoteParts, head_parts, In}
use Rattle.mxf_klv.proofs.Common.{not-false}
use Rattle.mxf_catalogue.specs.Content.{has_note}
use Rattle.mxf_find.proofs.AgreeingLaws.{agrees_none, as_head_none, head_agrees, head_as_head, head_there, held_agrees}
use Rattle.mxf_find.proofs.AgreeingLaws.{held_as_head, moved_agrees, no_head, not_had, whole_as_head}
use Rattle.std.proofs.lemmas.Bool.{not-true}
use Rattle.mxf_find.proofs.agreeing.agreement_at.Goals as goal

head : (content : List NoteParts) (offset : ℕ) (p : NoteParts) (h : NoteParts) (key : List ℕ) (width len : ℕ)
    → h ≡ head_parts offset key width len → key ≡ p.key → width ≡ p.width → len ≡ p.length
    → h ≡ head_there content offset p
head content offset p h key width len e k w l = e ∙ (λ i. head_parts offset (k i) (w i) (l i))

pub returns-in_default-clause-agrees : goal.returns-in_default-clause-agrees
returns-in_default-clause-agrees c =
    let r = c.args.content.now in
    let o = c.args.offset in
    let p = c.args.note.now in
    let none : CanHead (head_there r o p) → ⊥ = λ can. c.in_default.ensures (subst (λ (h : NoteParts). CanHead h)
    (sym (head r o p _ _ _ _ refl c.key.ensures c.width.ensures c.length.ensures)) can) in
    let agrees = agrees_none r o p (no_head r o p c.laws.ensures.catalogue.members none) in
    agrees

pub returns-in_default-clause-as_head : goal.returns-in_default-clause-as_head
returns-in_default-clause-as_head c =
    let r = c.args.content.now in
    let o = c.args.offset in
    let p = c.args.note.now in
    let none : CanHead (head_there r o p) → ⊥ = λ can. c.in_default.ensures (subst (λ (h : NoteParts). CanHead h)
    (sym (head r o p _ _ _ _ refl c.key.ensures c.width.ensures c.length.ensures)) can) in
    let agrees = agrees_none r o p (no_head r o p c.laws.ensures.catalogue.members none) in
    as_head_none r o p agrees

pub returns-then-not-has-clause-agrees : goal.returns-then-not-has-clause-agrees
returns-then-not-has-clause-agrees c =
    let r = c.args.content.now in
    let o = c.args.offset in
    let p = c.args.note.now in
    let e = head r o p c.in-Some.head _ _ _ c.in-Some.ensures.1 c.key.ensures c.width.ensures c.length.ensures in
    let lacks : has_note r (head_there r o p) → ⊥ = λ h. true≢false
    (sym (c.has.ensures.1 (subst (λ (x : NoteParts). has_note r x) (sym e) h)) ∙ c.if-not-has.true) in
    let agrees = agrees_none r o p (not_had r o p lacks) in
    agrees

pub returns-then-not-has-clause-as_head : goal.returns-then-not-has-clause-as_head
returns-then-not-has-clause-as_head c =
    let r = c.args.content.now in
    let o = c.args.offset in
    let p = c.args.note.now in
    let e = head r o p c.in-Some.head _ _ _ c.in-Some.ensures.1 c.key.ensures c.width.ensures c.length.ensures in
    let lacks : has_note r (head_there r o p) → ⊥ = λ h. true≢false
    (sym (c.has.ensures.1 (subst (λ (x : NoteParts). has_note r x) (sym e) h)) ∙ c.if-not-has.true) in
    let agrees = agrees_none r o p (not_had r o p lacks) in
    as_head_none r o p agrees

pub returns-then-is_head-clause-agrees : goal.returns-then-is_head-clause-agrees
returns-then-is_head-clause-agrees c =
    let r = c.args.content.now in
    let o = c.args.offset in
    let p = c.args.note.now in
    let e = head r o p c.in-Some.head _ _ _ c.in-Some.ensures.1 c.key.ensures c.width.ensures c.length.ensures in
    let has : has_note r (head_there r o p) = subst (λ (x : NoteParts). has_note r x) e
    (c.has.ensures.0 c.if-not-has.false) in
    let agrees = head_agrees r o p (not-true _ (sym c.if-is_head.ensures)) has in
    agrees

pub returns-then-is_head-clause-as_head : goal.returns-then-is_head-clause-as_head
returns-then-is_head-clause-as_head c =
    let r = c.args.content.now in
    let o = c.args.offset in
    let p = c.args.note.now in
    let e = head r o p c.in-Some.head _ _ _ c.in-Some.ensures.1 c.key.ensures c.width.ensures c.length.ensures in
    let has : has_note r (head_there r o p) = subst (λ (x : NoteParts). has_note r x) e
    (c.has.ensures.0 c.if-not-has.false) in
    let agrees = head_agrees r o p (not-true _ (sym c.if-is_head.ensures)) has in
    head_as_head r o p (not-true _ (sym c.if-is_head.ensures)) agrees

pub returns-then-holds-clause-agrees : goal.returns-then-holds-clause-agrees
returns-then-holds-clause-agrees c =
    let r = c.args.content.now in
    let o = c.args.offset in
    let p = c.args.note.now in
    let e = head r o p c.in-Some.head _ _ _ c.in-Some.ensures.1 c.key.ensures c.width.ensures c.length.ensures in
    let held : In (head_there r o p) r = subst (λ (x : NoteParts). In x r) e (c.holds.ensures.0 c.if-holds.true) in
    held_agrees r o p held

pub returns-then-holds-clause-as_head : goal.returns-then-holds-clause-as_head
returns-then-holds-clause-as_head c =
    let r = c.args.content.now in
    let o = c.args.offset in
    let p = c.args.note.now in
    let e = head r o p c.in-Some.head _ _ _ c.in-Some.ensures.1 c.key.ensures c.width.ensures c.length.ensures in
    let held : In (head_there r o p) r = subst (λ (x : NoteParts). In x r) e (c.holds.ensures.0 c.if-holds.true) in
    held_as_head r o p c.laws.ensures.reduced held

pub returns-clause-agrees : goal.returns-clause-agrees
returns-clause-agrees c =
    let r = c.args.content.now in
    let o = c.args.offset in
    let p = c.args.note.now in
    let e = head r o p c.in-Some.head _ _ _ c.in-Some.ensures.1 c.key.ensures c.width.ensures c.length.ensures in
    let has : has_note r (head_there r o p) = subst (λ (x : NoteParts). has_note r x) e
    (c.has.ensures.0 c.if-not-has.false) in
    let lacked : In (head_there r o p) r → ⊥ = λ i. true≢false
    (sym (c.holds.ensures.1 (subst (λ (x : NoteParts). In x r) (sym e) i)) ∙ c.if-holds.false) in
    let whole = not-false _ (sym c.if-is_head.ensures) in
    let all = c.laws.ensures.catalogue.members in
    moved_agrees r o p all whole lacked c.in_ok-agrees.agrees c.in_ok-agrees.ensures

pub returns-clause-as_head : goal.returns-clause-as_head
returns-clause-as_head c =
    let r = c.args.content.now in
    let o = c.args.offset in
    let p = c.args.note.now in
    let e = head r o p c.in-Some.head _ _ _ c.in-Some.ensures.1 c.key.ensures c.width.ensures c.length.ensures in
    let has : has_note r (head_there r o p) = subst (λ (x : NoteParts). has_note r x) e
    (c.has.ensures.0 c.if-not-has.false) in
    let lacked : In (head_there r o p) r → ⊥ = λ i. true≢false
    (sym (c.holds.ensures.1 (subst (λ (x : NoteParts). In x r) (sym e) i)) ∙ c.if-holds.false) in
    let whole = not-false _ (sym c.if-is_head.ensures) in
    let all = c.laws.ensures.catalogue.members in
    whole_as_head r o p all whole lacked has
