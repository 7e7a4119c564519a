use Rattle.mxf_klv.proofs.Common.{◌∙◌, ◌∷◌, arith, ap, refl, sym, Some, nil_from_length}
use Rattle.mxf_catalogue.specs.Content.{union_of}
use Rattle.mxf_catalogue.proofs.MergeLaws.{first_and_rest, taken, taken_right, union_of-less, union_of-same}
use Rattle.mxf_catalogue.proofs.MergeLaws.{union_of-greater}
use Rattle.mxf_catalogue.proofs.catalogue.merging.take_first.Goals as goal

pub returns-in_default-clause-first : goal.returns-in_default-clause-first
returns-in_default-clause-first c =
    let l = c.args.left.now in
    let r = c.args.right.now in
    let none = c.in_default.ensures.variant in
    taken_right l.items r.items c.pop_front.new.self.items c.pop_front.result (grind (arith, l.ok.0, none))
    c.pop_front.ensures.items (λ h. c.pop_front.ensures.variant.1 (omega (arith, h, r.ok.0))) c.requires.right

pub returns-in_default-front-clause-first : goal.returns-in_default-front-clause-first
returns-in_default-front-clause-first c = grind (arith, first_and_rest, nil_from_length, taken)

pub returns-in-Less-clause-first : goal.returns-in-Less-clause-first
returns-in-Less-clause-first c =
    let a = c.in-Some.a.now in
    let b = c.in-Some-front.b.now in
    let l = c.args.left.now in
    let r = c.args.right.now in
    let some_left = c.in-Some.ensures.variant.0 refl in
    let some_right = c.in-Some-front.ensures.variant.0 refl in
    let left = first_and_rest a l.items (omega (arith, some_left, l.ok.0)) c.in-Some.ensures.lookup in
    let right = first_and_rest b r.items (omega (arith, some_right, r.ok.0)) c.in-Some-front.ensures.lookup in
    let pop = c.pop_front-in-Less in
    taken _ _ pop.result a (pop.ensures.value a some_left ∙ ap Some (sym c.in-Some.ensures.lookup))
    (union_of-less a b l.items r.items _ _ left right (sym c.in-Less.ensures) c.requires.left c.requires.right
    ∙ ap (λ s. a ∷ union_of s r.items) (sym pop.ensures.rest))

pub returns-in-Equal-clause-first : goal.returns-in-Equal-clause-first
returns-in-Equal-clause-first c = grind (arith, first_and_rest, taken, union_of-same)

pub returns-in-Greater-clause-first : goal.returns-in-Greater-clause-first
returns-in-Greater-clause-first c =
    let a = c.in-Some.a.now in
    let b = c.in-Some-front.b.now in
    let l = c.args.left.now in
    let r = c.args.right.now in
    let some_left = c.in-Some.ensures.variant.0 refl in
    let some_right = c.in-Some-front.ensures.variant.0 refl in
    let left = first_and_rest a l.items (omega (arith, some_left, l.ok.0)) c.in-Some.ensures.lookup in
    let right = first_and_rest b r.items (omega (arith, some_right, r.ok.0)) c.in-Some-front.ensures.lookup in
    let pop = c.pop_front-in-Greater in
    taken _ _ pop.result b (pop.ensures.value b some_right ∙ ap Some (sym c.in-Some-front.ensures.lookup))
    (union_of-greater a b l.items r.items _ _ left right (sym c.in-Greater.ensures) c.requires.left c.requires.right
    ∙ ap (λ s. b ∷ union_of l.items s) (sym pop.ensures.rest))
