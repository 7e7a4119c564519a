use Rattle.mxf_views.proofs.Common.{rules, YieldsList-from_first, Contains-from_In, has_note}
use Rattle.std.specs.Bool.{⊤}
use Rattle.std.proofs.lemmas.Bool.{MatchBool-at_true}
use Rattle.std.proofs.lemmas.Iterator.{cases_from_all}
use Rattle.std.proofs.lemmas.List.Elements.{All-contains, All-from_all_within}
use Rattle.mxf_hand.proofs.putting.has_all.Goals as goal

pub returns : goal.returns
returns c = λ t n i.
    let notes = c.args.notes.now in
    let there = has_note c.args.catalogue.now in
    let all = MatchBool-at_true _ _ t (cases_from_all _ _ c.all.result there (λ _. ⊤) c.all.ensures.ran
    (YieldsList-from_first (λ m. m.now) (λ s. s) notes c.notes.ensures.notes) (λ x q k. search rules) (λ x q k. tt)) in
    All-contains there notes n (All-from_all_within there notes all) (Contains-from_In n notes i)
