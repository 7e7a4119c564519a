use denote.Bor.{Bor}
use Rattle.mxf_views.proofs.Common.{◌≡◌, ◌∙◌, ◌==◌, ap, find, map, rules, sym, covered_end, NoteParts}
use Rattle.mxf_views.proofs.Common.{YieldsList-from_slice, option_map, option_map_or}
use Rattle.std.proofs.lemmas.Iterator.Search.{find_from_yields_List}
use Rattle.mxf_views.proofs.NumbersLaws.{find_mapped}
use Rattle.mxf_places.specs.Heads.{needed_of}
use Rattle.mxf_places.proofs.HeadLaws.{needed_near, start_near}
use Rattle.mxf_places.proofs.heads.Heads.around.Goals as goal

pub returns-clause-start : goal.returns-clause-start
returns-clause-start c =
    let note = λ (r : Bor NoteParts). r.now in
    let first = c.args.first in
    let ends = λ (n : NoteParts). covered_end n == first in
    let near = c.near-near.result.now in
    let found : option_map (λ x. x.now) c.find-head.result ≡ find (λ (r : Bor NoteParts). ends (note r)) near =
    find_from_yields_List (λ (r : Bor NoteParts). ends (note r)) _ _ _ c.find-head.ensures.ran
    (YieldsList-from_slice near cc) (λ x b q k. search rules) in
    let offset : c.map_or-offset.result
    ≡ option_map_or (λ (n : NoteParts). n.offset) (option_map note (option_map (λ x. x.now) c.find-head.result)) first =
    search rules in
    offset ∙ ap (λ o. option_map_or (λ (n : NoteParts). n.offset) o first)
    (ap (option_map note) found ∙ sym (find_mapped ends note near))
    ∙ start_near c.args.self.now (map note near) first c.near-near.ensures

pub returns-clause-needed : goal.returns-clause-needed
returns-clause-needed c =
    let notes = c.args.self.now in
    let first = c.args.first in
    c.needed_among-needed.ensures
    ∙ needed_near notes (map (λ r. r.now) c.near-near.result.now) first c.map_or-offset.result c.near-near.ensures
    ∙ ap (λ s. needed_of notes s first) (returns-clause-start c)
