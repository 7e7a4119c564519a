use denote.Bor.{Bor}
use Rattle.mxf_views.proofs.Common.{◌≡◌, ◌∙◌, ◌++◌, ◌&&◌, ◌==◌, ℕ, [], None, Option, Some, ap, append-nil, filter, map}
use Rattle.mxf_views.proofs.Common.{sym, option_map_or, NoteParts}
use Rattle.mxf_read.specs.Feeding.{option_list}
use Rattle.mxf_places.specs.Heads.{start_of}
use Rattle.mxf_hand.specs.Hand.{read_heads, read_packets}
use Rattle.mxf_hand.specs.Heads.{fits, fitting}
use Rattle.mxf_hand.specs.Rounds.{read_heads_of}
use Rattle.mxf_hand.specs.Sections.{from_of, made_by, made_of, packets_of, read_from}
use Rattle.mxf_hand.specs.declared.found.CutHead.{CutHead}
use Rattle.mxf_hand.proofs.FindingLaws.{grow_twice, same_growth}
use Rattle.mxf_hand.proofs.HandLaws.{told_after}
use Rattle.mxf_hand.proofs.section.add_section.Goals as goal

pub returns-in-None-clause-added : goal.returns-in-None-clause-added
returns-in-None-clause-added g c = λ h t b.
    let p = c.args.section in
    let notes = c.args.heads.now in
    let note = λ (x : Bor NoteParts). x.now in
    let cut = λ (n : NoteParts). let r : CutHead = record { note = n; hole_end = p.hole.end } in r in
    let start : c.around-start.result.offset ≡ start_of notes p.first = c.around-start.ensures.start in
    let those : map note c.in_ok-fitting.fitting.items ≡ fitting h notes p.first =
    c.in_ok-fitting.ensures.fitting h t ∙ (λ i. filter (λ n. (n.offset == start i) && fits h n)
    ((ap (map note) c.deref.ensures.value ∙ c.in_ok-ending.ensures) i)) in
    let from : c.read_from.result ≡ from_of h notes p =
    c.read_from.ensures ∙ (λ i. read_from (start i) ((ap (map note) c.deref-3.ensures.value ∙ those) i)) in
    let none : None ≡ from_of h notes p = sym c.in-None.is ∙ from in
    same_growth c.args.found.now c.add_made.new.found [] (packets_of h notes p)
    (made_by h p.hole.end (map note c.deref-2.result.now)) (made_of h notes p) [] (read_heads_of h notes p)
    (ap (λ (o : Option ℕ). option_map_or (read_packets h p.end) o []) none)
    (ap (made_by h p.hole.end) (ap (map note) c.deref-2.ensures.value ∙ those))
    (ap (λ (o : Option ℕ). map cut (option_map_or (read_heads h p.end) o [])) none)
    (c.in_ok-add_made.ensures.added h (told_after c.in_ok-fitting.ensures.told t))

pub returns-clause-added : goal.returns-clause-added
returns-clause-added g c = λ h t b.
    let p = c.args.section in
    let notes = c.args.heads.now in
    let note = λ (x : Bor NoteParts). x.now in
    let cut = λ (n : NoteParts). let r : CutHead = record { note = n; hole_end = p.hole.end } in r in
    let start : c.around-start.result.offset ≡ start_of notes p.first = c.around-start.ensures.start in
    let those : map note c.in_ok-fitting.fitting.items ≡ fitting h notes p.first =
    c.in_ok-fitting.ensures.fitting h t ∙ (λ i. filter (λ n. (n.offset == start i) && fits h n)
    ((ap (map note) c.deref.ensures.value ∙ c.in_ok-ending.ensures) i)) in
    let from : c.read_from.result ≡ from_of h notes p =
    c.read_from.ensures ∙ (λ i. read_from (start i) ((ap (map note) c.deref-3.ensures.value ∙ those) i)) in
    let some : Some c.in-Some.from ≡ from_of h notes p = sym c.in-Some.is ∙ from in
    let made = made_by h p.hole.end (map note c.deref-2.result.now) in
    let told = c.in_ok-fitting.ensures.told in
    let is = c.in_ok-reading.ensures.reading h (told_after (c.in_ok-add_made.ensures.told ∙ told) t) b in
    let read = c.in_ok-reading.reading.notes in
    let more = map cut (option_list c.in_ok-reading.reading.head) in
    same_growth c.args.found.now c.add_reading.new.self read (packets_of h notes p) (made ++ [])
    (made_of h notes p) more (read_heads_of h notes p)
    (is.notes ∙ ap (λ (o : Option ℕ). option_map_or (read_packets h p.end) o []) some)
    (append-nil made ∙ ap (made_by h p.hole.end) (ap (map note) c.deref-2.ensures.value ∙ those))
    (ap (map cut) is.head ∙ ap (λ (o : Option ℕ). map cut (option_map_or (read_heads h p.end) o [])) some)
    (grow_twice c.args.found.now c.add_made.new.found c.add_reading.new.self [] read made [] [] more
    (c.in_ok-add_made.ensures.added h (told_after told t)) c.in_ok-add_reading.ensures)

pub returns-clause-barren : goal.returns-clause-barren
returns-clause-barren g c = λ h t b.
    c.in_ok-reading.ensures.barren h (told_after (c.in_ok-add_made.ensures.told ∙ c.in_ok-fitting.ensures.told) t) b
