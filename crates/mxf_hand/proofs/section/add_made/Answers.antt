use denote.Bor.{Bor}
use Rattle.std.proofs.Common.{◌≡◌, ◌∙◌, ◌&&◌, ◌∷◌, [], Option, Some, ap, cond, map, refl, sym, true}
use Rattle.std.specs.Option.{option_map, option_map_or}
use Rattle.mxf_klv.specs.Parts.{NoteParts}
use Rattle.mxf_hand.specs.Hand.{is_value_at_hand, packet_of}
use Rattle.mxf_hand.specs.Sections.{ends_within, made_by, made_of_head, only}
use Rattle.mxf_hand.proofs.FindingLaws.{same_growth}
use Rattle.mxf_hand.proofs.section.add_made.Goals as goal

pub returns-clause-added : goal.returns-clause-added
returns-clause-added g c = λ h t.
    let note = λ (x : Bor NoteParts). x.now in
    let n = c.in-Some.head.now in
    let end = c.args.hole_end in
    let heads = map note c.args.fitting.now in
    let one : only heads ≡ Some n = sym c.only.ensures ∙ ap (option_map note) c.in-Some.is in
    let value : is_value_at_hand h n ≡ true = sym (c.has_value.ensures.test h t.lie) ∙ c.if-not-has_value.false in
    let within : ends_within end n ≡ true = sym c.ends_within.ensures ∙ c.if-not-ends_within.false in
    let made : made_by h end heads ≡ packet_of h n ∷ [] =
    ap (λ (o : Option NoteParts). option_map_or (made_of_head h end) o []) one
    ∙ (λ i. cond (value i && within i) (packet_of h n ∷ []) []) in
    same_growth c.args.found.now c.add_made.new.self [] [] (c.in_ok-packet.packet ∷ []) (made_by h end heads) [] [] refl
    (ap (λ (p : NoteParts). p ∷ []) (c.in_ok-packet.ensures.note h t) ∙ sym made) refl c.in_ok-add_made.ensures
