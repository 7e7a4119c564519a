use Rattle.mxf_views.proofs.Common.{◌≡◌, ◌↔◌, ◌∙◌, List, arith, subst, NoteParts, Covers, LiesIn}
use Rattle.mxf_catalogue.specs.declared.run.Run.{Run}
use Rattle.mxf_places.specs.AtHand.{KnownParts}
use Rattle.mxf_map.specs.Extents.{standing_at}
use Rattle.mxf_map.proofs.ExtentLaws.{standing-same}
use Rattle.mxf_map.proofs.extent.ByteStandings.next_change.Goals as goal

pub returns-clause-same : goal.returns-clause-same
returns-clause-same c = λ x above under.
    let known : KnownParts = record { notes = c.self.inside.holdings; at = c.self.inside.at_hand.now } in
    let from = c.args.from in
    let first = c.min.ensures in
    let both = c.min-2.ensures in
    let same = c.catalogue.ensures ∙ c.views.ensures in
    let spans = subst (λ (notes : List NoteParts). Covers c.spans.result.now notes) same c.spans.ensures.spans in
    let hand = c.hand.ensures.hand in
    subst (λ (k : KnownParts). standing_at k x ≡ standing_at k from) c.self.view_is
    (standing-same known x from c.disputed.result.now c.spans.result.now c.disputed.ensures spans
    (c.next_change-disputed.ensures.same x above (omega (arith, under, first, both)))
    (c.next_change-held.ensures.same x above (omega (arith, under, first, both)))
    (subst (λ (l : List Run). LiesIn l x ↔ LiesIn l from) hand
    (c.next_change-hand.ensures.same x above (omega (arith, under, first, both)))))
