use Rattle.mxf_views.proofs.Common.{◌↔◌, List, ap, subst, sym, In, LiesIn}
use Rattle.mxf_catalogue.specs.declared.run.Run.{Run}
use Rattle.mxf_hand.specs.Differing.{AreCompared, IsOverlap}
use Rattle.mxf_hand.specs.Given.{AreTold}
use Rattle.mxf_hand.specs.Places.{GivenParts}
use Rattle.mxf_hand.specs.declared.given.Extent.{Extent}
use Rattle.mxf_hand.specs.declared.given.Place.{Place}
use Rattle.mxf_hand.proofs.ComparingLaws.{are_overlaps, at_hand}
use Rattle.mxf_hand.proofs.given.Given.hand.Goals as goal

pub compare_all-requires : goal.compare_all-requires
compare_all-requires g c = λ q h.
    let own = c.self.inside in
    let one = are_overlaps own.extents.items own.places.items own.overlaps.items own.given c.self.invariant q
    (subst (λ (l : List Place). In q l) c.deref-3.ensures.value h) in
    subst (λ (l : List Place). IsOverlap c.deref.result.now l q) (sym c.deref-2.ensures.value)
    (subst (λ (l : List Extent). IsOverlap l own.places.items q) (sym c.deref.ensures.value) one)

pub returns-clause-hand : goal.returns-clause-hand
returns-clause-hand g c = λ given told.
    let own = c.self.inside in
    let parts = ap (λ (p : GivenParts). p.extents) c.self.view_is in
    let are = subst (λ (l : List Extent). AreTold (g.S.Sources.told c.args.sources.now) l given) (sym parts) told in
    let there = subst (λ (l : List Extent). AreTold (g.S.Sources.told c.args.sources.now) l given)
    (sym c.deref.ensures.value) are in
    let noted = c.in_ok-noted.noted in
    let compared = subst (λ (l : List Place). AreCompared given own.places.items l noted) c.deref-3.ensures.value
    (subst (λ (l : List Place). AreCompared given l c.deref-3.result.now noted) c.deref-2.ensures.value
    (c.in_ok-noted.ensures.noted given there)) in
    let hand = c.in_ok-outside.field-0 in
    at_hand given own.extents.items are.extents own.places.items own.overlaps.items own.given c.self.invariant noted
    compared c.in_ok-joined.joined hand c.in_ok-joined.ensures c.in_ok-outside.ensures.cover (λ x.
    subst (λ (l : List Run). LiesIn hand x ↔ (LiesIn own.given x × ¬ LiesIn l x)) c.in_ok-differing.ensures.offsets
    (c.in_ok-outside.ensures.offsets x))

pub returns-clause-given : goal.returns-clause-given
returns-clause-given g c = λ x h.
    subst (λ (p : GivenParts). LiesIn p.given x) c.self.view_is ((c.in_ok-outside.ensures.offsets x).0 h).0
