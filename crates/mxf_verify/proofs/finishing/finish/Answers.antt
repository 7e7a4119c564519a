use Rattle.mxf_views.proofs.Common.{◌↔◌, ◌∙◌, map, refl, subst, sym, AllByRecursion, In, all_from_In}
use Rattle.mxf_verify.specs.declared.verification.Differing.{Differing}
use Rattle.mxf_verify.proofs.FinishingLaws.{bytes_same, verification_of}
use Rattle.mxf_verify.proofs.finishing.finish.Goals as goal

pub bytes_and_uncompared-requires-clause-ranges : goal.bytes_and_uncompared-requires-clause-ranges
bytes_and_uncompared-requires-clause-ranges c = all_from_In _ c.args.seen.ranges.items c.args.seen.ranges_within

pub bytes_and_uncompared-requires-clause-beside : goal.bytes_and_uncompared-requires-clause-beside
bytes_and_uncompared-requires-clause-beside c = subst (AllByRecursion _) (sym c.deref-2.ensures.value)
    (all_from_In _ c.args.seen.beside.items c.args.seen.beside_within)

pub returns : goal.returns
returns c = λ sources is.
    let uncompared = c.in_ok-bytes.uncompared in
    let said = c.in_ok-bytes.ensures in
    verification_of c.args.catalogue.now sources c.args.seen is uncompared c.in_ok-bytes.bytes _ _ c.told.ensures
    (said.verified ∙ c.into_ordered-verified.ensures) said.rising
    (λ n. subst (λ l. In n uncompared.damaged ↔ In n (map (λ (d : Differing). d.note.now) l)) c.deref.ensures.value
    (said.members n)) (said.headed ∙ c.into_ordered-headed.ensures) said.read said.reach c.in_ok-cut.ensures
    (bytes_same c.args.catalogue.now _ _ _ _ _ _ _ _ c.in_ok-bytes.bytes refl refl refl c.deref-2.ensures.value said.bytes)
