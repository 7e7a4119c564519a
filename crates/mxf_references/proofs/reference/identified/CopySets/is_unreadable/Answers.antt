use Rattle.mxf_views.proofs.Common.{◌∙◌, ℕ, List, subst, sym, In, IsRising, same_bool}
use Rattle.std.proofs.Common.{nat_cmp, map-id}
use Rattle.mxf_views.specs.Copies.{sets_of}
use Rattle.mxf_references.specs.Identified.{unreadable_offsets, CopySetsParts}
use Rattle.mxf_references.specs.Readable.{is_unreadable}
use Rattle.mxf_klv.proofs.Sides.{numbers_rise}
use Rattle.mxf_references.proofs.UnreadableLaws.{unreadable_rise, unreadable_there}
use Rattle.mxf_references.proofs.reference.identified.CopySets.is_unreadable.Goals as goal

pub has_key-requires : goal.has_key-requires
has_key-requires c =
    let s = c.self.inside in
    numbers_rise _ (subst (IsRising nat_cmp) (sym (c.deref.ensures.value ∙ c.self.invariant.1))
    (unreadable_rise s.catalogue.now s.partition c.laws.ensures.catalogue.content))

pub returns : goal.returns
returns c =
    let s = c.self.inside in
    let n = c.args.set.now in
    let held = subst (λ (p : CopySetsParts). In n (sets_of p.notes p.partition)) (sym c.self.view_is) c.requires in
    let there = unreadable_there s.catalogue.now s.partition n held in
    let offsets = map-id _ ∙ c.deref.ensures.value ∙ c.self.invariant.1 in
    let at = c.offset.ensures.offset in
    let all = unreadable_offsets (sets_of s.catalogue.now s.partition) in
    same_bool c.has_key.result (is_unreadable n)
    (λ t. there.0 (subst (λ (o : ℕ). In o all) at (subst (λ (l : List ℕ). In c.offset.result l) offsets
    (c.has_key.ensures.0 t)))) (λ t. c.has_key.ensures.1 (subst (λ (l : List ℕ). In c.offset.result l) (sym offsets)
    (subst (λ (o : ℕ). In o all) (sym at) (there.1 t))))
