use Rattle.mxf_views.proofs.Common.{◌≡◌, ◌∙◌, List, ap, inl, refl, subst, sym, filter, NoteParts, In, In-filter}
use Rattle.mxf_views.proofs.Common.{same_Some}
use Rattle.mxf_views.specs.Copies.{sets_of}
use Rattle.mxf_references.specs.References.{has_uid}
use Rattle.mxf_references.specs.Targets.{target_among, target_at, target_of}
use Rattle.mxf_klv.proofs.Tests.{none_some}
use Rattle.mxf_references.proofs.OnlyFound.{only_there}
use Rattle.mxf_references.proofs.reference.target.target_of.Goals as goal

pub unreachable-requires : goal.unreachable-requires
unreachable-requires c =
    let sets = c.args.sets.now in
    let only = only_there sets.notes sets.partition c.args.uid.now c.in-One.offset c.in-One.ensures in
    none_some _ only.note (sym c.in-None.ensures) only.there

pub target_at-requires : goal.target_at-requires
target_at-requires c =
    let sets = c.args.sets.now in
    let only = only_there sets.notes sets.partition c.args.uid.now c.in-One.offset c.in-One.ensures in
    let same : c.in-Some.set.now ≡ only.note = same_Some _ _ (c.in-Some.ensures ∙ only.there) in
    let among = sets_of sets.notes sets.partition in
    let held : In only.note (filter (has_uid c.args.uid.now) among) =
    subst (λ (ns : List NoteParts). In only.note ns) (sym only.only) (inl refl) in
    subst (λ (n : NoteParts). In n among) (sym same) ((In-filter (has_uid c.args.uid.now) among only.note).0 held).0

pub returns-in-Some : goal.returns-in-Some
unfolding target_of
returns-in-Some c =
    let sets = c.args.sets.now in
    let only = only_there sets.notes sets.partition c.args.uid.now c.in-One.offset c.in-One.ensures in
    let same : c.in-Some.set.now ≡ only.note = same_Some _ _ (c.in-Some.ensures ∙ only.there) in
    c.target_at.ensures ∙ ap (target_at c.args.wanted) same ∙ ap (target_among c.args.wanted) (sym only.only)
