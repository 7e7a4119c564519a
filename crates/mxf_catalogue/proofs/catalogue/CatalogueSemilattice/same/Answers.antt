use Rattle.mxf_klv.proofs.Common.{◌≡◌, true, sym, ◌∙◌, subst, slice_eq-Decides, NoteParts}
use Rattle.mxf_catalogue.specs.Content.{has_note, union_of}
use Rattle.mxf_catalogue.proofs.HeadLaws.{same_members}
use Rattle.mxf_catalogue.proofs.PartLaws.{same_parts}
use Rattle.mxf_klv.proofs.HeadOrder.{same_note-Decides}
use Rattle.mxf_catalogue.proofs.catalogue.CatalogueSemilattice.same.Goals as goal

pub returns-then-eq-clause-members : goal.returns-then-eq-clause-members
returns-then-eq-clause-members c =
    let a = c.self.inside.lists in
    let b = c.other.inside.lists in
    let first = (slice_eq-Decides same_note-Decides a.undisputed.items b.undisputed.items c.eq.result c.eq.ensures).0
    c.if-eq.true in
    let d = slice_eq-Decides same_note-Decides a.disputed.items b.disputed.items c.eq-then-eq.result
    c.eq-then-eq.ensures in
    let same = λ (h : c.eq-then-eq.result ≡ true).
    sym c.self.view_is ∙ (λ i. union_of (first i) (d.0 h i)) ∙ c.other.view_is in
    let back = same_parts a.undisputed.items a.disputed.items b.undisputed.items b.disputed.items
    c.self.invariant.kept.parts
    c.other.invariant.kept.parts in (
      λ h (m : NoteParts). (subst (λ l. has_note l m) (same h), subst (λ l. has_note l m) (sym (same h))),
      λ k. d.1 (back (same_members (union_of a.undisputed.items a.disputed.items)
          (union_of b.undisputed.items b.disputed.items)
          c.self.invariant.kept.reduced c.other.invariant.kept.reduced (λ m. (
            λ h. subst (λ l. has_note l m) (sym c.other.view_is) ((k m).0 (subst (λ l. has_note l m) c.self.view_is h)),
            λ h. subst (λ l. has_note l m) (sym c.self.view_is) ((k m).1 (subst (λ l. has_note l m) c.other.view_is h)),
          )))).1,
    )

pub returns-then-eq-clause-list : goal.returns-then-eq-clause-list
returns-then-eq-clause-list c =
    let a = c.self.inside.lists in
    let b = c.other.inside.lists in
    let first = (slice_eq-Decides same_note-Decides a.undisputed.items b.undisputed.items c.eq.result c.eq.ensures).0
    c.if-eq.true in
    let d = slice_eq-Decides same_note-Decides a.disputed.items b.disputed.items c.eq-then-eq.result
    c.eq-then-eq.ensures in
    let members = returns-then-eq-clause-members c in (
      λ h. sym c.self.view_is ∙ (λ i. union_of (first i) (d.0 h i)) ∙ c.other.view_is,
      λ e. members.1 (λ (m : NoteParts). (subst (λ l. has_note l m) e, subst (λ l. has_note l m) (sym e))),
    )

pub returns-else-eq-clause-members : goal.returns-else-eq-clause-members
returns-else-eq-clause-members c =
    let a = c.self.inside.lists in
    let b = c.other.inside.lists in
    let d = slice_eq-Decides same_note-Decides a.undisputed.items b.undisputed.items c.eq.result c.eq.ensures in
    let back = same_parts a.undisputed.items a.disputed.items b.undisputed.items b.disputed.items
    c.self.invariant.kept.parts
    c.other.invariant.kept.parts in (
      λ h. let f = c.if-eq.false in cc (h, f),
      λ k. d.1 (back (same_members (union_of a.undisputed.items a.disputed.items)
          (union_of b.undisputed.items b.disputed.items)
          c.self.invariant.kept.reduced c.other.invariant.kept.reduced (λ m. (
            λ h. subst (λ l. has_note l m) (sym c.other.view_is) ((k m).0 (subst (λ l. has_note l m) c.self.view_is h)),
            λ h. subst (λ l. has_note l m) (sym c.self.view_is) ((k m).1 (subst (λ l. has_note l m) c.other.view_is h)),
          )))).0,
    )

pub returns-else-eq-clause-list : goal.returns-else-eq-clause-list
returns-else-eq-clause-list c =
    let members = returns-else-eq-clause-members c in (
      λ h. let f = c.if-eq.false in cc (h, f),
      λ e. members.1 (λ (m : NoteParts). (subst (λ l. has_note l m) e, subst (λ l. has_note l m) (sym e))),
    )
