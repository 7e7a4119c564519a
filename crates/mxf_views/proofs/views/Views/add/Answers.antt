use Rattle.mxf_views.proofs.Common.{◌≡◌, ◌↔◌, List, Ok, ◌∙◌, ap, refl, subst, sym, NoteParts, AreReduced, IsContent}
use Rattle.mxf_views.proofs.Common.{has_note, reduced_with, err_from_is_err_and, reduced_with-present}
use Rattle.mxf_catalogue.specs.declared.catalogue.change.Change.TheVariants.{Repeated}
use Rattle.mxf_views.proofs.views.Views.add.Goals as goal

pub returns-then-has-clause-added : goal.returns-then-has-clause-added
returns-then-has-clause-added c =
    let r = subst IsContent c.self.view_is c.of-arrival.ensures.content in
    let p = subst AreReduced c.self.view_is c.of-arrival.ensures.reduced in
    let held = subst (λ (l : List NoteParts). has_note l c.args.note) c.self.view_is (c.has.ensures.0 c.if-has.true) in
    sym (reduced_with-present c.args.note c.args.self.now r p held)

pub returns-then-has-clause-history : goal.returns-then-has-clause-history
returns-then-has-clause-history c = λ h e. returns-then-has-clause-added c ∙ ap (reduced_with c.args.note) e

pub returns-then-has-clause-repeated : goal.returns-then-has-clause-repeated
returns-then-has-clause-repeated c = (
  λ e. subst (λ (l : List NoteParts). has_note l c.args.note) c.self.view_is (c.has.ensures.0 c.if-has.true),
  λ h. refl,
)

pub returns-in_err-change-clause-repeated : goal.returns-in_err-change-clause-repeated
returns-in_err-change-clause-repeated c = (
  λ e. let q = (err_from_is_err_and c.from_residual.result c.from_residual.ensures.1).1 in absurd (cc (q, e)),
  λ h.
      let t = c.has.ensures.1 (subst (λ (l : List NoteParts). has_note l c.args.note) (sym c.self.view_is) h) in
      let f = c.if-has.false in absurd (cc (t, f)),
)

pub follow-requires-clause-arrived : goal.follow-requires-clause-arrived
follow-requires-clause-arrived c = record {
  note = c.args.note;
  notes = c.self.inside.catalogue;
  new = λ h. let t = c.has.ensures.1 h in let f = c.if-has.false in cc (t, f);
  arrival = c.of-arrival.ensures;
  is_after = c.in_ok-change.ensures.added;
  kept = c.make_room.ensures.kept ∙ c.self.invariant;
}

pub returns-clause-repeated : goal.returns-clause-repeated
returns-clause-repeated c =
    subst (λ (l : List NoteParts). (Ok c.in_ok-change.change ≡ Ok Repeated) ↔ has_note l c.args.note) c.self.view_is
    c.in_ok-change.ensures.repeated
