use Rattle.mxf_views.proofs.Common.{inl, inr, subst, sym, List, YieldsList-from_slice, items_from_extend}
use Rattle.mxf_views.proofs.Common.{YieldsList-from_copied, on_ok_weaker, In, In-append}
use Rattle.mxf_restore.specs.declared.named.NamedPlace.{NamedPlace}
use Rattle.mxf_partial.proofs.NearPlaces.{true_not_false}
use Rattle.mxf_partial.proofs.PlaceLaws.{on_ok}
use Rattle.mxf_partial.proofs.near.add_found.Goals as goal

pub returns : goal.returns
returns c = λ n.
    let named = c.args.named.now in
    let first = items_from_extend c.extend.result c.extend.ensures.ran
    (YieldsList-from_copied (YieldsList-from_slice named cc)) in
    let a = on_ok c.extend.result c.in_ok-extend.field-0 first c.in_ok-extend.was in
    let e = In-append n c.args.asked.now.items named in (
      λ h. elim (e.0 (subst (λ (l : List NamedPlace). In n l) a.0 h)) [
        | inl o ↦ inl o
        | inr k ↦ inr (inl (c.if-not-found.false, k))
      ],
      λ h. subst (λ (l : List NamedPlace). In n l) (sym a.0) (e.1 (elim h [
        | inl o ↦ inl o
        | inr f ↦ elim f [
          | inl k ↦ inr k.1
          | inr g ↦ absurd (true_not_false c.args.found.now.all c.if-not-found.false g.0)
        ]
      ])),
    )

pub returns-then-not-found : goal.returns-then-not-found
returns-then-not-found c = on_ok_weaker c.add_at.result
    (λ f n. (
      λ h. elim ((f n).0 h) [ inl o ↦ inl o | inr g ↦ inr (inr (c.if-not-found.true, g)) ],
      λ h. (f n).1 (elim h [
        | inl o ↦ inl o
        | inr k ↦ elim k [
          | inl t ↦ absurd (true_not_false c.args.found.now.all t.0 c.if-not-found.true)
          | inr g ↦ inr g.1
        ]
      ]),
    ))
    c.add_at.ensures
