use Rattle.mxf_views.proofs.Common.{◌∙◌, Some, ap, inl, inr, sym, same_Some, In-end}
use Rattle.mxf_partial.proofs.ways.add_way.Goals as goal

pub returns-then-not-has_place : goal.returns-then-not-has_place
returns-then-not-has_place c = λ u are order n. (
  λ i. inl i,
  λ h. elim h [
    | inl k ↦ k
    | inr k ↦ absurd (let t = (c.has_place.ensures u are order).1 k.0 in let f = c.if-not-has_place.true in cc (t, f))
  ],
)

pub returns-in_ok-push : goal.returns-in_ok-push
returns-in_ok-push c = λ u are order n.
    let place = c.in-Some.place in
    let end = In-end n place c.args.asked.now.items c.push.new.self.items c.in_ok-push.ensures.items in
    let has = (c.has_place.ensures u are order).0 c.if-not-has_place.false in
    let is = sym c.way_from.ensures ∙ c.in-Some.is in (
      λ i. elim (end.0 i) [ inl k ↦ inl k | inr e ↦ inr (has, is ∙ ap Some (sym e)) ],
      λ h. end.1 (elim h [ inl k ↦ inl k | inr k ↦ inr (same_Some n place (sym k.1 ∙ is)) ]),
    )
