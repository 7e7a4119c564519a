use Rattle.mxf_klv.proofs.Common.{◌∙◌, ◌==◌, ap, sym, subst, IsTrue, map, ◌↔◌, ltb-true, lt-ltb, false≢true, In}
use Rattle.mxf_klv.proofs.Searches.{first_with_key, key_there}
use Rattle.mxf_klv.proofs.Lists.{In-map}
use Rattle.mxf_klv.proofs.search.has_key.Goals as goal

pub returns-in-Some : goal.returns-in-Some
returns-in-Some g c =
    let xs = c.args.items.now in
    let at = c.below.result in
    let n = c.in-Some.item.now in
    let there = key_there g.T.Keyed.key xs at c.args.key n c.requires c.below.ensures.below c.below.ensures.above
    (ltb-true _ _ (sym c.in-Some.ensures.lookup.0)) in
    subst (λ k. IsTrue (k == c.args.key) ↔ In c.args.key (map g.T.Keyed.key xs))
    (sym (c.key.ensures ∙ ap g.T.Keyed.key c.in-Some.ensures.lookup.1)) there

pub returns-in-None : goal.returns-in-None
returns-in-None g c = (
  λ e. absurd cc,
  λ h.
      let xs = c.args.items.now in
      let x = (In-map g.T.Keyed.key xs c.args.key).0 h in
      let first = first_with_key g.T.Keyed.key xs c.below.result c.args.key x.0 c.requires c.below.ensures.below
      c.below.ensures.above h in
      absurd (false≢true (c.in-None.ensures.lookup.0 ∙ lt-ltb _ _ first.0)),
)
