use Rattle.mxf_views.proofs.Common.{◌∙◌, ◌<◌, ◌≤◌, ℕ, ap, length, subst, sym, insert, AllWithin, IsNonDecreasingBy}
use Rattle.mxf_views.proofs.Common.{with_keyed}
use Rattle.mxf_views.proofs.KeyedLists.{inserted}
use Rattle.mxf_views.proofs.kept.keyed.put.Goals as goal

pub up_to-at-requires : goal.up_to-at-requires
up_to-at-requires g c = subst (IsNonDecreasingBy g.T.Keyed.key) (sym c.deref.ensures.value) c.requires.rising

pub returns : goal.returns
returns g c =
    let key = g.T.Keyed.key in
    let at = c.up_to-at.ensures in
    let items = c.deref.result.now in
    let place = c.up_to-at.result in
    c.in-Ok.ensures.items ∙ ap (λ l. insert l place c.args.item) (sym c.deref.ensures.value)
    ∙ inserted key c.args.item items place at.bound
    (subst (λ (k : ℕ). AllWithin (λ d. key d ≤ k) items 0 place) c.key.ensures at.below)
    (subst (λ (k : ℕ). AllWithin (λ d. k < key d) items place (length items)) c.key.ensures at.above)
    ∙ ap (with_keyed key c.args.item) c.deref.ensures.value
