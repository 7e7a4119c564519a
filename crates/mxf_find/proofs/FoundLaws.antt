-- Where a fragment lies: two answers are one.
use Rattle.std.proofs.Common.{◌≡◌, ◌∙◌, ◌<◌, ℕ, List, [], Option, None, Some, ap, arith, refl, subst, sym}
use Rattle.mxf_klv.specs.Parts.{NoteParts}
use Rattle.mxf_find.specs.Agreeing.{agreeing, agreeing_as_heads}
use Rattle.mxf_find.specs.Found.{IsFound, offset_of}
use Rattle.mxf_find.specs.Votes.{FragmentParts, IsMostVoted, count_of, votes}
use Rattle.mxf_find.specs.declared.found.Match.{Match}

pub one_most : (votes : List ℕ) (a b : ℕ) → IsMostVoted votes a → IsMostVoted votes b → a ≡ b
one_most votes a b m n =
    let p = m.most b in
    let q = n.most a in
    let e : count_of b votes ≡ count_of a votes = omega (arith, p, q) in
    let l = m.least b e in
    let k = n.least a (sym e) in
    omega (arith, l, k)

none_voted : (v : List ℕ) (a : ℕ) → IsMostVoted v a → v ≡ [] → ⊥
none_voted v a m e =
    let s : 0 < count_of a [] = subst (λ (l : List ℕ). 0 < count_of a l) e m.some in omega (arith, s)

pub one_found : (f : FragmentParts) (r : List NoteParts) (a b : Option Match) → IsFound f r a → IsFound f r b → a ≡ b
one_found f r None None x y = refl
one_found f r None (Some n) x y = absurd (none_voted (votes f r) y.0 y.1.voted x)
one_found f r (Some m) None x y = absurd (none_voted (votes f r) x.0 x.1.voted y)
one_found f r (Some m) (Some n) x y =
    let e = one_most (votes f r) x.0 y.0 x.1.voted y.1.voted in
    ap Some (λ i. record {
      offset = (x.1.offset ∙ ap offset_of e ∙ sym y.1.offset) i;
      agree = (x.1.agree ∙ ap (agreeing f r) e ∙ sym y.1.agree) i;
      heads = (x.1.heads ∙ ap (agreeing_as_heads f r) e ∙ sym y.1.heads) i;
    })
