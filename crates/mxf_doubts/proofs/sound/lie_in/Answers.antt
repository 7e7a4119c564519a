use Rattle.mxf_views.proofs.Common.{◌≡◌, ◌∙◌, ℕ, suc, arith, subst, ap, nat_le, cases_lt, inl, inr}
use Rattle.mxf_doubts.proofs.SoundLaws.{IsPlace, last_below, none_below}
use Rattle.mxf_doubts.proofs.sound.lie_in.Goals as goal

pub returns-in_default : goal.returns-in_default
returns-in_default c =
    let zones = c.args.zones.now in
    let none : c.up_to.result ≡ 0 = elim (cases_lt c.up_to.result 1) [
      | inl l ↦ omega (arith, l)
      | inr m ↦ absurd (c.in_default.ensures m)
    ] in
    none_below c.args.offset c.args.end zones (subst (λ (k : ℕ). IsPlace c.args.offset zones k) none
    record { below = c.up_to.ensures.below; above = c.up_to.ensures.above })

pub returns-in-Some-get : goal.returns-in-Some-get
returns-in-Some-get c =
    let zones = c.args.zones.now in
    let found = c.in-Some-get.ensures.lookup in
    let next : c.up_to.result ≡ suc c.in-Some.last = omega (arith, c.in-Some.ensures.0, c.in-Some.ensures.1) in
    ap (λ e. nat_le e c.in-Some-get.zone.now.end) c.from.ensures
    ∙ last_below c.args.offset c.args.end zones c.in-Some.last c.in-Some-get.zone.now
    (subst (λ (k : ℕ). IsPlace c.args.offset zones k) next
    record { below = c.up_to.ensures.below; above = c.up_to.ensures.above }) c.requires.ends found.3.0 found.3.1
