use Rattle.mxf_views.proofs.Common.{◌≡◌, ◌∙◌, ◌*◌, ◌/◌, ◌<◌, ℕ, ap, arith, length, subst, sym, slice_get}
use Rattle.mxf_views.proofs.Common.{slice_get-get_or}
use Rattle.mxf_partial.proofs.ChosenLaws.{all_taken, one_more, part_within}
use Rattle.mxf_partial.proofs.between.add_16.Goals as goal

pub loop-i-preserved : goal.loop-i-preserved
loop-i-preserved c =
    let places = c.args.places.now in
    let at : c.part_of.result ≡ c.loop-i.i * length places / 16 = c.part_of.ensures in
    let within = subst (λ (n : ℕ). n < length places) (sym at)
    (part_within c.loop-i.i (length places) c.loop-i-test.true c.requires) in
    one_more (λ (j : ℕ). slice_get places (j * length places / 16)) c.args.asked.now.items c.loop-i.asked.items
    c.push.new.self.items c.loop-i.i _ c.in_ok-push.ensures.items
    (ap (slice_get places) (sym at) ∙ slice_get-get_or places c.part_of.result _ within) c.loop-i.invariant

pub returns : goal.returns
returns c =
    let places = c.args.places.now in
    all_taken (λ (j : ℕ). slice_get places (j * length places / 16)) c.args.asked.now.items c.loop-i.asked.items
    c.loop-i.i 16 (omega arith) c.loop-i.invariant
