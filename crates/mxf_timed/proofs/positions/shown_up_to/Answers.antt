use Rattle.std.proofs.Common.{◌≡◌, ◌+◌, ◌%◌, ◌<◌, ◌∙◌, ap, arith, subst, sym}
use Rattle.std.proofs.Math.Nat.{add-mod_left}
use Rattle.mxf_tracks.proofs.TimecodeLaws.{number_below}
use Rattle.mxf_tracks.specs.Timecodes.{labels_of_day}
use Rattle.mxf_timed.specs.Positions.{IsAnswer, label_of}
use Rattle.mxf_timed.proofs.RangeLaws.{IsRangeBelow, all_below, none_before, one_more, place_of, several_below}
use Rattle.mxf_timed.proofs.positions.shown_up_to.Goals as goal

pub numbers-init : goal.numbers-init
numbers-init c =
    let run = c.args.run.now in
    let day = c.labels_of_day-day.result in
    let gone = c.from-gone.result in
    let is : day ≡ labels_of_day run.base run.is_drop =
    c.labels_of_day-day.ensures.labels ∙ (λ i. labels_of_day (c.base.ensures i) (c.is_drop.ensures i)) in
    let label : (run.number + gone) % day ≡ place_of run c.args.word =
    ap (λ g. (run.number + g) % day) c.from-gone.ensures ∙ c.first_gone.ensures.label in
    record {
      answer = none_before run c.args.word gone day is
          (omega (arith, c.from-gone.ensures, c.first_gone.ensures.first)) label;
      label = label;
    }

pub shown_when-requires-clause-last : goal.shown_when-requires-clause-last
shown_when-requires-clause-last c = ((c.last_gone-last.ensures.last c.numbers.gone).0 c.numbers-test.true).0

pub overflow_add-gone : goal.overflow_add-gone
overflow_add-gone c =
    omega (arith, c.from-gone-in-numbers.ensures, c.labels_of_day-day.ensures.few, c.last_gone-last.ensures.small)

pub numbers-preserved : goal.numbers-preserved
numbers-preserved c =
    let run = c.args.run.now in
    let word = c.args.word in
    let day = c.labels_of_day-day.result in
    let gone = c.numbers.gone in
    let more = c.from-gone-in-numbers.result in
    let is : day ≡ labels_of_day run.base run.is_drop =
    c.labels_of_day-day.ensures.labels ∙ (λ i. labels_of_day (c.base.ensures i) (c.is_drop.ensures i)) in
    let below = number_below run.base (label_of word run.is_drop) c.requires.fits.label in
    let some : 0 < day = omega (arith, below, is) in
    let answer = one_more run word gone day c.last_gone-last.result c.args.most c.numbers.found c.shown_when.result
    c.requires.fits is c.numbers.invariant.label c.last_gone-last.ensures.last c.numbers-test.true some
    c.numbers.invariant.answer c.shown_when.ensures in
    let joined = subst (λ a. IsAnswer (IsRangeBelow run word (gone + day)) a) (sym c.joined-found.ensures) answer in
    let sum : run.number + (gone + day) ≡ day + (run.number + gone) = omega arith in
    record {
      answer = subst (λ n. IsAnswer (IsRangeBelow run word (gone + n)) c.joined-found.result)
          (sym c.from-gone-in-numbers.ensures) joined;
      label = ap (λ n. (run.number + (gone + n)) % day) c.from-gone-in-numbers.ensures ∙ ap (λ n. n % day) sum
          ∙ add-mod_left day (run.number + gone) ∙ c.numbers.invariant.label;
    }

pub returns-else-not-is_several : goal.returns-else-not-is_several
returns-else-not-is_several c =
    several_below c.args.run.now c.args.word c.numbers.gone c.numbers.found
    (sym c.is_several.ensures ∙ c.if-not-is_several.false) c.numbers.invariant.answer

pub returns-after-numbers : goal.returns-after-numbers
returns-after-numbers c =
    let run = c.args.run.now in
    let is : c.labels_of_day-day.result ≡ labels_of_day run.base run.is_drop =
    c.labels_of_day-day.ensures.labels ∙ (λ i. labels_of_day (c.base.ensures i) (c.is_drop.ensures i)) in
    all_below run c.args.word c.numbers.gone c.labels_of_day-day.result c.last_gone-last.result c.args.most
    c.numbers.found c.requires.most is c.last_gone-last.ensures.last c.numbers-test.false c.numbers.invariant.answer
