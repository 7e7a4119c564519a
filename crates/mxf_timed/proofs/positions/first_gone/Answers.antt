use Rattle.std.proofs.Common.{◌≡◌, ◌+◌, ◌-◌, ◌<◌, ◌%◌, ◌∙◌, sym, ap, arith}
use Rattle.std.proofs.Math.Nat.{mod-lt}
use Rattle.mxf_tracks.proofs.TimecodeLaws.{number_below}
use Rattle.mxf_tracks.specs.Timecodes.{number_of}
use Rattle.mxf_timed.specs.Positions.{label_of}
use Rattle.mxf_timed.proofs.DayLaws.{later_today, tomorrow}
use Rattle.mxf_timed.proofs.positions.first_gone.Goals as goal

pub returns-then-number-first-clause-label : goal.returns-then-number-first-clause-label
returns-then-number-first-clause-label c =
    let run = c.args.run.now in
    let word = c.args.word in
    let day = c.args.day in
    let place = c.number_of-number.result in
    let number = c.number.result in
    let is : place ≡ number_of run.base (label_of word run.is_drop) =
    c.number_of-number.ensures ∙ (λ i. number_of (c.base.ensures i) (label_of word (c.is_drop.ensures i))) in
    let below = number_below run.base (label_of word run.is_drop) c.requires.fits.label in
    let some : 0 < day = omega (arith, below, c.requires.day) in
    ap (λ n. (n + (place + (day - number % day))) % day) (sym c.number.ensures)
    ∙ tomorrow number place day c.if-number-first.true (mod-lt number some) ∙ is

pub returns-else-number-first-clause-first : goal.returns-else-number-first-clause-first
returns-else-number-first-clause-first c =
    let run = c.args.run.now in
    let word = c.args.word in
    let is : c.number_of-number.result ≡ number_of run.base (label_of word run.is_drop) =
    c.number_of-number.ensures ∙ (λ i. number_of (c.base.ensures i) (label_of word (c.is_drop.ensures i))) in
    let below = number_below run.base (label_of word run.is_drop) c.requires.fits.label in
    omega (arith, is, below, c.requires.day)

pub returns-else-number-first-clause-label : goal.returns-else-number-first-clause-label
returns-else-number-first-clause-label c =
    let run = c.args.run.now in
    let word = c.args.word in
    let day = c.args.day in
    let place = c.number_of-number.result in
    let number = c.number.result in
    let is : place ≡ number_of run.base (label_of word run.is_drop) =
    c.number_of-number.ensures ∙ (λ i. number_of (c.base.ensures i) (label_of word (c.is_drop.ensures i))) in
    let below = number_below run.base (label_of word run.is_drop) c.requires.fits.label in
    let low : place < day = omega (arith, is, below, c.requires.day) in
    ap (λ n. (n + (place - number % day)) % day) (sym c.number.ensures)
    ∙ later_today number place day low c.if-number-first.false ∙ is
