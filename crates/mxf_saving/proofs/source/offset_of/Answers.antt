use Rattle.mxf_klv.proofs.Common.{◌≡◌, ℕ, Ok, Err, true, ◌∙◌, sym, arith, all_ascii_digits, both_ways}
use Rattle.std.proofs.lemmas.Str.Parse.{parse_digits}
use Rattle.mxf_saving.proofs.SourceLaws.{numerals, list_all-digits}
use Rattle.mxf_saving.proofs.source.offset_of.Goals as goal

pub returns-then-not-has_digits_alone : goal.returns-then-not-has_digits_alone
returns-then-not-has_digits_alone c offset i =
    let digits = c.has_digits_alone.ensures ∙ list_all-digits c.args.digits.now ∙ i.digits in
    both_ways c.has_digits_alone.result c.if-not-has_digits_alone.true digits

pub returns-in_default : goal.returns-in_default
returns-in_default c offset i =
    parse_digits numerals 64 c.args.digits.now (Err c.in_default.field-0) c.in_default.ensures.value.0 i.digits
    (i.some, omega (arith, i.value, i.within))

pub returns-then-offset-gt-MAX : goal.returns-then-offset-gt-MAX
returns-then-offset-gt-MAX c offset i =
    let text = c.args.digits.now in
    let read = parse_digits numerals {E = ℕ} 64 text (Ok c.in-Ok.offset) c.in-Ok.ensures.value.0 i.digits in
    omega (arith, read.1, i.value, i.within)

pub returns : goal.returns
returns c =
    let text = c.args.digits.now in
    let digits : all_ascii_digits text ≡ true =
    sym (list_all-digits text) ∙ sym c.has_digits_alone.ensures ∙ c.if-not-has_digits_alone.false in
    let read = parse_digits numerals {E = ℕ} 64 text (Ok c.in-Ok.offset) c.in-Ok.ensures.value.0 digits in
    record { some = read.0.0; digits = digits; value = read.1; within = omega arith }
