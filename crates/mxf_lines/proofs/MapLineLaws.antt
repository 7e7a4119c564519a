-- Rows of a map that are printed one after another, and the digits of an offset.
use Rattle.std.proofs.Common.{◌≡◌, ◌∙◌, ◌+◌, ◌-◌, ◌*◌, ◌/◌, ◌^◌, ◌<◌, ◌≤◌, ◌==◌, ℕ, Bool, zero, suc, List, [], ◌∷◌}
use Rattle.std.proofs.Common.{true, false, arith, ap, sym, refl, decimal, drop, length, length-append, min, nat_le}
use Rattle.std.proofs.Common.{take, leb-true, leb-false}
use Rattle.std.proofs.lemmas.Fmt.{decimal_step_wide}
use Rattle.std.proofs.lemmas.List.{drop_all, length-drop, take_min}
use Rattle.mxf_places.specs.AtHand.{KnownParts}
use Rattle.mxf_map.specs.Extents.{standing_at}
use Rattle.mxf_map.specs.declared.map.Mark.{Mark}
use Rattle.mxf_map.specs.declared.extent.MapExtent.{MapExtent}
use Rattle.mxf_map.proofs.ExtentLaws.{one_list_of_extents}
use Rattle.mxf_lines.specs.MapLines.{AreToldExtents, row_line, rows_by, rows_of}

-- A number of two digits or more has one more than its tenth.
pub one_digit_more : (n : ℕ) → 10 ≤ n → n < 2 ^ 128 → length (decimal n) ≡ length (decimal (n / 10)) + 1
one_digit_more n some small =
    ap length (decimal_step_wide n some (omega (arith, small))) ∙ length-append (decimal (n / 10)) _

-- It doesn't matter how many rows there may be, where there may be enough.
enough : (columns cell width f g passed : ℕ) (marks : List Mark) → 0 < columns → length marks ≤ f → length marks ≤ g
    → rows_by columns cell width f passed marks ≡ rows_by columns cell width g passed marks
enough columns cell width zero zero passed marks some a b = refl
enough columns cell width zero (suc g) passed [] some a b = refl
enough columns cell width zero (suc g) passed (m ∷ marks) some a b = absurd (omega arith)
enough columns cell width (suc f) zero passed [] some a b = refl
enough columns cell width (suc f) zero passed (m ∷ marks) some a b = absurd (omega arith)
enough columns cell width (suc f) (suc g) passed [] some a b = refl
enough columns cell width (suc f) (suc g) passed (m ∷ marks) some a b =
    let left = length-drop columns (m ∷ marks) in
    ap (λ l. row_line (width - length (decimal (passed * cell))) (passed * cell) (take columns (m ∷ marks)) ∷ l)
    (enough columns cell width f g (passed + columns) (drop columns (m ∷ marks)) some (omega (arith, left))
    (omega (arith, left)))

none_left : (columns cell width f passed : ℕ) → rows_by columns cell width f passed [] ≡ []
none_left columns cell width zero passed = refl
none_left columns cell width (suc f) passed = refl

-- The first row, and those behind it.
pub first_row : (columns cell width passed : ℕ) (marks : List Mark) → 0 < columns → 0 < length marks
    → rows_of columns cell width passed marks
    ≡ row_line (width - length (decimal (passed * cell))) (passed * cell) (take (min columns (length marks)) marks)
    ∷ rows_of columns cell width (passed + min columns (length marks)) (drop (min columns (length marks)) marks)
first_row columns cell width passed [] some more = absurd (omega arith)
first_row columns cell width passed (m ∷ marks) some more =
    let all = m ∷ marks in
    let count = min columns (length all) in
    let row = λ (l : List Mark). row_line (width - length (decimal (passed * cell))) (passed * cell) l in
    let behind : rows_by columns cell width (length marks) (passed + columns) (drop columns all)
    ≡ rows_of columns cell width (passed + count) (drop count all) =
    elim (nat_le columns (length all)) as (λ b. nat_le columns (length all) ≡ b
    → rows_by columns cell width (length marks) (passed + columns) (drop columns all)
    ≡ rows_of columns cell width (passed + count) (drop count all)) [
      | true ↦ λ t.
          let within : columns ≤ length all = leb-true _ _ t in
          let same : columns ≡ count = omega (arith, within) in
          let left = length-drop columns all in
          enough columns cell width (length marks) (length (drop columns all)) (passed + columns)
          (drop columns all) some (omega (arith, left)) (omega arith)
          ∙ ap (λ k. rows_of columns cell width (passed + k) (drop k all)) same
      | false ↦ λ t.
          let past : length all < columns = leb-false _ _ t in
          let same : count ≡ length all = omega (arith, past) in
          let none : drop columns all ≡ [] = drop_all columns all (omega (arith, past)) in
          let none_too : drop count all ≡ [] = drop_all count all (omega (arith, same)) in
          ap (rows_by columns cell width (length marks) (passed + columns)) none
          ∙ none_left columns cell width (length marks) (passed + columns)
          ∙ sym (ap (rows_of columns cell width (passed + count)) none_too)
    ] refl in
    (λ i. row (sym (take_min columns all) i) ∷ behind i)

-- A list that isn't empty has an element.
pub some_left : (marks : List Mark) → (length marks == 0) ≡ false → 0 < length marks
some_left [] e = absurd cc
some_left (m ∷ marks) e = omega arith

-- The ranges that are told are one list.
pub one_told : (known : KnownParts) (end : ℕ) (with_extents : Bool) (a b : List MapExtent)
    → AreToldExtents known end with_extents a → AreToldExtents known end with_extents b → a ≡ b
one_told known end true a b p q = one_list_of_extents (standing_at known) end a b p q
one_told known end false a b p q = p ∙ sym q
