-- The shifts of partitions, and of contents one after another.
use Rattle.mxf_views.proofs.Common.{◌≡◌, ◌++◌, Option, None, Some, MatchOption, List, [], ◌∷◌, arith, map}
use Rattle.mxf_views.proofs.Common.{subst, sym, list_all, NoteParts, PartitionParts, in_numbers, partitions_of}
use Rattle.mxf_views.proofs.NumbersLaws.{all_mapped}
use Rattle.mxf_hints.specs.declared.shift.Shift.{Shift}
use Rattle.mxf_hints.specs.declared.shift.Shift.TheVariants.{High, Low}
use Rattle.mxf_hints.specs.Shifts.{AreShifts, IsShift, IsShiftIn, is_shifted}

pub shifts_none : (contents : List (List NoteParts)) (shifts : List (Option Shift)) → contents ≡ [] → shifts ≡ []
    → AreShifts contents shifts
shifts_none contents shifts a b = subst (λ (l : List (List NoteParts)). AreShifts l shifts) (sym a)
    (subst (λ (s : List (Option Shift)). AreShifts [] s) (sym b) tt)

shifts_push : (contents : List (List NoteParts)) (shifts : List (Option Shift)) (c : List NoteParts) (s : Option Shift)
    → AreShifts contents shifts → IsShiftIn c s → AreShifts (contents ++ c ∷ []) (shifts ++ s ∷ [])
shifts_push [] [] c s a is = (is, tt)
shifts_push [] (t ∷ shifts) c s a is = absurd a
shifts_push (d ∷ contents) [] c s a is = absurd a
shifts_push (d ∷ contents) (t ∷ shifts) c s a is = (a.0, shifts_push contents shifts c s a.1 is)

pub shifts_one : (contents more : List (List NoteParts)) (shifts after : List (Option Shift)) (c : List NoteParts)
    (s : Option Shift) → more ≡ contents ++ c ∷ [] → after ≡ shifts ++ s ∷ [] → IsShiftIn c s
    → AreShifts contents shifts → AreShifts more after
shifts_one contents more shifts after c s e f is a = subst (λ (l : List (List NoteParts)). AreShifts l after) (sym e)
    (subst (λ (t : List (Option Shift)). AreShifts (contents ++ c ∷ []) t) (sym f)
    (shifts_push contents shifts c s a is))

-- a shift that is answered, or none
pub shift_in : (notes : List NoteParts) (s : Option Shift)
    → MatchOption s ((t : Shift) → IsShift (partitions_of notes) t → ⊥) (IsShift (partitions_of notes))
    → IsShiftIn notes s
shift_in notes None is = is
shift_in notes (Some t) is = is

-- what packs state in numbers shifts them as the packs do
pub all_in_numbers : (s : Shift) (partitions : List PartitionParts)
    → list_all (is_shifted s) (map in_numbers partitions) ≡ list_all (is_shifted s) partitions
all_in_numbers (High n) partitions = all_mapped (is_shifted (High n)) in_numbers partitions
all_in_numbers (Low n) partitions = all_mapped (is_shifted (Low n)) in_numbers partitions

pub one_shift : (partitions : List PartitionParts) (a b : Shift) → IsShift partitions a → IsShift partitions b → a ≡ b
one_shift [] a b i j = absurd (omega (arith, i.some))
one_shift (p ∷ ps) (High m) (High n) i j = grind (arith, i.agreed, j.agreed)
one_shift (p ∷ ps) (High m) (Low n) i j = grind (arith, i.agreed, j.agreed, i.other)
one_shift (p ∷ ps) (Low m) (High n) i j = grind (arith, i.agreed, j.agreed, j.other)
one_shift (p ∷ ps) (Low m) (Low n) i j = grind (arith, i.agreed, j.agreed)
