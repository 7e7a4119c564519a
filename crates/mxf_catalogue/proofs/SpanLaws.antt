-- Clear notes share no byte, so each ends before the next begins.
use Rattle.mxf_klv.proofs.Common.{◌≡◌, ◌≢◌, ℕ, ◌<◌, ◌≤◌, Bool, List, [], ◌∷◌, refl, inl, inr, arith, eqb-true, ltb-true}
use Rattle.mxf_klv.proofs.Common.{ltb-false, nat_cmp, ordering_then, Ordering, Less, tied_itself, NoteParts, end_of}
use Rattle.mxf_klv.proofs.Common.{note_cmp, note_total, In, less_in}
use Rattle.std.specs.Prelude.{nat_lt, filter}
use Rattle.mxf_klv.proofs.Tests.{less_from_lt}
use Rattle.mxf_catalogue.specs.Content.{IsContent}
use Rattle.mxf_catalogue.specs.Disputes.{AreApart, IsClear, clear_notes}
use Rattle.mxf_catalogue.proofs.DisputeLaws.{clear-apart, In-clear_notes, IsContent-clear_notes}

pub AreApart-lower : (low high : ℕ) (notes : List NoteParts) → low ≤ high → AreApart high notes → AreApart low notes
AreApart-lower low high [] l a = tt
AreApart-lower low high (n ∷ notes) l a = let s : high ≤ n.offset = a.0 in (omega arith, a.1)

pub AreApart-filter : (p : NoteParts → Bool) (low : ℕ) (notes : List NoteParts) → AreApart low notes
    → AreApart low (filter p notes)
AreApart-filter p low [] a = tt
AreApart-filter p low (n ∷ notes) a = grind (arith, AreApart-lower, AreApart-filter p (end_of n) notes a.1)

-- ---- clear notes share no byte

first_less : (a b : ℕ) (r : Ordering) → ordering_then (nat_cmp a b) r ≡ Less → a ≤ b
first_less a b r e = grind (arith, nat_lt a b, ltb-true a b, eqb-true a b)

pub offset_le : (m n : NoteParts) → note_cmp m n ≡ Less → m.offset ≤ n.offset
offset_le m n e = first_less m.offset n.offset _ e

pub less_by_offset : (m n : NoteParts) → m.offset < n.offset → note_cmp m n ≡ Less
less_by_offset m n l = rw (less_from_lt m.offset n.offset l) refl

pub not_same : (m n : NoteParts) → note_cmp m n ≡ Less → m ≢ n
not_same m n e same = grind (arith, note_total, tied_itself)

-- a clear note ends at or before a later one begins
pub ends_before : (notes : List NoteParts) (x y : NoteParts) → IsClear x notes → IsClear y notes → note_cmp x y ≡ Less
    → end_of x ≤ y.offset
ends_before notes x y c d e =
    grind (
      arith,
      offset_le x y e,
      nat_lt y.offset (end_of x),
      end_of x,
      ltb-true y.offset (end_of x),
      clear-apart x y notes c d.held (not_same x y e),
      not_same x y e,
      ltb-false y.offset (end_of x),
    )

all_clear_apart : (notes some : List NoteParts) (low : ℕ) → IsContent some
    → ((n : NoteParts) → In n some → IsClear n notes) → ((n : NoteParts) → In n some → low ≤ n.offset)
    → AreApart low some
all_clear_apart notes [] low r c l = tt
all_clear_apart notes (x ∷ xs) low r c l = (
  l x (inl refl),
  all_clear_apart notes xs (end_of x) r.1 (λ n h. c n (inr h))
      (λ n h. ends_before notes x n (c x (inl refl)) (c n (inr h)) (less_in note_total x n xs r.0 h)),
)

-- Clear notes share no byte.
pub AreApart-clear_notes : (notes : List NoteParts) → IsContent notes → AreApart 0 (clear_notes notes)
AreApart-clear_notes notes r = all_clear_apart notes (clear_notes notes) 0 (IsContent-clear_notes notes r)
    (λ n h. (In-clear_notes n notes).0 h) (λ n h. omega arith)
