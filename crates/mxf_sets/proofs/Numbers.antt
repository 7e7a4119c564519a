-- Numbers that stand in bytes, one after another.
use Rattle.mxf_klv.proofs.Common.{◌≡◌, ℕ, ◌+◌, ◌^◌, ◌<◌, ◌≤◌, List, ◌++◌, length, take, drop, sym, ap, ◌∙◌, arith}
use Rattle.mxf_klv.proofs.Common.{append_assoc, length-append, take_at, drop_at, take-append-drop, length-take}
use Rattle.mxf_klv.proofs.Common.{AreBytes}
use Rattle.byteorder.specs.Endian.{big_number, big_bytes}
use Rattle.byteorder.specs.Numbers.{big_number-reads_back, length-bytes_high_first}
use Rattle.mxf_klv.proofs.RoundTrips.{bytes_again}

-- the number that bytes begin with, and the bytes after it
pub number_in_front : (n x : ℕ) (bytes front rest : List ℕ) → front ≡ take n bytes → rest ≡ drop n bytes
    → x ≡ big_number n front → n ≤ length bytes → AreBytes front → bytes ≡ big_bytes n x ++ rest
number_in_front n x bytes front rest f r is room h = grind (arith, bytes_again, length-take, take-append-drop)

-- two numbers at the front of one text are one
pub same_number : (n x y : ℕ) (xs ys : List ℕ) → x < 256 ^ n → y < 256 ^ n → big_bytes n x ++ xs ≡ big_bytes n y ++ ys
    → (x ≡ y) × (xs ≡ ys)
same_number n x y xs ys p q e = (
  sym (big_number-reads_back n x xs p) ∙ ap (big_number n) e ∙ big_number-reads_back n y ys q,
  sym (drop_at (big_bytes n x) xs n (length-bytes_high_first n x)) ∙ ap (drop n) e
      ∙ drop_at (big_bytes n y) ys n (length-bytes_high_first n y),
)

-- what is written after the first bytes of a buffer
pub number_written : (n x at : ℕ) (old more post : List ℕ) → at ≤ length old
    → take (at + n) (take at old ++ ((big_bytes n x ++ more) ++ post)) ≡ take at old ++ big_bytes n x
number_written n x at old more post room =
    grind (arith, append_assoc, length-append, length-bytes_high_first, length-take, take_at)
