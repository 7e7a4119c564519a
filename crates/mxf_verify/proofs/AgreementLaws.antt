-- Agreement of bytes with what a note says of them, where they come in parts.
use Rattle.mxf_views.proofs.Common.{◌≡◌, ◌-◌, ℕ, Bool, true, false, ◌&&◌, ◌||◌, List, ◌++◌, length}
use Rattle.mxf_views.proofs.Common.{refl, arith, NoteParts, length_bytes, IsNote, spelled_len}
use Rattle.mxf_views.proofs.Common.{length_bytes-spelled}
use Rattle.std.proofs.Math.ListN.{length-append, length-drop}
use Rattle.mxf_verify.specs.Agreeing.{agrees_on, agrees_with}
use Rattle.mxf_verify.specs.Verifying.{front_bytes, front_size}
use Rattle.mxf_verify.proofs.ByteLaws.{agrees_append, drop_of_append}

-- key and length are as many bytes as the note says
pub front_length : (n : NoteParts) → IsNote n → length (front_bytes n) ≡ front_size n
front_length n is =
    let spelled = spelled_len (length_bytes n.width n.length) n.width n.length
    (length_bytes-spelled n.width n.length is.width) in
    omega (arith, length-append n.key (length_bytes n.width n.length), is.label.0)

regrouped : (a b k c d : Bool) → ((a && b) && (k || (c && d))) ≡ ((a && (k || c)) && (b && (k || d)))
regrouped true true true c d = refl
regrouped true true false true d = refl
regrouped true true false false d = refl
regrouped true false true c d = refl
regrouped true false false true d = refl
regrouped true false false false d = refl
regrouped false b k c d = refl

-- what follows bytes agrees with the note where it agrees with the rest of what is known
pub agrees_with_append : (n : NoteParts) (before more : List ℕ)
    → agrees_with n (before ++ more) ≡ (agrees_with n before && agrees_on n (length before) more)
unfolding agrees_with agrees_on
agrees_with_append n before more = grind (arith, agrees_append, drop_of_append, length-drop, regrouped)
