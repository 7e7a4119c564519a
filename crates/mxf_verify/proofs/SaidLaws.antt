-- What candidates say of their notes after a source was read.
use Rattle.mxf_views.proofs.Common.{◌≡◌, ◌↔◌, ◌+◌, ◌&&◌, ◌||◌, not, ℕ, true, IsTrue, List, length}
use Rattle.mxf_views.proofs.Common.{cond, ap, arith, and_from, and_parts, false≢true}
use Rattle.mxf_views.proofs.Common.{length-drop, take_all, bytes_eq-Decides, bytes_eq, NoteParts, IsNote, keeps}
use Rattle.mxf_views.proofs.Common.{keeps_value}
use Rattle.sha2.specs.Sha256.{sha256}
use Rattle.mxf_verify.specs.Agreeing.{agrees, agrees_with}
use Rattle.mxf_verify.specs.Taking.{has_digest}
use Rattle.mxf_verify.specs.Verifying.{IsSaidBy, IsValueOf, front_size, held_size, is_digested}
use Rattle.mxf_verify.proofs.AgreementLaws.{front_length}
use Rattle.mxf_verify.proofs.CandidateLaws.{front_within}
use Rattle.mxf_verify.proofs.ByteLaws.{agrees_whole}

-- as much is kept of a value as there is
kept_length : (n : NoteParts) → IsNote n → keeps_value n ≡ true → length n.held ≡ n.length
kept_length n is kept = grind (arith, and_parts, keeps, cond)

whole_size : (n : NoteParts) → n.whole ≡ true → held_size n ≡ front_size n + n.length
whole_size n whole = ap (λ b. cond b (front_size n + n.length) (front_size n)) whole

-- a value that was kept is there where it agrees
value_kept : (n : NoteParts) (value : List ℕ) → length n.held ≡ length value
    → (agrees n.held value ≡ true) ↔ (value ≡ n.held)
value_kept n value e = grind (arith, agrees_whole, take_all)

-- the tests of a value say whether it is the one that the note knows
value_told : (n : NoteParts) (value : List ℕ) → IsNote n → (IsTrue n.whole → length value ≡ n.length)
    → (((not (keeps_value n) || agrees n.held value) ≡ true)
    × ((not (n.whole && not (keeps_value n)) || bytes_eq (sha256 value) n.held) ≡ true))
    ↔ (IsTrue n.whole → IsValueOf n value)
value_told n value is size = grind (arith, bytes_eq-Decides, and_parts, value_kept, kept_length, false≢true)

-- all that was compared is as the note says where the bytes are
pub said_told : (n : NoteParts) (bytes : List ℕ) → IsNote n → length bytes ≡ held_size n
    → IsTrue (agrees_with n bytes && (not (is_digested n) || has_digest n bytes)) ↔ IsSaidBy n bytes
unfolding agrees_with is_digested has_digest
said_told n bytes is size =
    grind (arith, front_length, front_within, agrees_whole, length-drop, whole_size, value_told, and_parts, and_from)
