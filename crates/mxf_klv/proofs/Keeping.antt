-- What a note keeps has the length that its key and length say.
use Rattle.mxf_klv.proofs.Common.{◌≡◌, ℕ, length, cond, ◌∙◌, sym, refl, cond-true, cond-false, keeps}
use Rattle.mxf_klv.specs.declared.note.held.KeptValue.{KeptValue}
use Rattle.mxf_klv.specs.declared.note.held.KeptValue.TheVariants.{Whole, Digest, Head}
use Rattle.mxf_klv.specs.KeptValue.{front_of, kept_bytes, is_whole, IsKeptBy}

pub length-kept_bytes : (k : KeptValue) (len : ℕ) → IsKeptBy k len
    → length (kept_bytes k) ≡ cond (is_whole k) (cond (keeps (front_of k).key len) len 32) 0
length-kept_bytes (Whole f v) len h = h.1 ∙ sym (cond-true _ _ _ h.0)
length-kept_bytes (Digest f d) len h = h.1 ∙ sym (cond-false _ _ _ h.0)
length-kept_bytes (Head f) len h = refl
