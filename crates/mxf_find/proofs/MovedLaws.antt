-- A note that is moved.
use Rattle.mxf_klv.proofs.Common.{◌≡◌, ◌∙◌, ℕ, List, Bool, ap, length, subst, sym, true, Option, None, Some, is_some}
use Rattle.mxf_klv.proofs.Common.{IfNone, true≢false, CanNote, IsNote, keeps, NoteParts, note_parts, and_parts}
use Rattle.std.proofs.Common.{if◌then◌else◌}
use Rattle.mxf_klv.specs.Note.{keeps_value}
use Rattle.mxf_find.specs.Agreeing.{moved_to}

kept_length : (w k : Bool) (len : ℕ) → w ≡ true → k ≡ true → (if w then (if k then len else 32) else 0) ≡ len
kept_length w k len e f = cc

-- There is a note of a value that is kept, wherever it can be moved to.
pub can_keep : (n : NoteParts) (offset : ℕ) (v : List ℕ) → keeps_value n ≡ true → v ≡ n.held → IsNote n
    → IsNote (moved_to offset n) → CanNote (note_parts offset n.key n.width (length v) v) true
can_keep n offset v k e is there =
    let (whole, keep) = and_parts n.whole (keeps n.key n.length) k in
    let len : length v ≡ n.length =
    ap length e ∙ is.held ∙ kept_length n.whole (keeps n.key n.length) n.length whole keep in
    subst (λ (l : ℕ). CanNote (note_parts offset n.key n.width l v) true) (sym len) (there.width, there.within, keep)

-- Where something would be there, there is nothing only if that can't be.
pub no_note : {X : Type 0} (o : Option X) {P : Type 0} → (P → is_some o ≡ true) → IfNone o (P → ⊥)
no_note None f = λ p. true≢false (sym (f p))
no_note (Some x) f = tt
