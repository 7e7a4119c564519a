use Rattle.std.proofs.Common.{◌≡◌, ◌∙◌, ◌+◌, ◌-◌, ◌∷◌, [], List, ℕ, ap, sym, take}
use Rattle.std.proofs.lemmas.Bool.{cond-false, ne_eqb}
use Rattle.std.proofs.lemmas.List.{take_at}
use Rattle.byteorder.specs.Endian.{big_bytes}
use Rattle.byteorder.specs.Numbers.{length-bytes_high_first}
use Rattle.mxf_verify.proofs.agreement.spelling_of.Goals as goal

pub returns-then-width-eq1-clause-spelled : goal.returns-then-width-eq1-clause-spelled
returns-then-width-eq1-clause-spelled c =
    rw (sym c.width-width.ensures ∙ c.if-width-eq1.true) (ap (λ v. v ∷ []) c.length.ensures)

pub returns-clause-spelled : goal.returns-clause-spelled
returns-clause-spelled c =
    let width = c.args.note.now.width in
    let used = c.from-used.result in
    let value = c.length-2.result in
    let written : take used c.write_uint.new.buf ≡ big_bytes used value =
    ap (take used) c.write_uint.ensures ∙ take_at (big_bytes used value) _ used (length-bytes_high_first used value) in
    let fewer : used ≡ width - 1 = c.from-used.ensures ∙ ap (λ (w : ℕ). w - 1) c.width-width.ensures in
    ap (λ (digits : List ℕ). (127 + c.width-width.result) ∷ digits) written
    ∙ ap (λ (w : ℕ). (127 + w) ∷ big_bytes used value) c.width-width.ensures
    ∙ ap (λ (n : ℕ). (127 + width) ∷ big_bytes n value) fewer
    ∙ ap (λ (v : ℕ). (127 + width) ∷ big_bytes (width - 1) v) c.length-2.ensures
    ∙ sym (cond-false _ _ _ (ne_eqb width 1 (λ e. c.if-width-eq1.false (c.width-width.ensures ∙ e))))
