use Rattle.mxf_klv.proofs.Common.{List, ◌++◌, ◌∙◌, ℕ, ap, append_assoc, string_bytes, sym, flat_map-append, chars_rest}
use Rattle.std.specs.Char.{encode_utf8}
use Rattle.mxf_forms.specs.Forms.{escaped, escaped_character}
use Rattle.mxf_forms.proofs.field_writer.append_escaped.Goals as goal

pub loop-c-preserved : goal.loop-c-preserved
loop-c-preserved c =
    let line = string_bytes c.loop-c.line in
    let one = encode_utf8 c.in-Some.c in
    let rest = chars_rest c.next.new.self in
    ap (λ (l : List ℕ). l ++ escaped rest) c.in_ok-append_character.ensures
    ∙ append_assoc line (escaped one) (escaped rest)
    ∙ ap (λ (l : List ℕ). line ++ l) (sym (flat_map-append escaped_character one rest))
    ∙ ap (λ (l : List ℕ). line ++ escaped l) (sym c.in-Some.ensures.steps.0) ∙ c.loop-c.invariant
