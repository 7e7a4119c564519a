use Rattle.mxf_views.proofs.Common.{ℕ, sym, ap, refl, arith, drop, ◌∙◌, begins_as_label}
use Rattle.mxf_read.proofs.Starts.{key_stands, no_head_given, no_key}
use Rattle.mxf_read.proofs.range.may_begin.Goals as goal

pub returns-in_default : goal.returns-in_default
returns-in_default c = sym (no_head_given c.args.offset c.args.bytes.now _ c.in_default.ensures.none)

pub returns-then-is_start_key : goal.returns-then-is_start_key
returns-then-is_start_key c =
    let from = c.from.ensures in
    let width = c.width.ensures.width in
    let value = c.value.ensures in
    key_stands c.args.offset c.args.bytes.now _ _ _ _ _ c.in-Ok.ensures.head c.is_start_key.ensures
    c.if-is_start_key.true refl (c.begins_as_label.ensures ∙ ap begins_as_label (c.behind.ensures
    ∙ ap (λ (n : ℕ). drop n c.args.bytes.now) (omega arith)))

pub returns-else-is_start_key : goal.returns-else-is_start_key
returns-else-is_start_key c =
    no_key c.args.offset c.args.bytes.now _ _ _ c.in-Ok.ensures.head c.is_start_key.ensures c.if-is_start_key.false
