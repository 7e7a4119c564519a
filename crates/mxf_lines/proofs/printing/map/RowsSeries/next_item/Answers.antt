use Rattle.std.proofs.Common.{◌∙◌, ◌≡◌, ◌+◌, ◌-◌, ◌*◌, ◌<◌, ◌∷◌, List, ℕ, ap, arith, decimal, drop, length, min, sym}
use Rattle.std.proofs.Common.{take}
use Rattle.std.proofs.lemmas.List.{length-drop}
use Rattle.mxf_map.specs.declared.map.Mark.{Mark}
use Rattle.mxf_lines.specs.MapLines.{row_line, rows_of}
use Rattle.mxf_lines.proofs.MapLineLaws.{first_row, some_left}
use Rattle.mxf_lines.proofs.printing.map.RowsSeries.next_item.Goals as goal

pub returns : goal.returns
returns c =
    let s = c.args.self.now in
    let more : 0 < length s.left.now = some_left s.left.now (sym c.is_empty.ensures ∙ c.if-is_empty.false) in
    let count : c.min-count.result ≡ min s.columns (length s.left.now) = c.min-count.ensures in
    let offset : c.offset_of-offset.result ≡ s.passed * s.cell = c.offset_of-offset.ensures in
    let spaces : c.saturating_sub.result ≡ s.width - length (decimal (s.passed * s.cell)) =
    c.saturating_sub.ensures ∙ ap (λ d. s.width - d) (c.digits_of.ensures ∙ ap (λ n. length (decimal n)) offset) in
    let front = c.split_at.ensures.front ∙ ap (λ (k : ℕ). take k s.left.now) count in
    let back = c.split_at.ensures.back ∙ ap (λ (k : ℕ). drop k s.left.now) count in
    let left = length-drop (min s.columns (length s.left.now)) s.left.now in
    let behind = ap (λ (l : List Mark). length l) back in (
      omega (arith, left, behind, more, s.some),
      first_row s.columns s.cell s.width s.passed s.left.now s.some more
          ∙ sym (λ i. row_line (spaces i) (offset i) (front i)
          ∷ rows_of s.columns s.cell s.width (s.passed + count i) (back i)),
    )
