use Rattle.mxf_views.proofs.Common.{◌≡◌, ◌+◌, ◌∙◌, ℕ, Bool, ap, arith, subst, covered_end, end_of, note_of}
use Rattle.mxf_views.proofs.Common.{packet_parts}
use Rattle.mxf_views.proofs.Common.{LengthParts}
use Rattle.mxf_read.specs.Coming.{HasTaken}
use Rattle.mxf_read.specs.ValueSoFar.{noted_if}
use Rattle.mxf_hand.specs.Given.{bytes_between}
use Rattle.mxf_read.proofs.ComingLaws.{some_where}
use Rattle.mxf_hand.proofs.NotingLaws.{can_spell, covered_head, head_length, taken_note}
use Rattle.mxf_hand.proofs.given.Given.read_packet_of.Goals as goal

pub unwrap-ber-requires : goal.unwrap-ber-requires
unwrap-ber-requires g c = some_where c.new.result _ _ c.new.ensures
    (can_spell c.args.head.now c.width.result c.length.result c.offset-offset.ensures.note c.width.ensures
    c.length.ensures)

pub returns-clause-note : goal.returns-clause-note
returns-clause-note g c = λ given byte are of.
    let head = c.args.head.now in
    let v = c.in_ok-value.value in
    let w = c.take_from.new.value in
    let made = c.in_ok-value.ensures in
    let same = c.take_from.ensures.same in
    let length = head_length c.width.result c.length.result c.new.result c.unwrap-ber.result c.unwrap-ber.ensures
    c.new.ensures in
    let size : v.ber.value ≡ c.length.result = ap (λ (l : LengthParts). l.value) made.length ∙ length.1 in
    let count = made.none.counted in
    let at = c.covered_end.ensures.covered in
    let from = covered_head head c.requires.head in
    let end : c.covered_end.result + v.left ≡ end_of head = omega (arith, size, count, at, from, c.length.ensures) in
    let all : HasTaken w (bytes_between byte (covered_end head) (end_of head)) =
    subst (λ (k : ℕ). HasTaken w (bytes_between byte k (end_of head))) at
    (subst (λ (k : ℕ). HasTaken w (bytes_between byte c.covered_end.result k)) end
    (c.in_ok-take_from.ensures.taken given byte are (λ x b l m. of x b (omega (arith, at)) (omega (arith, end))))) in
    let value = bytes_between byte (covered_end head) (end_of head) in
    taken_note head c.into_note.result w _ (same.offset ∙ made.offset ∙ c.offset-offset.ensures.offset)
    (same.key ∙ made.key ∙ c.key.ensures)
    (ap (λ (l : LengthParts). l.width) (same.spelled ∙ made.length) ∙ length.0 ∙ c.width.ensures)
    (c.into_note.ensures value all ∙ ap (λ (b : Bool). noted_if b (note_of w.offset
    (packet_parts w.key w.ber.width value))) (same.passing ∙ made.read))
