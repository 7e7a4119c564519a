use Rattle.mxf_klv.proofs.Common.{◌≡◌, ◌∙◌, ◌&&◌, false, not, subst, sym, true, IfNone, true≢false, and_from, not-false}
use Rattle.mxf_find.specs.Telling.{IsNoneOf}
use Rattle.mxf_find.specs.Votes.{voted_by}
use Rattle.mxf_find.proofs.TellerLaws.{either_false, or_false}
use Rattle.mxf_find.proofs.VoteLaws.{length_vote, no_length, untold_length, whole_length}
use Rattle.std.proofs.lemmas.Bool.{not-true}
use Rattle.mxf_find.proofs.recording.Recording.voted_by_length.Goals.{then-is_head, else-is_head}
use Rattle.mxf_find.proofs.recording.Recording.voted_by_length.Goals as goal

pub returns-then-not-tells-clause-none : goal.returns-then-not-tells-clause-none
returns-then-not-tells-clause-none c =
    untold_length c.args.tells c.args.self.now c.args.note.now (not-true _ c.if-not-tells.true)

pub returns-in_err-other-clause-none : goal.returns-in_err-other-clause-none
returns-in_err-other-clause-none c = subst (λ o. IfNone o (IsNoneOf (λ n. not (c.args.note.now.whole && n.whole)
    && voted_by c.args.tells c.args.self.now c.args.note.now n) c.args.self.now)) (sym c.from_residual.ensures)
    (no_length c.args.tells c.args.self.now c.args.note.now c.in_err-other.ensures.none)

pub returns-then-is_head-2-clause-some : goal.returns-then-is_head-2-clause-some
returns-then-is_head-2-clause-some c =
    let p = c.args.note.now in
    let n = c.in_ok-other.other.now in
    let head : (p.whole && n.whole) ≡ false = elim c.if-is_head.branch [
      | then-is_head w ↦ either_false _ _ (not-true p.whole (sym w.if-is_head.ensures))
      | else-is_head w ↦ or_false _ _ (not-true n.whole
          (sym w.is_head-else-is_head.ensures ∙ sym w.value-is ∙ c.if-is_head-2.true))
    ] in
    length_vote c.args.tells c.args.self.now p n (not-false _ c.if-not-tells.false) head c.in_ok-other.ensures.some

pub returns-else-is_head-2-clause-none : goal.returns-else-is_head-2-clause-none
returns-else-is_head-2-clause-none c =
    let p = c.args.note.now in
    let n = c.in_ok-other.other.now in
    let whole : (p.whole && n.whole) ≡ true = elim c.if-is_head.branch [
      | then-is_head w ↦ absurd (true≢false (sym w.if-is_head.true ∙ sym w.value-is ∙ c.if-is_head-2.false))
      | else-is_head w ↦ and_from _ _ (not-false p.whole (sym w.if-is_head.ensures)) (not-false n.whole
          (sym w.is_head-else-is_head.ensures ∙ sym w.value-is ∙ c.if-is_head-2.false))
    ] in
    whole_length c.args.tells c.args.self.now p n whole c.in_ok-other.ensures.some
