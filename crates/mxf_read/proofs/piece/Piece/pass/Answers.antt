use Rattle.std.proofs.Common.{◌∙◌, sym}
use Rattle.mxf_read.proofs.Feeding.{passed_on, passing_now}
use Rattle.mxf_read.proofs.piece.Piece.pass.Goals as goal

pub returns-in_ok-go_on-in-Some : goal.returns-in_ok-go_on-in-Some
returns-in_ok-go_on-in-Some c = record {
  passed = λ x len scan o m fed.
      let p = c.args.self.now in
      let v = c.in-Some.value in
      let value = sym c.take.ensures.value ∙ c.in-Some.is in
      let now = passing_now p.stop p.value v c.args.count c.requires.within value c.if-count-eq0.false in
      c.in_ok-go_on-in-Some.ensures.fed scan o m x
      (record { taken_by = fed.knows.taken_by; notes = fed.knows.notes; at = fed.knows.at })
      (passed_on scan o m x p v c.pass.new.self fed now.goes_on value c.pass.ensures.same
      (λ k taken. c.pass.ensures.taken k x len taken));
}
