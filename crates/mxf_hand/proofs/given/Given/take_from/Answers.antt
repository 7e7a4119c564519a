use Rattle.std.proofs.Common.{◌≡◌, ◌+◌, ◌≤◌, ◌++◌, ◌∙◌, ℕ, List, take, ap, arith, subst}
use Rattle.std.proofs.lemmas.List.{take-append-le}
use Rattle.mxf_read.specs.Coming.{HasTaken}
use Rattle.mxf_hand.specs.Given.{bytes_between}
use Rattle.mxf_hand.proofs.NotingLaws.{left_less, same_packet}
use Rattle.mxf_hand.proofs.ReadBytes.{front_len, so_far_more}
use Rattle.mxf_hand.proofs.given.Given.take_from.Goals as goal

pub reads-preserved : goal.reads-preserved
reads-preserved g c =
    let (done, told, from, count, same, taken, so_far) = c.reads.invariant in
    let n = c.in_ok-count.count in
    let room = c.read_step_at.new.room in
    let part = take n room in
    let now : HasTaken c.take.new.self (done ++ part) =
    subst (λ (t : List ℕ). HasTaken c.take.new.self (done ++ t))
    (take-append-le n room _ c.in_ok-count.ensures.room) (c.in_ok-take.ensures.taken done taken) in
    let less : c.take.new.self.left + n ≡ c.reads.value.left =
    left_less c.reads.value c.take.new.self done part n c.take.ensures.same taken now
    (front_len n room c.in_ok-count.ensures.room) in
    let end : c.reads.at + n ≤ c.args.at + c.args.value.now.left = omega (arith, less, count) in (
      done ++ part,
      c.in_ok-count.ensures.told ∙ told,
      omega (arith, from),
      omega (arith, less, count),
      same_packet c.args.value.now c.reads.value c.take.new.self same c.take.ensures.same,
      now,
      so_far_more (g.S.Sources.told c.reads.sources) (g.S.Sources.told c.args.sources.now) c.args.self.now.extents
          c.args.at (c.args.at + c.args.value.now.left) c.reads.at n done part told from end so_far
          c.in_ok-count.ensures.bytes,
    )

pub returns-clause-taken : goal.returns-clause-taken
returns-clause-taken g c = λ given byte are of.
    let (done, told, from, count, same, taken, so_far) = c.reads.invariant in
    let left = c.left.ensures in
    let none = c.reads-test.false in
    let end : c.reads.at ≡ c.args.at + c.args.value.now.left = omega (arith, count, left, none) in
    subst (HasTaken c.reads.value) (so_far given byte are of ∙ ap (bytes_between byte c.args.at) end) taken
