use Rattle.std.proofs.Common.{◌≡◌, ◌+◌, List, ℕ, arith, subst, length, length-take, take}
use Rattle.std.proofs.lemmas.List.{take-append-le}
use Rattle.mxf_verify.specs.SourceReads.{Reads}
use Rattle.mxf_verify.proofs.reading.Reading.read_some.Goals as goal

pub returns : goal.returns
returns g c =
    let few = c.in_ok-count.ensures.room in
    let old = c.args.self.now in
    let new = c.take.new.self in
    let count = c.in_ok-count.count in
    let more = take count c.read_again.new.room in
    let came : Reads old new more × (new.comparison.at ≡ old.comparison.at + length more) =
    subst (λ (l : List ℕ). Reads old new l × (new.comparison.at ≡ old.comparison.at + length l))
    (take-append-le count c.read_again.new.room _ few) (c.take.ensures.reads, c.take.ensures.at) in
    let size = length-take count c.read_again.new.room in
    let room = length-take c.min-most.result c.args.room.now in
    let counted : length more ≡ count = omega (arith, size, few) in record {
      more = more;
      consumed = c.in_ok-count.ensures.consumed;
      reads = came.0;
      counted = counted;
      at = omega (arith, came.1, counted);
      within = omega (arith, counted, room, came.1, few, c.min-most.ensures, c.read_again.auto.room);
      ended = c.in_ok-count.ensures.ended;
    }
