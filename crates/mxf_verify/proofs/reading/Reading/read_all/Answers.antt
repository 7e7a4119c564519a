use Rattle.std.proofs.Common.{◌++◌, arith, inr, length-append}
use Rattle.std.proofs.KnownBytes.{Consumes-trans}
use Rattle.mxf_verify.proofs.ReadingLaws.{Reads-trans}
use Rattle.mxf_verify.proofs.reading.Reading.read_all.Goals as goal

pub reads-preserved : goal.reads-preserved
reads-preserved g c =
    let (done, consumed, read, at, within, wide) = c.reads.invariant in
    let s = c.in_ok-count.ensures in
    let both = length-append done s.more in (
      done ++ s.more,
      Consumes-trans _ _ _ done s.more consumed s.consumed,
      Reads-trans c.args.self.now c.reads.self c.read_some.new.self done s.more read s.reads,
      omega (arith, at, both, s.at, s.counted),
      s.within,
      c.widen.ensures,
    )

pub returns-then-count-eq0 : goal.returns-then-count-eq0
returns-then-count-eq0 g c =
    let (done, consumed, read, at, within, wide) = c.reads.invariant in
    let s = c.in_ok-count.ensures in
    let both = length-append done s.more in record {
      more = done ++ s.more;
      consumed = Consumes-trans _ _ _ done s.more consumed s.consumed;
      reads = Reads-trans c.args.self.now c.reads.self c.read_some.new.self done s.more read s.reads;
      at = omega (arith, at, both, s.at, s.counted);
      within = s.within;
      ended = inr (s.ended c.if-count-eq0.true);
    }
