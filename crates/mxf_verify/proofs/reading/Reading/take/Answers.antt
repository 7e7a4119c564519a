use Rattle.std.proofs.Common.{sym}
use Rattle.mxf_verify.proofs.ReadingLaws.{at_digested}
use Rattle.mxf_verify.proofs.TakingLaws.{taken_more}
use Rattle.mxf_verify.proofs.reading.Reading.take.Goals as goal

pub invariant_of-self : goal.invariant_of-self
invariant_of-self c = record {
  digested = at_digested c.args.self.now.comparison.candidates.items c.take.new.self.candidates.items
      c.args.self.now.next c.take.ensures.notes c.args.self.now.digested;
  nothing = c.args.self.now.nothing;
}

pub returns-clause-reads : goal.returns-clause-reads
returns-clause-reads c offset bytes notes h =
    c.compare_digests.ensures.ends offset bytes notes (sym h.compared.taken.at) (record {
      compared = record {
        apart = h.compared.apart;
        taken = taken_more offset bytes c.args.self.now.next notes _ _ c.args.bytes.now h.compared.taken
            c.take.ensures.candidates c.take.ensures.at;
        left = h.compared.left;
      };
      digest = h.digest;
    })
