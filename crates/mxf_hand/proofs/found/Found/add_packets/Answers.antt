use Rattle.mxf_hand.proofs.FindingLaws.{grow_packets}
use Rattle.std.proofs.Common.{refl}
use Rattle.mxf_hand.proofs.found.Found.add_packets.Goals as goal

pub returns : goal.returns
returns c =
    let f = c.args.self.now in
    grow_packets f (record {
      packets = c.merge.new.self;
      made = f.made;
      heads = f.heads;
      starts = c.add_starts.new.starts;
    }) c.args.notes c.in-Ok.ensures.merged refl refl c.in_ok-add_starts.ensures
