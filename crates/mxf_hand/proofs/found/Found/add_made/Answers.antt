use Rattle.std.proofs.Common.{refl}
use Rattle.mxf_hand.proofs.FindingLaws.{grow_made}
use Rattle.mxf_hand.proofs.found.Found.add_made.Goals as goal

pub returns : goal.returns
returns c =
    let f = c.args.self.now in
    grow_made f (record { packets = f.packets; made = c.add.new.self; heads = f.heads; starts = f.starts }) c.args.note
    refl c.in_ok-add.ensures.added refl refl
