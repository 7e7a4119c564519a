use Rattle.std.proofs.Common.{arith}
use Rattle.mxf_catalogue.proofs.PartLaws.{length-parts}
use Rattle.mxf_catalogue.proofs.catalogue.note_lists.NoteLists.len.Goals as goal

pub returns : goal.returns
returns c =
    let lists = c.args.self.now in
    let both = length-parts lists.undisputed.items lists.disputed.items c.requires in
    omega (arith, both, c.len.ensures, c.len-2.ensures, lists.undisputed.ok.0, lists.disputed.ok.0)
