use Rattle.std.proofs.Common.{◌++◌, List, [], append-nil, map, refl}
use Rattle.mxf_hand.specs.declared.found.CutHead.{CutHead}
use Rattle.mxf_read.specs.Feeding.{option_list}
use Rattle.mxf_hand.proofs.FindingLaws.{grow_twice, same_growth}
use Rattle.mxf_hand.proofs.found.Found.add_reading.Goals as goal

pub returns : goal.returns
returns c =
    let old = c.args.self.now in
    let mid = c.add_packets.new.self in
    let new = c.add_head.new.self in
    let notes = c.args.reading.notes in
    let cut : List CutHead =
    map (λ n. record { note = n; hole_end = c.args.hole_end }) (option_list c.args.reading.head) in
    same_growth old new (notes ++ []) notes [] [] cut cut (append-nil notes) refl refl
    (grow_twice old mid new notes [] [] [] [] cut c.in_ok-add_packets.ensures c.in_ok-add_head.ensures)
