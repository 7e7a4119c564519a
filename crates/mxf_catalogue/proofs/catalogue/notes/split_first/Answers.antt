use Rattle.std.proofs.Common.{sym}
use Rattle.mxf_catalogue.proofs.MergeLaws.{union_of-right, union_of-less, union_of-same, union_of-greater}
use Rattle.mxf_catalogue.proofs.catalogue.notes.split_first.Goals as goal

pub returns-in_default-clause-first : goal.returns-in_default-clause-first
returns-in_default-clause-first c =
    union_of-right c.in_ok-b.b.now _ _ c.in_ok-b.after_b.now c.in_default.ensures.cases c.in_ok-b.ensures.cases.0
    c.requires.right

pub returns-in-Less-clause-first : goal.returns-in-Less-clause-first
returns-in-Less-clause-first c =
    let left = c.in-Some.ensures.cases.0 in
    let right = c.in-Some-split_first.ensures.cases.0 in
    union_of-less _ _ _ _ _ _ left right (sym c.in-Less.ensures) c.requires.left c.requires.right

pub returns-in-Equal-clause-first : goal.returns-in-Equal-clause-first
returns-in-Equal-clause-first c =
    let left = c.in-Some.ensures.cases.0 in
    let right = c.in-Some-split_first.ensures.cases.0 in
    union_of-same _ _ _ _ _ _ left right (sym c.in-Equal.ensures) c.requires.left c.requires.right

pub returns-in-Greater-clause-first : goal.returns-in-Greater-clause-first
returns-in-Greater-clause-first c =
    let left = c.in-Some.ensures.cases.0 in
    let right = c.in-Some-split_first.ensures.cases.0 in
    union_of-greater _ _ _ _ _ _ left right (sym c.in-Greater.ensures) c.requires.left c.requires.right
