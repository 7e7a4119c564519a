use Rattle.mxf_klv.proofs.Common.{◌≡◌, ◌∙◌, ◌++◌, List, ap, append-nil, sym, subst, NoteParts}
use Rattle.mxf_catalogue.specs.Content.{IsContent, union_of}
use Rattle.mxf_catalogue.proofs.ContentLaws.{IsContent-union_of}
use Rattle.mxf_catalogue.proofs.catalogue.merging.merged.Goals as goal

all_moved : (c : goal.After-drop-note-iterator-inside-2)
    → c.loop-note.room.items ≡ union_of c.args.left.items c.args.right.items
all_moved c =
    let moved = c.loop-note.room.items in
    sym (append-nil moved) ∙ sym (ap (λ (l : List NoteParts). moved ++ l) c.in-None.ensures.steps.0)
    ∙ c.loop-note.invariant.notes

pub returns-clause-notes : goal.returns-clause-notes
returns-clause-notes c = all_moved c

pub returns-clause-content : goal.returns-clause-content
returns-clause-content c =
    subst IsContent (sym (all_moved c)) (IsContent-union_of c.args.left.items c.args.right.items c.requires.left)
