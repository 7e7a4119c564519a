use Rattle.mxf_views.proofs.Common.{◌∙◌, ◌&&◌, Bool, ap, bytes_eq, list_any, not, sym}
use Rattle.mxf_doubts.specs.Tracks.{named_tracks}
use Rattle.mxf_doubts.proofs.TableLaws.{any_listed, none_listed}
use Rattle.mxf_doubts.proofs.tracks.is_no_track.Goals as goal

pub returns-then-not-is_empty : goal.returns-then-not-is_empty
returns-then-not-is_empty c = λ notes are.
    let tracks = named_tracks notes in
    let some = any_listed c.args.numbers.now.keys tracks are (λ none.
    let empty = c.is_empty.ensures.1 none in
    let full = c.if-not-is_empty.true in
    cc (empty, full)) in
    ap not (c.contains.ensures ∙ are c.args.number)
    ∙ ap (λ (b : Bool). b && not (list_any (bytes_eq c.args.number) tracks)) (sym some)

pub returns-else-not-is_empty : goal.returns-else-not-is_empty
returns-else-not-is_empty c = λ notes are.
    let tracks = named_tracks notes in
    let none = none_listed c.args.numbers.now.keys tracks are (c.is_empty.ensures.0 c.if-not-is_empty.false) in
    ap not c.if-not-is_empty.false ∙ ap (λ (b : Bool). b && not (list_any (bytes_eq c.args.number) tracks)) (sym none)
