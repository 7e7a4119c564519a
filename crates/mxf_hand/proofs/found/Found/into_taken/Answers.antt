use Rattle.mxf_views.proofs.Common.{◌∙◌, List, [], ap, filter, map, sym, NoteParts, reduced_union}
use Rattle.mxf_read.proofs.Taking.{union_append}
use Rattle.mxf_hand.specs.Finding.{read_notes}
use Rattle.mxf_hand.specs.Rounds.{is_taken}
use Rattle.mxf_hand.specs.declared.found.CutHead.{CutHead}
use Rattle.mxf_hand.proofs.found.Found.into_taken.Goals as goal

pub returns : goal.returns
returns c = λ packets made heads found.
    let read = read_notes packets heads in
    let note = λ (cut : CutHead). cut.note in
    let taken = map note (filter (is_taken read) heads) in (
      found.read,
      c.in_ok-add_taken.ensures read found.starts
          ∙ ap (λ (l : List CutHead). reduced_union c.args.self.made (map note (filter (is_taken read) l))) found.cut
          ∙ ap (λ (l : List NoteParts). reduced_union l taken) found.put ∙ sym (union_append [] made taken),
    )
