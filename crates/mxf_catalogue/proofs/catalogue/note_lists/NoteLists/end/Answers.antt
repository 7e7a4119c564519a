use Rattle.mxf_klv.proofs.Common.{◌↔◌, ◌<◌, ◌≤◌, ℕ, List, subst, sym, end_of, NoteParts, In}
use Rattle.mxf_catalogue.specs.declared.run.Run.{Run}
use Rattle.mxf_catalogue.specs.Content.{union_of}
use Rattle.mxf_catalogue.specs.NoteLists.{StandApart}
use Rattle.mxf_catalogue.specs.Runs.{LiesIn}
use Rattle.mxf_catalogue.proofs.KeptLaws.{end_of_parts}
use Rattle.mxf_catalogue.proofs.PartLaws.{apart_of}
use Rattle.mxf_catalogue.proofs.catalogue.note_lists.NoteLists.end.Goals as goal

pub last_end-requires-clause-apart : goal.last_end-requires-clause-apart
last_end-requires-clause-apart c =
    subst StandApart (sym c.deref-2.ensures.value) (apart_of _ c.args.self.now.disputed.items c.requires.parts)

pub returns : goal.returns
returns c = λ bound.
    let lists = c.args.self.now in
    let ends : ℕ → List NoteParts → Type 0 = λ e notes. e ≤ bound ↔ ((n : NoteParts) → In n notes → end_of n ≤ bound) in
    let one = subst (ends c.last_end.result) c.deref-2.ensures.value (c.last_end.ensures bound) in
    let two = subst (λ (runs : List Run). c.last_end-disputed.result ≤ bound
    ↔ ((offset : ℕ) → LiesIn runs offset → offset < bound)) c.deref.ensures.value (c.last_end-disputed.ensures bound) in
    subst (λ (e : ℕ). ends e (union_of lists.undisputed.items lists.disputed.items)) (sym c.max.ensures)
    (end_of_parts lists.undisputed.items lists.disputed.items lists.disputed_spans.items
    c.requires c.last_end.result c.last_end-disputed.result bound one two)
