use Rattle.mxf_klv.proofs.Common.{◌∙◌, ap, sym, subst, List, NoteParts, In}
use Rattle.mxf_catalogue.specs.Content.{reduced_with, union_of}
use Rattle.mxf_catalogue.specs.Covers.{with_run}
use Rattle.mxf_catalogue.specs.NoteLists.{Covers}
use Rattle.mxf_catalogue.specs.Runs.{run}
use Rattle.mxf_catalogue.proofs.KeptLaws.{above_new, covers_with}
use Rattle.mxf_catalogue.proofs.catalogue.Catalogue.append.Goals as goal

pub append-requires-clause-above : goal.append-requires-clause-above
append-requires-clause-above c n h =
    let same = ap (λ l. union_of l c.self.inside.lists.disputed.items) c.in-Ok.ensures.items ∙ c.self.view_is in
    c.requires.above n (subst (λ (l : List NoteParts). In n l) same h)

pub invariant_of-self-2 : goal.invariant_of-self-2
invariant_of-self-2 c =
    let n = c.args.note in
    let cs = c.self.inside.lists.undisputed.items in
    let ds = c.self.inside.lists.disputed.items in
    let old = c.self.inside.spans in
    let new = union_of c.append.new.self.undisputed.items c.append.new.self.disputed.items in
    let all = c.append.ensures.content ∙ ap (λ l. reduced_with n (union_of l ds)) c.in-Ok.ensures.items in
    let runs = c.in-Ok-add.ensures.added
    ∙ (λ i. with_run (run (c.offset.ensures.offset i) (c.covered_end-end.ensures.covered i)) old) in
    record {
      kept = c.append.ensures.kept;
      covers = subst (λ r. Covers r new) (sym runs) (covers_with n cs ds new old c.self.invariant.kept.reduced
          (above_new n (union_of cs ds) (λ m h. c.requires.above m (subst (λ
          (l : List NoteParts). In m l) c.self.view_is h)))
          c.self.invariant.covers all);
    }
