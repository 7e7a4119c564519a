use Rattle.mxf_views.proofs.Common.{◌∙◌, ap, get_or, subst, sym, None, false, In, counted_above, In-at, set}
use Rattle.mxf_views.proofs.Common.{next_changed, next_unchanged}
use Rattle.mxf_klv.specs.declared.kinds.Status.TheVariants.{OpenIncomplete}
use Rattle.mxf_views.specs.declared.copy.CopyInfo.{CopyInfo}
use Rattle.mxf_views.proofs.kept.above.count_above.Goals as goal

pub counted_above-requires : goal.counted_above-requires
counted_above-requires c = λ start e.
    let s = c.args.sums.now in
    let f = λ (c' : CopyInfo). counted_above s.notes s.boundary c.args.starting c' c'.start in
    let i = c.loop-copy.copy-index in
    let old = c.args.copies.now in
    let d : CopyInfo = record {
      partition = 0;
      start = None;
      bytes = 0;
      covered = 0;
      finished = false;
      prefaces = 0;
      status = OpenIncomplete;
    } in
    let same = ap (λ l. get_or l i d) c.loop-copy.invariant ∙ next_unchanged f old d i c.loop-copy-test.true in
    c.requires _ start (subst (λ (y : CopyInfo). In y old) (sym same) (In-at old i d c.loop-copy-test.true)) e

pub loop-copy-preserved : goal.loop-copy-preserved
loop-copy-preserved c =
    let s = c.args.sums.now in
    let f = λ (c' : CopyInfo). counted_above s.notes s.boundary c.args.starting c' c'.start in
    let i = c.loop-copy.copy-index in
    let old = c.args.copies.now in
    let d : CopyInfo = record {
      partition = 0;
      start = None;
      bytes = 0;
      covered = 0;
      finished = false;
      prefaces = 0;
      status = OpenIncomplete;
    } in
    ap (set c.loop-copy.copies i) c.counted_above.ensures ∙ ap (λ l. set l i (f (get_or l i d))) c.loop-copy.invariant
    ∙ next_changed f old d i c.loop-copy-test.true
