use Rattle.mxf_views.proofs.Common.{◌≡◌, ◌-◌, ◌+◌, ◌⊎◌, ◌∷◌, ◌++◌, ℕ, [], ap, arith, length, subst, sym}
use Rattle.mxf_views.proofs.Common.{is_preface_note, tally_fits}
use Rattle.mxf_views.specs.Spans.{size_of}
use Rattle.mxf_views.proofs.MarkLaws.{AreCounted, counted_next}
use Rattle.mxf_views.proofs.SpanCounts.{sizes_more}
use Rattle.mxf_views.proofs.kept.sums.put_marks.Goals as goal

pub loop-note-preserved : goal.loop-note-preserved
loop-note-preserved c =
    let all = c.args.notes in
    let marks = c.loop-note.marks.items in
    let next = c.put_mark.new.marks.items in
    let covered = c.loop-note.covered in
    let prefaces = c.loop-note.prefaces in
    let n = c.in-Some.note.now in
    let left = c.loop-note.note-iterator in
    let rest = c.next.new.self in
    let inv = c.loop-note.invariant in
    let e = c.in-Some.ensures.steps in
    let offset = c.offset-offset.ensures.offset in
    let end = c.end.ensures in
    let tally = c.tally-prefaces.ensures in
    let len = ap length e in
    let one = tally_fits (is_preface_note n) in
    let m = sizes_more covered n left rest e inv.1 in
    let size : c.end.result - c.offset-offset.result ≡ size_of n = λ i. end i - offset i in
    let put = subst (λ (o : ℕ). (next ≡ marks)
    ⊎ (next ≡ marks ++ (record { offset = o; covered = covered; prefaces = prefaces }) ∷ [])) offset c.put_mark.ensures
    in
    let counted = counted_next all marks covered prefaces n left rest c.requires.apart inv.0 e next put in (
      subst (λ (s : ℕ). AreCounted all next (covered + s) (prefaces + c.tally-prefaces.result) rest) (sym size)
          (subst (λ (t : ℕ). AreCounted all next (covered + size_of n) (prefaces + t) rest) (sym tally) counted),
      rw (end, offset) m.1,
      omega (arith, len, one, tally, inv.2),
      omega (arith, len, inv.3),
    )
