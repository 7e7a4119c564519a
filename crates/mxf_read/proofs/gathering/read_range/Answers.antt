use Rattle.mxf_views.proofs.Common.{◌≡◌, ◌∙◌, ◌+◌, length, List, [], None, IfSome, take, sym, ap, subst, NoteParts}
use Rattle.mxf_views.proofs.Common.{reduced_union}
use Rattle.mxf_read.specs.Gathering.{piece_limit}
use Rattle.mxf_read.specs.Ranges.{no_start, range_notes, start_in}
use Rattle.mxf_skim.specs.declared.scan.Scan.TheVariants.{Full}
use Rattle.mxf_read.proofs.RangeLaws.{left_unread, nothing_noted, nothing_told, start_left}
use Rattle.mxf_read.proofs.SkimPieces.{begun, range_scanned, range_told}
use Rattle.mxf_read.proofs.gathering.read_range.Goals as goal

pub returns-in_default-clause-report : goal.returns-in_default-clause-report
returns-in_default-clause-report g c =
    let window = c.read_up_to.new.bytes.items in
    let none : start_in c.args.offset window ≡ None =
    ap (start_in c.args.offset) (sym c.deref.ensures.value) ∙ sym c.start_of.ensures.start ∙ c.in_default.is in
    nothing_told (g.R.Read.remaining c.args.from.now) c.args.part c.args.offset window c.no_start-report.result
    c.in_ok-read_up_to.ensures.bytes none (c.no_start-report.ensures ∙ ap (no_start c.args.offset) (c.len.ensures
    ∙ sym c.deref.ensures.len ∙ ap length c.deref.ensures.value))

pub returns-in_default-clause-notes : goal.returns-in_default-clause-notes
returns-in_default-clause-notes g c =
    let window = c.read_up_to.new.bytes.items in
    let none : start_in c.args.offset window ≡ None =
    ap (start_in c.args.offset) (sym c.deref.ensures.value) ∙ sym c.start_of.ensures.start ∙ c.in_default.is in
    subst (λ (notes : List NoteParts). IfSome (g.R.Read.remaining c.args.from.now) (λ all.
    notes ≡ reduced_union [] (range_notes c.args.offset (take piece_limit all)))) (sym c.new.ensures)
    (nothing_noted (g.R.Read.remaining c.args.from.now) c.args.offset window c.in_ok-read_up_to.ensures.bytes none)

pub returns-in_default-clause-left : goal.returns-in_default-clause-left
returns-in_default-clause-left g c =
    left_unread (g.R.Read.remaining c.args.from.now) (g.R.Read.remaining c.read_up_to.new.from) c.args.offset
    c.read_up_to.new.bytes.items c.in_ok-read_up_to.ensures.bytes c.in_ok-read_up_to.ensures.left

pub returns-clause-report : goal.returns-clause-report
returns-clause-report g c =
    let begun = begun (g.R.Read.remaining c.args.from.now) (g.R.Read.remaining c.read_up_to.new.from) c.args.offset
    c.in-Some.start c.read_up_to.new.bytes.items c.deref.result.now c.deref-2.result.now
    c.in_ok-read_up_to.ensures.bytes c.in_ok-read_up_to.ensures.left c.in_ok-read_up_to.ensures.bound
    c.deref.ensures.value (sym c.start_of.ensures.start ∙ c.in-Some.is) c.in-Some.ensures.within.0
    c.deref-2.ensures.value in
    let fed = c.in_ok-feed.ensures.fed Full (c.args.offset + c.in-Some.start) [] c.new-piece.ensures in
    range_told _ _ c.args.part c.args.offset c.in-Some.start c.len-2.result c.read_up_to.new.bytes.items _
    c.in_ok-notes.report begun (c.len-2.ensures ∙ sym c.deref-2.ensures.len ∙ ap length c.deref-2.ensures.value)
    (c.in_ok-notes.ensures.report _ _ fed)

pub returns-clause-notes : goal.returns-clause-notes
returns-clause-notes g c =
    let begun = begun (g.R.Read.remaining c.args.from.now) (g.R.Read.remaining c.read_up_to.new.from) c.args.offset
    c.in-Some.start c.read_up_to.new.bytes.items c.deref.result.now c.deref-2.result.now
    c.in_ok-read_up_to.ensures.bytes c.in_ok-read_up_to.ensures.left c.in_ok-read_up_to.ensures.bound
    c.deref.ensures.value (sym c.start_of.ensures.start ∙ c.in-Some.is) c.in-Some.ensures.within.0
    c.deref-2.ensures.value in
    let fed = c.in_ok-feed.ensures.fed Full (c.args.offset + c.in-Some.start) [] c.new-piece.ensures in
    range_scanned Full _ _ c.args.offset c.in-Some.start c.len-2.result c.read_up_to.new.bytes.items _
    c.in_ok-notes.notes begun (c.len-2.ensures ∙ sym c.deref-2.ensures.len ∙ ap length c.deref-2.ensures.value)
    (c.in_ok-notes.ensures.notes _ _ fed)

pub returns-clause-left : goal.returns-clause-left
returns-clause-left g c =
    start_left (g.R.Read.remaining c.args.from.now) _ c.args.offset c.in-Some.start c.read_up_to.new.bytes.items
    c.in_ok-read_up_to.ensures.bytes
    (ap (start_in c.args.offset) (sym c.deref.ensures.value) ∙ sym c.start_of.ensures.start ∙ c.in-Some.is)
