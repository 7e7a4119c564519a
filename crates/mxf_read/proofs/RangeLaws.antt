-- What was read of a range tells of all that its reader gives.
use Rattle.mxf_views.proofs.Common.{◌≡◌, ℕ, ◌+◌, List, [], ◌∷◌, ◌++◌, length, take, drop, Option, Some}
use Rattle.mxf_views.proofs.Common.{None, refl, sym, ap, subst, ◌∙◌, arith, option_map_or, Consumes}
use Rattle.mxf_views.proofs.Common.{take-take, NoteParts, heads_at, head_at}
use Rattle.mxf_views.proofs.Common.{notes_in, packets_in, rest_in, reduced_union, New, Absorb}
use Rattle.std.specs.Prelude.{IfSome, IsSome, unwrap_or}
use Rattle.mxf_read.specs.declared.report.Report.{Report}
use Rattle.mxf_read.specs.declared.gathering.part.Part.TheVariants.{Range}
use Rattle.mxf_read.specs.declared.gathering.report.PieceReport.{PieceReport}
use Rattle.mxf_read.specs.Absorbs.{report_of}
use Rattle.mxf_read.specs.Levels.{Adds}
use Rattle.mxf_read.specs.Gathering.{TakesPart, Tells, piece_limit, piece_of}
use Rattle.mxf_read.specs.Ranges.{LeavesTheRest, no_start, piece_bytes, piece_offset, range_notes, range_report}
use Rattle.mxf_read.specs.Ranges.{start_in, window_limit, window_of}
use Rattle.mxf_read.proofs.Starts.{no_start_is}

abbrev reported : ℕ → ℕ → Report → PieceReport
reported part offset report = record { part = part; offset = offset; report = report }

-- the window of the bytes that are read is that of all
pub same_window : (all window : List ℕ) → window ≡ take window_limit all → window_of (take piece_limit all) ≡ window
same_window all window w = take-take window_limit piece_limit all (omega arith) ∙ sym w

-- ---- without a start

no_notes : (offset : ℕ) → notes_in offset [] ≡ []
unfolding packets_in rest_in heads_at head_at
no_notes offset = refl

pub nothing_noted : (old : Option (List ℕ)) (offset : ℕ) (window : List ℕ)
    → IfSome old (λ all. window ≡ take window_limit all) → start_in offset window ≡ None
    → IfSome old (λ all. [] ≡ reduced_union [] (range_notes offset (take piece_limit all)))
nothing_noted None offset window w s = tt
nothing_noted (Some all) offset window w s =
    let bytes = take piece_limit all in
    let none : start_in offset (window_of bytes) ≡ None = ap (start_in offset) (same_window all window w) ∙ s in
    let same : range_notes offset bytes ≡ [] =
    ap (λ (o : Option ℕ). notes_in (option_map_or (λ p. offset + p) o offset) (option_map_or (λ p. drop p bytes) o []))
    none ∙ no_notes offset in
    sym (ap (reduced_union []) same)

pub nothing_told : (old : Option (List ℕ)) (part offset : ℕ) (window : List ℕ) (told : Report)
    → IfSome old (λ all. window ≡ take window_limit all) → start_in offset window ≡ None
    → told ≡ no_start offset (length window)
    → IfSome old (λ all. reported part offset told ≡ range_report part offset (take piece_limit all))
nothing_told None part offset window told w s is = tt
nothing_told (Some all) part offset window told w s is =
    let bytes = take piece_limit all in
    let same = same_window all window w in
    let none : start_in offset (window_of bytes) ≡ None = ap (start_in offset) same ∙ s in
    let size : length (window_of bytes) ≡ length window = ap length same in
    let given : range_report part offset bytes ≡ reported part offset (no_start offset (length (window_of bytes))) =
    ap (λ (o : Option ℕ). reported part (option_map_or (λ p. offset + p) o offset)
    (option_map_or (λ p. report_of (offset + p) (drop p bytes)) o (no_start offset (length (window_of bytes))))) none in
    ap (reported part offset) (is ∙ ap (no_start offset) (sym size)) ∙ sym given

-- of a range without a start no more than its window is read
pub left_unread : (old new : Option (List ℕ)) (offset : ℕ) (window : List ℕ)
    → IfSome old (λ all. window ≡ take window_limit all) → Consumes old new window → LeavesTheRest offset old new
left_unread None new offset window w c = tt
left_unread (Some all) new offset window w c = λ none. subst (Consumes (Some all) new) w c

-- ---- with a start

pub start_left : (old new : Option (List ℕ)) (offset start : ℕ) (window : List ℕ)
    → IfSome old (λ all. window ≡ take window_limit all) → start_in offset window ≡ Some start
    → LeavesTheRest offset old new
start_left None new offset start window w is = tt
start_left (Some all) new offset start window w is = λ none.
    let lacking : start_in offset (window_of all) ≡ None = (no_start_is offset (window_of all)).1 none in
    absurd cc

-- a range was taken
pub range_taken : {R : Type 0} (left : R → Option (List ℕ)) (part offset : ℕ) (from : R)
    (old new : List (List NoteParts)) (notes : List NoteParts) (report : PieceReport) (reports more : List PieceReport)
    → IfSome (left from) (λ all. notes ≡ reduced_union [] (range_notes offset (take piece_limit all)))
    → IfSome (left from) (λ all. report ≡ range_report part offset (take piece_limit all))
    → Adds old notes new → more ≡ reports ++ report ∷ []
    → Tells left (Range offset from) → TakesPart left part (Range offset from) old new reports more
range_taken left part offset from old new notes report reports more h r a m t =
    let k = known (left from) h t in
    let s = told (left from) r t in
    let bytes = piece_of left from in
    record {
      notes = notes;
      left_by = (
        Absorb New (piece_offset offset bytes) (piece_bytes offset bytes),
        ([], Range offset from, refl, (refl, refl), refl),
        k,
      );
      added = a;
      reported = m ∙ ap (λ (x : PieceReport). reports ++ x ∷ []) s;
      good = tt;
    }
  where
    known : (o : Option (List ℕ))
        → IfSome o (λ all. notes ≡ reduced_union [] (range_notes offset (take piece_limit all)))
        → IsSome o → notes ≡ reduced_union [] (range_notes offset (take piece_limit (unwrap_or o [])))
    known None h t = absurd cc
    known (Some all) h t = h

    told : (o : Option (List ℕ)) → IfSome o (λ all. report ≡ range_report part offset (take piece_limit all))
        → IsSome o → report ≡ range_report part offset (take piece_limit (unwrap_or o []))
    told None h t = absurd cc
    told (Some all) h t = h
