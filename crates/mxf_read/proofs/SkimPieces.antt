-- What is noted of a skim's piece or range, by all that its reader gives.
use Rattle.mxf_views.proofs.Common.{◌≡◌, ◌↔◌, ◌⊎◌, ℕ, ◌+◌, ◌-◌, ◌<◌, ◌≤◌, List, [], ◌∷◌, ◌++◌, length, take, drop, Option}
use Rattle.mxf_views.proofs.Common.{None, Some, true, refl, sym, ap, subst, ◌∙◌, arith, inl, inr, append-nil, append_assoc}
use Rattle.mxf_views.proofs.Common.{option_map_or, Consumes, IfSome_then, drop-append-le, take_rest, NoteParts, Ok}
use Rattle.mxf_views.proofs.Common.{notes_in, IsOpen, stop_in, reduced_union, IsFileOf, IsAtEnd, In, has_note, head_note}
use Rattle.std.specs.Prelude.{IfSome, IsSome, unwrap_or, is_some}
use Rattle.mxf_catalogue.specs.Content.{reduced_union-IsUnion}
use Rattle.mxf_catalogue.specs.Reduced.{IsKnown}
use Rattle.mxf_catalogue.proofs.FileLaws.{one_content}
use Rattle.mxf_skim.specs.PassedOver.{noted_by}
use Rattle.mxf_skim.specs.declared.scan.Scan.{Scan}
use Rattle.mxf_skim.specs.declared.scan.Scan.TheVariants.{Skim}
use Rattle.mxf_read.specs.declared.piece.Piece.{Piece as PieceState}
use Rattle.mxf_read.specs.declared.report.Report.{Report}
use Rattle.mxf_read.specs.declared.gathering.part.Part.TheVariants.{Piece, Range, Saved}
use Rattle.mxf_read.specs.declared.gathering.report.PieceReport.{PieceReport}
use Rattle.mxf_read.specs.Absorbs.{Absorbs, report_of}
use Rattle.mxf_read.specs.Feeding.{Fed}
use Rattle.mxf_read.specs.Gathering.{IsSavedAs, Tells, bytes_of, piece_limit, piece_of}
use Rattle.mxf_read.specs.Levels.{Adds}
use Rattle.mxf_read.specs.Ranges.{no_start, range_notes, range_report, start_in, window_limit, window_of}
use Rattle.mxf_read.specs.Reads.{Takes}
use Rattle.mxf_read.specs.Scanned.{IsScanned}
use Rattle.mxf_read.specs.SkimGathering.{TakesSkim}
use Rattle.mxf_read.proofs.Pieces.{alone_in}
use Rattle.mxf_read.proofs.RangeLaws.{same_window}
use Rattle.mxf_read.proofs.Reports.{adds_more, closed_next, front_taken, take_behind, whole_taken}

-- ---- a piece

-- bytes behind a stop that no bytes lead past
scanned_more : (scan : Scan) (o : ℕ) (m x : List ℕ) (notes : List NoteParts) (report : Report)
    → IsScanned scan o m notes report → (IsOpen (stop_in o m) → ⊥) → IsScanned scan o (m ++ x) notes report
scanned_more scan o m x notes report is closed =
    let plain = reduced_union [] (notes_in o m) in
    let own : Absorbs [] plain o m (Ok (report_of o m)) = (refl, refl) in
    let more = adds_more [] plain o m x (report_of o m) own closed in
    let same : notes_in o m ≡ notes_in o (m ++ x) = sym (alone_in o m) ∙ more.0 ∙ alone_in o (m ++ x) in
    record {
      notes = is.notes ∙ ap (λ (l : List NoteParts). reduced_union [] (noted_by scan l)) same;
      report = is.report ∙ more.1;
    }

-- what was taken of the reader tells of all that it gives
pub scanned_stream : (scan : Scan) (before after : Option (List ℕ)) (o limit : ℕ) (begun taken : List ℕ)
    (notes : List NoteParts) (report : Report) (q : PieceState) → Fed scan o (begun ++ taken) q
    → Takes before after limit taken
    → ((length taken ≡ limit) ⊎ IsAtEnd after) ⊎ (is_some q.stop ≡ true)
    → IsScanned scan o (begun ++ taken) notes report
    → IfSome before (λ all. IsScanned scan o (begun ++ take limit all) notes report)
scanned_stream scan before after o limit begun taken notes report q fed takes ends is =
    elim ends [
      | inl e ↦ IfSome_then before (whole_taken before after limit taken takes e) (λ all same.
          subst (λ (t : List ℕ). IsScanned scan o (begun ++ t) notes report) (sym same) is)
      | inr stopped ↦ IfSome_then before (front_taken before after limit taken takes) (λ all more.
          let (x, split) = more in
          subst (λ (t : List ℕ). IsScanned scan o t notes report)
          (append_assoc begun taken x ∙ ap (λ (t : List ℕ). begun ++ t) (sym split))
          (scanned_more scan o (begun ++ taken) x notes report is (closed_next scan o (begun ++ taken) q fed stopped)))
    ]

-- ---- a range

-- What is known where a start was found in the window, and the piece is read from there on.
pub record Begun (old new : Option (List ℕ)) (offset start : ℕ) (window begun : List ℕ) : Type 0 where
  pub searched : IfSome old (λ all. window ≡ take window_limit all)
  pub consumed : Consumes old new window
  pub bound : length window ≤ window_limit
  pub start_is : start_in offset window ≡ Some start
  pub within : start < length window
  pub begins : begun ≡ drop start window

pub begun : (old new : Option (List ℕ)) (offset start : ℕ) (window searched again : List ℕ)
    → IfSome old (λ all. window ≡ take window_limit all) → Consumes old new window → length window ≤ window_limit
    → searched ≡ window → start_in offset searched ≡ Some start → start < length searched → again ≡ window
    → Begun old new offset start window (take (length again - start) (drop start again))
begun old new offset start window searched again w c bound same is within also =
    let long = ap length same in
    record {
      searched = w;
      consumed = c;
      bound = bound;
      start_is = ap (start_in offset) (sym same) ∙ is;
      within = omega arith;
      begins = take_rest again start ∙ ap (drop start) also;
    }

of_range : (old new : Option (List ℕ)) (offset start : ℕ) (window begun : List ℕ)
    → Begun old new offset start window begun → (P : List ℕ → Type 0)
    → IfSome new (λ rest. P (begun ++ take (piece_limit - length window) rest))
    → IfSome old (λ all. P (drop start (take piece_limit all))
    × (start_in offset (window_of (take piece_limit all)) ≡ Some start))
of_range None new offset start window begun f P h = tt
of_range (Some all) None offset start window begun f P h = absurd f.consumed
of_range (Some all) (Some rest) offset start window begun f P h =
    let left = take (piece_limit - length window) rest in
    let bound = f.bound in
    let within = f.within in
    let front : take piece_limit all ≡ window ++ left =
    ap (take piece_limit) f.consumed ∙ take_behind window rest piece_limit (omega arith) in
    let there : drop start (take piece_limit all) ≡ begun ++ left =
    ap (drop start) front ∙ drop-append-le start window left (omega arith)
    ∙ ap (λ (t : List ℕ). t ++ left) (sym f.begins) in (
      subst P (sym there) h,
      ap (start_in offset) (same_window all window f.searched) ∙ f.start_is,
    )

pub range_scanned : (scan : Scan) (old new : Option (List ℕ)) (offset start size : ℕ) (window begun : List ℕ)
    (notes : List NoteParts) → Begun old new offset start window begun → size ≡ length window
    → IfSome new (λ rest. notes ≡ reduced_union [] (noted_by scan (notes_in (offset + start)
    (begun ++ take (piece_limit - size) rest))))
    → IfSome old (λ all. notes ≡ reduced_union [] (noted_by scan (range_notes offset (take piece_limit all))))
range_scanned scan old new offset start size window begun notes f is h =
    IfSome_then old (of_range old new offset start window begun f
    (λ t. notes ≡ reduced_union [] (noted_by scan (notes_in (offset + start) t)))
    (subst (λ (n : ℕ). IfSome new (λ rest. notes ≡ reduced_union [] (noted_by scan (notes_in (offset + start)
    (begun ++ take (piece_limit - n) rest))))) is h)) (λ all k.
    let bytes = take piece_limit all in
    k.0 ∙ ap (λ (l : List NoteParts). reduced_union [] (noted_by scan l)) (sym (ap (λ (o : Option ℕ).
    notes_in (option_map_or (λ p. offset + p) o offset) (option_map_or (λ p. drop p bytes) o [])) k.1)))

abbrev reported : ℕ → ℕ → Report → PieceReport
reported part offset report = record { part = part; offset = offset; report = report }

pub range_told : (old new : Option (List ℕ)) (part offset start size : ℕ) (window begun : List ℕ) (told : Report)
    → Begun old new offset start window begun → size ≡ length window
    → IfSome new (λ rest. told ≡ report_of (offset + start) (begun ++ take (piece_limit - size) rest))
    → IfSome old (λ all. reported part (offset + start) told ≡ range_report part offset (take piece_limit all))
range_told old new part offset start size window begun told f is h =
    IfSome_then old (of_range old new offset start window begun f
    (λ t. told ≡ report_of (offset + start) t)
    (subst (λ (n : ℕ). IfSome new (λ rest. told ≡ report_of (offset + start)
    (begun ++ take (piece_limit - n) rest))) is h)) (λ all k.
    let bytes = take piece_limit all in
    ap (reported part (offset + start)) k.0 ∙ sym (ap (λ (o : Option ℕ).
    reported part (option_map_or (λ p. offset + p) o offset)
    (option_map_or (λ p. report_of (offset + p) (drop p bytes)) o (no_start offset (length (window_of bytes))))) k.1))

-- a range without a start
pub nothing_scanned : (old : Option (List ℕ)) (offset : ℕ)
    → IfSome old (λ all. [] ≡ reduced_union [] (range_notes offset (take piece_limit all)))
    → IfSome old (λ all. [] ≡ reduced_union [] (noted_by Skim (range_notes offset (take piece_limit all))))
nothing_scanned old offset none = IfSome_then old none (λ all e.
    let bytes = take piece_limit all in
    let no_note : range_notes offset bytes ≡ [] = sym (alone_in _ _) ∙ sym e in
    sym (ap (λ (l : List NoteParts). reduced_union [] (noted_by Skim l)) no_note))

-- ---- parts

-- the content of notes has what is known of them
known_of : (notes : List NoteParts) (n : NoteParts)
    → has_note (reduced_union [] notes) n ↔ IsKnown head_note (λ (m : NoteParts). In m notes) n
known_of notes n =
    let both = reduced_union-IsUnion [] notes n in (
      λ h. elim (both.0 h) [ inl k ↦ elim k [ inl i ↦ absurd i | inr s ↦ absurd s.1 ] | inr k ↦ k ],
      λ h. both.1 (inr h),
    )

known : (P : List ℕ → Type 0) (o : Option (List ℕ)) → IfSome o P → IsSome o → P (unwrap_or o [])
known P None h t = absurd cc
known P (Some all) h t = h

pub piece_skimmed : {R : Type 0} (left : R → Option (List ℕ)) (part offset : ℕ) (from : R)
    (old new : List (List NoteParts)) (notes : List NoteParts) (report : Report) (reports more : List PieceReport)
    → IfSome (left from) (λ all. notes ≡ reduced_union [] (noted_by Skim (notes_in offset (take piece_limit all))))
    → IfSome (left from) (λ all. report ≡ report_of offset (take piece_limit all))
    → Adds old notes new → more ≡ reports ++ record { part = part; offset = offset; report = report } ∷ []
    → Tells left (Piece offset from) → TakesSkim left part (Piece offset from) old new reports more
piece_skimmed left part offset from old new notes report reports more h r a m t =
    let k = known _ (left from) h t in
    let s = known _ (left from) r t in
    record {
      notes = notes;
      handed = λ n.
          subst (λ (l : List NoteParts). has_note l n ↔ IsKnown head_note
          (λ (x : NoteParts). In x (noted_by Skim (notes_in offset (piece_of left from)))) n) (sym k)
          (known_of (noted_by Skim (notes_in offset (piece_of left from))) n);
      added = a;
      reported = m ∙ ap (λ (x : Report). reports ++ record { part = part; offset = offset; report = x } ∷ []) s;
      good = tt;
    }

pub range_skimmed : {R : Type 0} (left : R → Option (List ℕ)) (part offset : ℕ) (from : R)
    (old new : List (List NoteParts)) (notes : List NoteParts) (report : PieceReport) (reports more : List PieceReport)
    → IfSome (left from) (λ all. notes ≡ reduced_union [] (noted_by Skim (range_notes offset (take piece_limit all))))
    → IfSome (left from) (λ all. report ≡ range_report part offset (take piece_limit all))
    → Adds old notes new → more ≡ reports ++ report ∷ []
    → Tells left (Range offset from) → TakesSkim left part (Range offset from) old new reports more
range_skimmed left part offset from old new notes report reports more h r a m t =
    let k = known _ (left from) h t in
    let s = known _ (left from) r t in
    record {
      notes = notes;
      handed = λ n.
          subst (λ (l : List NoteParts). has_note l n ↔ IsKnown head_note
          (λ (x : NoteParts). In x (noted_by Skim (range_notes offset (piece_of left from)))) n) (sym k)
          (known_of (noted_by Skim (range_notes offset (piece_of left from))) n);
      added = a;
      reported = m ∙ ap (λ (x : PieceReport). reports ++ x ∷ []) s;
      good = tt;
    }

pub saved_skimmed : {R : Type 0} (left : R → Option (List ℕ)) (from : R) (old new : List (List NoteParts))
    (number : ℕ) (notes : List NoteParts) (reports : List PieceReport) → IfSome (left from) (λ all. IsSavedAs all notes)
    → Adds old notes new → Tells left (Saved from) → TakesSkim left number (Saved from) old new reports reports
saved_skimmed left from old new number notes reports h a t =
    let k = known _ (left from) h t in
    let same = λ (others : List NoteParts) (f : IsFileOf (bytes_of left from) others).
    one_content (bytes_of left from) others notes f k.1 in
    record {
      notes = notes;
      handed = λ n. (
        λ i. elim i [
          | inl j ↦ inl (notes, k.1, j)
          | inr s ↦ inr (s.0, (notes, k.1, s.1), s.2)
        ],
        λ i. elim i [
          | inl j ↦ inl (subst (In n) (same j.0 j.1) j.2)
          | inr s ↦ inr (s.0, subst (In s.0) (same s.1.0 s.1.1) s.1.2, s.2)
        ],
      );
      added = a;
      reported = sym (append-nil reports);
      good = (notes, k);
    }
