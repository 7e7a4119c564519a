-- What sources hold, each by itself, one source after another.
use Rattle.mxf_views.proofs.Common.{◌≡◌, ◌∙◌, ◌+◌, ◌++◌, ℕ, Option, List, [], ◌∷◌, ap, append-nil, arith, length, map}
use Rattle.mxf_views.proofs.Common.{refl, subst, sym, NoteParts, IsTheRun}
use Rattle.mxf_read.specs.declared.gathering.part.Part.{Part}
use Rattle.mxf_read.specs.declared.gathering.part.Part.TheVariants.{Piece, Range, Saved}
use Rattle.mxf_read.specs.declared.gathering.report.PieceReport.{PieceReport}
use Rattle.mxf_read.specs.Gathering.{AllTell, HandedBy, Tells, reports_in, reports_of}
use Rattle.mxf_read.proofs.GatheringLaws.{IsPassed, passed_none, passed_one, reports_push}
use Rattle.mxf_hints.specs.Contents.{AreRuns, TakesAlone, numbered}

module _ {R : Type 0} (left : R → Option (List ℕ)) where
  runs_push : (ps : List (Part R)) (cs : List (List NoteParts)) (p : Part R) (c : List NoteParts)
      → AreRuns left ps cs → IsTheRun (HandedBy left (p ∷ [])) c → AreRuns left (ps ++ p ∷ []) (cs ++ c ∷ [])
  runs_push [] [] p c r is = (is, tt)
  runs_push [] (d ∷ cs) p c r is = absurd r
  runs_push (q ∷ ps) [] p c r is = absurd r
  runs_push (q ∷ ps) (d ∷ cs) p c r is = (r.0, runs_push ps cs p c r.1 is)

  -- Contents and reports are those of the parts that were passed.
  pub record AreTaken (all : List (Part R)) (number : ℕ) (rest : List (Part R)) (contents : List (List NoteParts))
      (reports : List PieceReport) : Type 0 where
    pub passed : IsPassed all number rest
    pub runs : AreRuns left passed.done contents
    pub reported : reports ≡ reports_of left passed.done

  pub taken_none : (all : List (Part R)) → AreTaken all 0 all [] []
  taken_none all = record { passed = passed_none all; runs = tt; reported = refl }

  pub taken_one : (all rest more : List (Part R)) (p : Part R) (number : ℕ) (contents new : List (List NoteParts))
      (reports added : List PieceReport) → AreTaken all number rest contents reports → rest ≡ p ∷ more
      → TakesAlone left number p contents new reports added → AreTaken all (number + 1) more new added
  taken_one all rest more p number contents new reports added a is t = record {
    passed = passed_one all rest more p number a.passed is;
    runs = subst (AreRuns left (a.passed.done ++ p ∷ [])) (sym t.added)
        (runs_push a.passed.done contents p t.content a.runs t.run);
    reported = t.reported ∙ ap (λ (l : List PieceReport). l ++ reports_in left number p) a.reported
        ∙ sym (reports_push left 0 a.passed.done p number (omega (arith, a.passed.counted)));
  }

  -- all were passed
  all_done : (all rest : List (Part R)) (number : ℕ) (p : IsPassed all number rest) → length rest ≡ 0 → p.done ≡ all
  all_done all [] number p none = sym (p.whole ∙ append-nil p.done)
  all_done all (q ∷ rest) number p none = absurd (omega arith)

  pub taken_all : (all rest : List (Part R)) (number : ℕ) (contents : List (List NoteParts))
      (reports : List PieceReport) → AreTaken all number rest contents reports → length rest ≡ 0
      → AreRuns left all contents
  taken_all all rest number contents reports a none =
      subst (λ (ps : List (Part R)). AreRuns left ps contents) (all_done all rest number a.passed none) a.runs

  pub reported_all : (all rest : List (Part R)) (number : ℕ) (contents : List (List NoteParts))
      (reports : List PieceReport) → AreTaken all number rest contents reports → length rest ≡ 0
      → reports ≡ reports_of left all
  reported_all all rest number contents reports a none =
      a.reported ∙ ap (reports_of left) (all_done all rest number a.passed none)

  -- What is reported of a part alone is what is of the part with a number, but for that.
  numbered_in : (number : ℕ) (p : Part R) → map (numbered number) (reports_in left 0 p) ≡ reports_in left number p
  numbered_in number (Piece offset from) = refl
  numbered_in number (Range offset from) = refl
  numbered_in number (Saved from) = refl

  pub numbered_reports : (number : ℕ) (p : Part R) (alone before after : List PieceReport)
      → alone ≡ reports_in left 0 p → after ≡ before ++ map (numbered number) alone
      → after ≡ before ++ reports_in left number p
  numbered_reports number p alone before after is added =
      added ∙ ap (λ (l : List PieceReport). before ++ map (numbered number) l) is
      ∙ ap (λ (l : List PieceReport). before ++ l) (numbered_in number p)

  -- What is gathered of a list of one part is the run of that.
  pub one_run : (old parts : List (Part R)) (p : Part R) (views : List NoteParts) → old ≡ [] → parts ≡ old ++ p ∷ []
      → (AllTell left parts → IsTheRun (HandedBy left parts) views) → Tells left p
      → IsTheRun (HandedBy left (p ∷ [])) views
  one_run old parts p views none pushed run t =
      let only = pushed ∙ ap (λ (l : List (Part R)). l ++ p ∷ []) none in
      subst (λ (l : List (Part R)). AllTell left l → IsTheRun (HandedBy left l) views) only run (t, tt)

  pub one_report : (old parts : List (Part R)) (p : Part R) (reports : List PieceReport) → old ≡ []
      → parts ≡ old ++ p ∷ [] → (AllTell left parts → reports ≡ reports_of left parts) → Tells left p
      → reports ≡ reports_in left 0 p
  one_report old parts p reports none pushed reported t =
      let only = pushed ∙ ap (λ (l : List (Part R)). l ++ p ∷ []) none in
      subst (λ (l : List (Part R)). AllTell left l → reports ≡ reports_of left l) only reported (t, tt)
      ∙ append-nil (reports_in left 0 p)
