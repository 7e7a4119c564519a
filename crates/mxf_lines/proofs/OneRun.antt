-- Runs that were handed the same hold one content, and print the same of it.
use Rattle.mxf_views.proofs.Common.{◌≡◌, ◌+◌, ◌-◌, ℕ, Bool, List, [], ◌∷◌, ◌++◌, Option, None, Some, sym, ap, subst, same_Some, ◌∙◌}
use Rattle.mxf_views.proofs.Common.{NoteParts, In, SameMembers, file_bytes, IsLocated, Read, IsTheRun}
use Rattle.std.specs.Prelude.{codes, filter, flat_map}
use Rattle.mxf_catalogue.specs.History.{HandsSame}
use Rattle.mxf_places.specs.AtHand.{KnownParts}
use Rattle.mxf_map.specs.Map.{MapParts}
use Rattle.mxf_map.proofs.MarkLaws.{one_map}
use Rattle.mxf_partial.specs.Many.{ManyParts}
use Rattle.mxf_partial.specs.Orders.{IsUnitPlan, UnitPlanParts}
use Rattle.mxf_partial.proofs.ManyLaws.{one_many}
use Rattle.mxf_partial.proofs.UnitPlanLaws.{one_plan}
use Rattle.mxf_verify.specs.Fixities.{VerifiedUnitsParts, is_verified, units_in}
use Rattle.mxf_verify.specs.TouchedUnits.{units_touched}
use Rattle.mxf_verify.specs.Verifications.{DifferingParts, VerificationParts, counts_of}
use Rattle.mxf_verify.specs.declared.verification.VerifiedCounts.{VerifiedCounts}
use Rattle.mxf_verify.specs.declared.verified_units.UnitRun.{UnitRun}
use Rattle.mxf_verify.specs.declared.unit_places.UnitSpan.{UnitSpan}
use Rattle.mxf_verify.proofs.TouchedUnitLaws.{touched_are}
use Rattle.mxf_verify.proofs.UnitLaws.{one_list_of_runs, one_span}
use Rattle.mxf_verify.proofs.VerificationLaws.{one_verification}
use Rattle.mxf_read.specs.declared.gathering.report.PieceReport.{PieceReport}
use Rattle.mxf_lines.specs.Answering.{stop_lines}
use Rattle.mxf_forms.specs.Forms.{line, lines_in, number}
use Rattle.mxf_lines.specs.Lines.{note_fields}
use Rattle.mxf_lines.specs.OneRun.{Answer, AreTimes, AreTold, AskedUnits, IsPrinted, Map, PrintSame, Printed, Question}
use Rattle.mxf_lines.specs.OneRun.{ManyPlan, Renewal, Sources, UnitPlan, Units, Verification, clocks_told, units_told}
use Rattle.mxf_lines.specs.MapLines.{AreToldExtents, map_lines}
use Rattle.mxf_lines.proofs.MapLineLaws.{one_told}
use Rattle.mxf_timed.specs.Shown.{TimedParts}
use Rattle.mxf_lines.specs.UnitPlanLines.{asked_of, many_plan_lines, many_plan_status, told_units, unit_plan_lines}
use Rattle.mxf_lines.specs.UnitPlanLines.{unit_plan_status, units_at}
use Rattle.mxf_lines.proofs.ShownLineLaws.{same_lines, same_runs}
use Rattle.mxf_lines.specs.VerificationLines.{cut_lines, differs_line, other_fields, range_lines, runs_of, span_fields}
use Rattle.mxf_lines.specs.VerificationLines.{unit_run_line, verification_lines, verification_status, verified_fields}
use Rattle.mxf_lines.specs.VerificationLines.{verified_line}

-- ---- one content

-- the notes of a run, as a set, have the located packets of another that was handed the same
located_there : (P Q : NoteParts → Type 0) (m : List NoteParts) → IsTheRun P m → HandsSame P Q
    → HandsSame (λ n. In n m) Q
located_there P Q m run same n = (
  λ l. (same n).0 ((run.members n).0 l.0),
  λ l.
      let here : IsLocated P n = (same n).1 l in (
        (run.members n).1 here,
        λ y i ne told. here.1 y ((run.members y).0 i).0 ne told,
      ),
)

pub one_content : (P Q : NoteParts → Type 0) (m n : List NoteParts) → IsTheRun P m → IsTheRun Q n → HandsSame P Q
    → m ≡ n
one_content P Q m n run other same = other.one (Read (file_bytes m) m run.file) (located_there P Q m run same)

-- ---- one print

-- the units that a note touches, in whatever order places are known
touched_same : (a b : VerifiedUnitsParts) → SameMembers a.places b.places → (n : NoteParts)
    → units_touched a.places n ≡ units_touched b.places n
touched_same a b same n =
    one_span a.places b.places same n (units_touched a.places n) (units_touched b.places n) (touched_are a.places n)
    (touched_are b.places n)

differs_same : (a b : VerifiedUnitsParts) → SameMembers a.places b.places → (d : DifferingParts)
    → differs_line (Some a) d.source d.note ≡ differs_line (Some b) d.source d.note
unfolding differs_line
differs_same a b same d = ap (λ (span : Option UnitSpan).
    line "differs" (number " " "source" d.source ∷ (note_fields d.note ++ span_fields span)))
    (touched_same a b same d.note)

counted_same : (c : VerifiedCounts) (a b : VerifiedUnitsParts) → a.runs ≡ b.runs
    → verified_line c (Some a) ≡ verified_line c (Some b)
unfolding verified_line
counted_same c a b runs = ap (λ (r : List UnitRun). line "verified" (verified_fields c ++ (other_fields c
    ++ (number " units " "units" (units_in (filter (λ u. is_verified u.fixity) r))
    ∷ number " of " "all-units" (units_in r) ∷ [])))) runs

verified_same : (reports : List PieceReport) (v : VerificationParts) (a b : VerifiedUnitsParts)
    (shown : Option TimedParts) → a.runs ≡ b.runs → SameMembers a.places b.places
    → verification_lines reports v (Some a) shown ≡ verification_lines reports v (Some b) shown
verified_same reports v a b shown runs places = λ i. flat_map stop_lines reports
    ++ (flat_map (λ d. differs_same a b places d i ∷ []) v.differing ++ (cut_lines v.cut
    ++ (range_lines (codes "unknown") v.unknown ++ (range_lines (codes "unverified") v.unverified
    ++ (flat_map (λ r. unit_run_line shown r ∷ []) (runs i) ++ counted_same (counts_of v) a b runs i ∷ [])))))

-- what is told of a verification with units, or without them
told_lines : (asked : Option AskedUnits) (content : List NoteParts) (v : VerificationParts)
    (a b : Option VerifiedUnitsParts) → AreTold asked content v a → AreTold asked content v b
    → (reports : List PieceReport) (shown : Option TimedParts)
    → verification_lines reports v a shown ≡ verification_lines reports v b shown
told_lines None content v a b e f reports shown =
    ap (λ (told : Option VerifiedUnitsParts). verification_lines reports v told shown) (e ∙ sym f)
told_lines (Some asked) content v None b e f reports shown = absurd e
told_lines (Some asked) content v (Some a) None e f reports shown = absurd f
told_lines (Some asked) content v (Some a) (Some b) e f reports shown =
    verified_same reports v a b shown (one_list_of_runs _ _ _ _ _ a b e f) (λ p. (
      λ i. (f.places p).1 ((e.places p).0 i),
      λ i. (e.places p).1 ((f.places p).0 i),
    ))

-- and of the timecodes that they show
shown_lines : (asked : Option AskedUnits) (content : List NoteParts) (v : VerificationParts)
    (told : Option VerifiedUnitsParts) (a b : Option TimedParts) → AreTimes asked content a → AreTimes asked content b
    → (reports : List PieceReport) → verification_lines reports v told a ≡ verification_lines reports v told b
shown_lines None content v told a b p q reports = ap (verification_lines reports v told) (p ∙ sym q)
shown_lines (Some asked) content v told a b p q reports = λ i. flat_map stop_lines reports
    ++ (flat_map (λ d. differs_line told d.source d.note ∷ []) v.differing ++ (cut_lines v.cut
    ++ (range_lines (codes "unknown") v.unknown ++ (range_lines (codes "unverified") v.unverified
    ++ (same_runs (units_told asked content) asked.from (asked.to + 1 - asked.from) (clocks_told asked.timed content) a b
    p q (runs_of told) i ++ verified_line (counts_of v) told ∷ [])))))

told_status : (asked : Option AskedUnits) (content : List NoteParts) (v : VerificationParts)
    (a b : Option VerifiedUnitsParts) → AreTold asked content v a → AreTold asked content v b
    → (reports : List PieceReport) (is_whole : Bool)
    → verification_status reports v a is_whole ≡ verification_status reports v b is_whole
told_status None content v a b e f reports is_whole =
    ap (λ (told : Option VerifiedUnitsParts). verification_status reports v told is_whole) (e ∙ sym f)
told_status (Some asked) content v None b e f reports is_whole = absurd e
told_status (Some asked) content v (Some a) None e f reports is_whole = absurd f
told_status (Some asked) content v (Some a) (Some b) e f reports is_whole = ap (λ (runs : List UnitRun).
    verification_status reports v (Some (record { runs = runs; places = a.places })) is_whole)
    (one_list_of_runs _ _ _ _ _ a b e f)

-- of one content one print is made
printed_once : (question : Question) (m : List NoteParts) (a b : Printed) → IsPrinted question m a
    → IsPrinted question m b → (a.lines ≡ b.lines) × (a.status ≡ b.status)
printed_once (Answer ask reports at) m a b p q = (p.0 ∙ sym q.0, p.1 ∙ sym q.1)
printed_once (Map columns rows with_extents at) m a b (x, d, is, told, l, s) (y, e, also, tell, k, t) =
    let known : KnownParts = record { notes = m; at = at } in
    let same : x ≡ y = one_map _ _ x y is also in
    let all : d ≡ e = one_told known y.end with_extents d e
    (subst (λ (z : MapParts). AreToldExtents known z.end with_extents d) same told) tell in
    (l ∙ (λ i. map_lines columns (same i) (all i)) ∙ sym k, s ∙ sym t)
printed_once (Units index range timed at) m a b (x, is, l, s) (y, also, k, t) =
    let w = asked_of index range at m in (
      l ∙ same_lines w.units range.first range.count (clocks_told timed m) x y is also range.first (told_units w) ∙ sym k,
      s ∙ sym t,
    )
printed_once (UnitPlan index range at) m a b (x, is, l, s) (y, also, k, t) =
    let same : x ≡ y = one_plan _ x y is also in (
      l ∙ ap (unit_plan_lines (asked_of index range at m)) same ∙ sym k,
      s ∙ ap (λ (p : UnitPlanParts). Some (unit_plan_status (asked_of index range at m) p)) same ∙ sym t,
    )
printed_once (ManyPlan index first last at) m a b (x, p, is, plan, l, s) (y, q, also, other, k, t) =
    let same : x ≡ y = same_Some x y (one_many (units_at index at m) first last (Some x) (Some y) is also) in
    let plans : p ≡ q = one_plan y.wanted p q (subst (λ (z : ManyParts). IsUnitPlan z.wanted p) same plan) other in (
      l ∙ (λ i. many_plan_lines (same i) (plans i)) ∙ sym k,
      s ∙ (λ i. Some (many_plan_status (same i) (plans i))) ∙ sym t,
    )
printed_once (Verification sources reports asked is_whole) m a b (v, x, c, is, told, times, l, s)
    (w, y, d, also, tell, clock, k, t) =
    let same : v ≡ w = one_verification m sources v w is also in
    let here : AreTold asked m w x = subst (λ (z : VerificationParts). AreTold asked m z x) same told in (
      l ∙ ap (λ (z : VerificationParts). verification_lines reports z x c) same
          ∙ told_lines asked m w x y here tell reports c ∙ shown_lines asked m w y c d times clock reports ∙ sym k,
      s ∙ ap (λ (z : VerificationParts). Some (verification_status reports z x is_whole)) same
          ∙ ap (λ (n : ℕ). Some n) (told_status asked m w x y here tell reports is_whole) ∙ sym t,
    )
printed_once (Sources before after names) m a b p q = (p.0 ∙ sym q.0, p.1 ∙ sym q.1)
printed_once (Renewal new is_saved) m a b p q = (p.0 ∙ sym q.0, p.1 ∙ sym q.1)

pub one_print : (m n : List NoteParts) → m ≡ n → PrintSame m n
one_print m n same =
    subst (PrintSame m) same (record {
      bytes = λ question form a b p q. ap (lines_in form) (printed_once question m a b p q).0;
      status = λ question a b p q. (printed_once question m a b p q).1;
    })

pub one_run_one_print : (P Q : NoteParts → Type 0) (m n : List NoteParts) → IsTheRun P m → IsTheRun Q n
    → HandsSame P Q → PrintSame m n
one_run_one_print P Q m n run other same = one_print m n (one_content P Q m n run other same)
