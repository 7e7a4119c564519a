use Rattle.mxf_views.proofs.Common.{◌≡◌, ◌↔◌, ◌∙◌, ◌++◌, ◌≤◌, List, ℕ, None, Option, Some, AllByRecursion, IfOk-weaker, LiesIn}
use Rattle.mxf_views.proofs.Common.{SameOffsets, ap, filter_map, greatest_end, subst, sym}
use Rattle.mxf_catalogue.specs.declared.run.Run.{Run}
use Rattle.mxf_units.specs.declared.unit.Extent.{Extent}
use Rattle.mxf_restore.specs.declared.named.NamedPlace.{NamedPlace}
use Rattle.mxf_partial.specs.Questions.{QuestionParts, run_asked, unnamed_run, unsure_asked}
use Rattle.mxf_partial.specs.Wanted.{HasByteBy, WantedParts}
use Rattle.mxf_partial.proofs.GatheredLaws.{asked-end, asked-say, one-says}
use Rattle.mxf_partial.proofs.wanted.wanted_bytes.Goals as goal

-- A cover has the offsets of its runs, and these are the bytes that are wanted.
said : (named : List NamedPlace) (w : WantedParts) (bytes : Option Extent) (runs cover : List Run) → w.bytes ≡ bytes
    → ((x : ℕ) → LiesIn runs x ↔ HasByteBy named w bytes x) → SameOffsets cover runs → (x : ℕ)
    → LiesIn cover x ↔ HasByteBy named w w.bytes x
said named w bytes runs cover asked says same x = (
  λ h. subst (λ b. HasByteBy named w b x) (sym asked) ((says x).0 ((same x).0 h)),
  λ h. (same x).1 ((says x).1 (subst (λ b. HasByteBy named w b x) asked h)),
)

-- The runs that the wanted units ask for.
asked : (c : goal.In_ok-wanted_runs-in-None) → c.in_ok-wanted_runs-in-None.field-0.items
    ≡ filter_map (run_asked c.args.wanted.now.units) c.args.wanted.now.wanted
    ++ filter_map (unnamed_run c.args.named.now) (filter_map (unsure_asked c.args.wanted.now.units) c.args.wanted.now.wanted)
asked c = c.in_ok-wanted_runs-in-None.ensures
    ∙ ap (λ (q : QuestionParts). q.runs ++ filter_map (unnamed_run c.args.named.now) q.unsure) c.questions.ensures.are

pub cover_of-requires-in-None : goal.cover_of-requires-in-None
cover_of-requires-in-None c =
    let w : WantedParts = c.args.wanted.now in
    subst (AllByRecursion (λ (r : Run). r.end ≤ greatest_end)) (sym (asked c))
    (asked-end c.args.named.now w.units w.wanted)

pub returns-in_ok-wanted_runs-in-None : goal.returns-in_ok-wanted_runs-in-None
returns-in_ok-wanted_runs-in-None c =
    let named = c.args.named.now in
    let w : WantedParts = c.args.wanted.now in
    let runs = c.in_ok-wanted_runs-in-None.field-0.items in
    let is = c.in_ok-wanted_runs-in-None.ensures
    ∙ ap (λ (q : QuestionParts). q.runs ++ filter_map (unnamed_run c.args.named.now) q.unsure) c.questions.ensures.are in
    IfOk-weaker c.cover_of-in-None.result (λ (cover : List Run). SameOffsets cover runs)
    (λ (cover : List Run). (x : ℕ) → LiesIn cover x ↔ HasByteBy named w w.bytes x)
    (λ cover same x. said named w None runs cover (sym c.in-None.ensures) (λ y.
    subst (λ l. LiesIn l y ↔ HasByteBy named w None y) (sym is) (asked-say named w.units w.wanted y)) same x)
    c.cover_of-in-None.ensures

pub returns-in_ok-one_run-in-Some : goal.returns-in_ok-one_run-in-Some
returns-in_ok-one_run-in-Some c =
    let named = c.args.named.now in
    let w : WantedParts = c.args.wanted.now in
    let extent = c.in-Some.extent in
    let runs = c.in_ok-one_run-in-Some.field-0.items in
    IfOk-weaker c.cover_of.result (λ (cover : List Run). SameOffsets cover runs)
    (λ (cover : List Run). (x : ℕ) → LiesIn cover x ↔ HasByteBy named w w.bytes x)
    (λ cover same x. said named w (Some extent) runs cover (sym c.in-Some.ensures) (λ y.
    subst (λ l. LiesIn l y ↔ HasByteBy named w (Some extent) y) (sym c.in_ok-one_run-in-Some.ensures)
    (one-says extent y)) same x) c.cover_of.ensures
