-- Rounds of asking what to restore and handing it in (this project's profile).
use Rattle.std.specs.Prelude.{◌≡◌, ◌↔◌, ◌⊎◌, ℕ, ◌<◌, ◌≤◌, false, not, Option, None, Some, List, [], ◌∷◌, count_by}
use Rattle.std.specs.Prelude.{length, slice_get}
use Rattle.std.specs.List.{range_with_len}
use Rattle.mxf_klv.specs.Parts.{NoteParts}
use Rattle.mxf_klv.specs.Rising.{In}
use Rattle.mxf_catalogue.specs.Content.{IsContent}
use Rattle.mxf_catalogue.specs.Covers.{IsCover}
use Rattle.mxf_catalogue.specs.Runs.{LiesIn}
use Rattle.mxf_catalogue.specs.declared.run.Run.{Run}
use Rattle.mxf_places.specs.AtHand.{AtHandParts, has_offset}
use Rattle.mxf_restore.specs.Plan.{LiesInOrder, plan_of}
use Rattle.mxf_restore.specs.declared.plan.Order.{Order}
use Rattle.mxf_hand.specs.Given.{AreAtHand, Gives, IsGiven, SourceParts}
use Rattle.mxf_partial.specs.MetadataPlans.{metadata_plan}
use Rattle.mxf_partial.specs.Orders.{IsUnitPlan, UnitPlanParts}
use Rattle.mxf_partial.specs.Wanted.{WantedParts, hand_of, notes_of}
use Rattle.mxf_progress.specs.Progress.{IsUngivenAt}

-- This is what sources give, and what of that is at hand.
pub record AreGivenBy (sources : List SourceParts) (at : AtHandParts) : Type 0 where
  pub cover : IsCover at.given
  pub given : (x : ℕ) → LiesIn at.given x ↔ IsGiven sources x
  pub hand : AreAtHand sources at.hand

-- An order of a plan for edit units.
pub record IsOrderForUnits (at : AtHandParts) (notes : List NoteParts) (o : Order) : Type 0 where
  pub wanted : WantedParts
  pub held : notes_of wanted ≡ notes
  pub beside : hand_of wanted ≡ at
  pub plan : UnitPlanParts
  pub is_plan : IsUnitPlan wanted plan
  pub among : In o plan.orders

-- An order of the plan, of one for edit units, or of the one for header metadata.
abbrev pub IsOrderOf : AtHandParts → List NoteParts → Order → Type 0
IsOrderOf at notes o =
    In o (plan_of at notes).orders ⊎ (IsOrderForUnits at notes o ⊎ In o (metadata_plan at notes).orders)

-- A file has what is ordered: all bytes up to the order's end; if that isn't known, one that isn't given.
abbrev pub HasUpTo : List ℕ → AtHandParts → Order → Option ℕ → Type 0
HasUpTo file at o (Some end) = end ≤ length file
HasUpTo file at o None = (x : ℕ) × IsUngivenAt at o x × (x < length file)

-- The source gives each byte of the order that the file has.
abbrev pub GivesOrdered : List ℕ → Order → SourceParts → Type 0
GivesOrdered file o s = (x byte : ℕ) → LiesInOrder o x → slice_get file x ≡ Some byte → Gives s x byte

-- A round of restoring. A plan of some content and of what sources give has an order that isn't `again`, and the file
-- has what is ordered. Afterwards a source gives that, beside those that were there.
pub record IsRound (file : List ℕ) (before after : List SourceParts) : Type 0 where
  pub notes : List NoteParts
  pub content : IsContent notes
  pub at : AtHandParts
  pub given : AreGivenBy before at
  pub order : Order
  pub ordered : IsOrderOf at notes order
  pub new : order.again ≡ false
  pub has : HasUpTo file at order order.end
  pub restored : (s : SourceParts) × In s after × GivesOrdered file order s
  pub kept : (s : SourceParts) → In s before → In s after

-- Rounds that follow one another, by the sources that each leaves.
abbrev pub AreRounds : List ℕ → List SourceParts → List (List SourceParts) → Type 0
AreRounds file sources [] = Unit {0}
AreRounds file sources (after ∷ later) = IsRound file sources after × AreRounds file after later

-- The number of bytes of the file that aren't given.
abbrev pub ungiven_of : List ℕ → List Run → ℕ
ungiven_of file given = count_by (λ x. not (has_offset given x)) (range_with_len 0 (length file))
