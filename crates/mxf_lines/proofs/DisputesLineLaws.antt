-- When disputes are told beside a plan for units.
use Rattle.mxf_views.proofs.Common.{◌≡◌, ◌≢◌, ◌↔◌, Bool, true, false, IsTrue, None, Some, if◌then◌else◌, not, refl}
use Rattle.mxf_views.proofs.Common.{◌||◌, list_any, list_any-In, In}
use Rattle.mxf_restore.specs.Disputes.{disputes_of}
use Rattle.mxf_restore.specs.declared.disputes.Disputes.{Disputes}
use Rattle.mxf_restore.proofs.DisputesLaws.{disputes-some}
use Rattle.mxf_units.specs.declared.standing.UnitStanding.{UnitStanding}
use Rattle.mxf_units.specs.declared.unit.EditUnit.{EditUnit}
use Rattle.mxf_partial.specs.Wanted.{WantedParts, notes_of, wanted_units}
use Rattle.mxf_lines.specs.UnitLines.{is_hand, is_held}
use Rattle.mxf_lines.specs.UnitPlanLines.{AreToldDisputes, is_open, told_disputes}
use Rattle.mxf_units.specs.declared.standing.UnitStanding.TheVariants as standings

open-test : (s : UnitStanding) → not (is_held s || is_hand s) ≡ true → (s ≢ standings.Held) × (s ≢ standings.Hand)
open-test standings.Held e = absurd cc
open-test standings.Hand e = absurd cc
open-test _ e = (λ h. cc, λ h. cc)

test-open : (s : UnitStanding) → s ≢ standings.Held → s ≢ standings.Hand → not (is_held s || is_hand s) ≡ true
test-open standings.Held h k = absurd (h refl)
test-open standings.Hand h k = absurd (k refl)
test-open _ h k = refl

pub told-disputes : (w : WantedParts) (d : Disputes) → (told_disputes w ≡ Some d) ↔ AreToldDisputes w d
told-disputes w d = by (list_any is_open (wanted_units w)) (list_any-In is_open (wanted_units w))
  where
    by : (b : Bool) → IsTrue b ↔ ((u : EditUnit) × In u (wanted_units w) × IsTrue (is_open u))
        → ((if b then disputes_of (notes_of w) else None) ≡ Some d) ↔ AreToldDisputes w d
    by true any = (
      λ e.
          let s = any.0 refl in
          let o = open-test s.0.standing s.2 in
          record {
            disputes = (disputes-some (notes_of w) d).0 e;
            waiting = (s.0, s.1, record { not_held = o.0; not_hand = o.1 });
          },
      λ t. (disputes-some (notes_of w) d).1 t.disputes,
    )
    by false any = (
      λ e. absurd cc,
      λ t.
          let u = t.waiting in
          let b = any.1 (u.0, u.1, test-open u.0.standing u.2.not_held u.2.not_hand) in absurd cc,
    )
