use Rattle.mxf_views.proofs.Common.{◌↔◌, map, refl, subst, sym, IsContent, AllByRecursion, In}
use Rattle.mxf_verify.specs.declared.verification.Differing.{Differing}
use Rattle.mxf_verify.proofs.FinishingLaws.{bytes_same}
use Rattle.mxf_verify.proofs.finishing.bytes_and_uncompared.Goals as goal

pub bytes_told-requires-clause-ranges : goal.bytes_told-requires-clause-ranges
bytes_told-requires-clause-ranges c = subst (AllByRecursion _) (sym c.deref.ensures.value) c.requires.ranges

pub bytes_told-requires-clause-beside : goal.bytes_told-requires-clause-beside
bytes_told-requires-clause-beside c = c.requires.beside

pub of-requires : goal.of-requires
of-requires c = c.requires.ranges

pub returns-clause-rising : goal.returns-clause-rising
returns-clause-rising c = subst IsContent (sym c.in_ok-uncompared.ensures.damaged) c.in_ok-damaged.ensures.rising

pub returns-clause-members : goal.returns-clause-members
returns-clause-members c = λ n. subst (λ l. In n l ↔ In n (map (λ (d : Differing). d.note.now) c.args.differing.now))
    (sym c.in_ok-uncompared.ensures.damaged) (c.in_ok-damaged.ensures.members n)

pub returns-clause-bytes : goal.returns-clause-bytes
returns-clause-bytes c =
    bytes_same c.args.catalogue.now _ _ _ _ _ _ _ _ c.in_ok-bytes.bytes (sym c.in_ok-uncompared.ensures.verified)
    (sym c.in_ok-uncompared.ensures.damaged) c.deref.ensures.value refl c.in_ok-bytes.ensures
