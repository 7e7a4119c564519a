-- The offsets where no essence can lie.
use Rattle.mxf_views.proofs.Common.{◌≡◌, ◌≢◌, ◌↔◌, ℕ, Bool, true, IsTrue, List, [], ap, filter, map, not, refl, kind_of}
use Rattle.mxf_views.proofs.Common.{NoteParts, In, In-filter, list_any-In, not-true-false, not_true, union_of_runs}
use Rattle.mxf_views.proofs.Common.{undisputed_notes, covered_run, covers_all, In-undisputed_notes}
use Rattle.mxf_klv.specs.declared.kinds.Kind.{Kind}
use Rattle.mxf_places.specs.Held.{covers}
use Rattle.mxf_places.proofs.HeldLaws.{covers-says}
use Rattle.mxf_units.specs.EssenceZones.{may_be_essence}
use Rattle.mxf_units.specs.Units.{AreBesideEssence, IsBesideEssence, is_beside_essence}
use Rattle.mxf_klv.specs.declared.kinds.Kind.TheVariants as kinds

-- ---- what can't be essence

may : (k : Kind) → may_be_essence k ≡ true → (k ≢ kinds.Essence) → (k ≢ kinds.Other) → ⊥
may kinds.Essence e f g = f refl
may kinds.Other e f g = g refl
may _ e f g = cc (e)

no_essence : (k : Kind) → not (may_be_essence k) ≡ true → (k ≢ kinds.Essence) × (k ≢ kinds.Other)
no_essence k e = (
  λ f. not-true-false (may_be_essence k) e (ap may_be_essence f),
  λ f. not-true-false (may_be_essence k) e (ap may_be_essence f),
)

abbrev pub cant_be : NoteParts → Bool
cant_be n = not (may_be_essence (kind_of n.key))

-- ---- which offsets these are

module _ (notes : List NoteParts) (x : ℕ) where
  from : (n : NoteParts) → In n (filter cant_be (undisputed_notes notes))
      → IsTrue (covers x n) → IsBesideEssence notes x
  from n i c =
      let f = (In-filter cant_be (undisputed_notes notes) n).0 i in
      let u = (In-undisputed_notes n notes).0 f.0 in
      let k = no_essence (kind_of n.key) f.1 in
      record {
        by = n;
        alone = record { held = u.0; undisputed = u.1 };
        no_essence = k.0;
        known = k.1;
        covered = (covers-says x n).0 c;
      }

  is_one : (b : IsBesideEssence notes x) → In b.by (filter cant_be (undisputed_notes notes))
  is_one b =
      (In-filter cant_be (undisputed_notes notes) b.by).1 (
        (In-undisputed_notes b.by notes).1 (b.alone.held, b.alone.undisputed),
        not_true (may_be_essence (kind_of b.by.key)) (λ e. may (kind_of b.by.key) e b.no_essence b.known),
      )

  pub beside-says : IsTrue (is_beside_essence notes x) ↔ IsBesideEssence notes x
  unfolding is_beside_essence
  beside-says =
      let any = list_any-In (covers x) (filter cant_be (undisputed_notes notes)) in (
        λ h. let s = any.0 h in from s.0 s.1 s.2,
        λ b. any.1 (b.by, is_one b, (covers-says x b.by).1 b.covered),
      )

pub beside_runs : (notes : List NoteParts)
    → AreBesideEssence notes (union_of_runs [] (map covered_run (filter cant_be (undisputed_notes notes))))
beside_runs notes x =
    let all = covers_all (filter cant_be (undisputed_notes notes)) x in (
      λ h. let s = all.0 h in from notes x s.0 s.1 ((covers-says x s.0).1 s.2),
      λ b. all.1 (b.by, is_one notes x b, b.covered),
    )
