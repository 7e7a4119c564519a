-- The copies of a content start one behind another: behind the pack of each partition and before that of the next one.
use Rattle.mxf_views.proofs.Common.{◌≡◌, ℕ, ◌<◌, ◌≤◌, List, [], ◌∷◌, Option, Some, None, refl, inl, inr, arith}
use Rattle.mxf_views.proofs.Common.{NoteParts, In, IsContent, CopiesRise, copies_of, StartsRise, all_from_In, all-In}
use Rattle.mxf_views.proofs.Common.{IsStartBelow}
use Rattle.mxf_views.specs.declared.copy.CopyInfo.{CopyInfo}
use Rattle.mxf_views.proofs.CopyChanges.{partitions_apart, start_before}
use Rattle.mxf_views.proofs.CopyLaws.{copies_are, copies_rise}
use Rattle.mxf_views.proofs.PrimerLaws.{start_of_copy}

-- A copy starts below the start of each later one.
pub starts_in_order : (notes : List NoteParts) (c d : CopyInfo) (s t : ℕ) → IsContent notes → In c (copies_of notes)
    → In d (copies_of notes) → c.partition < d.partition → c.start ≡ Some s → d.start ≡ Some t → s < t
starts_in_order notes c d s t r h k l e f =
    let ic = (copies_are notes c r).0 h in
    let id = (copies_are notes d r).0 k in
    let a = start_of_copy notes c s ic e in
    let b = start_of_copy notes d t id f in
    let behind = partitions_apart notes ic.0 id.0 ic.1 id.1 (omega (arith, l, ic.2.partition, id.2.partition)) in
    let low = start_before notes ic.0.end id.0 s id.1 behind a in
    let after : id.0.end ≤ t = b.after in omega (arith, low, after)

below_by : (o u : Option ℕ) → ((s t : ℕ) → o ≡ Some s → u ≡ Some t → s < t) → IsStartBelow o u
below_by None u f = tt
below_by (Some s) None f = tt
below_by (Some s) (Some t) f = f s t refl refl

rise_in : (notes : List NoteParts) (cs : List CopyInfo) → IsContent notes → CopiesRise cs
    → ((c : CopyInfo) → In c cs → In c (copies_of notes)) → StartsRise cs
rise_in notes [] r rising all = tt
rise_in notes (c ∷ cs) r rising all = (
  all_from_In (λ (d : CopyInfo). IsStartBelow c.start d.start) cs (λ d h. below_by c.start d.start (λ s t e f.
      starts_in_order notes c d s t r (all c (inl refl)) (all d (inr h)) (all-In (λ
      (x : CopyInfo). c.partition < x.partition) cs d rising.0 h) e f)),
  rise_in notes cs r rising.1 (λ d h. all d (inr h)),
)

pub starts_rise : (notes : List NoteParts) → IsContent notes → StartsRise (copies_of notes)
starts_rise notes r = rise_in notes (copies_of notes) r (copies_rise notes r) (λ c h. h)
