-- A reference leads to one target.
use Rattle.mxf_views.proofs.Common.{◌≡◌, ◌∙◌, ℕ, List, refl, ap, sym, subst, AreApart, filter}
use Rattle.mxf_catalogue.specs.Content.{IsContent}
use Rattle.mxf_views.specs.Copies.{sets_of}
use Rattle.mxf_views.proofs.CopyLaws.{sets_apart}
use Rattle.mxf_klv.specs.declared.kinds.Kind.TheVariants as kinds
use Rattle.mxf_klv.specs.Kind.{kind_of}
use Rattle.mxf_klv.specs.Parts.{NoteParts}
use Rattle.mxf_references.specs.declared.reference.target.Target.{Target as ResolvedTarget}
use Rattle.mxf_references.specs.declared.reference.target.Target.TheVariants as resolved
use Rattle.mxf_references.specs.declared.reference.target.Wanted.TheVariants as resolving
use Rattle.mxf_references.specs.References.{IsOnlyWith, IsSeveral, has_uid}
use Rattle.mxf_references.specs.Targets.{IsTarget, target_among}
use Rattle.mxf_references.proofs.FoundLaws.{target_iff}
use Rattle.mxf_tracks.specs.declared.target.Target.{Target}
use Rattle.mxf_tracks.specs.declared.target.Target.TheVariants.{Missing, Several, WrongKind, Other, Again}
use Rattle.mxf_tracks.specs.declared.target.Target.TheVariants.{Unreadable, Found}
use Rattle.mxf_tracks.specs.declared.target.Wanted.{Wanted}
use Rattle.mxf_tracks.specs.References.{Below, HasKey, IsOnlyAt, IsReached, IsReadableAs, IsWanted, LeadsTo, LeadsToPackage}
use Rattle.mxf_tracks.specs.References.{LeadsToSet, Named, Package, Reference}

several_only : (sets : List NoteParts) (uid : List ℕ) (n : NoteParts) → IsSeveral sets uid → IsOnlyWith sets uid n → ⊥
several_only sets uid n s o =
    s.differ (o.only s.one s.one_held s.one_has ∙ sym (o.only s.other s.other_held s.other_has))

-- The only ones are one, and lie at one offset.
same_offset : (sets : List NoteParts) (uid : List ℕ) (o p : ℕ) (P Q : NoteParts → Type 0) → IsOnlyAt sets uid o P
    → IsOnlyAt sets uid p Q → o ≡ p
same_offset sets uid o p P Q x y =
    let same = y.1.only x.0 x.1.held x.1.has in sym x.2 ∙ ap (λ (n : NoteParts). n.offset) same ∙ y.2

-- What is said of one of them is said of the other.
moved : (sets : List NoteParts) (uid : List ℕ) (o p : ℕ) (P Q : NoteParts → Type 0) → IsOnlyAt sets uid o P
    → (y : IsOnlyAt sets uid p Q) → P y.0
moved sets uid o p P Q x y = subst P (y.1.only x.0 x.1.held x.1.has) x.3

-- The set is no raw set, or one of another key.
abbrev IsNoRawSet : NoteParts → Type 0
IsNoRawSet n = ¬ (kind_of n.key ≡ kinds.RawSet)

abbrev IsOther : Wanted → NoteParts → Type 0
IsOther w n = (kind_of n.key ≡ kinds.RawSet) × ¬ HasKey w n.key

-- Different rows of the table say what can't both hold.
clash : (sets : List NoteParts) (w : Wanted) (uid : List ℕ) (o p : ℕ)
    → (IsOnlyAt sets uid o IsNoRawSet → IsOnlyAt sets uid p (IsOther w) → ⊥)
    × (IsOnlyAt sets uid o IsNoRawSet → IsOnlyAt sets uid p (IsWanted w) → ⊥)
    × (IsOnlyAt sets uid o (IsOther w) → IsOnlyAt sets uid p (IsWanted w) → ⊥)
clash sets w uid o p = (
  λ x y. moved sets uid o p IsNoRawSet (IsOther w) x y y.3.0,
  λ x y. moved sets uid o p IsNoRawSet (IsWanted w) x y y.3.0,
  λ x y. (moved sets uid o p (IsOther w) (IsWanted w) x y).1 y.3.1,
)

-- The set that is wanted, with less said of it.
wanted_at : (sets : List NoteParts) (w : Wanted) (uid : List ℕ) (o : ℕ) (P : NoteParts → Type 0)
    → IsOnlyAt sets uid o (λ n. IsWanted w n × P n) → IsOnlyAt sets uid o (IsWanted w)
wanted_at sets w uid o P x = (x.0, x.1, x.2, x.3.0)

reached_here : (sets : List NoteParts) (before : List Reference) (uid : List ℕ) (o p : ℕ) (P Q : NoteParts → Type 0)
    → IsOnlyAt sets uid o P → IsOnlyAt sets uid p Q → IsReached o before → ¬ IsReached p before → ⊥
reached_here sets before uid o p P Q x y r n =
    n (subst (λ k. IsReached k before) (same_offset sets uid o p P Q x y) r)

-- The set is wanted, and can be read, or can't.
abbrev Can : Wanted → NoteParts → Type 0
Can w n = IsWanted w n × IsReadableAs w n

abbrev Cannot : Wanted → NoteParts → Type 0
Cannot w n = IsWanted w n × ¬ IsReadableAs w n

one_set : (sets : List NoteParts) (before : List Reference) (w : Wanted) (uid : List ℕ) (t u : Target)
    → LeadsToSet sets before w uid t → LeadsToSet sets before w uid u → t ≡ u
one_set sets before w uid Missing Missing x y = refl
one_set sets before w uid Missing Several x y = absurd (x y.one y.one_held y.one_has)
one_set sets before w uid Missing (WrongKind p) x y = absurd (x y.0 y.1.held y.1.has)
one_set sets before w uid Missing (Other p) x y = absurd (x y.0 y.1.held y.1.has)
one_set sets before w uid Missing (Again p) x y = absurd (x y.0.0 y.0.1.held y.0.1.has)
one_set sets before w uid Missing (Unreadable p) x y = absurd (x y.0.0 y.0.1.held y.0.1.has)
one_set sets before w uid Missing (Found p) x y = absurd (x y.0.0 y.0.1.held y.0.1.has)
one_set sets before w uid Several Missing x y = absurd (y x.one x.one_held x.one_has)
one_set sets before w uid Several Several x y = refl
one_set sets before w uid Several (WrongKind p) x y = absurd (several_only sets uid y.0 x y.1)
one_set sets before w uid Several (Other p) x y = absurd (several_only sets uid y.0 x y.1)
one_set sets before w uid Several (Again p) x y = absurd (several_only sets uid y.0.0 x y.0.1)
one_set sets before w uid Several (Unreadable p) x y = absurd (several_only sets uid y.0.0 x y.0.1)
one_set sets before w uid Several (Found p) x y = absurd (several_only sets uid y.0.0 x y.0.1)
one_set sets before w uid (WrongKind o) Missing x y = absurd (y x.0 x.1.held x.1.has)
one_set sets before w uid (WrongKind o) Several x y = absurd (several_only sets uid x.0 y x.1)
one_set sets before w uid (WrongKind o) (WrongKind p) x y =
    ap (λ (k : ℕ). WrongKind k) (same_offset sets uid o p IsNoRawSet IsNoRawSet x y)
one_set sets before w uid (WrongKind o) (Other p) x y = absurd ((clash sets w uid o p).0 x y)
one_set sets before w uid (WrongKind o) (Again p) x y = absurd ((clash sets w uid o p).1 x y.0)
one_set sets before w uid (WrongKind o) (Unreadable p) x y =
    absurd ((clash sets w uid o p).1 x (wanted_at sets w uid p (λ n. ¬ IsReadableAs w n) y.0))
one_set sets before w uid (WrongKind o) (Found p) x y =
    absurd ((clash sets w uid o p).1 x (wanted_at sets w uid p (λ n. IsReadableAs w n) y.0))
one_set sets before w uid (Other o) Missing x y = absurd (y x.0 x.1.held x.1.has)
one_set sets before w uid (Other o) Several x y = absurd (several_only sets uid x.0 y x.1)
one_set sets before w uid (Other o) (WrongKind p) x y = absurd ((clash sets w uid p o).0 y x)
one_set sets before w uid (Other o) (Other p) x y =
    ap (λ (k : ℕ). Other k) (same_offset sets uid o p (IsOther w) (IsOther w) x y)
one_set sets before w uid (Other o) (Again p) x y = absurd ((clash sets w uid o p).2 x y.0)
one_set sets before w uid (Other o) (Unreadable p) x y =
    absurd ((clash sets w uid o p).2 x (wanted_at sets w uid p (λ n. ¬ IsReadableAs w n) y.0))
one_set sets before w uid (Other o) (Found p) x y =
    absurd ((clash sets w uid o p).2 x (wanted_at sets w uid p (λ n. IsReadableAs w n) y.0))
one_set sets before w uid (Again o) Missing x y = absurd (y x.0.0 x.0.1.held x.0.1.has)
one_set sets before w uid (Again o) Several x y = absurd (several_only sets uid x.0.0 y x.0.1)
one_set sets before w uid (Again o) (WrongKind p) x y = absurd ((clash sets w uid p o).1 y x.0)
one_set sets before w uid (Again o) (Other p) x y = absurd ((clash sets w uid p o).2 y x.0)
one_set sets before w uid (Again o) (Again p) x y =
    ap (λ (k : ℕ). Again k) (same_offset sets uid o p (IsWanted w) (IsWanted w) x.0 y.0)
one_set sets before w uid (Again o) (Unreadable p) x y =
    absurd (reached_here sets before uid o p (IsWanted w) (Cannot w) x.0 y.0 x.1 y.1)
one_set sets before w uid (Again o) (Found p) x y =
    absurd (reached_here sets before uid o p (IsWanted w) (Can w) x.0 y.0 x.1 y.1)
one_set sets before w uid (Unreadable o) Missing x y = absurd (y x.0.0 x.0.1.held x.0.1.has)
one_set sets before w uid (Unreadable o) Several x y = absurd (several_only sets uid x.0.0 y x.0.1)
one_set sets before w uid (Unreadable o) (WrongKind p) x y =
    absurd ((clash sets w uid p o).1 y (wanted_at sets w uid o (λ n. ¬ IsReadableAs w n) x.0))
one_set sets before w uid (Unreadable o) (Other p) x y =
    absurd ((clash sets w uid p o).2 y (wanted_at sets w uid o (λ n. ¬ IsReadableAs w n) x.0))
one_set sets before w uid (Unreadable o) (Again p) x y =
    absurd (reached_here sets before uid p o (IsWanted w) (Cannot w) y.0 x.0 y.1 x.1)
one_set sets before w uid (Unreadable o) (Unreadable p) x y =
    ap (λ (k : ℕ). Unreadable k) (same_offset sets uid o p (Cannot w) (Cannot w) x.0 y.0)
one_set sets before w uid (Unreadable o) (Found p) x y =
    absurd ((moved sets uid o p (Cannot w) (Can w) x.0 y.0).1 y.0.3.1)
one_set sets before w uid (Found o) Missing x y = absurd (y x.0.0 x.0.1.held x.0.1.has)
one_set sets before w uid (Found o) Several x y = absurd (several_only sets uid x.0.0 y x.0.1)
one_set sets before w uid (Found o) (WrongKind p) x y =
    absurd ((clash sets w uid p o).1 y (wanted_at sets w uid o (λ n. IsReadableAs w n) x.0))
one_set sets before w uid (Found o) (Other p) x y =
    absurd ((clash sets w uid p o).2 y (wanted_at sets w uid o (λ n. IsReadableAs w n) x.0))
one_set sets before w uid (Found o) (Again p) x y =
    absurd (reached_here sets before uid p o (IsWanted w) (Can w) y.0 x.0 y.1 x.1)
one_set sets before w uid (Found o) (Unreadable p) x y =
    absurd ((moved sets uid p o (Cannot w) (Can w) y.0 x.0).1 x.0.3.1)
one_set sets before w uid (Found o) (Found p) x y =
    ap (λ (k : ℕ). Found k) (same_offset sets uid o p (Can w) (Can w) x.0 y.0)

-- What the storage's reference leads to, by what it leads to in the walk.
abbrev before_walk : Target → ResolvedTarget
before_walk Missing = resolved.Missing
before_walk Several = resolved.Several
before_walk (WrongKind o) = resolved.WrongKind o
before_walk (Other o) = resolved.Missing
before_walk (Again o) = resolved.Found o
before_walk (Unreadable o) = resolved.Unreadable o
before_walk (Found o) = resolved.Found o

at_storage : (sets : List NoteParts) (before : List Reference) (uid : List ℕ) (t : Target)
    → LeadsToPackage sets before uid t → IsTarget sets resolving.Package uid (before_walk t)
at_storage sets before uid Missing x = x
at_storage sets before uid Several x = x
at_storage sets before uid (WrongKind o) x = x
at_storage sets before uid (Other o) x = absurd x
at_storage sets before uid (Again o) x = x.0
at_storage sets before uid (Unreadable o) x = x
at_storage sets before uid (Found o) x = x.0

same_walk : (sets : List NoteParts) (before : List Reference) (uid : List ℕ) (t u : Target)
    → LeadsToPackage sets before uid t → LeadsToPackage sets before uid u → before_walk t ≡ before_walk u → t ≡ u
same_walk sets before uid (Other o) u x y e = absurd x
same_walk sets before uid t (Other p) x y e = absurd y
same_walk sets before uid Missing Missing x y e = refl
same_walk sets before uid Several Several x y e = refl
same_walk sets before uid (WrongKind o) (WrongKind p) x y e = let same : o ≡ p = cc in ap (λ (k : ℕ). WrongKind k) same
same_walk sets before uid (Again o) (Again p) x y e = let same : o ≡ p = cc in ap (λ (k : ℕ). Again k) same
same_walk sets before uid (Unreadable o) (Unreadable p) x y e = let same : o ≡ p = cc in ap (λ (k : ℕ). Unreadable k) same
same_walk sets before uid (Found o) (Found p) x y e = let same : o ≡ p = cc in ap (λ (k : ℕ). Found k) same
same_walk sets before uid (Found o) (Again p) x y e =
    let same : o ≡ p = cc in absurd (x.1 (subst (λ k. IsReached k before) (sym same) y.1))
same_walk sets before uid (Again o) (Found p) x y e =
    let same : o ≡ p = cc in absurd (y.1 (subst (λ k. IsReached k before) same x.1))
same_walk sets before uid t u x y e = absurd cc

one_package : (sets : List NoteParts) (before : List Reference) (uid : List ℕ) (t u : Target) → AreApart 0 sets
    → LeadsToPackage sets before uid t → LeadsToPackage sets before uid u → t ≡ u
one_package sets before uid t u a x y =
    let among = target_among resolving.Package (filter (has_uid uid) sets) in
    let one : among ≡ before_walk t =
    (target_iff sets resolving.Package uid (before_walk t) a).1 (at_storage sets before uid t x) in
    let other : among ≡ before_walk u =
    (target_iff sets resolving.Package uid (before_walk u) a).1 (at_storage sets before uid u y) in
    same_walk sets before uid t u x y (sym one ∙ other)

one_of : (sets : List NoteParts) (before : List Reference) (named : Named) (uid : List ℕ) (t u : Target)
    → AreApart 0 sets → LeadsTo sets before named uid t → LeadsTo sets before named uid u → t ≡ u
one_of sets before Package uid t u a x y = one_package sets before uid t u a x y
one_of sets before (Below w) uid t u a x y = one_set sets before w uid t u x y

pub one_target : (notes : List NoteParts) (partition : ℕ) (before : List Reference) (named : Named) (uid : List ℕ)
    → (t u : Target) → IsContent notes → LeadsTo (sets_of notes partition) before named uid t
    → LeadsTo (sets_of notes partition) before named uid u → t ≡ u
one_target notes partition before named uid t u content x y =
    one_of (sets_of notes partition) before named uid t u (sets_apart notes partition content) x y
