-- Sets found by their instance identifiers, and what references lead to.
use Rattle.mxf_views.proofs.Common.{◌≡◌, ℕ, Bool, true, false, List, [], ◌∷◌, Result, Ok, Err, refl, ap, subst, ◌∙◌}
use Rattle.mxf_views.proofs.Common.{inl, inr, ◌↔◌, ◌&&◌, not, if◌then◌else◌, filter, bytes_eq-Decides, NoteParts}
use Rattle.mxf_views.proofs.Common.{keeps_value, kind_of, In, AreApart, AreApart-filter, In-filter, and_from}
use Rattle.mxf_views.proofs.Common.{false_from_ne_true, and_parts, IsTrue, identification_at, package_at, later_differs}
use Rattle.mxf_views.proofs.Common.{picked_none, picked_one, picked_several}
use Rattle.mxf_klv.specs.declared.kinds.Kind.{Kind}
use Rattle.mxf_sets.specs.Storage.{storage_at}
use Rattle.mxf_references.specs.declared.reference.target.Wanted.{Wanted}
use Rattle.mxf_references.specs.declared.reference.target.Wanted.TheVariants.{Storage, Identification, Package}
use Rattle.mxf_references.specs.References.{found_among, has_uid, reads_uid, HasUid, IsFound, IsOnlyWith, IsSeveral}
use Rattle.mxf_views.specs.Copies.{sets_of}
use Rattle.mxf_references.specs.Targets.{fits, target_among, target_at, target_of, is_readable, IsReadableAs, IsTarget}
use Rattle.mxf_references.specs.Targets.{IsWanted}
use Rattle.mxf_sets.specs.Instance.{instance_uid_at}
use Rattle.mxf_references.specs.declared.reference.Found.{Found}
use Rattle.mxf_references.specs.declared.reference.Found.TheVariants.{Several, Absent, One}
use Rattle.mxf_references.specs.declared.reference.target.Target.{Target}
use Rattle.mxf_sets.specs.declared.record.FieldFault.{FieldFault}
use Rattle.mxf_views.proofs.ReadingLaws.{ok_readable}
use Rattle.mxf_klv.specs.declared.kinds.Kind.TheVariants as kinds
use Rattle.mxf_references.specs.declared.reference.target.Target.TheVariants as targets

reads_says : (uid : List ℕ) (r : Result (List ℕ) FieldFault) → reads_uid uid r ≡ true → r ≡ Ok uid
reads_says uid (Ok own) h = ap (λ (x : List ℕ). Ok x) ((bytes_eq-Decides own uid).0 h)
reads_says uid (Err f) h = absurd cc

reads_it : (uid : List ℕ) (r : Result (List ℕ) FieldFault) → r ≡ Ok uid → reads_uid uid r ≡ true
reads_it uid r e = ap (reads_uid uid) e ∙ (bytes_eq-Decides uid uid).1 refl

has_uid_iff : (uid : List ℕ) (n : NoteParts) → IsTrue (has_uid uid n) ↔ HasUid uid n
unfolding has_uid
has_uid_iff uid n = (
  λ h. let p = and_parts (keeps_value n)
      (reads_uid uid (instance_uid_at n.held)) h in record {
        kept = p.0;
        own = reads_says uid (instance_uid_at n.held) p.1;
      },
  λ h. and_from (keeps_value n) (reads_uid uid (instance_uid_at n.held)) h.kept
      (reads_it uid (instance_uid_at n.held) h.own),
)

-- the sets of a list that have the identifier
abbrev pub Picks : List NoteParts → List ℕ → List NoteParts → Type 0
Picks sets uid ws = (n : NoteParts) → In n ws ↔ (In n sets × HasUid uid n)

pub picks : (sets : List NoteParts) (uid : List ℕ) → Picks sets uid (filter (has_uid uid) sets)
picks sets uid n = let f = In-filter (has_uid uid) sets n in (
  λ h. let s = f.0 h in (s.0, (has_uid_iff uid n).0 s.1),
  λ s. f.1 (s.0, (has_uid_iff uid n).1 s.1),
)

none_of : (sets : List NoteParts) (uid : List ℕ) (ws : List NoteParts) → Picks sets uid ws → IsFound sets uid Absent
    → ws ≡ []
none_of sets uid ws w f = picked_none (λ n. In n sets × HasUid uid n) ws w (λ n h. f n h.0 h.1)

pub only_of : (sets : List NoteParts) (uid : List ℕ) (ws : List NoteParts) → Picks sets uid ws → AreApart 0 ws
    → (n : NoteParts) → IsOnlyWith sets uid n → ws ≡ n ∷ []
only_of sets uid ws w a n o =
    picked_one (λ m. In m sets × HasUid uid m) ws w a n (o.held, o.has) (λ m h. o.only m h.0 h.1)

several_of : (sets : List NoteParts) (uid : List ℕ) (ws : List NoteParts) → Picks sets uid ws → IsSeveral sets uid
    → (x : NoteParts) × (y : NoteParts) × (rest : List NoteParts) × (ws ≡ x ∷ y ∷ rest)
several_of sets uid ws w s = picked_several (λ n. In n sets × HasUid uid n) ws w s.one s.other (s.one_held, s.one_has)
    (s.other_held, s.other_has) s.differ

pub only_from : (sets : List NoteParts) (uid : List ℕ) (n : NoteParts) → Picks sets uid (n ∷ []) → IsOnlyWith sets uid n
only_from sets uid n w =
    let s = (w n).0 (inl refl) in
    record { held = s.0; has = s.1; only = λ m h u. elim ((w m).1 (h, u)) [ inl e ↦ e | inr k ↦ absurd k ] }

several_from : (sets : List NoteParts) (uid : List ℕ) (m n : NoteParts) (ws : List NoteParts)
    → Picks sets uid (m ∷ n ∷ ws) → AreApart 0 (m ∷ n ∷ ws) → IsSeveral sets uid
several_from sets uid m n ws w a =
    let s = (w m).0 (inl refl) in
    let t = (w n).0 (inr (inl refl)) in
    record {
      one = m;
      other = n;
      one_held = s.0;
      one_has = s.1;
      other_held = t.0;
      other_has = t.1;
      differ = later_differs m n ws a;
    }

found_from : (sets : List NoteParts) (uid : List ℕ) (ws : List NoteParts) → Picks sets uid ws → AreApart 0 ws
    → IsFound sets uid (found_among ws)
found_from sets uid [] w a = λ n h u. (w n).1 (h, u)
found_from sets uid (n ∷ []) w a = (n, only_from sets uid n w, refl)
found_from sets uid (m ∷ n ∷ ws) w a = several_from sets uid m n ws w a

found_to : (sets : List NoteParts) (uid : List ℕ) (ws : List NoteParts) → Picks sets uid ws → AreApart 0 ws
    → (f : Found) → IsFound sets uid f → found_among ws ≡ f
found_to sets uid ws w a Absent i = ap found_among (none_of sets uid ws w i)
found_to sets uid ws w a (One o) i = ap found_among (only_of sets uid ws w a i.0 i.1) ∙ ap (λ (x : ℕ). One x) i.2
found_to sets uid ws w a Several i = ap found_among (several_of sets uid ws w i).3

-- What is found is by the sets that have the identifier.
pub found_iff : (sets : List NoteParts) (uid : List ℕ) (f : Found) → AreApart 0 sets
    → (found_among (filter (has_uid uid) sets) ≡ f) ↔ IsFound sets uid f
found_iff sets uid f r =
    let ws = filter (has_uid uid) sets in
    let a = AreApart-filter (has_uid uid) 0 sets r in
    let w = picks sets uid in
    (λ e. subst (IsFound sets uid) e (found_from sets uid ws w a), λ i. found_to sets uid ws w a f i)

-- ---- targets

fits_says : (w : Wanted) (k : Kind) → fits w k ≡ true → IsWanted w k
fits_says Storage kinds.ContentStorage e = refl
fits_says Storage _ e = absurd cc
fits_says Identification kinds.Identification e = refl
fits_says Identification _ e = absurd cc
fits_says Package kinds.MaterialPackage e = inl refl
fits_says Package kinds.SourcePackage e = inr refl
fits_says Package _ e = absurd cc

fits_tells : (w : Wanted) (k : Kind) → IsWanted w k → fits w k ≡ true
fits_tells Storage k e = ap (fits Storage) e
fits_tells Identification k e = ap (fits Identification) e
fits_tells Package k (inl e) = ap (fits Package) e
fits_tells Package k (inr e) = ap (fits Package) e

pub wanted_kind : (w : Wanted) (k : Kind) → (fits w k ≡ true) ↔ IsWanted w k
wanted_kind w k = (fits_says w k, fits_tells w k)

readable_as : (w : Wanted) (n : NoteParts) → ((keeps_value n && is_readable w n.held) ≡ true) ↔ IsReadableAs w n
readable_as Storage n = ok_readable storage_at n
readable_as Identification n = ok_readable identification_at n
readable_as Package n = ok_readable package_at n

abbrev pub target_by : Bool → Bool → ℕ → Target
target_by fit read o = if not fit then targets.WrongKind o else (if read then targets.Found o else targets.Unreadable o)

at_only : (sets : List NoteParts) (w : Wanted) (uid : List ℕ) (n : NoteParts) → IsOnlyWith sets uid n
    → IsTarget sets w uid (target_at w n)
unfolding target_at
at_only sets w uid n o =
    let kind = wanted_kind w (kind_of n.key) in
    let fit = fits w (kind_of n.key) in
    let value = readable_as w n in
    let read = keeps_value n && is_readable w n.held in
    elim fit as (λ b. fit ≡ b → IsTarget sets w uid (target_by b read n.offset)) [
      | false ↦ λ e. (n, o, refl, λ k. let t = kind.1 k in cc (t, e))
      | true ↦ λ e. elim read as (λ b. read ≡ b → IsTarget sets w uid (target_by true b n.offset)) [
        | true ↦ λ f. (n, o, refl, kind.0 e, value.0 f)
        | false ↦ λ f. (n, o, refl, kind.0 e, λ r. let t = value.1 r in cc (t, f))
      ] refl
    ] refl

pub only_at : (w : Wanted) (n : NoteParts) (f r : Bool) → fits w (kind_of n.key) ≡ f
    → (keeps_value n && is_readable w n.held) ≡ r → target_at w n ≡ target_by f r n.offset
unfolding target_at
only_at w n f r e g = λ i. target_by (e i) (g i) n.offset

wrong_kind : (w : Wanted) (n : NoteParts) → ¬ IsWanted w (kind_of n.key) → target_at w n ≡ targets.WrongKind n.offset
wrong_kind w n k =
    let e = false_from_ne_true (fits w (kind_of n.key)) (λ t. k ((wanted_kind w (kind_of n.key)).0 t)) in
    only_at w n false (keeps_value n && is_readable w n.held) e refl

unreadable : (w : Wanted) (n : NoteParts) → IsWanted w (kind_of n.key) → ¬ IsReadableAs w n
    → target_at w n ≡ targets.Unreadable n.offset
unreadable w n k r =
    let f = false_from_ne_true (keeps_value n && is_readable w n.held) (λ t. r ((readable_as w n).0 t)) in
    only_at w n true false ((wanted_kind w (kind_of n.key)).1 k) f

target_from : (sets : List NoteParts) (w : Wanted) (uid : List ℕ) (ws : List NoteParts) → Picks sets uid ws
    → AreApart 0 ws → IsTarget sets w uid (target_among w ws)
target_from sets w uid [] p a = found_from sets uid [] p a
target_from sets w uid (n ∷ []) p a = at_only sets w uid n (only_from sets uid n p)
target_from sets w uid (m ∷ n ∷ ws) p a = found_from sets uid (m ∷ n ∷ ws) p a

target_to : (sets : List NoteParts) (w : Wanted) (uid : List ℕ) (ws : List NoteParts) → Picks sets uid ws
    → AreApart 0 ws → (t : Target) → IsTarget sets w uid t → target_among w ws ≡ t
target_to sets w uid ws p a targets.Missing i = ap (target_among w) (none_of sets uid ws p i)
target_to sets w uid ws p a targets.Several i = ap (target_among w) (several_of sets uid ws p i).3
target_to sets w uid ws p a (targets.WrongKind o) i =
    ap (target_among w) (only_of sets uid ws p a i.0 i.1) ∙ wrong_kind w i.0 i.3
    ∙ ap (λ (x : ℕ). targets.WrongKind x) i.2
target_to sets w uid ws p a (targets.Unreadable o) i =
    ap (target_among w) (only_of sets uid ws p a i.0 i.1) ∙ unreadable w i.0 i.3 i.4
    ∙ ap (λ (x : ℕ). targets.Unreadable x) i.2
target_to sets w uid ws p a (targets.Found o) i = ap (target_among w) (only_of sets uid ws p a i.0 i.1)
    ∙ only_at w i.0 true true ((wanted_kind w (kind_of i.0.key)).1 i.3) ((readable_as w i.0).1 i.4)
    ∙ ap (λ (x : ℕ). targets.Found x) i.2

-- What a reference leads to is by the sets that have the identifier.
pub target_iff : (sets : List NoteParts) (w : Wanted) (uid : List ℕ) (t : Target) → AreApart 0 sets
    → (target_among w (filter (has_uid uid) sets) ≡ t) ↔ IsTarget sets w uid t
target_iff sets w uid t r =
    let ws = filter (has_uid uid) sets in
    let a = AreApart-filter (has_uid uid) 0 sets r in
    let p = picks sets uid in
    (λ e. subst (IsTarget sets w uid) e (target_from sets w uid ws p a), λ i. target_to sets w uid ws p a t i)

pub target_of_iff : (notes : List NoteParts) (partition : ℕ) (w : Wanted) (uid : List ℕ) (t : Target)
    → AreApart 0 (sets_of notes partition) → (target_of notes partition w uid ≡ t) ↔ IsTarget
    (sets_of notes partition) w uid t
unfolding target_of
target_of_iff notes partition w uid t r = target_iff (sets_of notes partition) w uid t r
