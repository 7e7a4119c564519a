-- Steps of lists of which one is laid over the other, and the search in steps.
use Rattle.mxf_views.proofs.Common.{◌≡◌, ◌<◌, ◌≤◌, ◌∙◌, ◌++◌, ℕ, zero, suc, true, false, nat_le, if◌then◌else◌, List}
use Rattle.mxf_views.proofs.Common.{[], ◌∷◌, Option, None, refl, sym, ap, arith, length, get_or, map, option_or}
use Rattle.mxf_views.proofs.Common.{AllWithin, IsNonDecreasingBy, leb-true, leb-false, le-leb, lt-leb}
use Rattle.std.proofs.lemmas.List.Folds.{find-append}
use Rattle.mxf_places.specs.Claims.{is_claimed}
use Rattle.mxf_restore.specs.Steps.{AreSteps, NeverFall, overlay, overlay_with, step, value_from}
use Rattle.mxf_places.specs.declared.claim.Claim.{Claim}
use Rattle.mxf_restore.specs.declared.first.Step.{Step}

-- ---- one laid over the other

module _ (x : ℕ) where
  value-with : (u : Option Claim) (a : Step) (above : List Step)
      → ((l : Option Claim) (below : List Step) → value_from (option_or a.claim l) (overlay a.claim above l below) x
      ≡ option_or (value_from a.claim above x) (value_from l below x)) → (l : Option Claim) (below : List Step)
      → value_from (option_or u l) (overlay_with (overlay a.claim above) u a l below) x
      ≡ option_or (value_from u (a ∷ above) x) (value_from l below x)
  value-with u a above ih l [] =
      elim (nat_le a.from x) as (λ t. (if t then value_from (option_or a.claim l) (overlay a.claim above l []) x
      else option_or u l) ≡ option_or (if t then value_from a.claim above x else u) l) [ true ↦ ih l [] | false ↦ refl ]
  value-with u a above ih l (b ∷ below) =
      elim (nat_le a.from b.from) as (λ t. nat_le a.from b.from ≡ t → value_from (option_or u l)
      (if t then step a.from a.claim l ∷ overlay a.claim above l (b ∷ below)
      else step b.from u b.claim ∷ overlay_with (overlay a.claim above) u a b.claim below) x
      ≡ option_or (value_from u (a ∷ above) x) (value_from l (b ∷ below) x)) [
        | true ↦ λ e. elim (nat_le a.from x) as (λ t. nat_le a.from x ≡ t
            → (if t then value_from (option_or a.claim l) (overlay a.claim above l (b ∷ below)) x else option_or u l)
            ≡ option_or (if t then value_from a.claim above x else u) (value_from l (b ∷ below) x)) [
              | true ↦ λ f. ih l (b ∷ below)
              | false ↦ λ f.
                  let g = leb-true a.from b.from e in
                  let h = leb-false a.from x f in
                  let k : nat_le b.from x ≡ false = lt-leb b.from x (omega arith) in
                  ap (λ t. option_or u (if t then value_from b.claim below x else l)) (sym k)
            ] refl
        | false ↦ λ e. elim (nat_le b.from x) as (λ t. nat_le b.from x ≡ t
            → (if t then value_from (option_or u b.claim) (overlay_with (overlay a.claim above) u a b.claim below) x
            else option_or u l)
            ≡ option_or (value_from u (a ∷ above) x) (if t then value_from b.claim below x else l)) [
              | true ↦ λ f. value-with u a above ih b.claim below
              | false ↦ λ f.
                  let g = leb-false a.from b.from e in
                  let h = leb-false b.from x f in
                  let k : nat_le a.from x ≡ false = lt-leb a.from x (omega arith) in
                  ap (λ t. option_or (if t then value_from a.claim above x else u) l) (sym k)
            ] refl
      ] refl

  pub value-overlay : (u : Option Claim) (above : List Step) (l : Option Claim) (below : List Step)
      → value_from (option_or u l) (overlay u above l below) x ≡ option_or (value_from u above x) (value_from l below x)
  value-overlay u [] l [] = refl
  value-overlay u [] l (b ∷ below) =
      elim (nat_le b.from x) as (λ t. (if t then value_from (option_or u b.claim) (overlay u [] b.claim below) x
      else option_or u l) ≡ option_or u (if t then value_from b.claim below x else l)) [
        | true ↦ value-overlay u [] b.claim below
        | false ↦ refl
      ]
  value-overlay u (a ∷ above) l below = value-with u a above (λ m bs. value-overlay a.claim above m bs) l below

never-map : (low : ℕ) (u : Option Claim) (below : List Step) → NeverFall low below
    → NeverFall low (map (λ s. step s.from u s.claim) below)
never-map low u [] r = tt
never-map low u (b ∷ below) r = (r.0, never-map b.from u below r.1)

never-with : (low : ℕ) (u : Option Claim) (a : Step) (above : List Step)
    → ((l : Option Claim) (below : List Step) → NeverFall a.from below
    → NeverFall a.from (overlay a.claim above l below)) → (l : Option Claim) (below : List Step) → low ≤ a.from
    → NeverFall low below → NeverFall low (overlay_with (overlay a.claim above) u a l below)
never-with low u a above ih l [] h r = (h, ih l [] tt)
never-with low u a above ih l (b ∷ below) h r = elim (nat_le a.from b.from) as (λ t. nat_le a.from b.from ≡ t
    → NeverFall low (if t then step a.from a.claim l ∷ overlay a.claim above l (b ∷ below)
    else step b.from u b.claim ∷ overlay_with (overlay a.claim above) u a b.claim below)) [
      | true ↦ λ e. (h, ih l (b ∷ below) (leb-true a.from b.from e, r.1))
      | false ↦ λ e.
          let g = leb-false a.from b.from e in
          (r.0, never-with b.from u a above ih b.claim below (omega arith) r.1)
    ] refl

never-overlay : (low : ℕ) (u : Option Claim) (above : List Step) (l : Option Claim) (below : List Step)
    → NeverFall low above → NeverFall low below → NeverFall low (overlay u above l below)
never-overlay low u [] l below r s = never-map low u below s
never-overlay low u (a ∷ above) l below r s =
    never-with low u a above (λ m bs t. never-overlay a.from a.claim above m bs r.1 t) l below r.0 s

pub laid_over : (xs ys : List Claim) (above below : List Step) → AreSteps xs above → AreSteps ys below
    → AreSteps (xs ++ ys) (overlay None above None below)
laid_over xs ys above below r s = record {
  never_fall = never-overlay 0 None above None below r.never_fall s.never_fall;
  tell = λ x h. value-overlay x None above None below ∙ (λ i. option_or (r.tell x h i) (s.tell x h i))
      ∙ sym (find-append (is_claimed x) xs ys);
}

-- ---- the search

at_least : (low : ℕ) (steps : List Step) (j : ℕ) (d : Step) → NeverFall low steps → j < length steps
    → low ≤ (get_or steps j d).from
at_least low [] j d r h = absurd (omega arith)
at_least low (s ∷ steps) zero d r h = r.0
at_least low (s ∷ steps) (suc j) d r h =
    let l : s.from ≤ (get_or steps j d).from = at_least s.from steps j d r.1 (omega arith) in
    let m : low ≤ s.from = r.0 in omega (arith, l, m)

pub never_decrease : (low : ℕ) (steps : List Step) → NeverFall low steps → IsNonDecreasingBy (λ s. s.from) steps
never_decrease low [] r i j d l h = absurd (omega arith)
never_decrease low (s ∷ steps) r zero zero d l h = omega arith
never_decrease low (s ∷ steps) r zero (suc j) d l h = at_least s.from steps j d r.1 (omega arith)
never_decrease low (s ∷ steps) r (suc i) zero d l h = absurd (omega arith)
never_decrease low (s ∷ steps) r (suc i) (suc j) d l h =
    never_decrease s.from steps r.1 i j d (omega arith) (omega arith)

-- what the last of so many steps says
abbrev pub said_by : Option Claim → List Step → Step → ℕ → Option Claim
said_by v steps d zero = v
said_by v steps d (suc j) = (get_or steps j d).claim

pub value_passed : (v : Option Claim) (steps : List Step) (x k : ℕ) (d : Step) → k ≤ length steps
    → AllWithin (λ s. s.from ≤ x) steps 0 k → AllWithin (λ s. x < s.from) steps k (length steps)
    → value_from v steps x ≡ said_by v steps d k
value_passed v [] x zero d h below above = refl
value_passed v [] x (suc k) d h below above = absurd (omega arith)
value_passed v (s ∷ steps) x zero d h below above =
    let l : x < s.from = above 0 d (omega arith) (omega arith) in
    let e : nat_le s.from x ≡ false = lt-leb s.from x l in
    ap (λ t. if t then value_from s.claim steps x else v) e
value_passed v (s ∷ steps) x (suc k) d h below above =
    let l : s.from ≤ x = below 0 d (omega arith) (omega arith) in
    let e : nat_le s.from x ≡ true = le-leb s.from x l in
    ap (λ t. if t then value_from s.claim steps x else v) e ∙ value_passed s.claim steps x k d (omega arith)
    (λ j z m n. below (suc j) z (omega arith) (omega arith)) (λ j z m n. above (suc j) z (omega arith) (omega arith))
    ∙ same s steps d k
  where
    same : (s : Step) (steps : List Step) (d : Step) (k : ℕ)
        → said_by s.claim steps d k ≡ (get_or (s ∷ steps) k d).claim
    same s steps d zero = refl
    same s steps d (suc k) = refl
