-- Disputed places of which each place stands once.
use Rattle.mxf_views.proofs.Common.{◌≡◌, ◌∙◌, ◌&&◌, ◌==◌, ℕ, Bool, true, false, cond, not, filter, List, [], ◌∷◌, refl}
use Rattle.mxf_views.proofs.Common.{sym, ap, eq-eqb, eqb-true, list_any, nat_cmp, is_at, same_bool}
use Rattle.std.specs.Cmp.{unsigned_ties}
use Rattle.mxf_restore.specs.Plan.{first_by_place}
use Rattle.mxf_restore.specs.declared.plan.DisputedPlace.{DisputedPlace}

-- Those at places that weren't seen.
abbrev pub unseen : List ℕ → List DisputedPlace → List DisputedPlace
unseen seen disputed_places = filter (λ d. not (list_any (is_at (nat_cmp d.place)) seen)) disputed_places

-- Two filters, one after the other.
filtered : {K : Type 0} (p q r : K → Bool) (xs : List K) → ((x : K) → (q x && p x) ≡ r x)
    → filter p (filter q xs) ≡ filter r xs
filtered p q r [] f = refl
filtered p q r (x ∷ xs) f = elim (q x) as (λ b. (b && p x) ≡ r x → filter p (cond b (x ∷ filter q xs) (filter q xs))
    ≡ cond (r x) (x ∷ filter r xs) (filter r xs)) [
      | true ↦ λ e. (λ i. cond (e i) (x ∷ filtered p q r xs f i) (filtered p q r xs f i))
      | false ↦ λ e. filtered p q r xs f ∙ ap (λ b. cond b (x ∷ filter r xs) (filter r xs)) e
    ] (f x)

-- What a place that was seen changes of others.
not_seen : (place other : ℕ) (was now : Bool) → now ≡ cond (is_at (nat_cmp place) other) true was
    → (not (other == place) && not was) ≡ not now
not_seen place other was now e =
    let same : is_at (nat_cmp place) other ≡ (other == place) =
    sym (unsigned_ties place other) ∙ same_bool (place == other) (other == place)
    (λ t. eq-eqb other place (sym (eqb-true place other t))) (λ t. eq-eqb place other (sym (eqb-true other place t))) in
    by (other == place) was ∙ ap not (sym (e ∙ ap (λ b. cond b true was) same))
  where
    by : (a b : Bool) → (not a && not b) ≡ not (cond a true b)
    by true b = refl
    by false b = refl

-- Whether it was seen.
abbrev pub was_seen : List ℕ → ℕ → Bool
was_seen seen x = list_any (is_at (nat_cmp x)) seen

-- Once the place of a disputed place is seen, those that are left are of others.
pub unseen_step : (seen new : List ℕ) (d : DisputedPlace) (ds : List DisputedPlace)
    → ((x : ℕ) → was_seen new x ≡ cond (is_at (nat_cmp d.place) x) true (was_seen seen x))
    → unseen seen (first_by_place (d ∷ ds))
    ≡ cond (not (was_seen seen d.place)) (d ∷ unseen new (first_by_place ds)) (unseen new (first_by_place ds))
unseen_step seen new d ds updates =
    let rest = filtered (λ e. not (was_seen seen e.place)) (λ e. not (e.place == d.place))
    (λ e. not (was_seen new e.place)) (first_by_place ds)
    (λ e. not_seen d.place e.place (was_seen seen e.place) (was_seen new e.place) (updates e.place)) in
    ap (λ l. cond (not (was_seen seen d.place)) (d ∷ l) l) rest

-- None was seen.
pub none_seen : (disputed_places : List DisputedPlace) → unseen [] disputed_places ≡ disputed_places
none_seen [] = refl
none_seen (d ∷ disputed_places) = ap (λ l. d ∷ l) (none_seen disputed_places)
