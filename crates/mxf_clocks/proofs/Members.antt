-- Members of lists that are chosen by a test or by an option, and options one behind another.
use Rattle.mxf_views.proofs.Common.{◌≡◌, ◌∙◌, Bool, true, false, cond, refl, sym, ap, subst, List, [], Option, Some, None}
use Rattle.mxf_views.proofs.Common.{In, option_and_then, option_map_or}

pub with_test : {K : Type 0} (b : Bool) (x : K) (xs : List K) → In x (cond b xs []) → (b ≡ true) × In x xs
with_test true x xs h = (refl, h)
with_test false x xs h = absurd h

pub to_test : {K : Type 0} (b : Bool) (x : K) (xs : List K) → b ≡ true → In x xs → In x (cond b xs [])
to_test b x xs e h = subst (λ t. In x (cond t xs [])) (sym e) h

pub with_option : {A K : Type 0} (f : A → List K) (o : Option A) (x : K) → In x (option_map_or f o [])
    → (a : A) × (o ≡ Some a) × In x (f a)
with_option f None x h = absurd h
with_option f (Some a) x h = (a, refl, h)

pub to_option : {A K : Type 0} (f : A → List K) (o : Option A) (a : A) (x : K) → o ≡ Some a → In x (f a)
    → In x (option_map_or f o [])
to_option f o a x e h = subst (λ p. In x (option_map_or f p [])) (sym e) h

pub then_with : {A B : Type 0} (f : A → Option B) (o : Option A) (y : B) → option_and_then f o ≡ Some y
    → (a : A) × (o ≡ Some a) × (f a ≡ Some y)
then_with f None y e = absurd cc
then_with f (Some a) y e = (a, refl, e)

pub then_to : {A B : Type 0} (f : A → Option B) (o : Option A) (a : A) (y : B) → o ≡ Some a → f a ≡ Some y
    → option_and_then f o ≡ Some y
then_to f o a y e h = ap (option_and_then f) e ∙ h

pub with_choice : {A : Type 0} (b : Bool) (o : Option A) (y : A) → cond b o None ≡ Some y → (b ≡ true) × (o ≡ Some y)
with_choice true o y e = (refl, e)
with_choice false o y e = absurd cc

pub to_choice : {A : Type 0} (b : Bool) (o : Option A) (y : A) → b ≡ true → o ≡ Some y → cond b o None ≡ Some y
to_choice b o y e h = ap (λ t. cond t o None) e ∙ h

pub with_denial : {A : Type 0} (b : Bool) (o : Option A) (y : A) → cond b None o ≡ Some y → (b ≡ false) × (o ≡ Some y)
with_denial true o y e = absurd cc
with_denial false o y e = (refl, e)

pub to_denial : {A : Type 0} (b : Bool) (o : Option A) (y : A) → b ≡ false → o ≡ Some y → cond b None o ≡ Some y
to_denial b o y e h = ap (λ t. cond t None o) e ∙ h
