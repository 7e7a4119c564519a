-- What a function makes of an option, and what it was made of.
use Rattle.mxf_views.proofs.Common.{◌≡◌, Bool, true, false, Option, None, Some, if◌then◌else◌, option_map, refl}
use Rattle.mxf_views.proofs.Common.{same_Some}

-- Something is made of something.
pub some_from : {A B : Type 0} (f : A → B) (d : Option A) (b : B) → option_map f d ≡ Some b
    → (a : A) × (d ≡ Some a) × (f a ≡ b)
some_from f None b e = absurd cc
some_from f (Some a) b e = (a, refl, same_Some (f a) b e)

-- Nothing is made of nothing.
pub none_from : {A B : Type 0} (f : A → B) (d : Option A) → option_map f d ≡ None → d ≡ None
none_from f None e = refl
none_from f (Some a) e = absurd cc

-- Something that is there if a test holds is there since it holds.
pub some_if : {A : Type 0} (b : Bool) (a x : A) → (if b then Some a else None) ≡ Some x → (b ≡ true) × (a ≡ x)
some_if true a x e = (refl, same_Some a x e)
some_if false a x e = absurd cc
