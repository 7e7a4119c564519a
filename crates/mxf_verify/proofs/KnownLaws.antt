-- What a test says is so or isn't.
use Rattle.std.proofs.Common.{◌↔◌, ◌⊎◌, Bool, IsTrue, inl, inr}
use Rattle.std.proofs.lemmas.Bool.{cases_Bool, iff_false}

pub or_not : {P : Type 0} (b : Bool) → IsTrue b ↔ P → P ⊎ ¬ P
or_not b says = elim (cases_Bool b) [ inl t ↦ inl (says.0 t) | inr f ↦ inr (iff_false says f) ]
