-- Packets of a container keep no value.
use Rattle.mxf_klv.proofs.Common.{◌≡◌, ℕ, true, false, List, refl, and_parts, rules, Option, None, Some, SomeIff}
use Rattle.mxf_klv.specs.Kind.{kind_of}
use Rattle.mxf_klv.specs.Note.{keeps, keeps_of}
use Rattle.mxf_klv.specs.declared.kinds.Kind.{Kind}
use Rattle.mxf_klv.specs.declared.kinds.Kind.TheVariants.{Essence, Other}
use Rattle.std.specs.Prelude.{nat_lt}
use Rattle.mxf_skim.specs.PassedOver.{is_in_container, stands_in_container}

kept_of : (kind : Kind) (key : List ℕ) (len : ℕ) → stands_in_container kind key ≡ true → keeps_of kind len ≡ false
kept_of Essence key len stands = refl
kept_of Other key len stands = refl
kept_of kind key len stands = search rules

pub keeps_nothing : (key : List ℕ) (len : ℕ) → is_in_container key len ≡ true → keeps key len ≡ false
keeps_nothing key len is =
    kept_of (kind_of key) key len (and_parts (nat_lt 0 len) (stands_in_container (kind_of key) key) is).1

-- what is answered exactly where one holds is answered exactly where the other does
pub some_where : {X : Type 0} (r : Option X) (P Q : Type 0) (v : X) → (P → Q) → (Q → P) → SomeIff r P v → SomeIff r Q v
some_where None P Q v on back none = λ q. none (back q)
some_where (Some x) P Q v on back some = (on some.0, some.1)
