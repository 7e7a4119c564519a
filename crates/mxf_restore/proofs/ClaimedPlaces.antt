-- What a claim names: a place, or the end of its stretch.
use Rattle.std.proofs.Common.{◌≡◌, ◌↔◌, ◌⊎◌, ℕ, Bool, true, false, if◌then◌else◌, Option, None, Some, refl, ap, inl}
use Rattle.std.proofs.Common.{inr}
use Rattle.std.proofs.lemmas.Option.{same_Some}
use Rattle.mxf_places.specs.Claims.{is_of_stretch}
use Rattle.mxf_places.specs.Named.{IsOfStretch, Names}
use Rattle.mxf_places.specs.declared.claim.Claim.{Claim}
use Rattle.mxf_places.proofs.FirstLaws.{is_of_stretch-says}

-- A claim of a stretch names what is known of its end; others name a place.
pub named_says : (c : Claim) (o : Option ℕ) (x : ℕ) (b : Bool) (Q : Type 0) → (o ≡ Some x) ↔ ((c.is_open ≡ b) × Q)
    → ((if is_of_stretch c.reason then o else Some c.from) ≡ Some x)
    ↔ (Names c x ⊎ (IsOfStretch c × (c.is_open ≡ b) × Q))
named_says c o x b Q end =
    let says = is_of_stretch-says c in
    elim (is_of_stretch c.reason) as (λ s. is_of_stretch c.reason ≡ s
    → ((if s then o else Some c.from) ≡ Some x) ↔ (Names c x ⊎ (IsOfStretch c × (c.is_open ≡ b) × Q))) [
      | true ↦ λ t. (
        λ e. let k = end.0 e in inr (says.0 t, k.0, k.1),
        λ k. elim k [ inl n ↦ absurd (n.0 (says.0 t)) | inr s ↦ end.1 (s.1, s.2) ],
      )
      | false ↦ λ f. (
        λ e. inl (λ s. let t = says.1 s in absurd (cc (t, f)), same_Some _ _ e),
        λ k. elim k [ inl n ↦ ap (λ (z : ℕ). Some z) n.1 | inr s ↦ (let t = says.1 s.0 in absurd (cc (t, f))) ],
      )
    ] refl

-- A number that is there only where a stretch is open, or only where it isn't.

pub open_says : (opened : Bool) (y x : ℕ) → ((if opened then Some y else None) ≡ Some x) ↔ ((opened ≡ true) × (y ≡ x))
open_says true y x = (λ e. (refl, same_Some _ _ e), λ k. ap (λ (z : ℕ). Some z) k.1)
open_says false y x = (λ e. absurd (cc (e)), λ k. let e = k.0 in absurd (cc (e)))

pub closed_says : (opened : Bool) (y x : ℕ) → ((if opened then None else Some y) ≡ Some x)
    ↔ ((opened ≡ false) × (y ≡ x))
closed_says true y x = (λ e. absurd (cc (e)), λ k. let e = k.0 in absurd (cc (e)))
closed_says false y x = (λ e. (refl, same_Some _ _ e), λ k. ap (λ (z : ℕ). Some z) k.1)
