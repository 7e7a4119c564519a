-- Where a key stands in a list that rises by it.
use Rattle.mxf_klv.proofs.Common.{◌≡◌, ◌↔◌, ◌∙◌, ◌<◌, ◌≤◌, ◌==◌, ℕ, List, IsTrue, ap, arith, eq-eqb, eqb-true, get_or}
use Rattle.mxf_klv.proofs.Common.{length, map, sym, AllWithin, IsNonDecreasingBy, get_or_default, In}
use Rattle.mxf_klv.proofs.Lists.{Contains-from_In, In-at, In-map}

module _ {K : Type 0} (key : K → ℕ) (xs : List K) (at bound : ℕ) where
  -- The first element that doesn't lie below a key has it, if one has.
  pub first_with_key : (d : K) → IsNonDecreasingBy key xs → AllWithin (λ x. key x < bound) xs 0 at
      → AllWithin (λ x. bound ≤ key x) xs at (length xs) → In bound (map key xs)
      → (at < length xs) × (key (get_or xs at d) ≡ bound)
  first_with_key d rises below above h =
      let m = (In-map key xs bound).0 h in
      let c = Contains-from_In m.0 xs m.1 in
      let within : c.0 < length xs = c.1 in
      let here : key (get_or xs c.0 d) ≡ bound =
      ap key (get_or_default xs c.0 d m.0 within ∙ c.2) ∙ sym m.2 in
      let low : at ≤ c.0 = grind (arith, below c.0 d) in
      let least = rises at c.0 d low within in
      let far = above at d (omega arith) (omega arith) in
      (omega (arith, low, within), omega (arith, least, far, here))

  -- An element that stands at that place tells whether one has the key.
  pub key_there : (d : K) → IsNonDecreasingBy key xs → AllWithin (λ x. key x < bound) xs 0 at
      → AllWithin (λ x. bound ≤ key x) xs at (length xs) → at < length xs
      → IsTrue (key (get_or xs at d) == bound) ↔ In bound (map key xs)
  key_there d rises below above within = (
    λ t. (In-map key xs bound).1 (get_or xs at d, In-at xs at d within, sym (eqb-true _ _ t)),
    λ h. eq-eqb _ _ (first_with_key d rises below above h).1,
  )
