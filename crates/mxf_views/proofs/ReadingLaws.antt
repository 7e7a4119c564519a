-- What notes are read as.
use Rattle.mxf_views.proofs.Common.{◌≡◌, ℕ, ◌∙◌, true, false, cond, List, Option, Some, None, Result, Ok, Err, refl, ap}
use Rattle.mxf_views.proofs.Common.{◌↔◌, ◌&&◌, is_some, result_ok, NoteParts, keeps_value, read_as, IsReadAs, and_from}
use Rattle.mxf_views.proofs.Common.{and_parts, is_ok}
use Rattle.mxf_views.specs.Readings.{IsReadable}

pub reads : {A E : Type 0} (read : List ℕ → Result A E) (n : NoteParts) (value : A)
    → (read_as read n ≡ Some value) ↔ IsReadAs read n value
reads {A} {E} read n value = (
  λ h. elim (keeps_value n) as (λ b. keeps_value n ≡ b
      → cond b (result_ok (read n.held)) None ≡ Some value → IsReadAs read n value) [
        | false ↦ λ _ q. absurd cc
        | true ↦ λ k q. elim (read n.held) as (λ r. read n.held ≡ r
            → result_ok r ≡ Some value → IsReadAs read n value) [
              | Err f ↦ λ _ u. absurd cc
              | Ok x ↦ λ e u. (k, e ∙ (let same : x ≡ value = cc (u) in ap (λ (y : A). Ok y) same))
            ] refl q
      ] refl h,
  λ s. let k : keeps_value n ≡ true = s.0 in let e = s.1 in rw k (rw e refl),
)

pub is_some_readable : {A E : Type 0} (read : List ℕ → Result A E) (n : NoteParts)
    → (is_some (read_as read n) ≡ true) ↔ IsReadable read n
is_some_readable {A} read n = (
  λ h. elim (read_as read n) as (λ o. read_as read n ≡ o → is_some o ≡ true → IsReadable read n) [
    | None ↦ λ _ q. absurd cc
    | Some value ↦ λ e _. (value, (reads read n value).0 e)
  ] refl h,
  λ s. ap (λ (o : Option A). is_some o) ((reads read n s.0).1 s.1),
)

pub ok_readable : {A E : Type 0} (read : List ℕ → Result A E) (n : NoteParts)
    → ((keeps_value n && is_ok (read n.held)) ≡ true) ↔ IsReadable read n
ok_readable {A} {E} read n = (
  λ h.
      let s = and_parts (keeps_value n) (is_ok (read n.held)) h in
      elim (read n.held) as (λ r. read n.held ≡ r → is_ok r ≡ true → IsReadable read n) [
        | Ok x ↦ λ e _. (x, (s.0, e))
        | Err f ↦ λ _ q. absurd cc
      ] refl s.1,
  λ s. and_from (keeps_value n) (is_ok (read n.held)) s.1.0 (ap (λ (r : Result A E). is_ok r) s.1.1),
)
