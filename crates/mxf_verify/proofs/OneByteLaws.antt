-- One changed byte is of one note.
use Rattle.mxf_views.proofs.Common.{◌≡◌, ◌⊎◌, ◌+◌, ◌-◌, ◌<◌, ◌≤◌, ◌∙◌, ◌++◌, ℕ, true, false, not, IsTrue, List, drop}
use Rattle.mxf_views.proofs.Common.{length, take, cond, inl, inr, refl, sym, ap, subst, arith, and_from, cases_lt}
use Rattle.mxf_views.proofs.Common.{drop-drop, drop-take, take-append-drop, take-take, take_all, IsCovered, covered_end}
use Rattle.mxf_views.proofs.Common.{keeps_value, NoteParts, In, IsCatalogue}
use Rattle.std.proofs.lemmas.Bool.{not_from_false}
use Rattle.sha2.specs.Sha256.{sha256}
use Rattle.mxf_verify.specs.VerificationLaws.{AreAllClear, AreOneByteApart}
use Rattle.mxf_verify.specs.Verifying.{DiffersIn, IsAmong, IsSaidBy, front_size, held_in, held_size, is_digested, Bytes}
use Rattle.mxf_verify.proofs.CandidateLaws.{covered_by_size}
use Rattle.mxf_verify.proofs.VerificationLaws.{clear_one, compared_so}

-- A part that doesn't hold the byte is the same.
same_part : (at d k : ℕ) (a b : List ℕ) → AreOneByteApart at a b → (d + k ≤ at) ⊎ (at < d)
    → take k (drop d a) ≡ take k (drop d b)
same_part at d k a b apart (inl ahead) =
    let front = λ (l : List ℕ). sym (drop-take d k l) ∙ ap (drop d) (sym (take-take (d + k) at l ahead)) in
    front a ∙ ap (λ (l : List ℕ). drop d (take (d + k) l)) apart.ahead ∙ sym (front b)
same_part at d k a b apart (inr behind) =
    let back = λ (l : List ℕ). ap (λ (i : ℕ). drop i l)
    (let e : d ≡ at + 1 + (d - (at + 1)) = omega (arith, behind) in e) ∙ sym (drop-drop (d - (at + 1)) (at + 1) l) in
    ap (take k) (back a ∙ ap (drop (d - (at + 1))) apart.behind ∙ sym (back b))

-- So what a note holds is the same where the byte is none of its.
same_held : (m : NoteParts) (offset at : ℕ) (a b : List ℕ) → AreOneByteApart at a b → IsAmong m offset a
    → (m.offset ≤ offset + at → offset + at < covered_end m → ⊥) → held_in m offset a ≡ held_in m offset b
unfolding held_in
same_held m offset at a b apart among other = grind (arith, covered_by_size, same_part, cases_lt)

pub changed_alone : (reference : List NoteParts) (n m : NoteParts) (offset at : ℕ) (a b : List ℕ)
    → IsCatalogue reference → AreAllClear reference → AreOneByteApart at a b → In n reference
    → IsCovered n (offset + at) → ((x : NoteParts) → In x reference → ¬ DiffersIn reference x (Bytes offset a))
    → In m reference → DiffersIn reference m (Bytes offset b) → m ≡ n
changed_alone reference n m offset at a b is clear apart i holds none j differs =
    elim (cases_lt (offset + at) m.offset) [
      | inl before ↦ absurd (unchanged (λ low high. absurd (omega (arith, before, low))))
      | inr from ↦ elim (cases_lt (offset + at) (covered_end m)) [
        | inr behind ↦ absurd (unchanged (λ low high. absurd (omega (arith, behind, high))))
        | inl within ↦ clear_one reference m n clear j i
            (offset + at, record { from = from; before = omega (arith, within) }, holds)
      ]
    ]
  where
    among : IsAmong m offset a
    among =
        let to : covered_end m ≤ offset + length b = differs.0.among.to in
        let many : length a ≡ length b = apart.as_many in
        record { from = differs.0.among.from; to = omega (arith, to, many) }

    unchanged : (m.offset ≤ offset + at → offset + at < covered_end m → ⊥) → ⊥
    unchanged other = elim ((compared_so reference m offset a is clear j).0 among) [
      | inr d ↦ none m j d
      | inl same ↦ differs.1 (subst (IsSaidBy m) (same_held m offset at a b apart among other) same.1)
    ]

-- What a note says of as many bytes as it holds are one list, or two values with one digest.
pub said_once : (n : NoteParts) (a b : List ℕ) → IsSaidBy n a → IsSaidBy n b → length a ≡ held_size n
    → length b ≡ held_size n
    → (a ≡ b) ⊎ (IsTrue (is_digested n) × (sha256 (drop (front_size n) a) ≡ sha256 (drop (front_size n) b)))
unfolding is_digested
said_once n a b s t p q = elim n.whole as (λ w. n.whole ≡ w
    → (a ≡ b) ⊎ (IsTrue (is_digested n) × (sha256 (drop (front_size n) a) ≡ sha256 (drop (front_size n) b)))) [
      | false ↦ λ e.
          let size : held_size n ≡ front_size n = ap (λ w. cond w (front_size n + n.length) (front_size n)) e in
          let all = λ (l : List ℕ) (f : length l ≡ held_size n). sym
          (take_all (front_size n) l (omega (arith, f, size))) in
          inl (all a p ∙ front ∙ sym (all b q))
      | true ↦ λ e. elim (keeps_value n) as (λ k. keeps_value n ≡ k
          → (a ≡ b) ⊎ (IsTrue (is_digested n) × (sha256 (drop (front_size n) a) ≡ sha256 (drop (front_size n) b)))) [
            | true ↦ λ k.
                let whole = λ (l : List ℕ) (u : IsSaidBy n l). ap
                (λ w. cond w (drop (front_size n) l) (sha256 (drop (front_size n) l))) (sym k) ∙ u.value e in
                inl (sym (take-append-drop (front_size n) a) ∙ ap (λ l. l ++ drop (front_size n) a) front
                ∙ ap (λ l. take (front_size n) b ++ l) (whole a s ∙ sym (whole b t))
                ∙ take-append-drop (front_size n) b)
            | false ↦ λ k.
                let digest = λ (l : List ℕ) (u : IsSaidBy n l). ap
                (λ w. cond w (drop (front_size n) l) (sha256 (drop (front_size n) l))) (sym k) ∙ u.value e in
                inr (
                  and_from n.whole (not (keeps_value n)) e (not_from_false (keeps_value n) k),
                  digest a s ∙ sym (digest b t),
                )
          ] refl
    ] refl
  where
    front : take (front_size n) a ≡ take (front_size n) b
    front = s.front ∙ sym t.front
