-- The tests of contents and notes say what the relations say.
use Rattle.mxf_views.proofs.Common.{◌≡◌, ◌∙◌, ap, sym, subst, inl, inr, and_from, and_parts, or_cases, or_left}
use Rattle.mxf_views.proofs.Common.{or_right, NoteParts, head_note, In, has_note, is_same_note, same_note-Decides}
use Rattle.mxf_views.proofs.Common.{list_any-In, not_true, not-true-false}
use Rattle.std.specs.Prelude.{◌↔◌, not, ◌||◌, List, IsTrue, refl}
use Rattle.mxf_verify.specs.Comparing.{contradicts}
use Rattle.mxf_verify.specs.Opposing.{IsContradicted, IsOpposed, is_contradicted, is_had, is_opposed}
use Rattle.mxf_verify.proofs.ComparingLaws.{contradicts-by_test}

pub had-by_test : (n : NoteParts) (notes : List NoteParts) → IsTrue (is_had n notes) ↔ has_note notes n
had-by_test n notes =
    let any = list_any-In (λ m. is_same_note n m || is_same_note (head_note m) n) notes in (
      λ h.
          let s = any.0 h in
          elim (or_cases (is_same_note n s.0) (is_same_note (head_note s.0) n) s.2) [
            | inl e ↦ inl (subst (λ m. In m notes) (sym ((same_note-Decides n s.0).0 e)) s.1)
            | inr e ↦ inr (s.0, s.1, (same_note-Decides (head_note s.0) n).0 e)
          ],
      λ h. any.1 (elim h [
        | inl i ↦ (n, i, or_left _ (is_same_note (head_note n) n) ((same_note-Decides n n).1 refl))
        | inr s ↦ (s.0, s.1, or_right (is_same_note n s.0) _ ((same_note-Decides (head_note s.0) n).1 s.2))
      ]),
    )

-- what has a note has its head
pub has_head : (m n : NoteParts) (notes : List NoteParts) → has_note notes m → head_note m ≡ n → has_note notes n
has_head m n notes (inl i) e = inr (m, i, e)
has_head m n notes (inr s) e = inr (s.0, s.1, ap head_note s.2 ∙ e)

pub contradicted-by_test : (n : NoteParts) (notes : List NoteParts)
    → IsTrue (is_contradicted n notes) ↔ IsContradicted n notes
contradicted-by_test n notes =
    let any = list_any-In (λ m. contradicts m n) notes in (
      λ h. let s = any.0 h in (s.0, s.1, (contradicts-by_test s.0 n).0 s.2),
      λ s. any.1 (s.0, s.1, (contradicts-by_test s.0 n).1 s.2),
    )

pub opposed-by_test : (n : NoteParts) (notes : List NoteParts) → IsTrue (is_opposed n notes) ↔ IsOpposed n notes
opposed-by_test n notes =
    let had = had-by_test n notes in
    let contradicted = contradicted-by_test n notes in (
      λ h.
          let p = and_parts (not (is_had n notes)) (is_contradicted n notes) h in
          record { lacked = λ k. not-true-false (is_had n notes) p.0 (had.1 k); contradicted = contradicted.0 p.1 },
      λ o. and_from _ _ (not_true (is_had n notes) (λ t. o.lacked (had.0 t))) (contradicted.1 o.contradicted),
    )
