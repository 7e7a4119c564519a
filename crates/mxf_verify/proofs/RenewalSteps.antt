-- The notes of an earlier content, one by one.
use Rattle.mxf_views.proofs.Common.{false_from_ne_true, NoteParts, has_note}
use Rattle.std.specs.Prelude.{◌≡◌, Bool, true, false, not, ◌&&◌, List, [], ◌∷◌, cond, refl}
use Rattle.mxf_verify.specs.Opposing.{IsOpposed, is_contradicted, is_had, is_opposed}
use Rattle.mxf_verify.specs.Renewing.{added_of, dropped_of}
use Rattle.mxf_verify.proofs.OpposingLaws.{had-by_test, opposed-by_test}

-- how one note is told
told : (h c : Bool) (n : NoteParts) → not h && c ≡ true → cond (not h && not c) (n ∷ []) [] ≡ []
told true c n e = refl
told false true n e = refl
told false false n e = cc

-- of a note that is opposed, nothing is added and it is dropped
pub opposed-added : (n : NoteParts) (new : List NoteParts) → IsOpposed n new → added_of (n ∷ []) new ≡ []
opposed-added n new o = told (is_had n new) (is_contradicted n new) n ((opposed-by_test n new).1 o)

pub opposed-dropped : (n : NoteParts) (new : List NoteParts) → IsOpposed n new → dropped_of (n ∷ []) new ≡ n ∷ []
opposed-dropped n new o = rw ((opposed-by_test n new).1 o) refl

-- of a note that is had, nothing is added or dropped
pub had-added : (n : NoteParts) (new : List NoteParts) → has_note new n → added_of (n ∷ []) new ≡ []
had-added n new h = let t = (had-by_test n new).1 h in rw t refl

pub not_opposed-dropped : (n : NoteParts) (new : List NoteParts) → (IsOpposed n new → ⊥) → dropped_of (n ∷ []) new ≡ []
not_opposed-dropped n new f =
    let e = false_from_ne_true (is_opposed n new) (λ t. f ((opposed-by_test n new).0 t)) in rw e refl

-- what is neither had nor opposed is added
added-by : (h c : Bool) (n : NoteParts) → h ≡ false → (not h && c) ≡ false → cond (not h && not c) (n ∷ []) [] ≡ n ∷ []
added-by true c n e f = cc
added-by false true n e f = cc
added-by false false n e f = refl

pub lacked-added : (n : NoteParts) (new : List NoteParts) → (has_note new n → ⊥) → (IsOpposed n new → ⊥)
    → added_of (n ∷ []) new ≡ n ∷ []
lacked-added n new l f = added-by (is_had n new) (is_contradicted n new) n
    (false_from_ne_true (is_had n new) (λ t. l ((had-by_test n new).0 t)))
    (false_from_ne_true (is_opposed n new) (λ t. f ((opposed-by_test n new).0 t)))
