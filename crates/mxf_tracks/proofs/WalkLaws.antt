-- Lists that the walk finds, in parts.
use Rattle.mxf_views.proofs.Common.{◌≡◌, List, ◌∷◌, [], ◌++◌, ap, append_assoc}

-- A list and what comes with it, behind others.
abbrev pub behind : {A B : Type 0} → List A → List A × B → List A × B
behind before found = (before ++ found.0, found.1)

pub one_more : {A B : Type 0} (before : List A) (one : A) (found : List A × B)
    → behind (before ++ one ∷ []) found ≡ behind before (one ∷ found.0, found.1)
one_more before one found = ap (λ l. (l, found.1)) (append_assoc before (one ∷ []) found.0)
