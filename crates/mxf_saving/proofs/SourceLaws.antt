-- A text names one source, or has one of the faults.
use Rattle.std.proofs.Common.{◌≡◌, ℕ, ◌<◌, ◌&&◌, true, List, [], ◌∷◌, ◌++◌, length, Result, Ok, Err, refl, sym, ap}
use Rattle.std.proofs.Common.{subst, ◌∙◌, arith, inl, inr, rules, get_or}
use Rattle.std.specs.List.{list_all}
use Rattle.std.specs.Char.{is_ascii_digit}
use Rattle.std.specs.Str.{all_ascii_digits}
use Rattle.std.proofs.lemmas.Bool.{and_parts}
use Rattle.std.proofs.lemmas.Str.Parse.{IsNumeralModel, numerals_by_fold, not_in_digits}
use Rattle.mxf_saving.specs.Sources.{SourceParts, Piece, Range, Slice, Saved, at_scheme, cat_scheme, range_scheme}
use Rattle.mxf_saving.specs.Sources.{decimal_from, slice_scheme, IsPlaced, IsSliced, ReadsPlace, ReadsSlice, ReadsSource}
use Rattle.mxf_saving.specs.Sources.{SplitsLength, SplitsSource}
use Rattle.mxf_saving.specs.declared.source.SourceWordFault.{SourceWordFault}
use Rattle.mxf_saving.specs.declared.source.SourceWordFault.TheVariants.{NoScheme, BadOffset, BadLength, NoPath}

-- digits and their number are std's
pub numerals : IsNumeralModel (λ ds. all_ascii_digits ds ≡ true) (decimal_from 0)
numerals = numerals_by_fold _ (search rules) decimal_from (search rules)

pub list_all-digits : (text : List ℕ) → list_all (λ c. is_ascii_digit c) text ≡ all_ascii_digits text
list_all-digits [] = refl
list_all-digits (c ∷ cs) = ap (λ b. is_ascii_digit c && b) (list_all-digits cs)

-- no colon stands among digits
pub no_colon : (digits : List ℕ) → all_ascii_digits digits ≡ true → (i : ℕ) → i < length digits → get_or digits i 0 ≡ 58
    → ⊥
no_colon digits h = not_in_digits numerals digits 58 h (λ r. omega (arith, r))

heads : (a b : ℕ) (xs ys : List ℕ) → a ∷ xs ≡ b ∷ ys → (a ≡ b) × (xs ≡ ys)
heads a b xs ys e = (cc, cc)

not_digit : (d : ℕ) (ds : List ℕ) → 58 ≡ d → all_ascii_digits (d ∷ ds) ≡ true → ⊥
not_digit d ds e h = no_colon (d ∷ ds) h 0 (omega arith) (sym e)

-- digits up to a colon are one
one_split : (a b x y : List ℕ) → all_ascii_digits a ≡ true → all_ascii_digits b ≡ true → a ++ 58 ∷ x ≡ b ++ 58 ∷ y
    → (a ≡ b) × (x ≡ y)
one_split [] [] x y h k e = (refl, (heads 58 58 x y e).1)
one_split [] (d ∷ ds) x y h k e = absurd (not_digit d ds ((heads 58 d x (ds ++ 58 ∷ y) e).0) k)
one_split (c ∷ cs) [] x y h k e = absurd (not_digit c cs (sym ((heads c 58 (cs ++ 58 ∷ x) y e).0)) h)
one_split (c ∷ cs) (d ∷ ds) x y h k e = grind (arith, and_parts, heads, one_split cs ds x y)

same_split : (rest a b x y : List ℕ) (m n : ℕ) → SplitsSource rest a x m → SplitsSource rest b y n → (m ≡ n) × (x ≡ y)
same_split rest a b x y m n s t = grind (arith, one_split)

same_extent : (rest a b x y : List ℕ) (offset m n : ℕ) → SplitsLength rest offset a x m → SplitsLength rest offset b y n
    → (m ≡ n) × (x ≡ y)
same_extent rest a b x y offset m n s t = grind (arith, one_split)

abbrev Read : Type 0
Read = Result SourceParts SourceWordFault

-- what follows one beginning is one
same_tail : (front x y : List ℕ) → front ++ x ≡ front ++ y → x ≡ y
same_tail [] x y e = e
same_tail (c ∷ front) x y e = same_tail front x y (heads c c (front ++ x) (front ++ y) e).1

-- the schemes exclude each other
at_range : (text r s : List ℕ) → text ≡ at_scheme ++ r → text ≡ range_scheme ++ s → ⊥
at_range text r s e f = omega (arith, heads 97 114 (116 ∷ 58 ∷ r) (97 ∷ 110 ∷ 103 ∷ 101 ∷ 58 ∷ s) (sym e ∙ f))

placed_cat : (text r x : List ℕ) → IsPlaced text r → text ≡ cat_scheme ++ x → ⊥
placed_cat text r x h k = grind (arith, heads)

placed_sliced : (text r s : List ℕ) → IsPlaced text r → IsSliced text s → ⊥
placed_sliced text r s h k = grind (arith, heads)

sliced_cat : (text r x : List ℕ) → IsSliced text r → text ≡ cat_scheme ++ x → ⊥
sliced_cat text r x h k = grind (arith, heads)

same_placed : (text r s : List ℕ) → IsPlaced text r → IsPlaced text s → s ≡ r
same_placed text r s h k = grind (arith, at_range, same_tail)

same_sliced : (text r s : List ℕ) → IsSliced text r → IsSliced text s → s ≡ r
same_sliced text r s h k = same_tail slice_scheme s r (sym k ∙ h)

-- what follows names one place, or has one of the faults
one_place : (text : List ℕ) (p q : ℕ × List ℕ) → ReadsPlace text (Ok p) → ReadsPlace text (Ok q) → p ≡ q
one_place text (m, x) (n, y) (p, (a, u)) (q, (b, v)) = grind (arith, same_split text a b x y m n u v)

place_or_fault : (text : List ℕ) (p : ℕ × List ℕ) (d : SourceWordFault) → ReadsPlace text (Ok p)
    → ReadsPlace text (Err d) → ⊥
place_or_fault text (m, x) NoScheme p q = q
place_or_fault text (m, x) BadOffset (p, (a, u)) q = q a x m u
place_or_fault text (m, x) BadLength p q = q
place_or_fault text (m, x) NoPath (p, (a, u)) (b, n, v) =
    let both = same_split text a b x [] m n u v in
    let empty : length x ≡ 0 = ap length both.1 in
    omega arith

one_place_fault : (text : List ℕ) (d e : SourceWordFault) → ReadsPlace text (Err d) → ReadsPlace text (Err e) → d ≡ e
one_place_fault text NoScheme e p q = absurd p
one_place_fault text BadLength e p q = absurd p
one_place_fault text d NoScheme p q = absurd q
one_place_fault text d BadLength p q = absurd q
one_place_fault text BadOffset BadOffset p q = refl
one_place_fault text BadOffset NoPath p (b, n, v) = absurd (p b [] n v)
one_place_fault text NoPath BadOffset (b, n, v) q = absurd (q b [] n v)
one_place_fault text NoPath NoPath p q = refl

-- what follows names one slice, or has one of the faults
same_rest : (text a b x y : List ℕ) (m n : ℕ) → SplitsSource text a x m → SplitsSource text b y n
    → (sizes path : List ℕ) (size : ℕ) → SplitsLength y n sizes path size → SplitsLength x m sizes path size
same_rest text a b x y m n s t sizes path size u =
    let both = same_split text a b x y m n s t in
    subst (λ (z : List ℕ). SplitsLength z m sizes path size) (sym both.1)
    (subst (λ (k : ℕ). SplitsLength y k sizes path size) (sym both.0) u)

one_slice : (text : List ℕ) (p q : ℕ × ℕ × List ℕ) → ReadsSlice text (Ok p) → ReadsSlice text (Ok q) → p ≡ q
one_slice text (m, k, x) (n, l, y) (p, (a, r, u, (f, v))) (q, (b, s, w, (g, z))) =
    grind (arith, same_split text a b r s m n u w, same_extent r f g x y m k l v (same_rest text a b r s m n u w g y l z))

slice_or_fault : (text : List ℕ) (p : ℕ × ℕ × List ℕ) (d : SourceWordFault) → ReadsSlice text (Ok p)
    → ReadsSlice text (Err d) → ⊥
slice_or_fault text (m, k, x) NoScheme p q = q
slice_or_fault text (m, k, x) BadOffset (p, (a, r, u, v)) q = q a r m u
slice_or_fault text (m, k, x) BadLength (p, (a, r, u, (f, v))) (b, s, n, w, q) =
    q f x k (same_rest text b a s r n m w u f x k v)
slice_or_fault text (m, k, x) NoPath (p, (a, r, u, (f, v))) (b, s, n, w, (g, l, z)) =
    let both = same_extent r f g x [] m k l v (same_rest text a b r s m n u w g [] l z) in
    let empty : length x ≡ 0 = ap length both.1 in
    omega arith

one_slice_fault : (text : List ℕ) (d e : SourceWordFault) → ReadsSlice text (Err d) → ReadsSlice text (Err e) → d ≡ e
one_slice_fault text NoScheme e p q = absurd p
one_slice_fault text d NoScheme p q = absurd q
one_slice_fault text BadOffset BadOffset p q = refl
one_slice_fault text BadOffset BadLength p (b, s, n, w, q) = absurd (p b s n w)
one_slice_fault text BadOffset NoPath p (b, s, n, w, q) = absurd (p b s n w)
one_slice_fault text BadLength BadOffset (a, r, m, u, p) q = absurd (q a r m u)
one_slice_fault text BadLength BadLength p q = refl
one_slice_fault text BadLength NoPath (a, r, m, u, p) (b, s, n, w, (g, l, z)) =
    absurd (p g [] l (same_rest text a b r s m n u w g [] l z))
one_slice_fault text NoPath BadOffset (a, r, m, u, p) q = absurd (q a r m u)
one_slice_fault text NoPath BadLength (a, r, m, u, (f, k, v)) (b, s, n, w, q) =
    absurd (q f [] k (same_rest text b a s r n m w u f [] k v))
one_slice_fault text NoPath NoPath p q = refl

-- a fault of what follows the scheme is one of the text
pub placed_fault : (text rest : List ℕ) (d : SourceWordFault) → IsPlaced text rest → ReadsPlace rest (Err d)
    → ReadsSource text (Err d)
placed_fault text rest NoScheme h k = absurd k
placed_fault text rest BadOffset h k = inl (rest, h, k)
placed_fault text rest BadLength h k = absurd k
placed_fault text rest NoPath h k = inr (inl (rest, h, k))

pub sliced_fault : (text rest : List ℕ) (d : SourceWordFault) → IsSliced text rest → ReadsSlice rest (Err d)
    → ReadsSource text (Err d)
sliced_fault text rest NoScheme h k = absurd k
sliced_fault text rest BadOffset h k = inr (rest, h, k)
sliced_fault text rest BadLength h k = (rest, h, k)
sliced_fault text rest NoPath h k = inr (inr (rest, h, k))

-- and the other way round
fault_placed : (text rest : List ℕ) (d : SourceWordFault) → IsPlaced text rest → ReadsSource text (Err d)
    → ReadsPlace rest (Err d)
fault_placed text rest NoScheme h k = absurd ((k rest).0 h)
fault_placed text rest BadOffset h (inl (s, f, v)) =
    subst (λ (t : List ℕ). ReadsPlace t (Err BadOffset)) (same_placed text rest s h f) v
fault_placed text rest BadOffset h (inr (s, f, v)) = absurd (placed_sliced text rest s h f)
fault_placed text rest BadLength h (s, f, v) = absurd (placed_sliced text rest s h f)
fault_placed text rest NoPath h (inl k) = absurd (placed_cat text rest [] h k)
fault_placed text rest NoPath h (inr (inl (s, f, v))) =
    subst (λ (t : List ℕ). ReadsPlace t (Err NoPath)) (same_placed text rest s h f) v
fault_placed text rest NoPath h (inr (inr (s, f, v))) = absurd (placed_sliced text rest s h f)

fault_sliced : (text rest : List ℕ) (d : SourceWordFault) → IsSliced text rest → ReadsSource text (Err d)
    → ReadsSlice rest (Err d)
fault_sliced text rest NoScheme h k = absurd ((k rest).1.0 h)
fault_sliced text rest BadOffset h (inl (s, f, v)) = absurd (placed_sliced text s rest f h)
fault_sliced text rest BadOffset h (inr (s, f, v)) =
    subst (λ (t : List ℕ). ReadsSlice t (Err BadOffset)) (same_sliced text rest s h f) v
fault_sliced text rest BadLength h (s, f, v) =
    subst (λ (t : List ℕ). ReadsSlice t (Err BadLength)) (same_sliced text rest s h f) v
fault_sliced text rest NoPath h (inl k) = absurd (sliced_cat text rest [] h k)
fault_sliced text rest NoPath h (inr (inl (s, f, v))) = absurd (placed_sliced text s rest f h)
fault_sliced text rest NoPath h (inr (inr (s, f, v))) =
    subst (λ (t : List ℕ). ReadsSlice t (Err NoPath)) (same_sliced text rest s h f) v

fault_cat : (text path : List ℕ) (d : SourceWordFault) → text ≡ cat_scheme ++ path → ReadsSource text (Err d)
    → (d ≡ NoPath) × (path ≡ [])
fault_cat text path NoScheme h k = absurd ((k path).1.1 h)
fault_cat text path BadOffset h (inl (s, f, v)) = absurd (placed_cat text s path f h)
fault_cat text path BadOffset h (inr (s, f, v)) = absurd (sliced_cat text s path f h)
fault_cat text path BadLength h (s, f, v) = absurd (sliced_cat text s path f h)
fault_cat text path NoPath h (inl k) = (refl, same_tail cat_scheme path [] (sym h ∙ k))
fault_cat text path NoPath h (inr (inl (s, f, v))) = absurd (placed_cat text s path f h)
fault_cat text path NoPath h (inr (inr (s, f, v))) = absurd (sliced_cat text s path f h)

-- a source and a fault exclude each other
one_or_fault : (text : List ℕ) (y : SourceParts) (d : SourceWordFault) → ReadsSource text (Ok y)
    → ReadsSource text (Err d) → ⊥
one_or_fault text (Piece m x) d (r, e, u) q = place_or_fault r (m, x) d u (fault_placed text r d (inl e) q)
one_or_fault text (Range m x) d (r, e, u) q = place_or_fault r (m, x) d u (fault_placed text r d (inr e) q)
one_or_fault text (Slice m k x) d (r, e, u) q = slice_or_fault r (m, k, x) d u (fault_sliced text r d e q)
one_or_fault text (Saved x) d p q =
    let empty : length x ≡ 0 = ap length (fault_cat text x d p.0 q).1 in
    let some = p.1 in
    omega arith

-- two faults are the same
one_fault : (text : List ℕ) (d e : SourceWordFault) → ReadsSource text (Err d) → ReadsSource text (Err e) → d ≡ e
one_fault text NoScheme NoScheme p q = refl
one_fault text NoScheme BadOffset p (inl (s, f, v)) = absurd ((p s).0 f)
one_fault text NoScheme BadOffset p (inr (s, f, v)) = absurd ((p s).1.0 f)
one_fault text NoScheme BadLength p (s, f, v) = absurd ((p s).1.0 f)
one_fault text NoScheme NoPath p (inl q) = absurd ((p []).1.1 q)
one_fault text NoScheme NoPath p (inr (inl (s, f, v))) = absurd ((p s).0 f)
one_fault text NoScheme NoPath p (inr (inr (s, f, v))) = absurd ((p s).1.0 f)
one_fault text BadOffset e (inl (s, f, v)) q = one_place_fault s BadOffset e v (fault_placed text s e f q)
one_fault text BadOffset e (inr (s, f, v)) q = one_slice_fault s BadOffset e v (fault_sliced text s e f q)
one_fault text BadLength e (s, f, v) q = one_slice_fault s BadLength e v (fault_sliced text s e f q)
one_fault text NoPath e (inl p) q = sym (fault_cat text [] e p q).0
one_fault text NoPath e (inr (inl (s, f, v))) q = one_place_fault s NoPath e v (fault_placed text s e f q)
one_fault text NoPath e (inr (inr (s, f, v))) q = one_slice_fault s NoPath e v (fault_sliced text s e f q)

-- two places behind one scheme
same_place : (text r s : List ℕ) (p q : ℕ × List ℕ) → IsPlaced text r → IsPlaced text s → ReadsPlace r (Ok p)
    → ReadsPlace s (Ok q) → p ≡ q
same_place text r s p q e f u v =
    one_place r p q u (subst (λ (t : List ℕ). ReadsPlace t (Ok q)) (same_placed text r s e f) v)

same_slice : (text r s : List ℕ) (p q : ℕ × ℕ × List ℕ) → IsSliced text r → IsSliced text s → ReadsSlice r (Ok p)
    → ReadsSlice s (Ok q) → p ≡ q
same_slice text r s p q e f u v =
    one_slice r p q u (subst (λ (t : List ℕ). ReadsSlice t (Ok q)) (same_sliced text r s e f) v)

abbrev piece : ℕ × List ℕ → Read
piece (o, p) = Ok (Piece o p)

abbrev range : ℕ × List ℕ → Read
range (o, p) = Ok (Range o p)

abbrev slice : ℕ × ℕ × List ℕ → Read
slice (o, n, p) = Ok (Slice o n p)

pub one_source : (text : List ℕ) (r s : Result SourceParts SourceWordFault) → ReadsSource text r → ReadsSource text s
    → r ≡ s
one_source text (Ok (Piece m x)) (Ok (Piece n y)) (r, e, u) (s, f, v) =
    ap piece (same_place text r s (m, x) (n, y) (inl e) (inl f) u v)
one_source text (Ok (Range m x)) (Ok (Range n y)) (r, e, u) (s, f, v) =
    ap range (same_place text r s (m, x) (n, y) (inr e) (inr f) u v)
one_source text (Ok (Slice m k x)) (Ok (Slice n l y)) (r, e, u) (s, f, v) =
    ap slice (same_slice text r s (m, k, x) (n, l, y) e f u v)
one_source text (Ok (Saved x)) (Ok (Saved y)) p q =
    ap (λ (t : List ℕ). Ok (Saved t)) (same_tail cat_scheme x y (sym p.0 ∙ q.0))
one_source text (Ok (Piece m x)) (Ok (Range n y)) (r, e, u) (s, f, v) = absurd (at_range text r s e f)
one_source text (Ok (Range m x)) (Ok (Piece n y)) (r, e, u) (s, f, v) = absurd (at_range text s r f e)
one_source text (Ok (Piece m x)) (Ok (Slice n l y)) (r, e, u) (s, f, v) = absurd (placed_sliced text r s (inl e) f)
one_source text (Ok (Range m x)) (Ok (Slice n l y)) (r, e, u) (s, f, v) = absurd (placed_sliced text r s (inr e) f)
one_source text (Ok (Slice m k x)) (Ok (Piece n y)) (r, e, u) (s, f, v) = absurd (placed_sliced text s r (inl f) e)
one_source text (Ok (Slice m k x)) (Ok (Range n y)) (r, e, u) (s, f, v) = absurd (placed_sliced text s r (inr f) e)
one_source text (Ok (Piece m x)) (Ok (Saved y)) (r, e, u) q = absurd (placed_cat text r y (inl e) q.0)
one_source text (Ok (Range m x)) (Ok (Saved y)) (r, e, u) q = absurd (placed_cat text r y (inr e) q.0)
one_source text (Ok (Slice m k x)) (Ok (Saved y)) (r, e, u) q = absurd (sliced_cat text r y e q.0)
one_source text (Ok (Saved x)) (Ok (Piece n y)) p (s, f, v) = absurd (placed_cat text s x (inl f) p.0)
one_source text (Ok (Saved x)) (Ok (Range n y)) p (s, f, v) = absurd (placed_cat text s x (inr f) p.0)
one_source text (Ok (Saved x)) (Ok (Slice n l y)) p (s, f, v) = absurd (sliced_cat text s x f p.0)
one_source text (Ok y) (Err d) p q = absurd (one_or_fault text y d p q)
one_source text (Err d) (Ok y) p q = absurd (one_or_fault text y d q p)
one_source text (Err d) (Err e) p q = ap (λ (f : SourceWordFault). Err f) (one_fault text d e p q)
