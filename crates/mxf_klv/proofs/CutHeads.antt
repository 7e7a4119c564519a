-- The head of a packet that is cut.
use Rattle.mxf_klv.proofs.Common.{◌≡◌, ◌↔◌, ℕ, ◌+◌, ◌<◌, ◌≤◌, true, false, cond, nat_lt, List, [], ◌∷◌, IfSome, length}
use Rattle.mxf_klv.proofs.Common.{take, drop, Option, None, Some, refl, sym, ap, subst, ◌∙◌, arith, inl, inr}
use Rattle.mxf_klv.proofs.Common.{option_map_or, leb-true, ltb-true, le-leb, lt-leb, lt-ltb, and_parts, and_from}
use Rattle.mxf_klv.proofs.Common.{cond-true, cond-false, take_at, LengthParts, NoteParts, head_parts, greatest_end}
use Rattle.mxf_klv.proofs.Common.{BeginsWithKeyAndLength, HasNoKeyAndLength, head_at, stop_of, In}
use Rattle.mxf_klv.specs.declared.piece.Stop.TheVariants.{Truncated}
use Rattle.std.specs.Prelude.{IfNone}
use Rattle.std.proofs.lemmas.Bool.{le-ltb, and_left, and_right}
use Rattle.mxf_klv.specs.Piece.{BeginsWithCut}
use Rattle.mxf_klv.specs.PieceReading.{heads_at, is_cut_at}
use Rattle.std.specs.Option.{SomeIff}
use Rattle.mxf_klv.proofs.KeyAndLengthLaws.{head-size}
use Rattle.mxf_klv.proofs.PieceLaws.{head_at-stands, head_at-head}
use Rattle.mxf_klv.proofs.StopLaws.{at_cut, stops}

abbrev heads_for : ℕ → List ℕ → Option LengthParts → List NoteParts
heads_for offset bytes o = option_map_or (λ l. cond (is_cut_at offset bytes l) (head_parts offset
    (take 16 bytes) l.width l.value ∷ []) []) o []

heads_at-is : (offset : ℕ) (bytes : List ℕ) → heads_at offset bytes ≡ heads_for offset bytes (head_at bytes)
unfolding heads_at head_at
heads_at-is offset bytes = refl

heads_at-of : (offset : ℕ) (bytes key after : List ℕ) (l : LengthParts) → BeginsWithKeyAndLength bytes key l after
    → heads_at offset bytes ≡ cond (is_cut_at offset bytes l) (head_parts offset key l.width l.value ∷ []) []
heads_at-of offset bytes key after l h =
    let front : take 16 bytes ≡ key = ap (take 16) h.whole ∙ take_at key _ 16 h.label.0 in
    heads_at-is offset bytes ∙ ap (heads_for offset bytes) (head_at-head bytes key l after h)
    ∙ ap (λ (k : List ℕ). cond (is_cut_at offset bytes l) (head_parts offset k l.width l.value ∷ []) []) front

pub heads_at-cut : (offset : ℕ) (bytes key after : List ℕ) (l : LengthParts) → BeginsWithKeyAndLength bytes key l after
    → offset + (16 + l.width + l.value) ≤ greatest_end → length after < l.value
    → heads_at offset bytes ≡ head_parts offset key l.width l.value ∷ []
heads_at-cut offset bytes key after l h near short =
    let size = head-size h in
    heads_at-of offset bytes key after l h
    ∙ cond-true _ _ _ (and_from _ _ (lt-ltb (length bytes) (16 + l.width + l.value) (omega arith))
    (le-leb (offset + (16 + l.width + l.value)) greatest_end near))

pub heads_at-whole : (offset : ℕ) (bytes key after : List ℕ) (l : LengthParts)
    → BeginsWithKeyAndLength bytes key l after → l.value ≤ length after → heads_at offset bytes ≡ []
heads_at-whole offset bytes key after l h whole =
    let size = head-size h in
    heads_at-of offset bytes key after l h
    ∙ cond-false _ _ _ (and_left _ _ (le-ltb (length bytes) (16 + l.width + l.value) (omega arith)))

pub heads_at-far : (offset : ℕ) (bytes key after : List ℕ) (l : LengthParts) → BeginsWithKeyAndLength bytes key l after
    → greatest_end < offset + (16 + l.width + l.value) → heads_at offset bytes ≡ []
heads_at-far offset bytes key after l h far = heads_at-of offset bytes key after l h
    ∙ cond-false _ _ _ (and_right _ _ (lt-leb (offset + (16 + l.width + l.value)) greatest_end far))

pub heads_at-none : (offset : ℕ) (bytes : List ℕ) → HasNoKeyAndLength bytes → heads_at offset bytes ≡ []
heads_at-none offset bytes none =
    heads_at-is offset bytes ∙ elim (head_at bytes) as (λ o. head_at bytes ≡ o → heads_for offset bytes o ≡ []) [
      | None ↦ λ e. refl
      | Some l ↦ λ e. absurd (none (take 16 bytes) (drop l.width (drop 16 bytes)) l (head_at-stands bytes l e))
    ] refl

-- what is given is the head of the packet that is cut
pub heads_at-stands : (offset : ℕ) (bytes : List ℕ) (n : NoteParts)
    → In n (heads_at offset bytes) ↔ BeginsWithCut offset bytes n
heads_at-stands offset bytes n = (
  λ h. elim (head_at bytes) as (λ o. head_at bytes ≡ o → In n (heads_for offset bytes o)
      → BeginsWithCut offset bytes n) [
        | None ↦ λ e i. absurd i
        | Some l ↦ λ e i. elim (is_cut_at offset bytes l) as (λ b. is_cut_at offset bytes l ≡ b
            → In n (cond b (head_parts offset (take 16 bytes) l.width l.value ∷ []) [])
            → BeginsWithCut offset bytes n) [
              | true ↦ λ t j.
                  let p = and_parts (nat_lt (length bytes) (16 + l.width + l.value)) _ t in
                  let short = ltb-true (length bytes) (16 + l.width + l.value) p.0 in
                  let stands = head_at-stands bytes l e in
                  let size = head-size stands in
                  record {
                    key = take 16 bytes;
                    length = l;
                    after = drop l.width (drop 16 bytes);
                    stands = stands;
                    cut = omega arith;
                    within = leb-true _ _ p.1;
                    head = elim j [ inl q ↦ q | inr z ↦ absurd z ];
                  }
              | false ↦ λ t j. absurd j
            ] refl i
      ] refl (subst (In n) (heads_at-is offset bytes) h),
  λ c. subst (In n) (sym (heads_at-cut offset bytes c.key c.after c.length c.stands c.within c.cut)) (inl c.head),
)

pub cut_stops : (offset : ℕ) (rest : List ℕ) (n : NoteParts) → BeginsWithCut offset rest n
    → stop_of offset rest ≡ Truncated offset
cut_stops offset rest n c = sym (stops offset rest (Truncated offset)
    (at_cut offset rest c.key c.after c.length c.stands c.within c.cut)).1

-- what `cut_head` answers of a head whose packet isn't whole
pub record Cut (offset : ℕ) (bytes : List ℕ) (r : Option NoteParts) : Type 0 where
  pub some : IfSome r (λ n. heads_at offset bytes ≡ n ∷ [])
  pub none : IfNone r (heads_at offset bytes ≡ [])

pub cut_by : (offset : ℕ) (bytes key after : List ℕ) (l : LengthParts) (r : Option NoteParts)
    → BeginsWithKeyAndLength bytes key l after → (l.value ≤ length after → ⊥)
    → SomeIff r (offset + 16 + l.width + l.value ≤ greatest_end) (head_parts offset key l.width l.value)
    → Cut offset bytes r
cut_by offset bytes key after l (Some n) h short s =
    let cut : length after < l.value = omega (arith, short) in
    let near = s.0 in
    record {
      some = heads_at-cut offset bytes key after l h (omega (arith, near)) cut
          ∙ ap (λ (m : NoteParts). m ∷ []) (sym s.1);
      none = tt;
    }
cut_by offset bytes key after l None h short s =
    record { some = tt; none = heads_at-far offset bytes key after l h (far offset l s) }
  where
    far : (offset : ℕ) (l : LengthParts) → (offset + 16 + l.width + l.value ≤ greatest_end → ⊥)
        → greatest_end < offset + (16 + l.width + l.value)
    far offset l f = omega (arith, f)
