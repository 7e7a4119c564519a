-- The notes of a piece that are added so far, and those that are left; and a piece that is merged as a whole.
use Rattle.mxf_views.proofs.Common.{◌≡◌, ◌≢◌, ℕ, zero, suc, ◌+◌, List, [], ◌∷◌, ◌++◌, length, take, Option, Some, refl}
use Rattle.mxf_views.proofs.Common.{Result, Ok, Err, sym, ap, subst, ◌∙◌, arith, inl, inr, append_assoc, length-append}
use Rattle.mxf_views.proofs.Common.{slice_get, IsSomeAnd, take_at, take_all, NoteParts, heads_at, notes_in, packets_in}
use Rattle.mxf_views.proofs.Common.{stop_in, reduced_union, reduced_with, AreApart}
use Rattle.mxf_klv.specs.declared.piece.Stop.{Stop}
use Rattle.mxf_read.specs.declared.report.Report.{Report}
use Rattle.mxf_read.specs.declared.report.AbsorbFault.{AbsorbFault}
use Rattle.mxf_read.specs.declared.report.AbsorbFault.TheVariants.{OutOfMemory, ReadFault}
use Rattle.mxf_read.specs.Absorbs.{Absorbs}
use Rattle.mxf_read.proofs.Pieces.{alone, alone_first, alone_front, alone_in, first_begins, head_begins, heads_few}

-- ---- note after note

pub slice_get_at : {X : Type 0} (done left : List X) (x : X) (n : ℕ) → length done ≡ n
    → slice_get (done ++ x ∷ left) n ≡ Some x
slice_get_at [] left x zero l = refl
slice_get_at [] left x (suc n) l = absurd (omega arith)
slice_get_at (d ∷ done) left x zero l = absurd (omega arith)
slice_get_at (d ∷ done) left x (suc n) l = slice_get_at done left x n (omega arith)

-- the notes of two lists, one list after the other
pub union_append : (old xs ys : List NoteParts) → reduced_union old (xs ++ ys) ≡ reduced_union (reduced_union old xs) ys
union_append old [] ys = refl
union_append old (x ∷ xs) ys = union_append (reduced_with x old) xs ys

-- a note behind all others goes behind them
pub with_last : (low : ℕ) (notes : List NoteParts) (n : NoteParts) → AreApart low (notes ++ n ∷ [])
    → reduced_with n notes ≡ notes ++ n ∷ []
with_last low notes n apart = ap (reduced_with n) (sym (alone_front low notes (n ∷ []) apart))
    ∙ sym (union_append [] notes (n ∷ [])) ∙ alone low (notes ++ n ∷ []) apart

-- Of all notes the first so many were added to the old ones, which gives the new ones, and these are left.
pub record IsPart (old new : List NoteParts) (all : List NoteParts) (noted : ℕ) (left : List NoteParts) : Type 0 where
  pub done : List NoteParts
  pub whole : all ≡ done ++ left
  pub counted : length done ≡ noted
  pub added : new ≡ reduced_union old done

pub one_more : (old mid new all left rest : List NoteParts) (noted : ℕ) (n : NoteParts) → IsPart old mid all noted left
    → left ≡ n ∷ rest → new ≡ reduced_with n mid → IsPart old new all (noted + 1) rest
one_more old mid new all left rest noted n p is e = record {
  done = p.done ++ n ∷ [];
  whole = p.whole ∙ ap (λ (t : List NoteParts). p.done ++ t) is ∙ sym (append_assoc p.done (n ∷ []) rest);
  counted = length-append p.done (n ∷ []) ∙ ap (λ (k : ℕ). k + 1) p.counted;
  added = e ∙ ap (reduced_with n) p.added ∙ sym (union_append old p.done (n ∷ []));
}

pub stopped : (old mid new : List NoteParts) (offset : ℕ) (bytes : List ℕ) (left rest : List NoteParts) (noted at : ℕ)
    (n : NoteParts) → IsPart old mid (notes_in offset bytes) noted left → left ≡ n ∷ rest → new ≡ mid → n.offset ≡ at
    → Absorbs old new offset bytes (Err (OutOfMemory noted at))
stopped old mid new offset bytes left rest noted at n p is e o =
    let all = notes_in offset bytes in
    let whole : all ≡ p.done ++ (n ∷ rest) = p.whole ∙ ap (λ (t : List NoteParts). p.done ++ t) is in
    let front : take noted all ≡ p.done = ap (take noted) whole ∙ take_at p.done (n ∷ rest) noted p.counted in
    let next : slice_get all noted ≡ Some n = ap (λ (t : List NoteParts). slice_get t noted) whole
    ∙ slice_get_at p.done rest n noted p.counted in (
      e ∙ p.added ∙ ap (reduced_union old) (sym front),
      subst (λ (r : Option NoteParts). IsSomeAnd r (λ m. m.offset ≡ at)) (sym next) o,
    )

-- the head, which is left, isn't added
pub stopped_at_head : (old mid new : List NoteParts) (offset : ℕ) (bytes : List ℕ) (left : List NoteParts)
    (noted at : ℕ)
    (rest : List ℕ) → IsPart old mid (notes_in offset bytes) noted left → left ≡ heads_at at rest → new ≡ mid
    → heads_at at rest ≢ [] → Absorbs old new offset bytes (Err (OutOfMemory noted at))
stopped_at_head old mid new offset bytes left noted at rest p is e some =
    elim (heads_few at rest) [
      | inl none ↦ absurd (some none)
      | inr s ↦ stopped old mid new offset bytes left [] noted at s.0 p (is ∙ s.1) e (head_begins at rest s.0 s.2)
    ]

-- it is added as well
pub ended : (old mid new : List NoteParts) (offset : ℕ) (bytes : List ℕ) (left heads : List NoteParts) (noted : ℕ)
    (stop : Stop) → IsPart old mid (notes_in offset bytes) noted left → left ≡ heads → new ≡ reduced_union mid heads
    → noted ≡ length (packets_in offset bytes) → stop ≡ stop_in offset bytes
    → Absorbs old new offset bytes (Ok (record { noted = noted; stop = stop }))
ended old mid new offset bytes left heads noted stop p is added count e =
    let whole : notes_in offset bytes ≡ p.done ++ heads = p.whole ∙ ap (λ (t : List NoteParts). p.done ++ t) is in (
      added ∙ ap (λ (t : List NoteParts). reduced_union t heads) p.added ∙ sym (union_append old p.done heads)
          ∙ ap (reduced_union old) (sym whole),
      λ i. record { noted = count i; stop = e i },
    )

-- ---- a piece as a whole

-- what a piece's own catalogue has, joined with another
pub absorbs_merged : (old piece new : List NoteParts) (offset : ℕ) (bytes : List ℕ) (r : Result Report AbsorbFault)
    → Absorbs [] piece offset bytes r → new ≡ reduced_union old piece → Absorbs old new offset bytes r
absorbs_merged old piece new offset bytes (Ok report) a e =
    (e ∙ ap (reduced_union old) (a.0 ∙ alone_in offset bytes), a.1)
absorbs_merged old piece new offset bytes (Err (ReadFault noted at)) a e = absurd a
absorbs_merged old piece new offset bytes (Err (OutOfMemory noted at)) a e =
    (e ∙ ap (reduced_union old) (a.0 ∙ alone_first noted offset bytes), a.1)

take_nothing : (n : ℕ) (xs : List NoteParts) → xs ≡ [] → take n xs ≡ []
take_nothing n [] e = take_all n [] (omega arith)
take_nothing n (x ∷ xs) e = absurd cc

none_absorbed : (piece : List NoteParts) (offset : ℕ) (bytes : List ℕ) (r : Result Report AbsorbFault)
    → Absorbs [] piece offset bytes r → notes_in offset bytes ≡ [] → piece ≡ []
none_absorbed piece offset bytes (Ok report) b h = b.0 ∙ ap (reduced_union []) h
none_absorbed piece offset bytes (Err (ReadFault noted at)) b h = absurd b
none_absorbed piece offset bytes (Err (OutOfMemory noted at)) b h =
    b.0 ∙ ap (reduced_union []) (take_nothing noted (notes_in offset bytes) h)

-- where its notes aren't joined, none is absorbed: the piece has a first note
pub absorbs_none : (old piece new : List NoteParts) (offset : ℕ) (bytes : List ℕ) (r : Result Report AbsorbFault)
    → Absorbs [] piece offset bytes r → (piece ≡ [] → ⊥) → new ≡ old
    → Absorbs old new offset bytes (Err (OutOfMemory 0 offset))
absorbs_none old piece new offset bytes r a some e =
    (e, first_begins offset bytes (λ h. some (none_absorbed piece offset bytes r a h)))
