-- Bytes that stand in a source are those that it gives.
use Rattle.std.proofs.Common.{◌≡◌, ◌+◌, ◌-◌, ◌<◌, ◌≤◌, ◌++◌, ℕ, zero, suc, List, [], ◌∷◌, Option, Some, refl, sym, ap}
use Rattle.std.proofs.Common.{◌∙◌, subst, arith, inl, inr, length, drop, get_or, take, map, length-take}
use Rattle.std.specs.Prelude.{slice_get, IfOk, IfSome, Result, Ok, Err}
use Rattle.std.specs.List.{range_with_len}
use Rattle.std.proofs.lemmas.List.{drop-drop, take-append-le}
use Rattle.std.proofs.lemmas.List.FromFn.{length-map-range_with_len}
use Rattle.std.proofs.lemmas.Option.{slice_get_read, slice_get_within}
use Rattle.mxf_klv.specs.Rising.{In}
use Rattle.mxf_hand.specs.Given.{AreBytesOf, AreTold, Gives, HaveExtents, ReadsAt, SourceParts, StandAt, bytes_between}
use Rattle.mxf_catalogue.specs.declared.run.Run.{Run}
use Rattle.mxf_catalogue.specs.Runs.{LiesIn}
use Rattle.mxf_hand.specs.Places.{IsPlaceOf, LiesInExtent, LiesInPlace}
use Rattle.mxf_hand.specs.declared.given.Extent.{Extent}
use Rattle.mxf_hand.specs.declared.given.Place.{Place}
use Rattle.mxf_read.specs.declared.reading.Step.TheVariants.{Took}

-- ---- a source by its number

-- a member by its number
pub got : {X : Type 0} (xs : List X) (i : ℕ) (x : X) → slice_get xs i ≡ Some x → In x xs
got [] i x e = absurd cc
got (y ∷ xs) zero x e = let same : y ≡ x = cc in inl (sym same)
got (y ∷ xs) (suc i) x e = inr (got xs i x e)

-- the source and the extent with one number lie at one offset
pub same_offset : (sources : List SourceParts) (extents : List Extent) (i : ℕ) (s : SourceParts) (e : Extent)
    → HaveExtents sources extents → slice_get sources i ≡ Some s → slice_get extents i ≡ Some e → s.offset ≡ e.offset
same_offset [] [] i s e h p q = absurd cc
same_offset [] (f ∷ extents) i s e h p q = absurd h
same_offset (t ∷ sources) [] i s e h p q = absurd h
same_offset (t ∷ sources) (f ∷ extents) zero s e h p q = grind arith
same_offset (t ∷ sources) (f ∷ extents) (suc i) s e h p q = same_offset sources extents i s e h.2 p q

-- ---- the bytes

-- the first of bytes that stand behind so many, and the others
pub first_there : (xs bytes more : List ℕ) (n b : ℕ) → drop n xs ≡ (b ∷ bytes) ++ more → slice_get xs n ≡ Some b
first_there [] bytes more zero b e = absurd cc
first_there [] bytes more (suc n) b e = absurd cc
first_there (x ∷ xs) bytes more zero b e = let same : x ≡ b = cc in ap (λ (y : ℕ). Some y) same
first_there (x ∷ xs) bytes more (suc n) b e = first_there xs bytes more n b e

pub rest_there : (xs bytes more : List ℕ) (n b : ℕ) → drop n xs ≡ (b ∷ bytes) ++ more → drop (n + 1) xs ≡ bytes ++ more
rest_there xs bytes more n b e = sym (drop-drop 1 n xs) ∙ ap (drop 1) e

-- bytes that stand in a source from an offset on
read_bytes : (sources : List SourceParts) (s : SourceParts) (byte : ℕ → ℕ) (bytes more : List ℕ) (at : ℕ)
    → In s sources → s.offset ≤ at → drop (at - s.offset) s.bytes ≡ bytes ++ more
    → AreBytesOf sources byte at (at + length bytes) → bytes ≡ map byte (range_with_len at (length bytes))
read_bytes sources s byte [] more at i h e are = refl
read_bytes sources s byte (b ∷ bytes) more at i h e are =
    let gives : Gives s at b = record { from = h; is = first_there s.bytes bytes more (at - s.offset) b e } in
    let same : byte at ≡ b = are at b (omega arith) (omega arith) (s, i, gives) in
    let next : drop (at + 1 - s.offset) s.bytes ≡ bytes ++ more =
    ap (λ (k : ℕ). drop k s.bytes) (let k : at + 1 - s.offset ≡ at - s.offset + 1 = omega arith in k)
    ∙ rest_there s.bytes bytes more (at - s.offset) b e in
    let rest = read_bytes sources s byte bytes more (at + 1) i (omega arith) next
    (λ x c l m. are x c (omega arith) (omega arith)) in
    λ j. sym same j ∷ rest j

-- so many offsets from one on
between_here : (byte : ℕ → ℕ) (at n : ℕ) → map byte (range_with_len at n) ≡ bytes_between byte at (at + n)
between_here byte at n =
    ap (λ (k : ℕ). map byte (range_with_len at k)) (let same : n ≡ at + n - at = omega arith in same)

-- what was read of a source at an offset of its extent is what the sources give
pub are_read : (told : Option (List SourceParts)) (extents : List Extent) (sources : List SourceParts)
    (byte : ℕ → ℕ) (number at n : ℕ) (e : Extent) (bytes : List ℕ) → AreTold told extents sources
    → slice_get extents number ≡ Some e → e.offset ≤ at → length bytes ≡ n
    → IfSome told (λ given. StandAt given number (at - e.offset) bytes) → AreBytesOf sources byte at (at + n)
    → bytes ≡ bytes_between byte at (at + n)
are_read told extents sources byte number at n e bytes are is from len stands of =
    let (s, more, there, split) : StandAt sources number (at - e.offset) bytes =
    subst (λ (t : Option (List SourceParts)). IfSome t (λ given. StandAt given number (at - e.offset) bytes)) are.is
    stands in
    let place = same_offset sources extents number s e are.extents there is in
    let here : drop (at - s.offset) s.bytes ≡ bytes ++ more =
    ap (λ (k : ℕ). drop (at - k) s.bytes) place ∙ split in
    let all = read_bytes sources s byte bytes more at (got sources number s there) (omega arith) here
    (λ x b l m. of x b l (omega arith)) in
    all ∙ ap (λ (k : ℕ). map byte (range_with_len at k)) len ∙ between_here byte at n

-- the same where it stands at the front of more room
read_front : (told : Option (List SourceParts)) (extents : List Extent) (number at n : ℕ) (e : Extent)
    (front rest : List ℕ) → slice_get extents number ≡ Some e → e.offset ≤ at
    → ReadsAt told number (at - e.offset) front (Took n) → (sources : List SourceParts) (byte : ℕ → ℕ)
    → AreTold told extents sources → AreBytesOf sources byte at (at + n)
    → take n (front ++ rest) ≡ bytes_between byte at (at + n)
read_front told extents number at n e front rest is from (some, within, stands) sources byte are of =
    take-append-le n front rest within ∙ are_read told extents sources byte number at n e (take n front) are is from
    (omega (arith, length-take n front)) stands of

-- the same of what a read came to
pub ok_read : {E : Type 0} (told : Option (List SourceParts)) (extents : List Extent) (number at : ℕ) (e : Extent)
    (front rest : List ℕ) (r : Result ℕ E) → slice_get extents number ≡ Some e → e.offset ≤ at
    → IfOk r (λ n. ReadsAt told number (at - e.offset) front (Took n))
    → IfOk r (λ n. (sources : List SourceParts) (byte : ℕ → ℕ) → AreTold told extents sources
    → AreBytesOf sources byte at (at + n) → take n (front ++ rest) ≡ bytes_between byte at (at + n))
ok_read told extents number at e front rest (Err fault) is from reads = tt
ok_read told extents number at e front rest (Ok n) is from reads =
    read_front told extents number at n e front rest is from reads

-- the extent of a place's source, in the list in which it stands
pub extent_there : (own items : List Extent) (p : Place) (e : Extent) → items ≡ own → IsPlaceOf own p
    → e ≡ get_or items p.source e → (slice_get own p.source ≡ Some e) × (e.offset ≤ p.start)
extent_there own items p e same there is = grind (arith, slice_get_within, slice_get_read)

-- the place that was found
pub found_place : (own : List Extent) (x : ℕ) (r : Option Place) (p : Place) → r ≡ Some p
    → IfSome r (λ q. IsPlaceOf own q × LiesInPlace q x) → IsPlaceOf own p × LiesInPlace p x
found_place own x r p e found = subst (λ (o : Option Place). IfSome o (λ q. IsPlaceOf own q × LiesInPlace q x)) e found

-- What is read of a place, all of it below the place's end, sources give.
pub read_within : {E : Type 0} (told : Option (List SourceParts)) (own : List Extent) (given : List Run) (p : Place)
    (at position count : ℕ) (room : List ℕ) (r : Result ℕ E)
    → ((e : Extent) (x : ℕ) → In e own → LiesInExtent e x → LiesIn given x) → IsPlaceOf own p → LiesInPlace p at
    → length room ≤ count → count ≤ p.end - at
    → IfOk r (λ n. ReadsAt told p.source position room (Took n))
    → IfOk r (λ n. (x : ℕ) → at ≤ x → x < at + n → LiesIn given x)
read_within told own given p at position count room (Err fault) all is lies few most reads = tt
read_within told own given p at position count room (Ok n) all is lies few most reads = λ x low high.
    let from = is.from in
    let before = is.before in
    let start = lies.from in
    let taken : n ≤ length room = reads.1 in
    all is.extent x (got own p.source is.extent is.is) (record {
      from = omega (arith, from, start, low);
      before = omega (arith, before, few, most, taken, high, low);
    })

-- ---- one read after another

-- so many offsets, and so many others behind them
range_more : (byte : ℕ → ℕ) (from m n : ℕ) → map byte (range_with_len from m) ++ map byte (range_with_len (from + m) n)
    ≡ map byte (range_with_len from (m + n))
range_more byte from zero n = grind arith
range_more byte from (suc m) n =
    let here : from + suc m ≡ from + 1 + m = omega arith in
    let all : suc (m + n) ≡ suc m + n = omega arith in
    ap (λ (k : ℕ). map byte (range_with_len from (suc m)) ++ map byte (range_with_len k n)) here
    ∙ ap (λ (t : List ℕ). byte from ∷ t) (range_more byte (from + 1) m n)
    ∙ ap (λ (k : ℕ). map byte (range_with_len from k)) all

-- the bytes behind others
pub between_more : (byte : ℕ → ℕ) (from at to : ℕ) → from ≤ at → at ≤ to
    → bytes_between byte from at ++ bytes_between byte at to ≡ bytes_between byte from to
between_more byte from at to h k =
    let here : at ≡ from + (at - from) = omega arith in
    let all : at - from + (to - at) ≡ to - from = omega arith in
    ap (λ (j : ℕ). bytes_between byte from at ++ map byte (range_with_len j (to - at))) here
    ∙ range_more byte from (at - from) (to - at) ∙ ap (λ (j : ℕ). map byte (range_with_len from j)) all

-- none up to where they begin
pub between_none : (byte : ℕ → ℕ) (at : ℕ) → bytes_between byte at at ≡ []
between_none byte at =
    let none : at - at ≡ 0 = omega arith in
    ap (λ (n : ℕ). map byte (range_with_len at n)) none

-- as many as there are offsets
pub between_len : (byte : ℕ → ℕ) (from to : ℕ) → length (bytes_between byte from to) ≡ to - from
between_len byte from to = length-map-range_with_len byte from (to - from)

-- so many offsets from one on are those up to an end, where that doesn't lie below
pub between_size : (byte : ℕ → ℕ) (from to n : ℕ) → n ≡ to - from
    → bytes_between byte from (from + n) ≡ bytes_between byte from to
between_size byte from to n e =
    let same : from + n - from ≡ to - from = omega arith in
    ap (λ (k : ℕ). map byte (range_with_len from k)) same

-- What a read gives at an offset, so many bytes, for all that is told.
abbrev pub ReadHere : Option (List SourceParts) → List Extent → ℕ → ℕ → List ℕ → Type 0
ReadHere told own at n part =
    (given : List SourceParts) (byte : ℕ → ℕ) → AreTold told own given → AreBytesOf given byte at (at + n)
    → part ≡ bytes_between byte at (at + n)

-- What reads up to an offset gave, of the bytes up to an end.
abbrev pub ReadSoFar : Option (List SourceParts) → List Extent → ℕ → ℕ → ℕ → List ℕ → Type 0
ReadSoFar told own from to at done =
    (given : List SourceParts) (byte : ℕ → ℕ) → AreTold told own given → AreBytesOf given byte from to
    → done ≡ bytes_between byte from at

-- they go on with one more
pub so_far_more : (told before : Option (List SourceParts)) (own : List Extent) (from to at n : ℕ)
    (done part : List ℕ) → told ≡ before → from ≤ at → at + n ≤ to → ReadSoFar before own from to at done
    → ReadHere told own at n part → ReadSoFar before own from to (at + n) (done ++ part)
so_far_more told before own from to at n done part same h k so_far here given byte are of =
    let told_are : AreTold told own given = record { is = same ∙ are.is; extents = are.extents } in
    let first = so_far given byte are of in
    let last = here given byte told_are (λ x b l m. of x b (omega arith) (omega arith)) in
    (λ i. first i ++ last i) ∙ between_more byte from at (at + n) h (omega arith)

-- so many bytes at the front of the room
pub front_len : (n : ℕ) (room : List ℕ) → n ≤ length room → length (take n room) ≡ n
front_len n room h = omega (arith, length-take n room)

-- what was added is the front of the room
pub grown : (new old room rest : List ℕ) (n : ℕ) → new ≡ old ++ take n (room ++ rest) → n ≤ length room
    → new ≡ old ++ take n room
grown new old room rest n e h = e ∙ ap (λ (t : List ℕ). old ++ t) (take-append-le n room rest h)
