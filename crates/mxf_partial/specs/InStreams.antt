-- Elements of streams in their order, and what binary searches find among them (this project's profile).
use Rattle.std.specs.Prelude.{◌≡◌, ℕ, ◌<◌, ◌≤◌, ◌⊎◌, Bool, ◌&&◌, ◌||◌, ◌==◌, nat_lt, List, [], ◌∷◌, length}
use Rattle.std.specs.List.{AllByRecursion, AllWithin}
use Rattle.mxf_klv.specs.Rising.{In}

-- An element lies below an offset of a stream: in a lower stream, or below the offset in that stream.
abbrev pub IsBelow : ℕ → ℕ → ℕ → ℕ → Type 0
IsBelow stream offset to_stream to = (stream < to_stream) ⊎ ((stream ≡ to_stream) × (offset < to))

abbrev pub is_below : ℕ → ℕ → ℕ → ℕ → Bool
is_below stream offset to_stream to = nat_lt stream to_stream || ((stream == to_stream) && nat_lt offset to)

module _ {T : Type 0} (stream offset tie : T → ℕ) where
  -- By offset, and then by what settles ties, one goes before another or beside it.
  abbrev pub GoesTo : T → T → Type 0
  GoesTo x y = (offset x < offset y) ⊎ ((offset x ≡ offset y) × (tie x ≤ tie y))

  -- The same by stream before all.
  abbrev pub Precedes : T → T → Type 0
  Precedes x y = (stream x < stream y) ⊎ ((stream x ≡ stream y) × GoesTo x y)

  -- Each precedes all later ones.
  abbrev pub IsInOrder : List T → Type 0
  IsInOrder [] = Unit {0}
  IsInOrder (x ∷ xs) = AllByRecursion (Precedes x) xs × IsInOrder xs

  -- The first `count` elements lie below an offset of a stream, and the later ones don't.
  pub record ArePartedAt (xs : List T) (to_stream to count : ℕ) : Type 0 where
    pub below : AllWithin (λ x. IsBelow (stream x) (offset x) to_stream to) xs 0 count
    pub above : AllWithin (λ x. ¬ IsBelow (stream x) (offset x) to_stream to) xs count (length xs)

  -- The last element of a stream below an offset.
  pub record IsLastBelow (xs : List T) (of to : ℕ) (x : T) : Type 0 where
    pub among : In x xs
    pub same : stream x ≡ of
    pub below : offset x < to
    pub last : (y : T) → In y xs → stream y ≡ of → offset y < to → GoesTo y x

  -- None of the stream lies below.
  abbrev pub HasNoneBelow : List T → ℕ → ℕ → Type 0
  HasNoneBelow xs of to = (y : T) → In y xs → stream y ≡ of → to ≤ offset y

  -- The first element of a stream from an offset on.
  pub record IsFirstFrom (xs : List T) (of from : ℕ) (x : T) : Type 0 where
    pub among : In x xs
    pub same : stream x ≡ of
    pub above : from ≤ offset x
    pub first : (y : T) → In y xs → stream y ≡ of → from ≤ offset y → GoesTo x y

  -- None of the stream lies there.
  abbrev pub HasNoneFrom : List T → ℕ → ℕ → Type 0
  HasNoneFrom xs of from = (y : T) → In y xs → stream y ≡ of → offset y < from
