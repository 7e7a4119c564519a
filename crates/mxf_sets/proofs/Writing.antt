-- A value that is written part by part: what is told of a part is told of the whole.
use Rattle.mxf_klv.proofs.Common.{◌≡◌, ℕ, ◌+◌, ◌<◌, List, ◌++◌, suc, length, take, drop, get_or, sym, subst, arith}
use Rattle.mxf_klv.proofs.Common.{length-append, take-append-le, flat_map, Appends, StopsIn, WritesPart, counted}
use Rattle.mxf_klv.specs.declared.writing.WriteFault.{WriteFault}
use Rattle.std.specs.Prelude.{Option, Result}
use Rattle.mxf_klv.proofs.WrittenParts.{StopsIn-middle, StopsIn-part, WritesPart-after, flat_map-at}
use Rattle.mxf_sets.specs.Items.{ItemParts, item_bytes}

-- the writer failed in these bytes, and the count is that of the fault
abbrev pub Stops : Option (List ℕ) → Option (List ℕ) → ℕ → ℕ → WriteFault → List ℕ → Type 0
Stops a c before after e bytes = StopsIn a c before e bytes × (after ≡ e.written)

-- a fault in the first of two parts is a fault of the whole
pub Stops-first : (a c : Option (List ℕ)) (before after : ℕ) (e : WriteFault) (bytes part rest : List ℕ)
    → bytes ≡ part ++ rest → Stops a c before after e part → Stops a c before after e bytes
Stops-first a c before after e bytes part rest is (q, told) = grind (arith, length-append, take-append-le)

-- the first part was written, and a fault in the second is a fault of the whole
pub Stops-second : (a b c : Option (List ℕ)) (before mid after : ℕ) (e : WriteFault) (bytes done part rest : List ℕ)
    → bytes ≡ done ++ (part ++ rest) → Appends a b done × (mid ≡ counted (before + length done))
    → Stops b c mid after e part → Stops a c before after e bytes
Stops-second a b c before mid after e bytes done part rest is (p, m) (q, told) =
    (subst (StopsIn a c before e) (sym is) (StopsIn-middle a b c before mid e done part rest p m q), told)

-- a fault in an item is a fault of all of them
pub Stops-item : (a b c : Option (List ℕ)) (before mid after : ℕ) (e : WriteFault) (items : List ItemParts) (k : ℕ)
    (item : ItemParts) → k < length items → item ≡ get_or items k item
    → Appends a b (flat_map item_bytes (take k items))
    → mid ≡ counted (before + length (flat_map item_bytes (take k items)))
    → Stops b c mid after e (item_bytes item) → Stops a c before after e (flat_map item_bytes items)
Stops-item a b c before mid after e items k item h is p m (q, told) =
    let done = flat_map item_bytes (take k items) in
    let rest = flat_map item_bytes (drop (suc k) items) in
    let part = item_bytes (get_or items k item) in
    let stops = subst (λ (i : ItemParts). StopsIn b c mid e (item_bytes i)) is q in
    let whole = StopsIn-part a b c before mid e done part rest p m stops in
    (subst (StopsIn a c before e) (flat_map-at item_bytes items k item h) whole, told)

-- the first part was written, and what is told of the rest is told of the whole
pub WritesPart-second : {X : Type 0} (a b c : Option (List ℕ)) (before mid after : ℕ) (r : Result X WriteFault)
    (bytes part rest : List ℕ) → bytes ≡ part ++ rest → Appends a b part × (mid ≡ counted (before + length part))
    → WritesPart b c mid after r rest → WritesPart a c before after r bytes
WritesPart-second a b c before mid after r bytes part rest is (p, m) q = grind (arith, WritesPart-after)

-- what was written is the same bytes
pub writes_same : (a c : Option (List ℕ)) (before after : ℕ) (bytes same : List ℕ) → bytes ≡ same
    → Appends a c same × (after ≡ counted (before + length same))
    → Appends a c bytes × (after ≡ counted (before + length bytes))
writes_same a c before after bytes same is (p, m) = grind arith
