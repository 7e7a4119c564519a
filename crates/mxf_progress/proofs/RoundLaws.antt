-- With each round of restoring more of the file is given.
use Rattle.mxf_views.proofs.Common.{◌≡◌, ◌↔◌, ◌⊎◌, ◌∙◌, ◌<◌, ◌≤◌, ℕ, Bool, true, false, not, List, [], ◌∷◌}
use Rattle.mxf_views.proofs.Common.{Option, None, Some, ◌-◌, arith, ap, count_by, count_by-cons, drop, false≢true}
use Rattle.mxf_views.proofs.Common.{false_from_ne_true, inl, inr, length, not-true-false, not_true, refl}
use Rattle.mxf_views.proofs.Common.{range_with_len, same_Some, slice_get, subst, suc, sym, tally, zero, In, IsContent, NoteParts}
use Rattle.mxf_klv.proofs.Counts.{In-range, some-count}
use Rattle.mxf_places.specs.AtHand.{AreAtHand, AtHandParts, has_offset}
use Rattle.mxf_places.proofs.AtHandLaws.{has_offset-says}
use Rattle.mxf_restore.specs.declared.plan.Order.{Order}
use Rattle.mxf_hand.specs.Given.{IsGiven, SourceParts}
use Rattle.mxf_progress.specs.Progress.{IsUngivenAt}
use Rattle.mxf_progress.specs.Restoring.{AreGivenBy, AreRounds, HasUpTo, IsOrderOf, IsRound, ungiven_of}
use Rattle.mxf_progress.proofs.OrderLaws.{ungiven_there}
use Rattle.mxf_progress.proofs.UnitOrders.{metadata_ungiven, unit_ungiven}

-- ---- counts

-- If all that passes a test passes another too, no more pass it.
count_le : {K : Type 0} (p q : K → Bool) (xs : List K) → ((x : K) → p x ≡ true → q x ≡ true)
    → count_by p xs ≤ count_by q xs
count_le p q [] f = omega arith
count_le p q (x ∷ xs) f =
    let ih = count_le p q xs f in
    let a = count_by-cons p x xs in
    let b = count_by-cons q x xs in
    let one = tally_le (p x) (q x) (f x) in omega (arith, ih, a, b, one)
  where
    tally_le : (a b : Bool) → (a ≡ true → b ≡ true) → tally a ≤ tally b
    tally_le true true f = omega arith
    tally_le true false f = absurd (false≢true (f refl))
    tally_le false true f = omega arith
    tally_le false false f = omega arith

-- If moreover one passes the other alone, fewer do.
count_lt : {K : Type 0} (p q : K → Bool) (xs : List K) → ((x : K) → p x ≡ true → q x ≡ true) → (y : K) → In y xs
    → p y ≡ false → q y ≡ true → count_by p xs < count_by q xs
count_lt p q [] f y k misses passes = absurd k
count_lt p q (x ∷ xs) f y (inl e) misses passes =
    let rest = count_le p q xs f in
    let a = count_by-cons p x xs in
    let b = count_by-cons q x xs in
    let none : tally (p x) ≡ 0 = ap tally (subst (λ z. p z ≡ false) e misses) in
    let one : tally (q x) ≡ 1 = ap tally (subst (λ z. q z ≡ true) e passes) in omega (arith, rest, a, b, none, one)
count_lt p q (x ∷ xs) f y (inr k) misses passes =
    let ih = count_lt p q xs f y k misses passes in
    let a = count_by-cons p x xs in
    let b = count_by-cons q x xs in
    let one = count_le p q (x ∷ []) f in
    let c = count_by-cons p x [] in
    let d = count_by-cons q x [] in omega (arith, ih, a, b, one, c, d)

-- ---- rounds

pub keeps : (file : List ℕ) (before after : List SourceParts) (x : ℕ) → IsRound file before after → IsGiven before x
    → IsGiven after x
keeps file before after x r g = (g.0, (g.1.0, r.kept g.1.0 g.1.1, g.1.2))

byte_at : (xs : List ℕ) (x : ℕ) → x < length xs → (b : ℕ) × (slice_get xs x ≡ Some b)
byte_at [] x l = absurd (omega (arith, l))
byte_at (y ∷ xs) zero l = (y, refl)
byte_at (y ∷ xs) (suc x) l = byte_at xs x (omega (arith, l))

-- The order asks for a byte that the file has and no source gives.
asks_new : (file : List ℕ) (before after : List SourceParts) (r : IsRound file before after)
    → (x : ℕ) × IsUngivenAt r.at r.order x × (x < length file)
asks_new file before after r = elim r.order.end as (λ d. r.order.end ≡ d
    → (x : ℕ) × IsUngivenAt r.at r.order x × (x < length file)) [
      | None ↦ λ e. subst (HasUpTo file r.at r.order) e r.has
      | Some end ↦ λ e.
          let most : end ≤ length file = subst (HasUpTo file r.at r.order) e r.has in
          let hand = are_at_hand before r.at r.given in
          let s = ungiven_for r.at r.notes r.content hand r.order r.ordered end r.new e in
          let below = ends_below r.order.end end s.0 e s.1.lies.1 in (s.0, s.1, omega (arith, below, most))
    ] refl
  where
    ends_below : (last : Option ℕ) (end x : ℕ) → last ≡ Some end
        → ((last ≡ None) ⊎ ((e : ℕ) × (last ≡ Some e) × (x < e))) → x < end
    ends_below last end x e (inl none) = absurd (cc (e, none))
    ends_below last end x e (inr t) =
        let same = same_Some end t.0 (sym e ∙ t.1) in
        let less = t.2 in omega (arith, same, less)

    are_at_hand : (sources : List SourceParts) (at : AtHandParts) → AreGivenBy sources at → AreAtHand at
    are_at_hand sources at g = record {
      given = g.cover;
      hand = g.hand.cover;
      within = λ x l. (g.given x).1 ((g.hand.offsets x).0 l).given;
    }

    ungiven_for : (at : AtHandParts) (notes : List NoteParts) → IsContent notes → AreAtHand at → (o : Order)
        → IsOrderOf at notes o → (end : ℕ) → o.again ≡ false → o.end ≡ Some end → (x : ℕ) × IsUngivenAt at o x
    ungiven_for at notes content hand o k end new ends = elim k [
      | inl i ↦ ungiven_there at notes content hand o i end new ends
      | inr k ↦ elim k [
        | inl u ↦ (
            let hand = subst AreAtHand (sym u.beside) hand in
            let s = unit_ungiven u.wanted u.plan o end u.is_plan hand u.among new ends in
            (s.0, subst (λ (a : AtHandParts). IsUngivenAt a o s.0) u.beside s.1))
        | inr i ↦ metadata_ungiven at notes o end hand i new ends
      ]
    ]

-- A source of all bytes of the file from the order's start on gives what is ordered.
pub begins : (file : List ℕ) (sources : List SourceParts) (at : AtHandParts) (notes : List NoteParts) (o : Order)
    → IsContent notes → AreGivenBy sources at → IsOrderOf at notes o → o.again ≡ false → HasUpTo file at o o.end
    → (after : List SourceParts) × IsRound file sources after
begins file sources at notes o content given ordered new has =
    let s : SourceParts = record { offset = o.start; bytes = drop o.start file } in (
      s ∷ sources,
      record {
        notes = notes;
        content = content;
        at = at;
        given = given;
        order = o;
        ordered = ordered;
        new = new;
        has = has;
        restored = (
          s,
          inl refl,
          λ x byte lies is. record { from = lies.0; is = from_start file o.start x lies.0 ∙ is },
        );
        kept = λ t k. inr k;
      },
    )
  where
    from_start : (xs : List ℕ) (start x : ℕ) → start ≤ x → slice_get (drop start xs) (x - start) ≡ slice_get xs x
    from_start xs zero x l = let same : x - 0 ≡ x = omega arith in ap (λ (k : ℕ). slice_get xs k) same
    from_start [] (suc start) x l = refl
    from_start (y ∷ xs) (suc start) zero l = absurd (omega (arith, l))
    from_start (y ∷ xs) (suc start) (suc x) l =
        let same : suc x - suc start ≡ x - start = omega arith in
        ap (λ (k : ℕ). slice_get (drop start xs) k) same ∙ from_start xs start x (omega (arith, l))

pub gains : (file : List ℕ) (before after : List SourceParts) → IsRound file before after
    → (x : ℕ) × (x < length file) × (IsGiven before x → ⊥) × IsGiven after x
gains file before after r =
    let s = asks_new file before after r in
    let b = byte_at file s.0 s.2 in
    let source = r.restored in (
      s.0,
      s.2,
      λ g. s.1.lacks ((r.given.given s.0).1 g),
      (b.0, (source.0, source.1, source.2 s.0 b.0 s.1.lies b.1)),
    )

-- The offset isn't given exactly if no source gives it.
ungiven_says : (sources : List SourceParts) (at : AtHandParts) → AreGivenBy sources at → (x : ℕ)
    → (not (has_offset at.given x) ≡ true) ↔ (IsGiven sources x → ⊥)
ungiven_says sources at g x =
    let says = has_offset-says at.given x in (
      λ t h. not-true-false (has_offset at.given x) t (says.1 ((g.given x).1 h)),
      λ none. not_true (has_offset at.given x) (λ t. none ((g.given x).0 (says.0 t))),
    )

pub falls : (file : List ℕ) (before after : List SourceParts) (at then : AtHandParts) → IsRound file before after
    → AreGivenBy before at → AreGivenBy after then → ungiven_of file then.given < ungiven_of file at.given
falls file before after at then r g h =
    let s = gains file before after r in
    let was = λ (x : ℕ). ungiven_says before at g x in
    let is = λ (x : ℕ). ungiven_says after then h x in
    count_lt (λ x. not (has_offset then.given x)) (λ x. not (has_offset at.given x)) (range_with_len 0 (length file))
    (λ x t. (was x).1 (λ k. (is x).0 t (keeps file before after x r k))) s.0
    (In-range 0 (length file) s.0 (omega arith) (let less = s.1 in omega (arith, less)))
    (false_from_ne_true (not (has_offset then.given s.0)) (λ t. (is s.0).0 t s.3)) ((was s.0).1 s.2)

pub ends : (file : List ℕ) (sources : List SourceParts) (at : AtHandParts) (rounds : List (List SourceParts))
    → AreGivenBy sources at → AreRounds file sources rounds → length rounds ≤ ungiven_of file at.given
ends file sources at [] g r = omega arith
ends file sources at (after ∷ []) g r =
    let s = gains file sources after r.0 in
    let x = s.0 in
    let some = some-count (λ x. not (has_offset at.given x)) (range_with_len 0 (length file)) s.0
    (In-range 0 (length file) s.0 (omega arith) (let less = s.1 in omega (arith, less)))
    ((ungiven_says sources at g s.0).1 s.2) in omega (arith, some)
ends file sources at (after ∷ next ∷ later) g r =
    let then = r.1.0.at in
    let ih = ends file after then (next ∷ later) r.1.0.given r.1 in
    let less = falls file sources after at then r.0 g r.1.0.given in omega (arith, ih, less)
