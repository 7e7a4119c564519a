use Rattle.std.proofs.Common.{◌≡◌, ◌∙◌, ◌+◌, ◌-◌, ◌<◌, ℕ, suc, List, ap, arith, eq-eqb, false, get_or, inl, inr, length}
use Rattle.std.proofs.Common.{not, refl, sym}
use Rattle.std.proofs.lemmas.Bool.{cases_Bool}
use Rattle.std.proofs.lemmas.List.{get_or_default}
use Rattle.mxf_klv.specs.Parts.{NoteParts}
use Rattle.mxf_readings.specs.Holdings.{HoldingParts, is_of}
use Rattle.mxf_readings.proofs.HoldingLaws.{not_only_ahead, not_only_behind, only}
use Rattle.mxf_readings.proofs.holding.is_only.Goals as goal
use Rattle.mxf_readings.proofs.holding.is_only.Goals.{else-at-gt0-via-then-at-gt0+else-is_of}
use Rattle.mxf_readings.proofs.holding.is_only.Goals.{else-at-gt0-via-else-at-gt0}

-- Whether the holding at a place is of a note.
there : (hs : List HoldingParts) (j k : ℕ) (n m : NoteParts) (x d : HoldingParts) → j ≡ k → n ≡ m → x ≡ get_or hs j x
    → j < length hs → is_of n x ≡ is_of m (get_or hs k d)
there hs j k n m x d e s is l =
    ap (λ p. is_of p x) s ∙ ap (is_of m) (is ∙ get_or_default hs j x d l ∙ ap (λ i. get_or hs i d) e)

pub returns-then-is_of : goal.returns-then-is_of
returns-then-is_of c d =
    let hs = c.args.holdings.now in
    let at = c.args.at in
    let l : at < length hs = c.requires.bound in
    let same : c.holding.inside.note.now ≡ (get_or hs at d).note =
    ap (λ (h : HoldingParts). h.note) (c.holding.view_is ∙ c.index-holdings-at.is ∙ get_or_default hs at _ d l) in
    sym (not_only_ahead hs at d c.requires.rising l c.if-at-gt0.true
    (sym (there hs (at - 1) (at - 1) _ _ _ d refl same c.index-holdings-at-then-at-gt0.is (omega (arith, l)))
    ∙ sym c.is_of.ensures ∙ c.if-is_of.true))

pub returns-then-at-holdings : goal.returns-then-at-holdings
returns-then-at-holdings c d =
    let hs = c.args.holdings.now in
    let at = c.args.at in
    let l : at < length hs = c.requires.bound in
    let same : c.holding.inside.note.now ≡ (get_or hs at d).note =
    ap (λ (h : HoldingParts). h.note) (c.holding.view_is ∙ c.index-holdings-at.is ∙ get_or_default hs at _ d l) in
    let ahead : 0 < at → is_of (get_or hs at d).note (get_or hs (at - 1) d) ≡ false = elim c.else-at-gt0.branch [
      | else-at-gt0-via-then-at-gt0+else-is_of w ↦ λ some.
          sym (there hs (at - 1) (at - 1) _ _ _ d refl same w.index-holdings-at-then-at-gt0.is (omega (arith, l)))
          ∙ sym w.is_of.ensures ∙ w.if-is_of.false
      | else-at-gt0-via-else-at-gt0 w ↦ λ some. absurd (omega (arith, some, w.if-at-gt0.false))
    ] in
    eq-eqb (at + 1) (length hs) c.if-at-holdings.true
    ∙ sym (only hs at d c.requires.rising l ahead (λ more. absurd (omega (arith, more, c.if-at-holdings.true))))

pub returns-else-at-holdings : goal.returns-else-at-holdings
returns-else-at-holdings c d =
    let hs = c.args.holdings.now in
    let at = c.args.at in
    let l : at < length hs = c.requires.bound in
    let same : c.holding.inside.note.now ≡ (get_or hs at d).note =
    ap (λ (h : HoldingParts). h.note) (c.holding.view_is ∙ c.index-holdings-at.is ∙ get_or_default hs at _ d l) in
    let ahead : 0 < at → is_of (get_or hs at d).note (get_or hs (at - 1) d) ≡ false = elim c.else-at-gt0.branch [
      | else-at-gt0-via-then-at-gt0+else-is_of w ↦ λ some.
          sym (there hs (at - 1) (at - 1) _ _ _ d refl same w.index-holdings-at-then-at-gt0.is (omega (arith, l)))
          ∙ sym w.is_of.ensures ∙ w.if-is_of.false
      | else-at-gt0-via-else-at-gt0 w ↦ λ some. absurd (omega (arith, some, w.if-at-gt0.false))
    ] in
    let next : at + 1 ≡ suc at = omega arith in
    let more : suc at < length hs = omega (arith, l, c.if-at-holdings.false) in
    let behind : is_of (get_or hs at d).note (get_or hs (suc at) d) ≡ c.is_of-else-at-holdings.result =
    sym (there hs (at + 1) (suc at) _ _ _ d next same c.index-holdings-at-else-at-holdings.is (omega (arith, more)))
    ∙ sym c.is_of-else-at-holdings.ensures in
    elim (cases_Bool c.is_of-else-at-holdings.result) [
      | inl t ↦ ap not t ∙ sym (not_only_behind hs at d c.requires.rising l more (behind ∙ t))
      | inr f ↦ ap not f ∙ sym (only hs at d c.requires.rising l ahead (λ _. behind ∙ f))
    ]
