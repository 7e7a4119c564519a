-- Ranges of a run, and of runs.
use Rattle.std.proofs.Common.{◌≡◌, ◌∙◌, ◌↔◌, ◌⊎◌, ◌+◌, ◌-◌, ◌<◌, ◌≤◌, ◌%◌, ◌++◌, ◌∷◌, ℕ, true, List, []}
use Rattle.std.proofs.Common.{refl, sym, ap, subst, inl, inr, arith}
use Rattle.std.proofs.lemmas.Bool.{cases_order}
use Rattle.mxf_klv.proofs.Lists.{In-end}
use Rattle.mxf_timed.specs.declared.timecode_word.TimecodeWord.{TimecodeWord}
use Rattle.mxf_views.specs.Places.{greatest_unit}
use Rattle.mxf_tracks.specs.Timecodes.{labels_of_day, number_of}
use Rattle.mxf_clocks.specs.Runs.{RunParts, has_position}
use Rattle.mxf_timed.specs.declared.positions.ShownAt.{ShownAt}
use Rattle.mxf_timed.specs.declared.positions.ShownAt.TheVariants.{At}
use Rattle.mxf_timed.specs.Gone.{AreNone, AreUpTo, IsLastGone, gone_after, is_several, joined}
use Rattle.mxf_timed.specs.Positions.{Fits, IsAnswer, IsAsked, IsRange, IsRangeAt, IsRangeOf, counted_at, label_of}
use Rattle.mxf_timed.proofs.AnswerLaws.{joined_answer, same_answer, several_more}
use Rattle.mxf_timed.proofs.DayLaws.{apart}
use Rattle.mxf_timed.proofs.GoneLaws.{rises}

-- ---- a number of a run

-- More units take no fewer timecodes.
later : (r : RunParts) (u v : ℕ) → u ≤ v → gone_after r u ≤ gone_after r v
later r u v le = rises r.passed r.step.numerator r.step.denominator u v le

-- A number has one range.
one_range : (r : RunParts) (number f l g m : ℕ) → IsRangeAt r number f l → IsRangeAt r number g m
    → (g ≡ f) × (m ≡ l)
one_range r number f l g m x y =
    let some = x.some in
    let other = y.some in
    let a = (y.each f).1 ((x.each f).0 (omega arith, omega (arith, some))) in
    let b = (y.each l).1 ((x.each l).0 (omega (arith, some), omega arith)) in
    let c = (x.each g).1 ((y.each g).0 (omega arith, omega (arith, other))) in
    let d = (x.each m).1 ((y.each m).0 (omega (arith, other), omega arith)) in
    (omega (arith, a.0, c.0), omega (arith, b.1, d.1))

-- What the units say that are the first and the last with the number.
pub record AreEnds (r : RunParts) (most gone first last : ℕ) : Type 0 where
  pub firsts : (u : ℕ) → (gone ≤ gone_after r u) ↔ (first ≤ u)
  pub lasts : (u : ℕ) → u ≤ most → (gone_after r u ≤ gone) ↔ (u ≤ last)
  pub within : last ≤ most

between : (r : RunParts) (most gone first last : ℕ) → AreUpTo r most → AreEnds r most gone first last → (p : ℕ)
    → ((r.position + first ≤ p) × (p ≤ r.position + last))
    ↔ ((has_position r p ≡ true) × (p ≤ greatest_unit) × (counted_at r p ≡ r.number + gone))
between r most gone first last upto ends p =
    let u = p - r.position in
    let within = ends.within in (
      λ h.
          let held = (upto p).1 (omega (arith, h.0), omega (arith, h.1, within)) in
          let low = (ends.firsts u).1 (omega (arith, h.0)) in
          let high = (ends.lasts u (omega (arith, h.1, within))).1 (omega (arith, h.1)) in
          (held.0, held.1, omega (arith, low, high)),
      λ h.
          let place = (upto p).0 (h.0, h.1) in
          let is : gone_after r u ≡ gone = omega (arith, h.2) in
          let low = (ends.firsts u).0 (omega (arith, is)) in
          let high = (ends.lasts u (omega (arith, place.0, place.1))).0 (omega (arith, is)) in
          (omega (arith, place.0, low), omega (arith, place.0, high)),
    )

-- From the first up to the last.
pub ends_are : (r : RunParts) (most gone first last : ℕ) → AreUpTo r most → AreEnds r most gone first last
    → first ≤ last → IsAnswer (IsRangeAt r (r.number + gone)) (At (r.position + first) (r.position + last))
ends_are r most gone first last upto ends some =
    let range : IsRangeAt r (r.number + gone) (r.position + first) (r.position + last) =
    record { some = omega (arith, some); each = between r most gone first last upto ends } in
    (range, λ f l h. one_range r (r.number + gone) (r.position + first) (r.position + last) f l range h)

pub no_ends : (r : RunParts) (most gone first last : ℕ) → AreUpTo r most → AreEnds r most gone first last
    → last < first → (f l : ℕ) → ¬ IsRangeAt r (r.number + gone) f l
no_ends r most gone first last upto ends none f l h =
    let some = h.some in
    let b = (between r most gone first last upto ends f).1 ((h.each f).0 (omega arith, omega (arith, some))) in
    omega (arith, b.0, b.1, none)

-- More have gone by at the first position.
pub too_early : (r : RunParts) (gone : ℕ) → gone < gone_after r 0 → (f l : ℕ) → ¬ IsRangeAt r (r.number + gone) f l
too_early r gone early f l h =
    let some = h.some in
    let at = (h.each f).0 (omega arith, omega (arith, some)) in
    let more = later r 0 (f - r.position) (omega arith) in
    omega (arith, at.2, more, early)

-- ---- numbers of a run, one day after another

-- A range of a number that is asked for, less than so many timecodes behind the first.
pub record IsRangeBelow (r : RunParts) (w : TimecodeWord) (limit first last : ℕ) : Type 0 where
  pub gone : ℕ
  pub below : gone < limit
  pub asked : IsAsked r w (r.number + gone)
  pub range : IsRangeAt r (r.number + gone) first last

abbrev pub place_of : RunParts → TimecodeWord → ℕ
place_of r w = number_of r.base (label_of w r.is_drop)

pub none_before : (r : RunParts) (w : TimecodeWord) (first day : ℕ) → day ≡ labels_of_day r.base r.is_drop
    → first < day → (r.number + first) % day ≡ place_of r w → (f l : ℕ) → ¬ IsRangeBelow r w first f l
none_before r w first day is low label f l h =
    let below = h.below in
    let other : (r.number + h.gone) % day ≡ place_of r w =
    ap (λ d. (r.number + h.gone) % d) is ∙ h.asked.label in
    let far = apart (r.number + h.gone) (r.number + first) day (other ∙ sym label) (omega (arith, below)) in
    omega (arith, far, low)

pub one_more : (r : RunParts) (w : TimecodeWord) (gone day last most : ℕ) (a b : ShownAt) → Fits r.base r.is_drop w
    → day ≡ labels_of_day r.base r.is_drop → (r.number + gone) % day ≡ place_of r w → IsLastGone r most day last
    → gone ≤ last → 0 < day → IsAnswer (IsRangeBelow r w gone) a → IsAnswer (IsRangeAt r (r.number + gone)) b
    → IsAnswer (IsRangeBelow r w (gone + day)) (joined a b)
one_more r w gone day last most a b fits is label upto within some h k =
    let asked : IsAsked r w (r.number + gone) = record {
      fits = fits;
      label = ap (λ d. (r.number + gone) % d) (sym is) ∙ label;
      first_day = λ e. let low = ((upto gone).0 within).1 e in omega (arith, low, is);
    } in
    same_answer (λ f l. IsRangeBelow r w gone f l ⊎ IsRangeAt r (r.number + gone) f l)
    (IsRangeBelow r w (gone + day)) (joined a b)
    (λ f l s. elim s [
      | inl x ↦
          let below = x.below in
          record { gone = x.gone; below = omega (arith, below); asked = x.asked; range = x.range }
      | inr x ↦ record { gone = gone; below = omega (arith, some); asked = asked; range = x }
    ])
    (λ f l x.
    let below = x.below in
    let other : (r.number + x.gone) % day ≡ place_of r w =
    ap (λ d. (r.number + x.gone) % d) is ∙ x.asked.label in
    elim (cases_order x.gone gone) [
      | inl same ↦ inr (subst (λ n. IsRangeAt r (r.number + n) f l) same x.range)
      | inr (inl less) ↦ inl (record { gone = x.gone; below = less; asked = x.asked; range = x.range })
      | inr (inr more) ↦
          let far = apart (r.number + gone) (r.number + x.gone) day (label ∙ sym other) (omega (arith, more)) in
          absurd (omega (arith, far, below))
    ])
    (joined_answer (IsRangeBelow r w gone) (IsRangeAt r (r.number + gone)) a b h k)

below_is_of : (r : RunParts) (w : TimecodeWord) (limit f l : ℕ) → IsRangeBelow r w limit f l → IsRangeOf r w f l
below_is_of r w limit f l x = record { number = r.number + x.gone; asked = x.asked; range = x.range }

of_is_below : (r : RunParts) (w : TimecodeWord) (limit day last most f l : ℕ) → AreUpTo r most
    → day ≡ labels_of_day r.base r.is_drop → IsLastGone r most day last → last < limit → IsRangeOf r w f l
    → IsRangeBelow r w limit f l
of_is_below r w limit day last most f l upto is all less x =
    let some = x.range.some in
    let at = (x.range.each f).0 (omega arith, omega (arith, some)) in
    let place = (upto f).0 (at.0, at.1) in
    let gone = gone_after r (f - r.position) in
    let number : x.number ≡ r.number + gone = sym at.2 in
    let first = later r (f - r.position) most (omega (arith, place.1)) in
    let low = (all gone).1 (first, λ e. let low = x.asked.first_day e in omega (arith, low, number, is)) in
    record {
      gone = gone;
      below = omega (arith, low, less);
      asked = subst (λ n. IsAsked r w n) number x.asked;
      range = subst (λ n. IsRangeAt r n f l) number x.range;
    }

pub all_below : (r : RunParts) (w : TimecodeWord) (limit day last most : ℕ) (a : ShownAt) → AreUpTo r most
    → day ≡ labels_of_day r.base r.is_drop → IsLastGone r most day last → last < limit
    → IsAnswer (IsRangeBelow r w limit) a → IsAnswer (IsRangeOf r w) a
all_below r w limit day last most a upto is all less h =
    same_answer (IsRangeBelow r w limit) (IsRangeOf r w) a (λ f l. below_is_of r w limit f l)
    (λ f l. of_is_below r w limit day last most f l upto is all less) h

pub several_below : (r : RunParts) (w : TimecodeWord) (limit : ℕ) (a : ShownAt) → is_several a ≡ true
    → IsAnswer (IsRangeBelow r w limit) a → IsAnswer (IsRangeOf r w) a
several_below r w limit a s h =
    several_more (IsRangeBelow r w limit) (IsRangeOf r w) a s (λ f l. below_is_of r w limit f l) h

-- ---- runs

pub no_positions : (r : RunParts) (w : TimecodeWord) → AreNone r → (f l : ℕ) → ¬ IsRangeOf r w f l
no_positions r w none f l x =
    let some = x.range.some in
    let at = (x.range.each f).0 (omega arith, omega (arith, some)) in none f at.0 at.1

pub run_more : (runs more : List RunParts) (r : RunParts) (w : TimecodeWord) (a b : ShownAt) → more ≡ runs ++ r ∷ []
    → IsAnswer (IsRange runs w) a → IsAnswer (IsRangeOf r w) b → IsAnswer (IsRange more w) (joined a b)
run_more runs more r w a b is h k =
    same_answer (λ f l. IsRange runs w f l ⊎ IsRangeOf r w f l) (IsRange more w) (joined a b)
    (λ f l s. elim s [
      | inl x ↦ record { run = x.run; held = (In-end x.run r runs more is).1 (inl x.held); range = x.range }
      | inr x ↦ record { run = r; held = (In-end r r runs more is).1 (inr refl); range = x }
    ])
    (λ f l x. elim ((In-end x.run r runs more is).0 x.held) [
      | inl held ↦ inl (record { run = x.run; held = held; range = x.range })
      | inr same ↦ inr (subst (λ r. IsRangeOf r w f l) same x.range)
    ])
    (joined_answer (IsRange runs w) (IsRangeOf r w) a b h k)
