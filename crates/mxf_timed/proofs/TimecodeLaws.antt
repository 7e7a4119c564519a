-- The timecodes that units show.
use Rattle.std.proofs.Common.{◌≡◌, ◌∙◌, ◌↔◌, ℕ, List, [], ◌∷◌, Option, None, Some, MatchOption, ap, refl, subst}
use Rattle.std.proofs.Common.{arith, sym, filter}
use Rattle.std.specs.Option.{option_and_then}
use Rattle.std.proofs.lemmas.Option.{none-some, same_Some}
use Rattle.mxf_tracks.specs.declared.timecode.Timecode.{Timecode}
use Rattle.mxf_clocks.specs.Runs.{RunParts, has_position}
use Rattle.mxf_clocks.specs.RunTimecodes.{timecode_at}
use Rattle.mxf_units.specs.Units.{UnitsParts}
use Rattle.mxf_timed.specs.Coverage.{HasNoOneRun, IsOneRunAt, IsTimecodeAt, one_run_at, one_timecode_at, only}
use Rattle.mxf_timed.specs.Shown.{AreTimed, IsGreatestShown, IsLeastShown, IsNoneShown, IsShownWithin, ShowsTimecode}
use Rattle.mxf_timed.specs.Shown.{TimedParts, shown_by, timecode_shown, timecodes_shown}
use Rattle.mxf_timed.proofs.ShownLaws.{greatest-shown, least-shown}

-- ---- of a position

only-one : {X : Type 0} (xs : List X) (x : X) → only xs ≡ Some x → xs ≡ x ∷ []
only-one [] x e = absurd cc
only-one (y ∷ []) x e = ap (λ z. z ∷ []) (same_Some _ _ e)
only-one (y ∷ z ∷ xs) x e = absurd cc

one-only : {X : Type 0} (xs : List X) (x : X) → xs ≡ x ∷ [] → only xs ≡ Some x
one-only xs x e = ap only e

no-only : {X : Type 0} (xs : List X) → ((x : X) → xs ≡ x ∷ [] → ⊥) → only xs ≡ None
no-only [] none = refl
no-only (y ∷ []) none = absurd (none y refl)
no-only (y ∷ z ∷ xs) none = refl

-- The run that was found is the one that has the position.
pub run_is : (runs : List RunParts) (p : ℕ) (o : Option RunParts) → MatchOption o (HasNoOneRun runs p) (IsOneRunAt runs p)
    → o ≡ one_run_at runs p
run_is runs p None none = sym (no-only (filter (λ r. has_position r p) runs) none)
run_is runs p (Some r) is = sym (one-only (filter (λ r. has_position r p) runs) r is)

then-some : {A B : Type 0} (o : Option A) (f : A → Option B) (b : B) → option_and_then f o ≡ Some b
    → (a : A) × (o ≡ Some a) × (f a ≡ Some b)
then-some None f b e = absurd cc
then-some (Some a) f b e = (a, refl, e)

pub timecode-is : (runs : List RunParts) (p : ℕ) (t : Timecode)
    → (one_timecode_at runs p ≡ Some t) ↔ IsTimecodeAt runs p t
timecode-is runs p t = (
  λ e.
      let i = then-some (one_run_at runs p) (λ r. timecode_at r p) t e in
      record { run = i.0; one = only-one _ i.0 i.1; timecode = i.2 },
  λ w. ap (option_and_then (λ r. timecode_at r p)) (one-only _ w.run w.one) ∙ w.timecode,
)

-- ---- of a unit

pub shows-is : (u : UnitsParts) (runs : List RunParts) (first count : ℕ) (s : TimedParts) (unit : ℕ) (t : Timecode)
    → AreTimed u runs first count s → (timecode_shown s unit ≡ Some t) ↔ ShowsTimecode u runs first count unit t
shows-is u runs first count s unit t are = (
  λ e.
      let i = then-some (shown_by s.shown unit) (one_timecode_at s.runs) t e in
      let shown = (are.shown unit i.0).0 i.1 in
      record {
        from = shown.0;
        within = shown.1;
        position = i.0;
        shown = shown.2;
        timecode = subst (λ rs. IsTimecodeAt rs i.0 t) are.runs_are ((timecode-is s.runs i.0 t).0 i.2);
      },
  λ w.
      ap (option_and_then (one_timecode_at s.runs)) ((are.shown unit w.position).1 (w.from, w.within, w.shown))
      ∙ (timecode-is s.runs w.position t).1 (subst (λ rs. IsTimecodeAt rs w.position t) (sym are.runs_are) w.timecode),
)

-- ---- two accounts of the same

same-options : {A : Type 0} (a b : Option A) → ((x : A) → (a ≡ Some x) ↔ (b ≡ Some x)) → a ≡ b
same-options None None h = refl
same-options None (Some y) h = absurd (none-some y ((h y).1 refl))
same-options (Some x) b h = sym ((h x).0 refl)

module _ (u : UnitsParts) (runs : List RunParts) (first count : ℕ) (a b : TimedParts)
    (one : AreTimed u runs first count a) (other : AreTimed u runs first count b) where
  runs-same : a.runs ≡ b.runs
  runs-same = one.runs_are ∙ sym other.runs_are

  shown-same : (unit : ℕ) → shown_by a.shown unit ≡ shown_by b.shown unit
  shown-same unit = same-options _ _ (λ p. (
    λ e. (other.shown unit p).1 ((one.shown unit p).0 e),
    λ e. (one.shown unit p).1 ((other.shown unit p).0 e),
  ))

  pub timecode-same : (unit : ℕ) → timecode_shown a unit ≡ timecode_shown b unit
  timecode-same unit = λ i. option_and_then (one_timecode_at (runs-same i)) (shown-same unit i)

  there : (from to p : ℕ) → IsShownWithin a.shown from to p → IsShownWithin b.shown from to p
  there from to p w = record { unit = w.unit; from = w.from; to = w.to; shown = sym (shown-same w.unit) ∙ w.shown }

  back : (from to p : ℕ) → IsShownWithin b.shown from to p → IsShownWithin a.shown from to p
  back from to p w = record { unit = w.unit; from = w.from; to = w.to; shown = shown-same w.unit ∙ w.shown }

  least-one : (from to : ℕ) (x y : Option ℕ)
      → MatchOption x (IsNoneShown a.shown from to) (IsLeastShown a.shown from to)
      → MatchOption y (IsNoneShown b.shown from to) (IsLeastShown b.shown from to) → x ≡ y
  least-one from to None None m n = refl
  least-one from to None (Some q) m n = absurd (m q (back from to q n.some))
  least-one from to (Some p) None m n = absurd (n p (there from to p m.some))
  least-one from to (Some p) (Some q) m n =
      let x = m.no_less q (back from to q n.some) in
      let y = n.no_less p (there from to p m.some) in
      let same : p ≡ q = omega (arith, x, y) in ap (λ k. Some k) same

  greatest-one : (from to : ℕ) (x y : Option ℕ)
      → MatchOption x (IsNoneShown a.shown from to) (IsGreatestShown a.shown from to)
      → MatchOption y (IsNoneShown b.shown from to) (IsGreatestShown b.shown from to) → x ≡ y
  greatest-one from to None None m n = refl
  greatest-one from to None (Some q) m n = absurd (m q (back from to q n.some))
  greatest-one from to (Some p) None m n = absurd (n p (there from to p m.some))
  greatest-one from to (Some p) (Some q) m n =
      let x = m.no_greater q (back from to q n.some) in
      let y = n.no_greater p (there from to p m.some) in
      let same : p ≡ q = omega (arith, x, y) in ap (λ k. Some k) same

  pub ends-same : (from to : ℕ) → timecodes_shown a from to ≡ timecodes_shown b from to
  ends-same from to =
      let least = least-one from to _ _ (least-shown a.shown from to) (least-shown b.shown from to) in
      let greatest = greatest-one from to _ _ (greatest-shown a.shown from to) (greatest-shown b.shown from to) in
      λ i. record {
        first = option_and_then (one_timecode_at (runs-same i)) (least i);
        last = option_and_then (one_timecode_at (runs-same i)) (greatest i);
      }
