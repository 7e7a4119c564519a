-- The labels of frames, and their numbers.
use Rattle.mxf_views.proofs.Common.{◌≡◌, ℕ, ◌+◌, ◌<◌, ◌≤◌, Bool, true, false, arith, refl, sym, ◌∙◌, ap, subst, inl, inr}
use Rattle.mxf_views.proofs.Common.{eqb-true}
use Rattle.std.specs.Prelude.{if◌then◌else◌}
use Rattle.std.proofs.lemmas.Bool.{cases_lt}
use Rattle.std.specs.Prelude.{◌*◌, ◌/◌, ◌%◌, ◌-◌, ◌⊎◌, ◌==◌, ℤ, pos, negsuc, unsigned_abs, Some, None}
use Rattle.std.specs.Int.{int_rem_euclid}
use Rattle.std.proofs.Math.Nat.{div-lt_iff_lt-mul, mod-lt}
use Rattle.std.proofs.lemmas.Nat.{div-add-mod', div-mul-add, mul-add-lt}
use Rattle.mxf_tracks.specs.declared.timecode.Timecode.{Timecode}
use Rattle.mxf_tracks.specs.Timecodes.{IsLabel, IsTimecodeOf, drops, frame_with, label_with, labels_of_day}
use Rattle.mxf_tracks.specs.Timecodes.{left_out_before, number_in_day, number_of, timecode_of}

abbrev with_30 : ℕ → Timecode
with_30 number = label_with 30 true number

abbrev with_60 : ℕ → Timecode
with_60 number = label_with 60 true number

number_30 : (number : ℕ) → number < 2589408 → number_of 30 (with_30 number) ≡ number
number_30 number h = omega (arith, h)

number_60 : (number : ℕ) → number < 5178816 → number_of 60 (with_60 number) ≡ number
number_60 number h = omega (arith, h)

label_30 : (number : ℕ) → number < 2589408 → IsLabel 30 (with_30 number)
label_30 number h = record {
  hours = omega (arith, h);
  minutes = omega arith;
  seconds = omega arith;
  frames = omega arith;
  bases = λ _. inl refl;
  kept = λ l. l.3 (omega (arith, h, l.1, l.2));
}

label_60 : (number : ℕ) → number < 5178816 → IsLabel 60 (with_60 number)
label_60 number h = record {
  hours = omega (arith, h);
  minutes = omega arith;
  seconds = omega arith;
  frames = omega arith;
  bases = λ _. inr refl;
  kept = λ l. l.3 (omega (arith, h, l.1, l.2));
}

number_counted : (number base : ℕ) → number_of base (label_with base false number) ≡ number
number_counted number base =
    let s = number / base in
    let minutes : ((s / 3600) * 60 + s / 60 % 60) * 60 + s % 60 ≡ s = omega arith in
    ap (λ m. m * base + number % base) minutes ∙ div-add-mod' number base

label_counted : (number base : ℕ) → 0 < base → number < 86400 * base → IsLabel base (label_with base false number)
label_counted number base some h =
    let low : number / base < 86400 = (div-lt_iff_lt-mul some).1 h in
    record {
      hours = omega (arith, low);
      minutes = omega arith;
      seconds = omega arith;
      frames = mod-lt number some;
      bases = λ d. absurd (cc d);
      kept = λ l. cc l.0;
    }

-- The label with a number that a day has.
abbrev IsLabelWith : ℕ → Bool → ℕ → Type 0
IsLabelWith base drop number =
    IsLabel base (label_with base drop number) × (number_of base (label_with base drop number) ≡ number)

label_with_is : (base : ℕ) (drop : Bool) (number : ℕ) → 0 < base → (drop ≡ true → (base ≡ 30) ⊎ (base ≡ 60))
    → number < labels_of_day base drop → IsLabelWith base drop number
label_with_is base false number some bases h = (label_counted number base some h, number_counted number base)
label_with_is base true number some bases h = elim (bases refl) [
  | inl at ↦
      let low = subst (λ b. number < labels_of_day b true) at h in
      subst (λ b. IsLabelWith b true number) (sym at) (label_30 number low, number_30 number low)
  | inr at ↦
      let low = subst (λ b. number < labels_of_day b true) at h in
      subst (λ b. IsLabelWith b true number) (sym at) (label_60 number low, number_60 number low)
]

drops_at : (base : ℕ) (is_drop : Bool) → drops base is_drop ≡ true → (base ≡ 30) ⊎ (base ≡ 60)
drops_at base false d = absurd (cc d)
drops_at base true d = elim (base == 30) as (λ b. (base == 30) ≡ b → (base ≡ 30) ⊎ (base ≡ 60)) [
  | true ↦ λ e. inl (eqb-true base 30 e)
  | false ↦ λ e. elim (base == 60) as (λ b. (base == 60) ≡ b → (base ≡ 30) ⊎ (base ≡ 60)) [
    | true ↦ λ f. inr (eqb-true base 60 f)
    | false ↦ λ f. absurd (cc (d, e, f))
  ] refl
] refl

labels_some : (base : ℕ) (drop : Bool) → 0 < base → (drop ≡ true → (base ≡ 30) ⊎ (base ≡ 60))
    → 0 < labels_of_day base drop
labels_some base false some bases = omega (arith, some)
labels_some base true some bases = elim (bases refl) [
  | inl at ↦ subst (λ b. 0 < labels_of_day b true) (sym at) (omega arith)
  | inr at ↦ subst (λ b. 0 < labels_of_day b true) (sym at) (omega arith)
]

rem_below : (number : ℤ) (labels : ℕ) → 0 < labels → unsigned_abs (int_rem_euclid number (pos labels)) < labels
rem_below (pos n) labels some = mod-lt n some
rem_below (negsuc n) labels some = omega (arith, some)

some_base : (base : ℕ) → (base == 0) ≡ false → 0 < base
some_base base e = elim (cases_lt 0 base) [
  | inl some ↦ some
  | inr none ↦
      let is : base ≡ 0 = omega (arith, none) in
      let at : (0 == 0) ≡ false = subst (λ b. (b == 0) ≡ false) is e in absurd (cc at)
]

pub timecode_is : (number : ℤ) (base : ℕ) (is_drop : Bool)
    → IsTimecodeOf number base is_drop (timecode_of number base is_drop)
timecode_is number base is_drop = elim (base == 0) as (λ b. (base == 0) ≡ b
    → IsTimecodeOf number base is_drop (if b then None else Some (label_with base (drops base is_drop)
    (number_in_day number base (drops base is_drop))))) [
      | true ↦ λ e. eqb-true base 0 e
      | false ↦ λ e.
          let drop = drops base is_drop in
          let some = some_base base e in
          let bases = drops_at base is_drop in
          let low : number_in_day number base drop < labels_of_day base drop =
          rem_below number (labels_of_day base drop) (labels_some base drop some bases) in
          let is = label_with_is base drop (number_in_day number base drop) some bases low in
          (is.0, refl, is.1)
    ] refl

-- ---- numbers of labels

abbrev IsKept : ℕ → ℕ → ℕ → ℕ → Type 0
IsKept out m s f = (1 ≤ s) ⊎ (out ≤ f) ⊎ (m % 10 ≡ 0)

abbrev counted : ℕ → ℕ → ℕ → ℕ → ℕ → ℕ
counted base h m s f = ((h * 60 + m) * 60 + s) * base + f

frame_30 : (h m s f : ℕ) → h < 24 → m < 60 → s < 60 → f < 30 → IsKept 2 m s f
    → frame_with 30 true (counted 30 h m s f - 2 * ((h * 60 + m) - (h * 60 + m) / 10)) ≡ counted 30 h m s f
frame_30 h m s f a b c d (inl k) = omega (arith, a, b, c, d, k)
frame_30 h m s f a b c d (inr (inl k)) = omega (arith, a, b, c, d, k)
frame_30 h m s f a b c d (inr (inr k)) = omega (arith, a, b, c, d, k)

frame_60 : (h m s f : ℕ) → h < 24 → m < 60 → s < 60 → f < 60 → IsKept 4 m s f
    → frame_with 60 true (counted 60 h m s f - 4 * ((h * 60 + m) - (h * 60 + m) / 10)) ≡ counted 60 h m s f
frame_60 h m s f a b c d (inl k) = omega (arith, a, b, c, d, k)
frame_60 h m s f a b c d (inr (inl k)) = omega (arith, a, b, c, d, k)
frame_60 h m s f a b c d (inr (inr k)) = omega (arith, a, b, c, d, k)

below_30 : (h m s f : ℕ) → h < 24 → m < 60 → s < 60 → f < 30
    → counted 30 h m s f - 2 * ((h * 60 + m) - (h * 60 + m) / 10) < 2589408
below_30 h m s f a b c d = omega (arith, a, b, c, d)

below_60 : (h m s f : ℕ) → h < 24 → m < 60 → s < 60 → f < 60
    → counted 60 h m s f - 4 * ((h * 60 + m) - (h * 60 + m) / 10) < 5178816
below_60 h m s f a b c d = omega (arith, a, b, c, d)

abbrev count_of : ℕ → Timecode → ℕ
count_of base t = counted base t.hours t.minutes t.seconds t.frames

is_kept : (base : ℕ) (t : Timecode) → IsLabel base t → t.is_drop ≡ true
    → IsKept (base / 15) t.minutes t.seconds t.frames
is_kept base t l d = elim (cases_lt 0 t.seconds) [
  | inl s ↦ inl s
  | inr none ↦ elim (cases_lt t.frames (base / 15)) [
    | inr f ↦ inr (inl f)
    | inl f ↦ elim (cases_lt 0 (t.minutes % 10)) [
      | inl m ↦ absurd (l.kept (d, omega (arith, none), f, λ z. absurd (omega (arith, m, z))))
      | inr m ↦ inr (inr (omega (arith, m)))
    ]
  ]
]

number_if : (base : ℕ) (t : Timecode) → t.is_drop ≡ true → number_of base t ≡ count_of base t - left_out_before base t
number_if base t d = ap (λ b. if b then count_of base t - left_out_before base t else count_of base t) d

number_else : (base : ℕ) (t : Timecode) → t.is_drop ≡ false → number_of base t ≡ count_of base t
number_else base t d = ap (λ b. if b then count_of base t - left_out_before base t else count_of base t) d

frame_at_30 : (t : Timecode) → IsLabel 30 t → t.is_drop ≡ true → frame_with 30 true (number_of 30 t) ≡ count_of 30 t
frame_at_30 t l d = ap (frame_with 30 true) (number_if 30 t d)
    ∙ frame_30 t.hours t.minutes t.seconds t.frames l.hours l.minutes l.seconds l.frames (is_kept 30 t l d)

frame_at_60 : (t : Timecode) → IsLabel 60 t → t.is_drop ≡ true → frame_with 60 true (number_of 60 t) ≡ count_of 60 t
frame_at_60 t l d = ap (frame_with 60 true) (number_if 60 t d)
    ∙ frame_60 t.hours t.minutes t.seconds t.frames l.hours l.minutes l.seconds l.frames (is_kept 60 t l d)

-- Labels of one number are of one frame.
same_count : (base : ℕ) (a b : Timecode) → IsLabel base a → IsLabel base b → a.is_drop ≡ b.is_drop
    → number_of base a ≡ number_of base b → count_of base a ≡ count_of base b
same_count base a b la lb same e =
    elim a.is_drop as (λ d. a.is_drop ≡ d → count_of base a ≡ count_of base b) [
      | false ↦ λ d. sym (number_else base a d) ∙ e ∙ number_else base b (sym same ∙ d)
      | true ↦ λ d. elim (la.bases d) [
        | inl at ↦
            let a30 = subst (λ n. IsLabel n a) at la in
            let b30 = subst (λ n. IsLabel n b) at lb in
            let e30 = subst (λ n. number_of n a ≡ number_of n b) at e in
            subst (λ n. count_of n a ≡ count_of n b) (sym at)
            (sym (frame_at_30 a a30 d) ∙ ap (frame_with 30 true) e30 ∙ frame_at_30 b b30 (sym same ∙ d))
        | inr at ↦
            let a60 = subst (λ n. IsLabel n a) at la in
            let b60 = subst (λ n. IsLabel n b) at lb in
            let e60 = subst (λ n. number_of n a ≡ number_of n b) at e in
            subst (λ n. count_of n a ≡ count_of n b) (sym at)
            (sym (frame_at_60 a a60 d) ∙ ap (frame_with 60 true) e60 ∙ frame_at_60 b b60 (sym same ∙ d))
      ]
    ] refl

pub one_label : (base : ℕ) (a b : Timecode) → IsLabel base a → IsLabel base b → a.is_drop ≡ b.is_drop
    → number_of base a ≡ number_of base b → a ≡ b
one_label base a b la lb same e =
    let x = (a.hours * 60 + a.minutes) * 60 + a.seconds in
    let y = (b.hours * 60 + b.minutes) * 60 + b.seconds in
    let count = same_count base a b la lb same e in
    let seconds : x ≡ y = sym (div-mul-add x base a.frames la.frames) ∙ ap (λ n. n / base) count
    ∙ div-mul-add y base b.frames lb.frames in
    let upto : x * base ≡ y * base = ap (λ n. n * base) seconds in
    let f : a.frames ≡ b.frames = omega (arith, count, upto) in
    let h : a.hours ≡ b.hours = omega (arith, seconds, la.minutes, lb.minutes, la.seconds, lb.seconds) in
    let m : a.minutes ≡ b.minutes = omega (arith, seconds, la.minutes, lb.minutes, la.seconds, lb.seconds) in
    let s : a.seconds ≡ b.seconds = omega (arith, seconds, la.minutes, lb.minutes, la.seconds, lb.seconds) in
    λ i. record { hours = h i; minutes = m i; seconds = s i; frames = f i; is_drop = same i }

pub number_below : (base : ℕ) (t : Timecode) → IsLabel base t
    → number_of base t < labels_of_day base t.is_drop
number_below base t l =
    elim t.is_drop as (λ d. t.is_drop ≡ d → number_of base t < labels_of_day base d) [
      | false ↦ λ d.
          let x = (t.hours * 60 + t.minutes) * 60 + t.seconds in
          let low : x < 86400 = omega (arith, l.hours, l.minutes, l.seconds) in
          let below = mul-add-lt x base t.frames 86400 low l.frames in
          let is = number_else base t d in omega (arith, below, is)
      | true ↦ λ d. elim (l.bases d) [
        | inl at ↦
            let k = subst (λ n. IsLabel n t) at l in
            subst (λ n. number_of n t < labels_of_day n true) (sym at) (subst (λ n. n < 2589408)
            (sym (number_if 30 t d)) (below_30 t.hours t.minutes t.seconds t.frames k.hours k.minutes k.seconds k.frames))
        | inr at ↦
            let k = subst (λ n. IsLabel n t) at l in
            subst (λ n. number_of n t < labels_of_day n true) (sym at) (subst (λ n. n < 5178816)
            (sym (number_if 60 t d)) (below_60 t.hours t.minutes t.seconds t.frames k.hours k.minutes k.seconds k.frames))
      ]
    ] refl
