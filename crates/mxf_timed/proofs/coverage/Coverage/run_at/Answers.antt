use Rattle.std.proofs.Common.{◌≡◌, ◌∙◌, ◌<◌, ◌≤◌, ℕ, List, Some, ap, arith, length, refl, Option, None}
use Rattle.std.proofs.Common.{slice_get, subst, sym, true, false, MatchOption}
use Rattle.std.specs.List.{HoldsAt}
use Rattle.std.proofs.lemmas.Option.{get_or_from_slice_get, slice_get_read, slice_get_within}
use Rattle.mxf_clocks.specs.Runs.{RunParts}
use Rattle.mxf_timed.specs.declared.coverage.Latest.{Latest}
use Rattle.mxf_timed.specs.declared.coverage.Span.{Span}
use Rattle.mxf_timed.specs.Coverage.{HasNoOneRun, IsOneRunAt}
use Rattle.mxf_timed.specs.Spans.{is_alone_at}
use Rattle.mxf_timed.proofs.SpanLaws.{BeginUpTo, found_at, never_past, none_at}
use Rattle.mxf_timed.proofs.coverage.Coverage.run_at.Goals as goal

-- What is got at a place where it is known what stands there.
got : {A B : Type 0} (now : A → B) (o : Option A) (xs : List B) (place : ℕ) (r : B) (P : Type 0) (Q : B → Type 0)
    → slice_get xs place ≡ Some r → Q r
    → MatchOption o (length xs ≤ place) (λ x. (place < length xs) × HoldsAt (λ y. now x ≡ y) xs place)
    → MatchOption o P (λ x. Q (now x))
got now None xs place r P Q e q h = let w = slice_get_within xs place r e in absurd (omega (arith, w, h))
got now (Some x) xs place r P Q e q h =
    subst Q (sym (h.1 (now x) ∙ get_or_from_slice_get xs place r (now x) e)) q

pub returns-in_err-latest : goal.returns-in_err-latest
returns-in_err-latest c =
    let p = c.args.position in
    let begun = c.up_to-begun in
    let begin = subst (λ (xs : List Span). BeginUpTo xs p begun.result) c.deref.ensures.value
    (record { bound = begun.ensures.bound; below = begun.ensures.below; above = begun.ensures.above }) in
    absurd (never_past c.self.inside.runs.now c.self.inside.spans.items c.self.inside.latest.items p begun.result
    c.self.invariant begin (subst (λ (xs : List Latest). length xs ≤ begun.result) c.deref-2.ensures.value
    c.in_err-latest.ensures.lookup.3))

pub returns-then-is_alone_at : goal.returns-then-is_alone_at
returns-then-is_alone_at c =
    let p = c.args.position in
    let begun = c.up_to-begun in
    let k = begun.result in
    let l = c.in_ok-latest.latest.now in
    let begin = subst (λ (xs : List Span). BeginUpTo xs p k) c.deref.ensures.value
    (record { bound = begun.ensures.bound; below = begun.ensures.below; above = begun.ensures.above }) in
    let found = ap (λ (xs : List Latest). slice_get xs k) (sym c.deref-2.ensures.value)
    ∙ slice_get_read c.deref-2.result.now _ k l refl c.in_ok-latest.ensures.lookup.3.0
    c.in_ok-latest.ensures.lookup.1 in
    let alone : is_alone_at l p ≡ true =
    ap (is_alone_at l) (sym c.from.ensures) ∙ sym c.is_alone_at.ensures ∙ c.if-is_alone_at.true in
    let here = found_at c.self.inside.runs.now c.self.inside.spans.items c.self.inside.latest.items p k l
    c.ranges.position.fits c.self.invariant begin found alone in
    got (λ r. r.now) c.get-then-is_alone_at.result c.self.inside.runs.now l.place here.0
    (HasNoOneRun c.args.self.now p) (IsOneRunAt c.args.self.now p) here.1
    (subst (λ (runs : List RunParts). IsOneRunAt runs p here.0) c.self.view_is here.2)
    c.get-then-is_alone_at.ensures.lookup.3

pub returns-else-is_alone_at : goal.returns-else-is_alone_at
returns-else-is_alone_at c =
    let p = c.args.position in
    let begun = c.up_to-begun in
    let k = begun.result in
    let l = c.in_ok-latest.latest.now in
    let begin = subst (λ (xs : List Span). BeginUpTo xs p k) c.deref.ensures.value
    (record { bound = begun.ensures.bound; below = begun.ensures.below; above = begun.ensures.above }) in
    let found = ap (λ (xs : List Latest). slice_get xs k) (sym c.deref-2.ensures.value)
    ∙ slice_get_read c.deref-2.result.now _ k l refl c.in_ok-latest.ensures.lookup.3.0
    c.in_ok-latest.ensures.lookup.1 in
    let alone : is_alone_at l p ≡ false =
    ap (is_alone_at l) (sym c.from.ensures) ∙ sym c.is_alone_at.ensures ∙ c.if-is_alone_at.false in
    λ run one.
    none_at c.self.inside.runs.now c.self.inside.spans.items c.self.inside.latest.items p k l c.ranges.position.fits
    c.self.invariant begin found alone run
    (subst (λ (runs : List RunParts). IsOneRunAt runs p run) (sym c.self.view_is) one)
