use Rattle.mxf_views.proofs.Common.{◌≡◌, ◌∙◌, [], ◌∷◌, ◌++◌, ap, sym, append_assoc, append-nil, List, ℕ, unwrap_or}
use Rattle.mxf_views.proofs.Common.{cond, Some, arith, nil_from_length, lookup, nat_cmp, get, is_at, undisputed_notes}
use Rattle.mxf_places.specs.Fills.{fills_among, over_list}
use Rattle.mxf_places.specs.declared.fills.Fill.{Fill}
use Rattle.mxf_places.proofs.FillLaws.{over_among-list, over_in-insert}
use Rattle.mxf_places.proofs.fills.Fills.of.Goals as goal

pub loop-fill-init : goal.loop-fill-init
loop-fill-init c = (
  [],
  append-nil _ ∙ c.in_ok-fills.ensures,
  λ x. ap (λ (entries : List (ℕ × ℕ)). unwrap_or (lookup (is_at (nat_cmp x)) entries) x) c.new-ends.ensures.empty,
)

pub loop-fill-preserved : goal.loop-fill-preserved
loop-fill-preserved c =
    let fill = c.in-Some.fill in
    let done = c.loop-fill.invariant.0 in (
      fill ∷ done,
      sym (append_assoc c.pop.new.self.items (fill ∷ []) done)
          ∙ ap (λ (l : List Fill). l ++ done) (sym c.in-Some.ensures.items) ∙ c.loop-fill.invariant.1,
      over_in-insert c.loop-fill.ends c.insert.new.self fill done c.loop-fill.invariant.2 (λ x.
          c.in_ok-insert.ensures.updates.0 x
          ∙ ap (λ (e : ℕ). cond (is_at (nat_cmp fill.start) x) (Some e) (get nat_cmp c.loop-fill.ends x))
          c.over-end.ensures),
    )

pub returns : goal.returns
returns c = λ x.
    let none : c.loop-fill.fills.items ≡ [] = nil_from_length c.loop-fill.fills.items (omega (
      arith,
      c.in_default.ensures.cases.0,
      c.loop-fill.fills.ok,
    )) in
    let all : c.loop-fill.invariant.0 ≡ fills_among (undisputed_notes c.args.catalogue.now) =
    sym (ap (λ (l : List Fill). l ++ c.loop-fill.invariant.0) none) ∙ c.loop-fill.invariant.1 in
    c.loop-fill.invariant.2 x ∙ ap (λ (l : List Fill). over_list l x) all
    ∙ sym (over_among-list (undisputed_notes c.args.catalogue.now) x)
