use Rattle.mxf_views.proofs.Common.{◌≡◌, ◌∙◌, ◌++◌, ◌∷◌, [], ℕ, List, Option, ap, append-nil, append_assoc, arith}
use Rattle.mxf_views.proofs.Common.{subst, sym, nil_from_length, lookup, nat_cmp, is_at}
use Rattle.mxf_restore.specs.NamedPlaces.{AreFirst}
use Rattle.mxf_restore.specs.declared.named.NamedPlace.{NamedPlace}
use Rattle.mxf_restore.proofs.NamedPlaceLaws.{first_sources-insert}
use Rattle.mxf_restore.proofs.named.first_sources.Goals as goal

pub loop-named-init : goal.loop-named-init
loop-named-init c = (
  [],
  append-nil _,
  λ x. ap (λ (entries : List (ℕ × Option ℕ)). lookup (is_at (nat_cmp x)) entries) c.new-sources.ensures.empty,
)

pub loop-named-preserved : goal.loop-named-preserved
loop-named-preserved c =
    let named = c.in-Some.named in
    let done = c.loop-named.invariant.0 in (
      named ∷ done,
      sym (append_assoc c.pop.new.self.items (named ∷ []) done)
          ∙ ap (λ (l : List NamedPlace). l ++ done) (sym c.in-Some.ensures.items) ∙ c.loop-named.invariant.1,
      first_sources-insert done named c.loop-named.sources.entries c.insert.new.self.entries c.loop-named.invariant.2
          c.in_ok-insert.ensures.updates.0,
    )

pub returns : goal.returns
returns c =
    let none : c.loop-named.places.items ≡ [] = nil_from_length c.loop-named.places.items (omega (
      arith,
      c.in_default.ensures.cases.0,
      c.loop-named.places.ok,
    )) in
    let all : c.loop-named.invariant.0 ≡ c.args.places.items =
    sym (ap (λ (l : List NamedPlace). l ++ c.loop-named.invariant.0) none) ∙ c.loop-named.invariant.1 in
    subst (λ l. AreFirst l c.loop-named.sources.entries) all c.loop-named.invariant.2
