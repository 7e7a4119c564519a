use Rattle.mxf_views.proofs.Common.{◌≡◌, ◌∙◌, ◌||◌, Bool, List, ℕ, ap, arith, length, list_any, nat_cmp, not, subst, sym}
use Rattle.std.specs.BTreeSet.{contains}
use Rattle.std.specs.Cmp.Lexicographic.{slice_cmp}
use Rattle.std.specs.List.{AllByRecursion}
use Rattle.mxf_doubts.proofs.TableLaws.{are_sixteen, tested}
use Rattle.mxf_doubts.proofs.references.has_lost_in.Goals as goal

pub loop-reference-init : goal.loop-reference-init
loop-reference-init c =
    let lost = λ (uid : List ℕ). not (contains (slice_cmp nat_cmp) c.args.uids.now uid) in
    let items = c.items-reference-items.result in
    let same : c.into_iter-reference-iterator.result ≡ items = grind arith in (
      ap (λ (l : List (List ℕ)). list_any lost l) (same ∙ c.items-reference-items.ensures.items),
      subst (λ (l : List (List ℕ)). AllByRecursion (λ (uid : List ℕ). length uid ≡ 16) l) (sym same)
          (are_sixteen c.args.batch.now items c.requires c.items-reference-items.ensures.items c.items-reference-items.ensures.size),
    )

pub loop-reference-preserved : goal.loop-reference-preserved
loop-reference-preserved c =
    let lost = λ (uid : List ℕ). not (contains (slice_cmp nat_cmp) c.args.uids.now uid) in
    let reference = c.in-Some.reference.now in
    let all = subst (λ (l : List (List ℕ)). AllByRecursion (λ (uid : List ℕ). length uid ≡ 16) l) c.in-Some.ensures.steps
    c.loop-reference.invariant.1 in
    let is = tested reference (lost reference) c.is_lost.result all.0 c.is_lost.ensures ∙ c.if-is_lost.false in (
      ap (λ (b : Bool). b || list_any lost c.next.new.self) (sym is)
          ∙ ap (λ (l : List (List ℕ)). list_any lost l) (sym c.in-Some.ensures.steps) ∙ c.loop-reference.invariant.0,
      all.1,
    )

pub returns-then-is_lost : goal.returns-then-is_lost
returns-then-is_lost c =
    let lost = λ (uid : List ℕ). not (contains (slice_cmp nat_cmp) c.args.uids.now uid) in
    let reference = c.in-Some.reference.now in
    let all = subst (λ (l : List (List ℕ)). AllByRecursion (λ (uid : List ℕ). length uid ≡ 16) l) c.in-Some.ensures.steps
    c.loop-reference.invariant.1 in
    let is = tested reference (lost reference) c.is_lost.result all.0 c.is_lost.ensures ∙ c.if-is_lost.true in
    ap (λ (b : Bool). b || list_any lost c.next.new.self) (sym is)
    ∙ ap (λ (l : List (List ℕ)). list_any lost l) (sym c.in-Some.ensures.steps) ∙ c.loop-reference.invariant.0
