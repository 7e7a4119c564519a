use Rattle.std.proofs.Common.{◌≤◌, ◌<◌, length, arith, sym, ◌∙◌, subst}
use Rattle.std.proofs.lemmas.Bool.{ltb-true, leb-true, le-leb, lt-ltb, false≢true}
use Rattle.mxf_catalogue.specs.declared.run.Run.{Run}
use Rattle.mxf_catalogue.specs.Runs.{IsWithin}
use Rattle.mxf_catalogue.proofs.CoverLaws.{is_within_first, lies_at}
use Rattle.mxf_catalogue.proofs.cover.placing.has_all.Goals as goal

-- the first run that ends above the start begins at or below it, and ends at or above the end
pub returns-then-run-start : goal.returns-then-run-start
returns-then-run-start c =
    let rs = c.args.runs.now in let a = c.ending_by-at.result in let r = c.in-Some.run'.now in
    let is = c.in-Some.ensures.lookup.1 in
    let from : r.start ≤ c.args.start = c.if-run-start.true in (
      λ h at low high.
          let to : c.args.end ≤ r.end = leb-true _ _ h in
          lies_at rs a r at (ltb-true _ _ (sym c.in-Some.ensures.lookup.0))
          (subst (λ (s : Run). IsWithin s at) is (record { from = omega arith; before = omega arith })),
      λ h.
          let f = is_within_first rs a c.args.start c.args.end r c.requires.cover.maximal c.requires.order
          c.ending_by-at.ensures.below c.ending_by-at.ensures.above h in
          le-leb _ _ (subst (λ (s : Run). c.args.end ≤ s.end) (sym is) f.2),
    )

pub returns-else-run-start : goal.returns-else-run-start
returns-else-run-start c =
    let rs = c.args.runs.now in let r = c.in-Some.run'.now in
    let is = c.in-Some.ensures.lookup.1 in (
      λ h.
          let from : r.start ≤ c.args.start = leb-true _ _ h in
          let past : c.args.start < r.start = c.if-run-start.false in absurd (omega arith),
      λ h.
          let f = is_within_first rs c.ending_by-at.result c.args.start c.args.end r c.requires.cover.maximal
          c.requires.order c.ending_by-at.ensures.below c.ending_by-at.ensures.above h in
          let from : r.start ≤ c.args.start = subst (λ (s : Run). s.start ≤ c.args.start) (sym is) f.1 in
          let past : c.args.start < r.start = c.if-run-start.false in absurd (omega arith),
    )

pub returns-in-None : goal.returns-in-None
returns-in-None c =
    let rs = c.args.runs.now in (
      λ h. absurd (false≢true h),
      λ h.
          let f = is_within_first rs c.ending_by-at.result c.args.start c.args.end (record { start = 0; end = 0 })
          c.requires.cover.maximal c.requires.order c.ending_by-at.ensures.below c.ending_by-at.ensures.above h in
          absurd (false≢true (c.in-None.ensures.lookup.0 ∙ lt-ltb c.ending_by-at.result (length rs) f.0)),
    )
