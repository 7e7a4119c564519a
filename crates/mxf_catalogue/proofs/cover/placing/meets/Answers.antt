use Rattle.std.proofs.Common.{◌≤◌, length, arith, sym, ◌∙◌, subst}
use Rattle.std.proofs.lemmas.Bool.{ltb-true, leb-true, le-leb, lt-ltb, false≢true}
use Rattle.mxf_catalogue.specs.declared.run.Run.{Run}
use Rattle.mxf_catalogue.proofs.CoverLaws.{is_met, is_first}
use Rattle.mxf_catalogue.proofs.cover.placing.meets.Goals as goal

pub returns-in-Some : goal.returns-in-Some
returns-in-Some c =
    let rs = c.args.runs.now in let at = c.ending_by-at.result in let r = c.in-Some.run'.now in
    let is = c.in-Some.ensures.lookup.1 in (
      λ h. is_met rs at c.args.first c.args.last r c.requires.cover.maximal c.requires.order
          (ltb-true _ _ (sym c.in-Some.ensures.lookup.0)) is c.ending_by-at.ensures.above (leb-true _ _ h),
      λ h.
          let f = is_first rs at c.args.first h.0 r c.requires.cover.maximal c.ending_by-at.ensures.below h.1 h.2 in
          let g : r.start ≤ h.0 = subst (λ (s : Run). s.start ≤ h.0) (sym is) f.1 in
          let k : h.0 ≤ c.args.last = h.3 in le-leb _ _ (omega arith),
    )

pub returns-in-None : goal.returns-in-None
returns-in-None c =
    let rs = c.args.runs.now in let at = c.ending_by-at.result in (
      λ h. cc,
      λ h.
          let f = is_first rs at c.args.first h.0 (record { start = 0; end = 0 }) c.requires.cover.maximal
          c.ending_by-at.ensures.below h.1 h.2 in
          absurd (false≢true (c.in-None.ensures.lookup.0 ∙ lt-ltb at (length rs) f.0)),
    )
