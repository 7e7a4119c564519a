use Rattle.std.proofs.Common.{◌+◌, ◌<◌, ◌≤◌, ap, ◌∙◌, get_or, set, length, arith}
use Rattle.std.proofs.lemmas.List.{get_or_default}
use Rattle.mxf_klv.proofs.ListSteps.{next_changed, next_unchanged}
use Rattle.mxf_verify.specs.Candidates.{compared, offset_of}
use Rattle.mxf_verify.proofs.CandidateLaws.{compared_none, front_stays, part_ahead, part_behind, rest_stays}
use Rattle.mxf_verify.proofs.comparison.compare.Goals as goal

pub loop-i-init : goal.loop-i-init
loop-i-init c = grind (arith, front_stays, compared, compared_none, part_behind)

pub returns-then-offset-end : goal.returns-then-offset-end
returns-then-offset-end c =
    let at = c.args.at in
    let bytes = c.args.bytes.now in
    let old = c.args.candidates.now.items in
    let i = c.loop-i.i in
    let r = c.index.result.now in
    let within : i < length old = omega (arith, c.args.candidates.now.ok.0) in
    let same = c.index.ensures ∙ ap (λ l. get_or l i r) c.loop-i.invariant
    ∙ next_unchanged (compared at bytes) old r i within in
    let far : at + length bytes ≤ offset_of (get_or old i r) =
    omega (arith, c.if-offset-end.true, c.offset.ensures.offset, ap offset_of same) in
    c.loop-i.invariant ∙ rest_stays (compared at bytes) old i (λ k d l h.
    let e = ap offset_of (get_or_default old i r d within) in
    compared_none at bytes _ (part_ahead _ at bytes (omega (arith, far, e, c.requires.rising i k d l h))))

pub loop-i-preserved : goal.loop-i-preserved
loop-i-preserved c = grind (arith, compared, length, set, get_or, next_changed)
