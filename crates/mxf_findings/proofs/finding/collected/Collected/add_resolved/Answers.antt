use Rattle.mxf_findings.proofs.Common.{◌≡◌, ◌∙◌, ◌++◌, ℕ, List, sym, ap, map, subst, Some, OnOk, F13, Finding, finding}
use Rattle.mxf_findings.proofs.Common.{append_assoc, lost_at, lost_beside, lost_by, map-append}
use Rattle.std.proofs.lemmas.Result.{on_ok_weaker}
use Rattle.mxf_findings.proofs.finding.collected.Collected.add_resolved.Goals as goal

-- two lists of offsets
both : (fs : List Finding) (xs ys : List ℕ)
    → (fs ++ map (finding F13) xs) ++ map (finding F13) ys ≡ fs ++ map (finding F13) (xs ++ ys)
both fs xs ys = append_assoc fs (map (finding F13) xs) (map (finding F13) ys)
    ∙ ap (λ l. fs ++ l) (sym (map-append (finding F13) xs ys))

pub returns-in-Some : goal.returns-in-Some
returns-in-Some c =
    let preface = c.resolved.inside.preface in
    let old = c.args.self.now in
    let held = lost_at preface c.resolved.inside.identifications in
    let names = ap (λ refs. map (finding F13) (lost_at preface refs)) c.as_slice.ensures in
    let packages = ap (λ refs. lost_beside preface (Some c.in-Some.storage) refs) c.as_slice-in-Some.ensures in
    let storage = ap (λ s. lost_beside preface s c.resolved.inside.packages) (sym c.in-Some.is) in
    let first = c.in_ok-add_lost.ensures ∙ ap (λ fs. old ++ fs) names in
    let beside = lost_beside preface (Some c.in-Some.storage) c.as_slice-in-Some.result.now in
    subst (λ r. OnOk c.add_behind.result (c.add_behind.new.self ≡ old ++ map (finding F13) (lost_by r)))
    c.resolved.view_is (on_ok_weaker c.add_behind.result (λ p. p ∙ ap (λ fs. fs ++ map (finding F13) beside) first
    ∙ ap (λ xs. (old ++ map (finding F13) held) ++ map (finding F13) xs) (packages ∙ storage)
    ∙ both old held (lost_beside preface c.resolved.inside.storage c.resolved.inside.packages))
    c.add_behind.ensures)
