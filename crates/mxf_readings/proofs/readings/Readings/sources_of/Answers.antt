use Rattle.std.proofs.Common.{◌≡◌, ◌∙◌, ℕ, List, ap, drop, filter, map, sym, take}
use Rattle.std.proofs.lemmas.List.{drop-map, take-map}
use Rattle.mxf_readings.specs.Holdings.{HoldingParts, is_of}
use Rattle.mxf_readings.specs.Readings.{sources_of}
use Rattle.mxf_readings.proofs.HoldingLaws.{run_sources}
use Rattle.mxf_readings.proofs.readings.Readings.sources_of.Goals as goal

-- The sources of a range of holdings are the same range of the sources.
range_sources : (hs : List HoldingParts) (a b : ℕ) → drop a (take b (map (λ (h : HoldingParts). h.source) hs))
    ≡ map (λ (h : HoldingParts). h.source) (drop a (take b hs))
range_sources hs a b = ap (drop a) (take-map (λ (h : HoldingParts). h.source) b hs)
    ∙ drop-map (λ (h : HoldingParts). h.source) a (take b hs)

pub returns : goal.returns
returns c =
    let s = c.self.inside in
    let a = c.range-from.result.0 in
    let b = c.range-from.result.1 in
    let n = c.args.note.now in
    let source : HoldingParts → ℕ = λ h. h.source in
    c.part.ensures ∙ ap (λ (xs : List ℕ). drop a (take b xs)) (c.deref-2.ensures.value ∙ c.self.invariant.2)
    ∙ range_sources s.holdings.items a b
    ∙ ap (λ (hs : List HoldingParts). map source (drop a (take b hs))) (sym c.deref.ensures.value)
    ∙ ap (map source) c.range-from.ensures.run
    ∙ ap (λ (hs : List HoldingParts). map source (filter (is_of n) hs)) c.deref.ensures.value
    ∙ run_sources n s.contents.now s.holdings.items c.self.invariant.1 ∙ ap (sources_of n) c.self.view_is
