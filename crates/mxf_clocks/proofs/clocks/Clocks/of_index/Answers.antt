use Rattle.mxf_views.proofs.Common.{◌∙◌, ◌&&◌, ◌+◌, ◌==◌, ℕ, List, IsNonDecreasingBy, ap, filter, nat_le, nat_lt, subst, sym}
use Rattle.mxf_clocks.specs.Clocks.{ClocksParts}
use Rattle.mxf_clocks.specs.Runs.{RunParts}
use Rattle.mxf_clocks.proofs.OrderLaws.{never_falls, of_one_index}
use Rattle.mxf_clocks.proofs.clocks.Clocks.of_index.Goals as goal

pub between-requires : goal.between-requires
between-requires c =
    subst (λ (xs : List RunParts). IsNonDecreasingBy (λ r. r.index_sid) xs) (sym c.deref.ensures.value)
    (never_falls c.self.inside.runs.items c.self.invariant)

pub returns : goal.returns
returns c =
    let sid = c.args.index_sid in
    c.between.ensures
    ∙ ap (λ (f : ℕ). filter (λ (r : RunParts). nat_le f r.index_sid && nat_lt r.index_sid (f + 1)) c.deref.result.now)
    c.from-from.ensures
    ∙ ap (λ (xs : List RunParts). filter (λ (r : RunParts). nat_le sid r.index_sid && nat_lt r.index_sid (sid + 1)) xs)
    c.deref.ensures.value ∙ of_one_index c.self.inside.runs.items sid
    ∙ ap (λ (p : ClocksParts). filter (λ (r : RunParts). r.index_sid == sid) p.runs) c.self.view_is
