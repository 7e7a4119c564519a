use Rattle.mxf_views.proofs.Common.{◌≡◌, ◌++◌, inl, inr, rules, items_from_extend, YieldsList-from_first, all_append}
use Rattle.mxf_views.proofs.Common.{IsWithin}
use Rattle.mxf_units.proofs.OffsetLaws.{some_both}
use Rattle.mxf_verify.proofs.ranges.outside_or_in.Goals as goal

pub returns : goal.returns
returns c =
    let first = c.in_ok-runs.runs.items in
    let known = c.args.known.now in
    let h = items_from_extend c.extend.result c.extend.ensures.ran (YieldsList-from_first (λ x. x) (λ s. s) known cc) in
    let parts : c.extend.new.self.items ≡ first ++ known = search (h, rules) in record {
      offsets = λ at.
          let one = c.in_ok-runs.ensures.offsets at in
          let two = some_both (λ r. IsWithin r at) first known in rw parts (
            λ s. elim (two.0 s) [ inl k ↦ inl (one.0 k) | inr k ↦ inr k ],
            λ s. two.1 (elim s [ inl k ↦ inl (one.1 k) | inr k ↦ inr k ]),
          );
      within = rw parts (all_append _ first known c.in_ok-runs.ensures.within c.runs.ensures.cover.within);
      below = c.in_ok-runs.ensures.below;
    }
