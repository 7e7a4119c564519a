use Rattle.mxf_views.proofs.Common.{◌≤◌, inl, inr, refl, all-In, greatest_end}
use Rattle.mxf_catalogue.specs.declared.run.Run.{Run}
use Rattle.mxf_verify.proofs.SeenLaws.{seen_saved, within_both}
use Rattle.mxf_verify.proofs.seen.Seen.take_saved.Goals as goal

pub invariant_of-self-in-Break-branch-4 : goal.invariant_of-self-in-Break-branch-4
invariant_of-self-in-Break-branch-4 c = record {
  ranges_within = c.args.self.now.ranges_within;
  beside_within = λ r i. elim (c.in_err-put_runs.ensures.members r i) [
    | inl k ↦ c.args.self.now.beside_within r k
    | inr k ↦ all-In (λ (q : Run). q.end ≤ greatest_end) _ r c.in_err-put_runs.ensures.cover.within k
  ];
}

pub invariant_of-self-2 : goal.invariant_of-self-2
invariant_of-self-2 c = record {
  ranges_within = c.args.self.now.ranges_within;
  beside_within = within_both c.args.self.now.beside.items _ c.put_runs.new.runs.items greatest_end
      c.args.self.now.beside_within c.in_ok-put_runs.ensures.cover.within c.in_ok-put_runs.ensures.runs;
}

pub returns : goal.returns
returns c = λ notes tells empty reference sources numbered is.
    seen_saved reference sources c.args.self.now _ c.args.number c.args.is_empty notes c.args.saved.now _ _ _
    numbered is tells empty c.deref.ensures.value c.deref-2.ensures.value c.deref-3.ensures.value refl
    c.in_ok-add.ensures c.in_ok-add-2.ensures c.in_ok-put_differing.ensures refl c.in_ok-put_runs.ensures.runs refl
