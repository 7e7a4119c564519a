use Rattle.mxf_views.proofs.Common.{refl, subst, In, greatest_end}
use Rattle.mxf_verify.proofs.SeenLaws.{seen_bytes, within_more}
use Rattle.mxf_verify.proofs.seen.Seen.take_bytes.Goals as goal

pub invariant_of-self-in-Break-branch-3 : goal.invariant_of-self-in-Break-branch-3
invariant_of-self-in-Break-branch-3 c = record {
  ranges_within = λ r i. c.args.self.now.ranges_within r (subst (In r) c.in_err-push.ensures.items i);
  beside_within = c.args.self.now.beside_within;
}

pub invariant_of-self-2 : goal.invariant_of-self-2
invariant_of-self-2 c = record {
  ranges_within = within_more c.args.self.now.ranges.items c.push.new.self.items _ greatest_end
      c.args.self.now.ranges_within c.requires c.in_ok-push.ensures.items;
  beside_within = c.args.self.now.beside_within;
}

pub returns : goal.returns
returns c = λ bytes tells ends reference sources numbered is.
    seen_bytes reference sources c.args.self.now _ c.args.number c.args.offset c.args.end bytes c.args.told.now _ _
    numbered is tells ends c.deref.ensures.value c.deref-2.ensures.value refl c.in_ok-add.ensures refl
    c.in_ok-put_differing.ensures c.in_ok-push.ensures.items refl refl
