use Rattle.mxf_klv.proofs.Common.{◌∙◌, ap, sym, subst, ◌≡◌, ◌≢◌, Some, None, IfSome, find, option_copied, NoteParts, In}
use Rattle.std.specs.Prelude.{IfNone, ◌==◌}
use Rattle.mxf_catalogue.specs.Disputes.{undisputed_notes}
use Rattle.mxf_catalogue.proofs.DisputeLaws.{undisputed_at-found, undisputed_at-lacked}
use Rattle.mxf_catalogue.proofs.PartLaws.{undisputed_part}
use Rattle.mxf_catalogue.proofs.catalogue.Catalogue.undisputed_at.Goals as goal

pub returns : goal.returns
returns c =
    let lists = c.self.inside.lists in
    let all = c.args.self.now in
    let searched : c.deref.result.now ≡ undisputed_notes all =
    c.deref.ensures.value ∙ undisputed_part lists.undisputed.items lists.disputed.items c.self.invariant.kept.parts
    ∙ ap undisputed_notes c.self.view_is in record {
      first = elim c.at_offset.result as (λ r. IfSome r (λ n. In n.now c.deref.result.now × (n.now.offset ≡
          c.args.offset)) → IfNone r ((n : NoteParts) → In n c.deref.result.now → n.offset ≢ c.args.offset)
          → option_copied r ≡ find (λ n. n.offset == c.args.offset) (undisputed_notes all)) [
            | Some n ↦ λ found none. sym (undisputed_at-found c.args.offset all n.now (subst (In n.now) searched
                found.0)
                found.1)
            | None ↦ λ found none. sym (undisputed_at-lacked c.args.offset all
                (λ n h. none n (subst (In n) (sym searched) h)))
          ] c.at_offset.ensures.found c.at_offset.ensures.none;
    }
