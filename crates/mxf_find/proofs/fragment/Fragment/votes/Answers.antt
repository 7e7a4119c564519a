use Rattle.std.proofs.Common.{◌≡◌, ◌∙◌, ◌++◌, List, ℕ, ap, flat_map, subst}
use Rattle.mxf_find.specs.Votes.{FragmentParts, TellerParts, teller_in, votes, votes_by}
use Rattle.mxf_find.proofs.CountLaws.{flat_map-map}
use Rattle.mxf_find.proofs.fragment.Fragment.votes.Goals as goal

pub returns : goal.returns
returns c =
    let r = c.args.recording.now in
    let f = c.self.inside in
    let own : FragmentParts = record { notes = f.content.now; offset = f.offset } in
    let here = ap (λ (l : List TellerParts). flat_map (votes_by own r) l) (c.deref.ensures.value ∙ c.self.invariant)
    ∙ flat_map-map (votes_by own r) (teller_in f.content.now) f.content.now in
    c.in_ok-push_votes.ensures
    ∙ ap (λ (l : List ℕ). l ++ flat_map (votes_by c.args.self.now r) c.deref.result.now) c.new-votes.ensures.items
    ∙ subst (λ (g : FragmentParts). flat_map (votes_by g r) c.deref.result.now ≡ votes g r) c.self.view_is here
