use Rattle.mxf_klv.proofs.Common.{List, subst, NoteParts}
use Rattle.mxf_catalogue.specs.Content.{IsContent}
use Rattle.mxf_find.proofs.VoteLaws.{votes_found, votes_one}
use Rattle.mxf_find.proofs.recording.Recording.voted.Goals as goal

pub returns-in-Some : goal.returns-in-Some
returns-in-Some c =
    let content = subst (λ (l : List NoteParts). IsContent l) c.self.view_is c.self.invariant.content in
    votes_one c.args.tells c.args.self.now c.args.note.now content c.in-Some.other.now c.in-Some.ensures.some

pub returns : goal.returns
returns c =
    let content = subst (λ (l : List NoteParts). IsContent l) c.self.view_is c.self.invariant.content in
    votes_found c.args.tells c.args.self.now c.args.note.now content c.in_default.ensures.none c.voted_by_length.result
    c.voted_by_length.ensures.some c.voted_by_length.ensures.none
