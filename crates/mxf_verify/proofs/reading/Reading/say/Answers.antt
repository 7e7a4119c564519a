use Rattle.mxf_views.proofs.Common.{◌+◌, ◌≡◌, ◌<◌, IsTrue, List, get_or, length, ap, arith, false, refl, subst, ◌∙◌, AllWithin}
use Rattle.mxf_views.proofs.Common.{NoteParts, bytes_eq}
use denote.Bor.{Bor}
use Rattle.mxf_verify.specs.Candidates.{notes_of}
use Rattle.mxf_verify.specs.SourceReads.{digested_from}
use Rattle.mxf_verify.specs.Verifying.{is_digested}
use Rattle.mxf_verify.specs.declared.candidate.Candidate.{Candidate}
use Rattle.mxf_verify.proofs.ReadingLaws.{at_digested, from_passed, notes_between, passed_to, went_on}
use Rattle.mxf_verify.proofs.TakingLaws.{as_many, digest_said, digest_same, notes_taken, same_note}
use Rattle.mxf_verify.proofs.reading.Reading.say.Goals as goal

pub invariant_of-self : goal.invariant_of-self
invariant_of-self c = record {
  digested = at_digested c.args.self.now.comparison.candidates.items c.say.new.self.candidates.items
      c.args.self.now.next c.say.ensures.notes c.args.self.now.digested;
  nothing = c.args.self.now.nothing;
}

pub returns-clause-says : goal.returns-clause-says
returns-clause-says c offset front bytes notes e h ends is =
    let old = c.args.self.now in
    let k = old.next in
    let items = old.comparison.candidates.items in
    let new = c.say.new.self in
    let next = c.next_digested-self.result in
    let d = c.index.result.now in
    let count = as_many offset bytes k notes old.comparison h.taken in
    let few : k < length notes = omega (arith, c.requires, old.comparison.candidates.ok.0, count) in
    let named = same_note offset bytes k notes old.comparison h.taken d e few in
    let own = subst (λ (x : Bor NoteParts). IsTrue (is_digested x.now)) named (old.digested d (omega (arith, count, few))) in
    let there = ap (λ (x : Candidate). x.note) c.index.ensures ∙ named in
    let same = c.is_digest_of.ensures ∙ ap (λ (x : Bor NoteParts). bytes_eq c.args.digest x.now.held) there
    ∙ digest_same (get_or notes k e).now offset bytes c.args.digest is in
    let said = digest_said offset bytes k notes old.comparison new c.is_digest_of.result d e h.taken few own ends same
    (c.say.ensures.candidates d) c.say.ensures.at in
    let items_after = c.deref.ensures.value in
    let none = subst (λ (cs : List Candidate). AllWithin (λ x. is_digested x.note.now ≡ false) cs (k + 1) next) items_after
    c.next_digested-self.ensures.undigested in
    let within = c.next_digested-self.ensures.within in
    let long = ap length items_after in
    let after = as_many offset bytes (k + 1) notes new said in
    let between = subst (λ (l : List (Bor NoteParts)). AllWithin (λ x. is_digested x.now ≡ false) l (k + 1) next)
    (notes_taken offset bytes (k + 1) notes new said)
    (notes_between (λ x. is_digested x.now ≡ false) new.candidates.items (k + 1) next (omega (arith, within, long)) none) in
    went_on offset front bytes notes k old.comparison _ e h few own (omega (arith, c.next_digested-self.ensures.from))
    (passed_to offset bytes (k + 1) next notes new c.next_digested-self.ensures.from (omega (arith, within, long, after))
    between said) refl

pub returns-clause-left : goal.returns-clause-left
returns-clause-left c =
    let k = c.args.self.now.next in
    let new = c.say.new.self.candidates.items in
    let next = c.next_digested-self.result in
    let items_after = c.deref.ensures.value in
    let none = subst (λ (cs : List Candidate). AllWithin (λ x. is_digested x.note.now ≡ false) cs (k + 1) next) items_after
    c.next_digested-self.ensures.undigested in
    let within = c.next_digested-self.ensures.within in
    let long = ap length items_after in
    from_passed (notes_of new) (k + 1) next c.next_digested-self.ensures.from
    (notes_between (λ x. is_digested x.now ≡ false) new (k + 1) next (omega (arith, within, long)) none)
    ∙ ap (digested_from (k + 1)) c.say.ensures.notes
