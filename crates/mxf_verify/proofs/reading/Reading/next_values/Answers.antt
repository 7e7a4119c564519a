use Rattle.mxf_views.proofs.Common.{◌+◌, ◌<◌, ◌≤◌, ◌++◌, ◌∷◌, ℕ, [], List, ap, append-nil, arith, get_or, length, map, subst}
use Rattle.mxf_views.proofs.Common.{sym, ◌∙◌, NoteParts, covered_end, length-map}
use denote.Bor.{Bor}
use Rattle.mxf_verify.specs.Agreeing.{value_part}
use Rattle.mxf_verify.specs.Candidates.{notes_of}
use Rattle.mxf_verify.specs.SourceReads.{AreValuesOf, digested_from}
use Rattle.mxf_verify.specs.Verifying.{is_digested}
use Rattle.mxf_verify.specs.declared.candidate.Candidate.{Candidate}
use Rattle.mxf_verify.proofs.ReadingLaws.{candidate_note, from_digested, one_more, passed_one}
use Rattle.mxf_verify.proofs.reading.Reading.next_values.Goals as goal

pub places-preserved-then-not-is_digested : goal.places-preserved-then-not-is_digested
places-preserved-then-not-is_digested c =
    let items = c.args.self.now.comparison.candidates.items in
    let notes = notes_of items in
    let place = c.places.place in
    let r = c.index.result.now in
    let few : place < length items = omega (
      arith,
      c.places-test.true,
      c.len-place-end.ensures,
      c.args.self.now.comparison.candidates.ok.0,
    ) in
    let named = candidate_note items place r few c.index.ensures in
    let none = ap (λ (x : Bor NoteParts). is_digested x.now) named ∙ sym c.is_digested.ensures
    ∙ c.if-not-is_digested.true in
    let long = length-map items (λ (x : Candidate). x.note) in
    let same = passed_one notes place r.note (omega (arith, few, long)) none in record {
      few = c.places.invariant.few;
      values = λ more are. c.places.invariant.values more
          (subst (λ (l : List (Bor NoteParts)). AreValuesOf c.args.at c.args.bytes.now l more) same are);
    }

pub places-preserved : goal.places-preserved
places-preserved c =
    let items = c.args.self.now.comparison.candidates.items in
    let notes = notes_of items in
    let at = c.args.at in
    let bytes = c.args.bytes.now in
    let place = c.places.place in
    let r = c.index.result.now in
    let v = c.value_part.result in
    let few : place < length items = omega (
      arith,
      c.places-test.true,
      c.len-place-end.ensures,
      c.args.self.now.comparison.candidates.ok.0,
    ) in
    let named = candidate_note items place r few c.index.ensures in
    let own = ap (λ (x : Bor NoteParts). is_digested x.now) named ∙ sym c.is_digested.ensures
    ∙ c.if-not-is_digested.false in
    let long = length-map items (λ (x : Candidate). x.note) in
    let first = from_digested notes place r.note (omega (arith, few, long)) own in
    let end = ap (λ (x : Bor NoteParts). covered_end x.now) named in
    let ends : covered_end (get_or notes place r.note).now ≤ at + length bytes = omega (arith, end, c.covered_end.ensures.covered, c.if-covered_end-self.false, c.requires) in
    let value = c.value_part.ensures ∙ ap (λ (x : Bor NoteParts). value_part x.now at bytes) (sym named) in
    let all = ap (map (λ (x : Bor (List ℕ)). x.now)) c.in_ok-push.ensures.items in record {
      few = omega arith;
      values = λ more are.
          let before = c.places.invariant.values (v.now ∷ more)
          (subst (λ (l : List (Bor NoteParts)). AreValuesOf at bytes l (v.now ∷ more)) (sym first) (ends, value, are)) in
          subst (AreValuesOf at bytes (digested_from c.args.self.now.next notes))
          (one_more c.places.values.items v more ∙ ap (λ (l : List (List ℕ)). l ++ more) (sym all)) before;
    }

pub returns-clause-values : goal.returns-clause-values
returns-clause-values c =
    subst (AreValuesOf c.args.at c.args.bytes.now
    (digested_from c.args.self.now.next (notes_of c.args.self.now.comparison.candidates.items))) (append-nil _)
    (c.places.invariant.values [] tt)
