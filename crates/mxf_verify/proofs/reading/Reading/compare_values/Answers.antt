use Rattle.mxf_views.proofs.Common.{◌+◌, ◌<◌, ℕ, [], IsTrue, List, arith, drop, get_or, length, map, subst, sym, ◌∙◌}
use Rattle.mxf_views.proofs.Common.{NoteParts, get_or-map, length-map}
use Rattle.std.proofs.lemmas.List.{drop_more}
use denote.Bor.{Bor}
use Rattle.mxf_verify.specs.Candidates.{notes_of}
use Rattle.mxf_verify.specs.SourceReads.{AreValuesOf, digested_from}
use Rattle.mxf_verify.specs.Verifying.{is_digested}
use Rattle.mxf_verify.specs.declared.candidate.Candidate.{Candidate}
use Rattle.mxf_verify.proofs.ReadingLaws.{digest_at, first_value, one_told, some_of, values_within}
use Rattle.mxf_verify.proofs.reading.Reading.compare_values.Goals as goal

pub say-requires : goal.say-requires
say-requires c =
    let now = c.values.self in
    let notes = notes_of now.comparison.candidates.items in
    let all = map (λ (v : Bor (List ℕ)). v.now) c.args.values.now in
    let long = length-map c.args.values.now (λ (v : Bor (List ℕ)). v.now) in
    let i = c.values.i in
    let few : i < length all = omega (arith, c.values-test.true, long) in
    let left = subst (AreValuesOf c.args._at c.args._bytes.now (digested_from now.next notes)) (drop_more all i [] few)
    c.values.invariant.left in
    let within = values_within c.args._at c.args._bytes.now notes now.next (get_or all i []) (drop (i + 1) all) left in
    omega (
      arith,
      within,
      length-map now.comparison.candidates.items (λ (x : Candidate). x.note),
      now.comparison.candidates.ok.0,
    )

pub values-preserved : goal.values-preserved
values-preserved c =
    let now = c.values.self in
    let h = c.values.invariant in
    let items = now.comparison.candidates.items in
    let notes = notes_of items in
    let at = c.args._at in
    let bytes = c.args._bytes.now in
    let values = c.args.values.now in
    let all = map (λ (v : Bor (List ℕ)). v.now) values in
    let long = length-map values (λ (v : Bor (List ℕ)). v.now) in
    let i = c.values.i in
    let few : i < length values = omega (arith, c.values-test.true) in
    let left = subst (AreValuesOf at bytes (digested_from now.next notes)) (drop_more all i [] (omega (arith, few, long)))
    h.left in
    let within = values_within at bytes notes now.next (get_or all i []) (drop (i + 1) all) left in
    let count = length-map items (λ (x : Candidate). x.note) in
    let e = some_of notes (omega (arith, within)) in
    let d = some_of items (omega (arith, within, count)) in
    let inside : now.next < length items = omega (arith, within, count) in
    let own = subst (λ (x : Bor NoteParts). IsTrue (is_digested x.now))
    (sym (get_or-map (λ (x : Candidate). x.note) items now.next d e inside)) (now.digested d inside) in
    let (ends, value, rest) = first_value at bytes notes now.next e (get_or all i []) (drop (i + 1) all) left within own in
    record {
      tells = one_told at bytes c.args.self.now now c.say.new.self (get_or c.digests_of-found.result i []) (get_or all i []) e
          h.tells h.hasher c.say.ensures.says within own ends value
          (digest_at values c.digests_of-found.result i [] few c.digests_of-found.ensures);
      at = c.say.ensures.at ∙ h.at;
      notes = c.say.ensures.notes ∙ h.notes;
      counted = omega (arith, h.counted, c.say.ensures.next);
      hasher = c.say.ensures.hasher;
      left = subst (λ (l : List (Bor NoteParts)). AreValuesOf at bytes l (drop (i + 1) all)) (sym c.say.ensures.left) rest;
    }
