use Rattle.mxf_klv.proofs.Common.{◌≡◌, ◌≢◌, ℕ, ◌+◌, ◌-◌, ◌≤◌, ◌<◌, List, ◌++◌, Option, arith, length, take, drop, refl}
use Rattle.mxf_klv.proofs.Common.{sym, ap, subst, ◌∙◌, append-nil, append_assoc, length-append, nil_from_length}
use Rattle.mxf_klv.proofs.Common.{take_rest, Appends-trans, Appends, counted}
use Rattle.std.proofs.Common.{take-append-drop, length-take-le}
use Rattle.std.proofs.lemmas.Bool.{eqb-false, eqb-true}
use Rattle.std.proofs.Math.Seq.{take-append_seam}
use Rattle.std.proofs.KnownBytes.{Appends-kept}
use Rattle.mxf_klv.proofs.writing.progress.Progress.put.Goals as goal

moves_front : (all done rest : List ℕ) (n : ℕ) → all ≡ done ++ rest → all ≡ (done ++ take n rest) ++ take
    (length rest - n) (drop n rest)
moves_front all done rest n e = grind (arith, append_assoc, take-append-drop, take_rest)

longer : (done rest : List ℕ) (n : ℕ) → n ≤ length rest → length (done ++ take n rest) ≡ length done + n
longer done rest n h = length-append done (take n rest) ∙ ap (λ k. length done + k) (length-take-le n rest h)

pub loop-rest-preserved-in-Ok : goal.loop-rest-preserved-in-Ok
loop-rest-preserved-in-Ok g c =
    let (done, split, appended, counted, interruptions) = c.loop-rest.invariant in
    let rest = c.loop-rest.rest.now in
    let n = c.in-Ok.n in
    let more = longer done rest n c.in-Ok.ensures.bound in (
      done ++ take n rest,
      moves_front _ done rest n split,
      Appends-trans _ _ _ _ _ appended c.in-Ok.ensures.bytes,
      omega arith,
      interruptions,
    )

-- The writer stops behind `done`, with bytes left.
stops : (old new : Option (List ℕ)) (all done rest : List ℕ) (before written : ℕ) → all ≡ done ++ rest
    → length rest ≢ 0 → written ≡ counted (before + length done) → Appends old new done
    → (n : ℕ) × (n < length all) × (written ≡ counted (before + n)) × Appends old new (take n all)
stops old new all done rest before written split some count appended = grind (arith, length-append, take-append_seam)

-- A write that takes no byte adds none.
takes_none : (old mid new : Option (List ℕ)) (done rest : List ℕ) (n : ℕ) → n ≡ 0 → Appends old mid done
    → Appends mid new (take n rest) → Appends old new done
takes_none old mid new done rest n zero appended none = grind (arith, append-nil)

all_done : (all done rest : List ℕ) → all ≡ done ++ rest → length rest ≡ 0 → done ≡ all
all_done all done rest split none = cc (nil_from_length rest none, append-nil done)

pub returns-in-Ok-eq0-clause-written : goal.returns-in-Ok-eq0-clause-written
returns-in-Ok-eq0-clause-written g c =
    let (done, split, appended, count, _) = c.loop-rest.invariant in
    let rest = c.loop-rest.rest.now in
    let some = eqb-false (length rest) 0 (sym c.is_empty.ensures ∙ c.loop-rest-test.true) in (
      stops _ _ _ done rest c.args.self.now.written _ split some count
          (takes_none _ _ _ done rest c.in-Ok-eq0.field-0 c.in-Ok-eq0.field-0-test appended c.in-Ok-eq0.ensures.bytes),
      refl,
    )

pub returns-then-ne-clause-written : goal.returns-then-ne-clause-written
returns-then-ne-clause-written g c =
    let (done, split, appended, count, _) = c.loop-rest.invariant in
    let rest = c.loop-rest.rest.now in
    let some = eqb-false (length rest) 0 (sym c.is_empty.ensures ∙ c.loop-rest-test.true) in (
      stops _ _ _ done rest c.args.self.now.written _ split some count
          (Appends-kept _ _ _ done appended c.in-Err.ensures.bytes),
      refl,
    )

pub returns-clause-written : goal.returns-clause-written
returns-clause-written g c =
    let (done, split, appended, count, _) = c.loop-rest.invariant in
    let none = eqb-true (length c.loop-rest.rest.now) 0 (sym c.is_empty.ensures ∙ c.loop-rest-test.false) in
    let whole = all_done _ done _ split none in (
      subst (Appends _ _) whole appended,
      count ∙ ap (λ l. counted (c.args.self.now.written + length l)) whole,
    )
