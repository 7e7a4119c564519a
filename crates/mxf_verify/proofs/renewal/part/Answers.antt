use Rattle.mxf_views.proofs.Common.{◌≡◌, ◌+◌, ◌++◌, ◌∷◌, [], Bool, List, true, false, append-nil, append_assoc}
use Rattle.mxf_views.proofs.Common.{arith, length, refl, NoteParts, reduced_union}
use mathlib.Core.Bool.{cond}
use Rattle.mxf_verify.specs.Renewing.{added_of, dropped_essence, dropped_of, had_essence}
use Rattle.mxf_verify.proofs.AnotherLaws.{dropped-one, dropped-step, had-one, had-step}
use Rattle.mxf_verify.proofs.RenewalLaws.{added-none}
use Rattle.mxf_verify.proofs.renewal.part.Goals as goal

pub returns-clause-added : goal.returns-clause-added
returns-clause-added c = grind (arith, reduced_union, added_of, added-none)

pub returns-clause-dropped : goal.returns-clause-dropped
returns-clause-dropped c = grind (arith, append-nil, dropped_of)

pub returns-clause-dropped_essence : goal.returns-clause-dropped_essence
returns-clause-dropped_essence c = grind (arith, length, dropped_essence)

pub returns-clause-had_essence : goal.returns-clause-had_essence
returns-clause-had_essence c = grind (arith, length, had_essence)

pub put-requires-clause-dropped : goal.put-requires-clause-dropped
put-requires-clause-dropped c = grind (arith, length)

pub put-requires-clause-had : goal.put-requires-clause-had
put-requires-clause-had c = grind (arith, length)

-- an item that passes a test or not, with the others
cond-step : (b : Bool) (n : NoteParts) (rest : List NoteParts) → cond b (n ∷ []) [] ++ rest ≡ cond b (n ∷ rest) rest
cond-step true n rest = refl
cond-step false n rest = refl

-- the same, as they are added
union-step : (b : Bool) (n : NoteParts) (had rest : List NoteParts)
    → reduced_union (reduced_union had (cond b (n ∷ []) [])) rest ≡ reduced_union had (cond b (n ∷ rest) rest)
union-step true n had rest = refl
union-step false n had rest = refl

pub loop-note-preserved : goal.loop-note-preserved
loop-note-preserved c =
    grind (
      arith,
      length,
      dropped_essence,
      had_essence,
      reduced_union,
      added_of,
      union-step,
      dropped_of,
      append_assoc,
      cond-step,
      dropped-step,
      had-step,
      dropped-one,
      had-one,
    )
