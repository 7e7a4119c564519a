-- What units ask for, one after another.
use Rattle.mxf_views.proofs.Common.{◌≡◌, ◌++◌, ◌∷◌, ◌<◌, ◌+◌, ◌-◌, ◌∙◌, ℕ, suc, List, [], Option, None, Some, ap, arith}
use Rattle.mxf_views.proofs.Common.{◌==◌, ◌≤◌, append-nil, append_assoc, filter_map, filter_map-append, length, list_all}
use Rattle.mxf_views.proofs.Common.{Ok, refl, sym}
use Rattle.mxf_units.specs.Ranges.{units_from}
use Rattle.mxf_units.specs.Units.{UnitsParts, location_of, unit_of}
use Rattle.mxf_units.specs.declared.location.Location.{Location}
use Rattle.mxf_units.specs.declared.standing.UnitStanding.{UnitStanding}
use Rattle.mxf_units.specs.declared.standing.UnitStanding.TheVariants as standings
use Rattle.mxf_units.specs.declared.unit.EditUnit.{EditUnit}
use Rattle.mxf_partial.specs.Questions.{QuestionParts, asked_by, both, limit_asked, number_unindexed, partition_asked}
use Rattle.mxf_partial.specs.Questions.{run_asked, unsure_asked, way_asked}
use Rattle.mxf_partial.specs.Wanted.{is_indexed}

step : {A B : Type 0} (f : A → Option B) (p : List B) (x : A) (xs : List A) (o : Option B) → f x ≡ o
    → (p ++ filter_map f (x ∷ [])) ++ filter_map f xs ≡ p ++ filter_map f (x ∷ xs)
step f p x xs None e = grind (arith, filter_map, append_assoc)
step f p x xs (Some y) e = grind (arith, filter_map, append_assoc)

-- What is asked so far, by one more unit, and by those after it.
pub asked_step : (u : UnitsParts) (q : QuestionParts) (x : EditUnit) (xs : List EditUnit)
    → both (both q (asked_by u (x ∷ []))) (asked_by u xs) ≡ both q (asked_by u (x ∷ xs))
asked_step u q x xs i = record {
  units = append_assoc q.units (x ∷ []) xs i;
  partitions = step (partition_asked u) q.partitions x xs (partition_asked u x) refl i;
  ways = step (way_asked u) q.ways x xs (way_asked u x) refl i;
  limits = step (limit_asked u) q.limits x xs (limit_asked u x) refl i;
  unindexed = step number_unindexed q.unindexed x xs (number_unindexed x) refl i;
  runs = step (run_asked u) q.runs x xs (run_asked u x) refl i;
  unsure = step (unsure_asked u) q.unsure x xs (unsure_asked u x) refl i;
}

-- No more units ask for nothing more.
pub asked_none : (u : UnitsParts) (q : QuestionParts) → both q (asked_by u []) ≡ q
asked_none u q i = record {
  units = append-nil q.units i;
  partitions = append-nil q.partitions i;
  ways = append-nil q.ways i;
  limits = append-nil q.limits i;
  unindexed = append-nil q.unindexed i;
  runs = append-nil q.runs i;
  unsure = append-nil q.unsure i;
}

-- What units ask for, and others after them.
pub asked_both : (u : UnitsParts) (xs ys : List EditUnit)
    → both (asked_by u xs) (asked_by u ys) ≡ asked_by u (xs ++ ys)
asked_both u xs ys i = record {
  units = xs ++ ys;
  partitions = sym (filter_map-append (partition_asked u) xs ys) i;
  ways = sym (filter_map-append (way_asked u) xs ys) i;
  limits = sym (filter_map-append (limit_asked u) xs ys) i;
  unindexed = sym (filter_map-append number_unindexed xs ys) i;
  runs = sym (filter_map-append (run_asked u) xs ys) i;
  unsure = sym (filter_map-append (unsure_asked u) xs ys) i;
}

-- The same of units one after another.
pub asked_next : (u : UnitsParts) (q asked all : QuestionParts) (number end : ℕ) → number < end
    → asked ≡ both q (asked_by u (unit_of u.known u.index_sid number ∷ []))
    → both q (asked_by u (units_from u number (end - number))) ≡ all
    → both asked (asked_by u (units_from u (number + 1) (end - (number + 1)))) ≡ all
asked_next u q asked all number end here grown before =
    let x = unit_of u.known u.index_sid number in
    let rest = units_from u (number + 1) (end - (number + 1)) in
    let units : units_from u number (end - number) ≡ x ∷ rest =
    ap (units_from u number) (let more : end - number ≡ suc (end - (number + 1)) = omega (arith, here) in more) in
    ap (λ p. both p (asked_by u rest)) grown ∙ asked_step u q x rest ∙ sym (ap (λ l. both q (asked_by u l)) units) ∙ before

pub asked_all : (u : UnitsParts) (q all : QuestionParts) (number end : ℕ) → end ≤ number
    → both q (asked_by u (units_from u number (end - number))) ≡ all → q ≡ all
asked_all u q all number end past before =
    sym (asked_none u q) ∙ ap (λ k. both q (asked_by u (units_from u number k)))
    (let none : 0 ≡ end - number = omega (arith, past) in none) ∙ before

-- No unit is without a place exactly if each is indexed.
pub none_unindexed : (units : List EditUnit)
    → (length (filter_map number_unindexed units) == 0) ≡ list_all (λ (u : EditUnit). is_indexed u.standing) units
none_unindexed [] = refl
none_unindexed (x ∷ xs) = by x.standing refl (none_unindexed xs)
  where
    by : (s : UnitStanding) → x.standing ≡ s
        → (length (filter_map number_unindexed xs) == 0) ≡ list_all (λ (u : EditUnit). is_indexed u.standing) xs
        → (length (filter_map number_unindexed (x ∷ xs)) == 0)
        ≡ list_all (λ (u : EditUnit). is_indexed u.standing) (x ∷ xs)
    by standings.NotIndexed e rest = grind (arith, filter_map, list_all, e)
    by standings.Ambiguous e rest = grind (arith, filter_map, list_all, e, rest)
    by standings.NoPartition e rest = grind (arith, filter_map, list_all, e, rest)
    by standings.Elsewhere e rest = grind (arith, filter_map, list_all, e, rest)
    by standings.Several e rest = grind (arith, filter_map, list_all, e, rest)
    by standings.Unknown e rest = grind (arith, filter_map, list_all, e, rest)
    by standings.Unsure e rest = grind (arith, filter_map, list_all, e, rest)
    by standings.Disputed e rest = grind (arith, filter_map, list_all, e, rest)
    by standings.Missing e rest = grind (arith, filter_map, list_all, e, rest)
    by standings.Part e rest = grind (arith, filter_map, list_all, e, rest)
    by standings.Held e rest = grind (arith, filter_map, list_all, e, rest)
    by standings.Hand e rest = grind (arith, filter_map, list_all, e, rest)
