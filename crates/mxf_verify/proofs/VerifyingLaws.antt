-- What was seen of the parts of a run that were passed.
use Rattle.mxf_views.proofs.Common.{◌≡◌, ◌+◌, ◌-◌, ◌∙◌, ℕ, List, [], ◌∷◌, ◌++◌, Option, Some, length, take, min, refl}
use Rattle.mxf_views.proofs.Common.{sym, ap, subst, arith, slice_get, AllByRecursion, take_at, greatest_end, NoteParts}
use Rattle.mxf_views.proofs.Common.{all_append}
use Rattle.std.specs.Prelude.{IfSome, IsSome, None, unwrap_or}
use Rattle.std.proofs.lemmas.List.{append-nil}
use Rattle.mxf_read.specs.Gathering.{HasFault, IsGatherFault, IsGood, piece_limit}
use Rattle.mxf_read.specs.declared.gathering.part.Part.{Part}
use Rattle.mxf_read.specs.declared.gathering.fault.PartFault.{PartFault}
use Rattle.mxf_read.proofs.GatheringLaws.{IsPassed, passed_none, passed_one, told}
use Rattle.mxf_verify.specs.Seen.{IsSeen, SeesNext}
use Rattle.mxf_verify.specs.Sources.{AreSourcesOf, IsSourceOf, source_at}
use Rattle.mxf_verify.specs.Telling.{TellsOf}
use Rattle.mxf_verify.specs.Verifying.{Source, Bytes}
use Rattle.mxf_verify.specs.declared.seen.Seen.{Seen}
use Rattle.mxf_verify.specs.declared.told.Told.{Told}

there_at : {X : Type 0} (done : List X) (p : X) (rest : List X) → slice_get (done ++ p ∷ rest) (length done) ≡ Some p
there_at [] p rest = refl
there_at (x ∷ done) p rest = there_at done p rest

-- what holds of a value that is there in two ways
pub both_some : {X : Type 0} (o : Option X) (P Q S : X → Type 0) → ((x : X) → P x → Q x → S x) → IfSome o P → IfSome o Q
    → IfSome o S
both_some None P Q S f p q = tt
both_some (Some x) P Q S f p q = f x p q

-- what holds of a value that is there holds of it
pub at_some : {X : Type 0} (o : Option X) (P : X → Type 0) (d : X) → IsSome o → IfSome o P → P (unwrap_or o d)
at_some None P d s h = absurd cc
at_some (Some x) P d s h = h

-- where bytes of a source are counted from their offset on, the source is these
pub sees_at : (number offset at end : ℕ) (bytes : List ℕ) (old new : Seen) (told : Told) → at ≡ min offset greatest_end
    → TellsOf old.reference (Bytes at (take (min piece_limit (greatest_end - at)) bytes)) told
    → end ≡ at + length (take (min piece_limit (greatest_end - at)) bytes)
    → ((more : List ℕ) → TellsOf old.reference (Bytes at more) told → end ≡ at + length more
    → SeesNext number (Bytes at more) old new) → SeesNext number (source_at offset bytes) old new
sees_at number offset at end bytes old new told is tells ends sees =
    let left : greatest_end - at ≡ greatest_end - offset = omega arith in
    let source : Bytes at (take (min piece_limit (greatest_end - at)) bytes) ≡ source_at offset bytes =
    ap (λ k. Bytes at (take (min piece_limit k) bytes)) left
    ∙ ap (λ k. Bytes k (take (min piece_limit (greatest_end - offset)) bytes)) is in
    subst (λ s. SeesNext number s old new) source (sees _ tells ends)

module _ {R : Type 0} (left : R → Option (List ℕ)) (reference : List NoteParts) where
  as_many : (parts : List (Part R)) (sources : List Source) → AreSourcesOf left parts sources
      → length parts ≡ length sources
  as_many [] [] a = refl
  as_many [] (s ∷ sources) a = absurd a
  as_many (p ∷ parts) [] a = absurd a
  as_many (p ∷ parts) (s ∷ sources) a = let ih = as_many parts sources a.1 in omega arith

  sources_more : (parts : List (Part R)) (sources : List Source) (p : Part R) (s : Source)
      → AreSourcesOf left parts sources → IsSourceOf left p s → AreSourcesOf left (parts ++ p ∷ []) (sources ++ s ∷ [])
  sources_more [] [] p s a is = (is, tt)
  sources_more [] (t ∷ sources) p s a is = absurd a
  sources_more (q ∷ parts) [] p s a is = absurd a
  sources_more (q ∷ parts) (t ∷ sources) p s a is = (a.0, sources_more parts sources p s a.1 is)

  -- the parts that were passed were seen
  pub record HasSeen (all : List (Part R)) (number : ℕ) (rest : List (Part R)) (seen : Seen) : Type 0 where
    pub passed : IsPassed all number rest
    pub sources : List Source
    pub are : AreSourcesOf left passed.done sources
    pub good : AllByRecursion (IsGood left) passed.done
    pub is : IsSeen reference sources seen

  pub seen_nothing : (all : List (Part R)) (seen : Seen) → IsSeen reference [] seen → HasSeen all 0 all seen
  seen_nothing all seen is = record { passed = passed_none all; sources = []; are = tt; good = tt; is = is }

  pub seen_one : (all rest more : List (Part R)) (p : Part R) (number : ℕ) (old new : Seen)
      → HasSeen all number rest old
      → rest ≡ p ∷ more → ((s : Source) × IsSourceOf left p s × SeesNext (number + 1) s old new) → IsGood left p
      → HasSeen all (number + 1) more new
  seen_one all rest more p number old new h is next good =
      let count = as_many h.passed.done h.sources h.are in
      let counted = h.passed.counted in
      record {
        passed = passed_one all rest more p number h.passed is;
        sources = h.sources ++ next.0 ∷ [];
        are = sources_more h.passed.done h.sources p next.0 h.are next.1;
        good = all_append (IsGood left) h.passed.done (p ∷ []) h.good (good, tt);
        is = next.2 reference h.sources (omega (arith, count, counted)) h.is;
      }

  pub seen_fault : (all rest more : List (Part R)) (p : Part R) (number : ℕ) (seen : Seen) (fault : PartFault)
      → HasSeen all number rest seen → rest ≡ p ∷ more → HasFault left fault p
      → IsGatherFault left all (record { part = number; fault = fault })
  seen_fault all rest more p number seen fault h is has =
      let whole : all ≡ h.passed.done ++ (p ∷ more) = h.passed.whole ∙ ap (λ t. h.passed.done ++ t) is in
      let front : take number all ≡ h.passed.done =
      ap (take number) whole ∙ take_at h.passed.done (p ∷ more) number h.passed.counted in
      record {
        at_fault = p;
        numbered = ap (λ t. slice_get t number) whole
            ∙ ap (slice_get (h.passed.done ++ p ∷ more)) (sym h.passed.counted) ∙ there_at h.passed.done p more;
        has = has;
        before = subst (AllByRecursion (IsGood left)) (sym front) h.good;
      }

  no_more : (rest : List (Part R)) → length rest ≡ 0 → rest ≡ []
  no_more [] e = refl
  no_more (p ∷ rest) e = absurd (omega arith)

  pub seen_all : (all rest : List (Part R)) (number : ℕ) (seen : Seen) → HasSeen all number rest seen → length rest ≡ 0
      → (sources : List Source) × AreSourcesOf left all sources × IsSeen reference sources seen
  seen_all all rest number seen h none = grind (arith, no_more, append-nil)
