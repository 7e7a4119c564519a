use Rattle.mxf_views.proofs.Common.{◌∙◌, ◌+◌, ◌-◌, IfSome, refl, arith, subst, sym, take, IsNonDecreasingBy}
use Rattle.mxf_verify.specs.Candidates.{offset_of}
use Rattle.mxf_verify.specs.Compared.{ComparesBytes}
use Rattle.mxf_verify.specs.declared.compared.Compared.{Compared}
use Rattle.mxf_verify.proofs.ComparedLaws.{compares_bytes, part_rises}
use Rattle.mxf_verify.proofs.compared.compare_bytes.Goals as goal

pub of-reading-requires-clause-rising : goal.of-reading-requires-clause-rising
of-reading-requires-clause-rising g c = subst (IsNonDecreasingBy offset_of) (sym c.in_ok-candidates.ensures.items)
    (part_rises c.args.all.now c.below-first.result (c.max-last.result - c.below-first.result) c.requires.rising)

pub returns-clause-compared : goal.returns-clause-compared
returns-clause-compared g c =
    let done : Compared = record {
      first = c.below-first.result;
      candidates = c.read_all.new.self.comparison.candidates;
      end = c.read_all.new.self.comparison.at;
    } in
    subst (λ n. IfSome (g.R.Read.remaining c.args.from.now)
    (λ bytes. ComparesBytes c.args.all.now c.args.offset (c.args.offset + n) (take n bytes) done)) c.min.ensures
    (compares_bytes c.args.all.now c.args.offset c.min.result c.below-first.result c.max-last.result _ _ c.of-reading.result
    c.read_all.new.self done c.requires.fresh c.requires.notes c.below-first.ensures.below c.below-first.ensures.above
    (λ k d l h. c.below.ensures.above k d (omega (arith, c.max-last.ensures, l)) h) (omega (arith, c.max-last.ensures))
    (omega (arith, c.max-last.ensures, c.below.ensures.bound, c.below-first.ensures.bound))
    (c.of-reading.ensures.candidates
    ∙ c.in_ok-candidates.ensures.items) c.of-reading.ensures.at c.requires.apart c.of-reading.ensures.within
    c.of-reading.ensures.undigested c.of-reading.ensures.hasher c.in_ok-read_all.ensures
    refl refl refl)
