use Rattle.std.proofs.Common.{refl}
use Rattle.mxf_skim.specs.declared.scan.Scan.TheVariants.{Full}
use Rattle.mxf_hand.proofs.ExcerptSources.{all_at_hand, asked_at_hand, given_by_source, still_given}
use Rattle.mxf_hand.proofs.laws.excerpts_are_at_hand_as_their_sources.Goals as goal

pub returns-clause-source : goal.returns-clause-source
returns-clause-source c = λ scan notes extents excerpts sources parts x byte have are bytes.
    given_by_source are.passed extents excerpts sources parts have are.are bytes x byte

pub returns-clause-given : goal.returns-clause-given
returns-clause-given c = λ scan notes extents excerpts sources parts x have are bytes.
    still_given are.passed extents excerpts sources parts have are.are bytes x

pub returns-clause-asked : goal.returns-clause-asked
returns-clause-asked c = λ scan notes extents excerpts sources parts x have are bytes.
    asked_at_hand scan notes extents excerpts sources parts have are bytes x

pub returns-clause-all : goal.returns-clause-all
returns-clause-all c = λ notes extents excerpts sources parts x have are bytes.
    all_at_hand Full notes extents excerpts sources parts have are bytes refl x
