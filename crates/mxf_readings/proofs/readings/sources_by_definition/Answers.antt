use Rattle.mxf_readings.proofs.SourceLaws.{alone_says, disputed_says, sources_rise, sources_say}
use Rattle.mxf_readings.proofs.readings.sources_by_definition.Goals as goal

pub returns : goal.returns
returns c = record { members = sources_say; rising = sources_rise; alone = alone_says; disputed = disputed_says }
