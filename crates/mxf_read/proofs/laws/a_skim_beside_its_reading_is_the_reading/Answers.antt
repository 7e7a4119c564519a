use Rattle.mxf_views.proofs.Common.{notes_in}
use Rattle.mxf_read.proofs.Pieces.{AreApart-notes_in}
use Rattle.mxf_read.proofs.SkimsAndReadings.{beside_reading, saved_beside}
use Rattle.mxf_read.proofs.laws.a_skim_beside_its_reading_is_the_reading.Goals as goal

pub returns-clause-skimmed : goal.returns-clause-skimmed
returns-clause-skimmed c = λ offset bytes. beside_reading offset (notes_in offset bytes) (AreApart-notes_in offset bytes)

pub returns-clause-saved : goal.returns-clause-saved
returns-clause-saved c = λ offset bytes. saved_beside offset (notes_in offset bytes) (AreApart-notes_in offset bytes)
