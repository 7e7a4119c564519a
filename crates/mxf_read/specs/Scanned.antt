-- What a scan notes of a piece (this project's profile).
use Rattle.std.specs.Prelude.{◌≡◌, ℕ, List, []}
use Rattle.mxf_klv.specs.Parts.{NoteParts}
use Rattle.mxf_klv.specs.PieceReading.{notes_in}
use Rattle.mxf_catalogue.specs.Content.{reduced_union}
use Rattle.mxf_skim.specs.PassedOver.{noted_by}
use Rattle.mxf_skim.specs.declared.scan.Scan.{Scan}
use Rattle.mxf_read.specs.Absorbs.{report_of}
use Rattle.mxf_read.specs.declared.report.Report.{Report}

-- The notes are those of the piece, as the scan notes them, and the report is that of the piece.
pub record IsScanned (scan : Scan) (offset : ℕ) (bytes : List ℕ) (noted : List NoteParts) (said : Report) : Type 0
  where
    pub notes : noted ≡ reduced_union [] (noted_by scan (notes_in offset bytes))
    pub report : said ≡ report_of offset bytes
