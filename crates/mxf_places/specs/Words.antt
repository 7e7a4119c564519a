-- The words for reasons (this project's profile).
use Rattle.std.specs.Prelude.{ℕ, List, codes}
use Rattle.mxf_places.specs.declared.reason.Reason.{Reason}
use Rattle.mxf_places.specs.declared.reason.Reason.TheVariants.{Header, Footer, Metadata, Index, Entry, Previous, Gap}
use Rattle.mxf_places.specs.declared.reason.Reason.TheVariants as reasons

abbrev pub reason_name : Reason → List ℕ
reason_name Header = codes "header"
reason_name Footer = codes "footer"
reason_name Metadata = codes "metadata"
reason_name Index = codes "index"
reason_name Entry = codes "entry"
reason_name Previous = codes "previous"
reason_name Gap = codes "gap"
reason_name reasons.Front = codes "front"
reason_name reasons.Unit = codes "unit"
