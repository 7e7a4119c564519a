-- The words for kinds, statuses and stops (this project's profile).
use Rattle.std.specs.Prelude.{ℕ, List, codes}
use Rattle.mxf_klv.specs.declared.kinds.Kind.{Kind}
use Rattle.mxf_klv.specs.declared.kinds.Kind.TheVariants.{Header, Body, Footer, Primer, Segment, Rip, Preface}
use Rattle.mxf_klv.specs.declared.kinds.Kind.TheVariants.{Identification, ContentStorage, MaterialPackage}
use Rattle.mxf_klv.specs.declared.kinds.Kind.TheVariants.{SourcePackage, RawSet, Fill, Essence, Other}
use Rattle.mxf_klv.specs.declared.kinds.Status.{Status}
use Rattle.mxf_klv.specs.declared.kinds.Status.TheVariants.{OpenIncomplete, ClosedIncomplete, OpenComplete}
use Rattle.mxf_klv.specs.declared.kinds.Status.TheVariants.{ClosedComplete}
use Rattle.mxf_klv.specs.declared.piece.Stop.{Stop}
use Rattle.mxf_klv.specs.declared.piece.Stop.TheVariants.{End, NotUl, BadLength, TooFar, Truncated, NoStart}

-- The word for a kind; a partition pack's has no status.
abbrev pub kind_name : Kind → List ℕ
kind_name (Header status) = codes "header"
kind_name (Body status) = codes "body"
kind_name (Footer status) = codes "footer"
kind_name Primer = codes "primer"
kind_name Rip = codes "rip"
kind_name Segment = codes "segment"
kind_name Preface = codes "preface"
kind_name Identification = codes "identification"
kind_name ContentStorage = codes "content-storage"
kind_name MaterialPackage = codes "material-package"
kind_name SourcePackage = codes "source-package"
kind_name RawSet = codes "raw-set"
kind_name Fill = codes "fill"
kind_name Essence = codes "essence"
kind_name Other = codes "other"

-- The word for a status.
abbrev pub status_name : Status → List ℕ
status_name OpenIncomplete = codes "open-incomplete"
status_name ClosedIncomplete = codes "closed-incomplete"
status_name OpenComplete = codes "open-complete"
status_name ClosedComplete = codes "closed-complete"

-- The word for a stop, without its place.
abbrev pub stop_name : Stop → List ℕ
stop_name End = codes "end"
stop_name (NotUl place) = codes "not-ul"
stop_name (BadLength place) = codes "bad-length"
stop_name (TooFar place) = codes "too-far"
stop_name (Truncated place) = codes "truncated"
stop_name (NoStart place) = codes "no-start"
