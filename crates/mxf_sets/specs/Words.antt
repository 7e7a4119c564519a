-- The words for the parts of a file (this project's profile).
use Rattle.std.specs.Prelude.{ℕ, List, codes}
use Rattle.mxf_sets.specs.declared.pack.part.PackPart.{PackPart}
use Rattle.mxf_sets.specs.declared.pack.part.PackPart.TheVariants.{Header, Body, Footer}

-- The word for the part of the file that a partition is.
abbrev pub part_name : PackPart → List ℕ
part_name Header = codes "header"
part_name Body = codes "body"
part_name Footer = codes "footer"
