-- Sources whose bytes lie in memory (this project's profile).
use Rattle.std.specs.Prelude.{List, map}
use Rattle.mxf_hand.specs.Given.{SourceParts}
use Rattle.mxf_hand.specs.declared.given.in_memory.BytesAt.{BytesAt}

-- The bytes as a source.
abbrev pub source_of : BytesAt → SourceParts
source_of b = record { offset = b.offset; bytes = b.bytes.now }

-- The sources, each with the number of its place.
abbrev pub sources_of : List BytesAt → List SourceParts
sources_of all = map source_of all
