-- Values whose bytes come in parts.
use Rattle.std.specs.Prelude.{◌≡◌, ℕ, List, [], Option, None, Some}
use Rattle.sha2.specs.Hashers.{Holds256}
use Rattle.sha2.specs.declared.Sha256.{Sha256}

-- A hasher has taken these bytes; without one there are none.
abbrev pub Digests : Option Sha256 → List ℕ → Type 0
Digests None bytes = bytes ≡ []
Digests (Some hasher) bytes = Holds256 hasher bytes
