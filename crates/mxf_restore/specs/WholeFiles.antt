-- What is ordered of the notes of a whole file (this project's profile).
use Rattle.std.specs.Prelude.{ℕ, ◌<◌, ◌≤◌, List, [], ◌∷◌}
use Rattle.mxf_klv.specs.Parts.{NoteParts, PacketParts}
use Rattle.mxf_catalogue.specs.Runs.{LiesIn}
use Rattle.mxf_places.specs.AtHand.{AtHandParts}
use Rattle.mxf_places.specs.Named.{IsClaim}
use Rattle.mxf_places.specs.declared.claim.Claim.{Claim}
use Rattle.mxf_views.specs.WellFormed.{IsRandomIndexPack}

-- The last packet of the file is a random index pack.
abbrev pub EndsInRandomIndex : List PacketParts → Type 0
EndsInRandomIndex [] = ⊥
EndsInRandomIndex (p ∷ []) = IsRandomIndexPack p
EndsInRandomIndex (p ∷ q ∷ packets) = EndsInRandomIndex (q ∷ packets)

-- Nothing is known of offsets at or above an end: no pack speaks of one, and none is given.
pub record NothingIsBeyond (at : AtHandParts) (notes : List NoteParts) (end : ℕ) : Type 0 where
  pub claimed : (c : Claim) → IsClaim notes c → c.end ≤ end
  pub given : (x : ℕ) → LiesIn at.given x → x < end
