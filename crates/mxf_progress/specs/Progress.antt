-- What an order asks for that isn't there yet (this project's profile).
use Rattle.std.specs.Prelude.{◌≡◌, ℕ, ◌<◌, ◌≤◌, false, None, List}
use Rattle.mxf_klv.specs.Note.{covered_end}
use Rattle.mxf_klv.specs.Parts.{NoteParts}
use Rattle.mxf_klv.specs.Rising.{In}
use Rattle.mxf_catalogue.specs.Runs.{LiesIn}
use Rattle.mxf_places.specs.AtHand.{AtHandParts}
use Rattle.mxf_places.specs.FirstClaims.{SpeaksOf}
use Rattle.mxf_places.specs.Held.{IsHeld}
use Rattle.mxf_places.specs.Named.{IsClaim}
use Rattle.mxf_places.specs.declared.at_hand.OffsetRange.{OffsetRange}
use Rattle.mxf_places.specs.declared.claim.Claim.{Claim}
use Rattle.mxf_restore.specs.EndPacks.{HasEndPack}
use Rattle.mxf_restore.specs.Orders.{IsStartOf, ReachesUpTo}
use Rattle.mxf_restore.specs.Plan.{LiesInOrder}
use Rattle.mxf_restore.specs.Sections.{IsCut}
use Rattle.mxf_restore.specs.declared.plan.Order.{Order}

-- The offset lies in the order, isn't held and isn't at hand.
pub record IsLackedAt (at : AtHandParts) (notes : List NoteParts) (o : Order) (x : ℕ) : Type 0 where
  pub lies : LiesInOrder o x
  pub free : ¬ IsHeld notes x
  pub lacks : ¬ LiesIn at.hand x

-- The offset lies in the order and isn't given.
pub record IsUngivenAt (at : AtHandParts) (o : Order) (x : ℕ) : Type 0 where
  pub lies : LiesInOrder o x
  pub lacks : ¬ LiesIn at.given x

-- The order begins with a head. A byte of its key and length isn't given, and all the rest of the order is at hand.
pub record LacksOfHead (at : AtHandParts) (notes : List NoteParts) (o : Order) : Type 0 where
  pub head : NoteParts
  pub held : In head notes
  pub cut : head.whole ≡ false
  pub begins : head.offset ≡ o.start
  pub ungiven : (x : ℕ) × IsUngivenAt at o x × (x < covered_end head)
  pub rest : (x : ℕ) → LiesInOrder o x → covered_end head ≤ x → LiesIn at.hand x

-- Nothing says that a byte lies in the hole. It has no end, and is cut nowhere. No pack speaks of where the packet
-- begins whose rest it would be, and it isn't known of the file that it reaches into the hole. And a pack is held that
-- stands at the end of a file alone: else the file may go on there.
pub record IsBeyondAll (at : AtHandParts) (notes : List NoteParts) (h : OffsetRange) : Type 0 where
  pub endless : h.end ≡ None
  pub uncut : (x : ℕ) → h.start < x → ¬ IsCut notes x
  pub start : ℕ
  pub is_start : IsStartOf notes h.start start
  pub unclaimed : (c : Claim) → IsClaim notes c → ¬ SpeaksOf c start
  pub unreached : (edge : ℕ) → ¬ ReachesUpTo at notes h.start start edge
  pub ended : HasEndPack notes
