-- What is found of some sections, and what one more adds (this project's profile).
use Rattle.std.specs.Prelude.{◌≡◌, ◌↔◌, ℕ, List, [], ◌++◌, map}
use Rattle.mxf_klv.specs.Parts.{NoteParts}
use Rattle.mxf_klv.specs.Rising.{In}
use Rattle.mxf_catalogue.specs.Content.{reduced_union}
use Rattle.mxf_catalogue.specs.Runs.{LiesIn}
use Rattle.mxf_restore.specs.declared.section.Section.{Section}
use Rattle.mxf_hand.specs.Hand.{HandBytes}
use Rattle.mxf_hand.specs.Rounds.{read_heads_of}
use Rattle.mxf_hand.specs.Sections.{made_of, packets_of}
use Rattle.mxf_hand.specs.declared.found.CutHead.{CutHead}
use Rattle.mxf_hand.specs.declared.found.Found.{Found}

-- All notes that were read.
abbrev pub read_notes : List NoteParts → List CutHead → List NoteParts
read_notes packets heads = packets ++ map (λ head. head.note) heads

-- Some note begins at the offset.
abbrev pub IsStart : List NoteParts → ℕ → Type 0
IsStart notes x = (n : NoteParts) × In n notes × (n.offset ≡ x)

-- These packets and heads were read, and these packets were made.
pub record Finds (f : Found) (packets made : List NoteParts) (heads : List CutHead) : Type 0 where
  pub read : f.packets ≡ reduced_union [] packets
  pub put : f.made ≡ reduced_union [] made
  pub cut : f.heads.items ≡ heads
  pub starts : (x : ℕ) → LiesIn f.starts x ↔ IsStart (read_notes packets heads) x

-- What was found grows by these.
abbrev pub Grows : Found → Found → List NoteParts → List NoteParts → List CutHead → Type 0
Grows old new more_packets more_made more_heads =
    (packets made : List NoteParts) (heads : List CutHead) → Finds old packets made heads
    → Finds new (packets ++ more_packets) (made ++ more_made) (heads ++ more_heads)

-- It grows by what is put together of a section.
abbrev pub GrowsBySection : HandBytes → List NoteParts → Section → Found → Found → Type 0
GrowsBySection h notes p old new = Grows old new (packets_of h notes p) (made_of h notes p) (read_heads_of h notes p)
