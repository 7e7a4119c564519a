-- Primer packs (ST 377-1, Primer Pack): a batch of items of eighteen bytes, each a tag and the label that it stands
-- for.
use Rattle.std.specs.Prelude.{◌≡◌, ℕ, ◌<◌, List, drop, Result, Ok, Err}
use Rattle.byteorder.specs.Endian.{big_number}
use Rattle.mxf_sets.specs.declared.pack.PackFault.{PackFault}
use Rattle.mxf_sets.specs.declared.pack.PackFault.TheVariants as faults
use Rattle.mxf_sets.specs.Batch.{BatchParts, AreBatchParts, IsBatch, HasItemsOf, item_in}

-- Which entries primer packs have.
pub record ArePrimerEntries (entries : BatchParts) : Type 0 where
  pub batch : AreBatchParts entries
  pub size : HasItemsOf 18 entries

-- What a value is when a primer pack is asked for: the batch of its entries, or no such batch.
abbrev pub ReadsPrimer : List ℕ → Result BatchParts PackFault → Type 0
ReadsPrimer bytes (Ok entries) = IsBatch bytes entries × HasItemsOf 18 entries
ReadsPrimer bytes (Err faults.BadBatch) = (entries : BatchParts) → IsBatch bytes entries → ¬ HasItemsOf 18 entries
ReadsPrimer bytes (Err faults.NotThisKind) = ⊥
ReadsPrimer bytes (Err faults.Short) = ⊥
ReadsPrimer bytes (Err faults.WrongLength) = ⊥

-- The tag of the entry at a place.
abbrev pub tag_at : BatchParts → ℕ → ℕ
tag_at entries place = big_number 2 (item_in entries place)

-- The label of the entry at a place.
abbrev pub label_at : BatchParts → ℕ → List ℕ
label_at entries place = drop 2 (item_in entries place)

-- Some entry has the tag, and each entry that has it has this label (this project's profile).
pub record IsOnlyLabel (tag : ℕ) (entries : BatchParts) (label : List ℕ) : Type 0 where
  pub some : (place : ℕ) × (place < entries.count) × (tag_at entries place ≡ tag)
  pub each : (place : ℕ) → place < entries.count → tag_at entries place ≡ tag → label_at entries place ≡ label
