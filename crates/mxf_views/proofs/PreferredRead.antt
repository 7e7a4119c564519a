-- Of copies that rise by partition, the preferred one is the same by either way of taking the better of two.
use Rattle.mxf_views.proofs.Common.{◌≡◌, ℕ, ◌+◌, ◌<◌, ◌≤◌, cond, ◌&&◌, List, [], ◌∷◌, Option, Some, None, IfSome, refl}
use Rattle.mxf_views.proofs.Common.{cons_option, option_and_then, ◌∙◌, ap, arith, size_of, PacketParts, notes_from}
use Rattle.mxf_views.proofs.Common.{best_of, preferred_of, rank, PartitionParts, partition_read, better, is_candidate}
use Rattle.mxf_views.proofs.Common.{CopyRead, copies_alone, copies_read, copy_read, taken, from_lower}
use Rattle.mxf_views.specs.declared.copy.CopyInfo.{CopyInfo}
use Rattle.std.specs.Prelude.{fold}
use Rattle.mxf_views.specs.Reading.{better_read, preferred_read}
use Rattle.mxf_klv.proofs.RisingBy.{IsRisingFrom}
use Rattle.mxf_klv.proofs.NoteFilters.{one_above}

-- Each is of a partition at or above the offset, and below those of all later ones.
abbrev pub RiseFrom : ℕ → List CopyInfo → Type 0
RiseFrom low copies = IsRisingFrom (λ c. c.partition) low copies

-- One more in front, or none.
rise_one : (low high : ℕ) (o : Option CopyRead) (reads : List CopyRead) → low < high
    → IfSome o (λ r. r.copy.partition ≡ low) → RiseFrom high (copies_alone reads)
    → RiseFrom low (copies_alone (cons_option o reads))
rise_one low high None reads h e r = from_lower (λ c. c.partition) low high (copies_alone reads) (omega arith) r
rise_one low high (Some read) reads h e r = grind (arith, from_lower)

-- What is read of a partition is at its offset.
copy_read_there : (ps : List PacketParts) (q : PartitionParts)
    → IfSome (copy_read ps q) (λ r. r.copy.partition ≡ q.offset)
copy_read_there ps q = grind (arith, notes_from, taken)

-- What is read of a packet is at its offset.
there : (at : ℕ) (p : PacketParts) (ps : List PacketParts)
    → IfSome (option_and_then (copy_read ps) (partition_read at p)) (λ r. r.copy.partition ≡ at)
there at p ps = grind (arith, copy_read_there)

-- The copies of a file rise.
pub rise-read : (at : ℕ) (l : List PacketParts) → RiseFrom at (copies_alone (copies_read at l))
rise-read at [] = tt
rise-read at (p ∷ ps) = rise_one at (at + size_of p) (option_and_then (copy_read ps) (partition_read at p))
    (copies_read (at + size_of p) ps) (omega arith) (there at p ps) (rise-read (at + size_of p) ps)

-- A copy in a partition above that of the best so far.
better_same : (low : ℕ) (best : Option CopyInfo) (c : CopyInfo) → IfSome best (λ b. b.partition < low)
    → low ≤ c.partition → better best c ≡ better_read best c
better_same low None c h l = grind (arith)
better_same low (Some best) c h l = ap (λ t. cond (is_candidate c && t) (Some c) (Some best))
    (one_above (rank best) (rank c) best.partition c.partition (omega arith))

-- The better of two is below all that come later.
best_below : (low : ℕ) (best : Option CopyInfo) (c : CopyInfo) → IfSome best (λ b. b.partition < low)
    → low ≤ c.partition → IfSome (better best c) (λ b. b.partition < c.partition + 1)
best_below low best c h l = grind (arith)

best_same : (low : ℕ) (best : Option CopyInfo) (copies : List CopyInfo) → IfSome best (λ b. b.partition < low)
    → RiseFrom low copies → best_of best copies ≡ fold better_read best copies
best_same low best [] h r = refl
best_same low best (c ∷ copies) h r =
    best_same (c.partition + 1) (better best c) copies (best_below low best c h r.0) r.1
    ∙ ap (λ b. fold better_read b copies) (better_same low best c h r.0)

-- The preferred one of copies that rise.
pub preferred-rising : (copies : List CopyInfo) → RiseFrom 0 copies → preferred_of copies ≡ preferred_read copies
preferred-rising copies r = best_same 0 None copies tt r
