-- What bytes that were read make: the packet of a head, and the reading of a piece.
use Rattle.mxf_views.proofs.Common.{◌≡◌, ◌+◌, ◌++◌, ℕ, Bool, List, Option, Some, false, sym, ap, subst, arith}
use Rattle.mxf_views.proofs.Common.{length, length-append, CanSpell, LengthParts, NoteParts, packet_parts, IsNote}
use Rattle.mxf_views.proofs.Common.{covered_end, end_of, note_of}
use Rattle.std.specs.Prelude.{if◌then◌else◌}
use Rattle.std.specs.Option.{SomeIff}
use Rattle.mxf_read.specs.Coming.{HasTaken, IsSamePacket}
use Rattle.mxf_read.specs.Feeding.{Tells, begun_heads, option_list}
use Rattle.mxf_hand.specs.Noting.{IsReading}
use Rattle.mxf_read.specs.declared.coming.ComingValue.{ComingValue}
use Rattle.mxf_read.specs.declared.piece.Piece.{Piece}
use Rattle.mxf_skim.specs.declared.scan.Scan.{Scan}

-- of a value so many bytes less are to come
pub left_less : (v w : ComingValue) (done part : List ℕ) (n : ℕ) → IsSamePacket v w → HasTaken v done
    → HasTaken w (done ++ part) → length part ≡ n → w.left + n ≡ v.left
left_less v w done part n same before after len = grind (arith, length-append)

-- all are of one packet
pub same_packet : (u v w : ComingValue) → IsSamePacket u v → IsSamePacket v w → IsSamePacket u w
same_packet u v w a b = grind arith

-- a head covers key and length
pub covered_head : (n : NoteParts) → n.whole ≡ false → covered_end n ≡ n.offset + 16 + n.width
covered_head n e = ap (λ (b : Bool). if b then end_of n else n.offset + 16 + n.width) e

-- its length is a spelled one
pub head_length : (w l : ℕ) (r : Option LengthParts) (b : LengthParts) → r ≡ Some b
    → SomeIff r (CanSpell w l) (record { width = w; value = l }) → (b.width ≡ w) × (b.value ≡ l)
head_length w l r b e some = grind arith

-- the note of the packet of a head
pub taken_note : (head n : NoteParts) (v : ComingValue) (m : List ℕ) → v.offset ≡ head.offset → v.key ≡ head.key
    → v.ber.width ≡ head.width → n ≡ note_of v.offset (packet_parts v.key v.ber.width m)
    → n ≡ note_of head.offset (packet_parts head.key head.width m)
taken_note head n v m at key width is = grind arith

-- what a piece tells of the bytes is their reading
pub reading_told : (scan : Scan) (o : ℕ) (m : List ℕ) (p : Piece) (notes : List NoteParts) (head : Option NoteParts)
    → Tells scan o m p → notes ≡ p.notes → option_list head ≡ begun_heads p.stop p.value
    → IsReading scan o m notes head
reading_told scan o m p notes head tells e f = grind arith

-- the numbers of a note's length can be spelled
pub can_spell : (n : NoteParts) (w l : ℕ) → IsNote n → w ≡ n.width → l ≡ n.length → CanSpell w l
can_spell n w l note e f = subst (λ (x : ℕ). CanSpell x l) (sym e) (subst (CanSpell n.width) (sym f) note.width)
