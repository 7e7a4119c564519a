-- The bytes of a well-formed file are read as its packets.
use Rattle.mxf_views.proofs.Common.{◌≡◌, ℕ, ◌+◌, ◌≤◌, List, [], ◌∷◌, ◌++◌, take, Ok, refl, AllByRecursion, subst, arith}
use Rattle.mxf_views.proofs.Common.{greatest_end, IsPacket, size_of, PacketParts, IsWellFormed, end_after}
use Rattle.std.proofs.lemmas.List.{take_at}
use Rattle.mxf_klv.specs.Packet.{IsSpelledPacket, ReadsPacket, packet_bytes}
use Rattle.mxf_klv.specs.Piece.{AreLaid, IsPiece}
use Rattle.mxf_views.specs.WellFormed.{file_bytes}
use Rattle.mxf_klv.proofs.SmallPackets.{end_up, length_packet, none_of_nothing}

-- Packets are read as they are written.
abbrev pub ReadsBack : Type 0
ReadsBack = (packet : PacketParts) (more : List ℕ) → IsPacket packet
    → ReadsPacket (packet_bytes packet ++ more) (Ok (packet, size_of packet))

-- The packets of a file are laid in its bytes.
laid : ReadsBack → (at : ℕ) (l : List PacketParts) → AllByRecursion IsPacket l → end_after at l ≤ greatest_end
    → AreLaid at (file_bytes l) l []
laid reads at [] a h = refl
laid reads at (p ∷ ps) a h =
    let e : at + size_of p ≤ end_after (at + size_of p) ps = end_up (at + size_of p) ps in
    let r = reads p (file_bytes ps) a.0 in
    let t : take (size_of p) (packet_bytes p ++ file_bytes ps) ≡ packet_bytes p =
    take_at (packet_bytes p) (file_bytes ps) (size_of p) (length_packet p a.0) in (
      packet_bytes p,
      file_bytes ps,
      subst (λ (b : List ℕ). IsSpelledPacket b p) t r.1,
      refl,
      omega arith,
      laid reads (at + size_of p) ps a.1 h,
    )

-- The bytes of a well-formed file are its packets and no rest.
pub whole_piece : ReadsBack → (l : List PacketParts) → IsWellFormed l → IsPiece 0 (file_bytes l) l []
whole_piece reads l w =
    record { laid = laid reads 0 l w.packets w.within; ended = none_of_nothing (end_after 0 l) }
