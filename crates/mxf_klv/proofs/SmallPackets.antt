-- Packets that are laid one after another, and small ones that are packets by a test.
use Rattle.mxf_klv.proofs.Common.{Bool, List, [], arith, length, nat_lt, take, true, ℕ, ◌&&◌, ◌+◌, ◌==◌, ◌∷◌, ◌≡◌, ◌≤◌}
use Rattle.mxf_klv.proofs.Common.{and_parts, AllByRecursion, list_all, bytes_eq, label_start, IsPacket, packet_bytes}
use Rattle.mxf_klv.proofs.Common.{size_of, PacketParts, BeginsWithNone, end_after}
use Rattle.std.proofs.lemmas.List.{length-append}

abbrev pub is_small : PacketParts → Bool
is_small p =
    (length p.key == 16) && bytes_eq (take 4 p.key) label_start && (p.width == 4) && nat_lt (length p.value) 16777216

pub are_packets : (l : List PacketParts) → list_all is_small l ≡ true → AllByRecursion IsPacket l
are_packets [] e = tt
are_packets (p ∷ ps) e = grind (arith, and_parts, are_packets ps)

pub end_up : (at : ℕ) (l : List PacketParts) → at ≤ end_after at l
end_up at [] = omega arith
end_up at (p ∷ ps) = omega (arith, end_up (at + size_of p) ps)

pub length_packet : (p : PacketParts) → IsPacket p → length (packet_bytes p) ≡ size_of p
length_packet p h = grind (arith, length-append)

-- No packet stands at the front of no bytes.
pub none_of_nothing : (offset : ℕ) → BeginsWithNone offset []
none_of_nothing offset front after p s e = grind arith
