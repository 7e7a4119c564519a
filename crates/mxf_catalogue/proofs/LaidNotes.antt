-- The notes of packets that are laid one after another.
use Rattle.mxf_klv.proofs.Common.{List, [], ap, arith, filter, map, refl, ℕ, ◌++◌, ◌+◌, ◌<◌, ◌↔◌, ◌∷◌, ◌≡◌, ◌≤◌, lt-leb}
use Rattle.mxf_klv.proofs.Common.{AllByRecursion, end_of, note_cmp, note_of, size_of, NoteParts, PacketParts}
use Rattle.mxf_klv.proofs.Common.{notes_from}
use Rattle.std.proofs.Common.{Less}
use Rattle.mxf_catalogue.proofs.ClearLaws.{not_disputed}
use Rattle.mxf_catalogue.proofs.SpanLaws.{less_by_offset}
use Rattle.mxf_catalogue.specs.Content.{IsContent}
use Rattle.mxf_catalogue.specs.Disputes.{IsClear, disputed_notes, disputed_parts, is_disputed, lies_in}
use Rattle.mxf_klv.proofs.Lists.{filter_none}
use Rattle.mxf_klv.proofs.Tests.{not-true-false}

pub less_than_later : (n : NoteParts) (at : ℕ) (l : List PacketParts) → n.offset < at
    → AllByRecursion (λ m. note_cmp n m ≡ Less) (notes_from at l)
less_than_later n at [] h = tt
less_than_later n at (p ∷ ps) h =
    (less_by_offset n (note_of at p) h, less_than_later n (at + size_of p) ps (omega arith))

-- The notes of a file are a content.
pub IsContent-laid : (at : ℕ) (l : List PacketParts) → IsContent (notes_from at l)
IsContent-laid at [] = tt
IsContent-laid at (p ∷ ps) =
    (less_than_later (note_of at p) (at + size_of p) ps (omega arith), IsContent-laid (at + size_of p) ps)

pub no_disputes-laid : (at : ℕ) (l : List PacketParts) → disputed_notes (notes_from at l) ≡ []
no_disputes-laid at l =
    let notes = notes_from at l in
    ap (map (λ n. disputed_parts n notes)) (filter_none (λ n. is_disputed n notes) notes
    (λ n h. not-true-false (is_disputed n notes) (not_disputed at l n h)))

-- The clear notes that have a byte from one offset up to another are the same among both.
abbrev pub SameClear : ℕ → ℕ → List NoteParts → List NoteParts → Type 0
SameClear low high before after =
    (n : NoteParts) → n.offset < high → low < end_of n → IsClear n before ↔ IsClear n after

-- What ends at or below the start of a zone isn't in it.
pub zone_none_before : (start bytes : ℕ) (ns : List NoteParts) → AllByRecursion (λ n. end_of n ≤ start) ns
    → filter (lies_in start bytes) ns ≡ []
zone_none_before start bytes [] a = refl
zone_none_before start bytes (n ∷ ns) a =
    let b : end_of n ≤ start = a.0 in
    rw (lt-leb start n.offset (omega arith)) (zone_none_before start bytes ns a.1)

pub end_with_one : (at next : ℕ) (ns : List NoteParts) (n : NoteParts) → AllByRecursion (λ m. end_of m ≤ at) ns
    → at ≤ next → end_of n ≤ next → AllByRecursion (λ m. end_of m ≤ next) (ns ++ n ∷ [])
end_with_one at next [] n a h e = (e, tt)
end_with_one at next (m ∷ ms) n a h e = let b : end_of m ≤ at = a.0 in (omega arith, end_with_one at next ms n a.1 h e)
