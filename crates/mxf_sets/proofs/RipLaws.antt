-- The entries of random index packs, and that a value is one, or one of the faults.
use Rattle.mxf_klv.proofs.Common.{◌≡◌, ℕ, zero, suc, ◌+◌, ◌-◌, ◌*◌, ◌/◌, ◌%◌, ◌^◌, ◌<◌, ◌≤◌, List, [], ◌∷◌, ◌++◌}
use Rattle.mxf_klv.proofs.Common.{length, take, drop, Ok, Err, Some, Result, refl, sym, ap, subst, ◌∙◌, arith}
use Rattle.mxf_klv.proofs.Common.{append_assoc, length-append, slice_get, flat_map, AllByRecursion, drop_at}
use Rattle.mxf_klv.proofs.Common.{take-append-drop, drop-drop, length-drop, nil_from_length, flat_map-cons, AreBytes}
use Rattle.byteorder.specs.Endian.{big_number, big_bytes}
use Rattle.byteorder.specs.Numbers.{big_from-lt, big_from-take, big_number-reads_back}
use Rattle.mxf_klv.proofs.RoundTrips.{bytes_again, AreBytes-take, AreBytes-drop}
use Rattle.mxf_sets.specs.declared.pack.PackFault.{PackFault}
use Rattle.mxf_sets.specs.declared.pack.random_index.RipEntry.{RipEntry}
use Rattle.mxf_sets.specs.RandomIndexPack.{IsEntry, entry_bytes, RipParts, packet_length, IsRip, ReadsRip, entry_in}
use Rattle.mxf_sets.specs.RandomIndexPack.{entries_by, entries_of, rip_parts}
use Rattle.mxf_sets.proofs.Numbers.{number_in_front, same_number}

-- ---- the entries of bytes

length-entries_by : (n : ℕ) (xs : List ℕ) → length (entries_by n xs) ≡ n
length-entries_by zero xs = refl
length-entries_by (suc n) xs = ap suc (length-entries_by n (drop 12 xs))

pub number_here : (n : ℕ) (xs : List ℕ) → n ≤ length xs → AreBytes xs → xs ≡ big_bytes n (big_number n xs) ++ drop n xs
number_here n xs room h = number_in_front n (big_number n xs) xs (take n xs) (drop n xs) refl refl
    (sym (big_from-take 0 n n xs (omega arith))) room (AreBytes-take n xs h)

entry_here : (xs : List ℕ) → 12 ≤ length xs → AreBytes xs → xs ≡ entry_bytes (entry_in xs) ++ drop 12 xs
entry_here xs room h =
    let first = number_here 4 xs (omega arith) h in
    let second = number_here 8 (drop 4 xs) (omega (arith, length-drop 4 xs)) (AreBytes-drop 4 xs h) in
    first ∙ ap (λ (t : List ℕ). big_bytes 4 (big_number 4 xs) ++ t)
    (second ∙ ap (λ (t : List ℕ). big_bytes 8 (big_number 8 (drop 4 xs)) ++ t) (drop-drop 8 4 xs))

entries_back : (n : ℕ) (xs : List ℕ) → length xs ≡ 12 * n → AreBytes xs
    → (flat_map entry_bytes (entries_by n xs) ≡ xs) × AllByRecursion IsEntry (entries_by n xs)
entries_back zero xs len h = (sym (nil_from_length xs (omega arith)), tt)
entries_back (suc n) xs len h =
    let rest = entries_back n (drop 12 xs) (omega (arith, length-drop 12 xs)) (AreBytes-drop 12 xs h) in (
      flat_map-cons entry_bytes (entry_in xs) (entries_by n (drop 12 xs))
          ∙ ap (λ (t : List ℕ). entry_bytes (entry_in xs) ++ t) rest.0 ∙ sym (entry_here xs (omega arith) h),
      (record { body_sid = big_from-lt 0 4 xs h; offset = big_from-lt 0 8 (drop 4 xs) (AreBytes-drop 4 xs h) }, rest.1),
    )

pub length-entries_of : (xs : List ℕ) → length (entries_of xs) ≡ length xs / 12
unfolding entries_of
length-entries_of xs = length-entries_by (length xs / 12) xs

-- whole entries in bytes are those bytes
pub entries_are : (xs : List ℕ) → length xs % 12 ≡ 0 → AreBytes xs
    → (flat_map entry_bytes (entries_of xs) ≡ xs) × AllByRecursion IsEntry (entries_of xs)
unfolding entries_of
entries_are xs whole h = entries_back (length xs / 12) xs (omega arith) h

get_by : (n place : ℕ) (xs : List ℕ) → place < n
    → slice_get (entries_by n xs) place ≡ Some (entry_in (drop (12 * place) xs))
get_by zero place xs h = absurd (omega arith)
get_by (suc n) zero xs h = refl
get_by (suc n) (suc place) xs h = grind (arith, drop-drop (12 * place) 12 xs, get_by n place (drop 12 xs) (omega arith))

pub slice_get-entries_of : (place : ℕ) (xs : List ℕ) → place < length xs / 12
    → slice_get (entries_of xs) place ≡ Some (entry_in (drop (12 * place) xs))
unfolding entries_of
slice_get-entries_of place xs h = get_by (length xs / 12) place xs h

-- ---- the bytes of entries

pub length-flat : (es : List RipEntry) → length (flat_map entry_bytes es) ≡ 12 * length es
length-flat [] = refl
length-flat (e ∷ es) = grind (arith, flat_map-cons, length-append, length-flat es)

pub same_entry : (a b : RipEntry) → a.body_sid ≡ b.body_sid → a.offset ≡ b.offset → a ≡ b
same_entry a b e f i = record { body_sid = e i; offset = f i }

same_entries : (es fs : List RipEntry) (xs ys : List ℕ) → length es ≡ length fs → AllByRecursion IsEntry es
    → AllByRecursion IsEntry fs → flat_map entry_bytes es ++ xs ≡ flat_map entry_bytes fs ++ ys → (es ≡ fs) × (xs ≡ ys)
same_entries [] [] xs ys len p q e = (refl, e)
same_entries [] (b ∷ fs) xs ys len p q e = absurd (omega arith)
same_entries (a ∷ es) [] xs ys len p q e = absurd (omega arith)
same_entries (a ∷ es) (b ∷ fs) xs ys len p q e =
    grind (arith, append_assoc, flat_map-cons, same_entry, same_number, same_entries es fs xs ys (omega arith) p.1 q.1)

-- ---- packs

pub length-rip : (bytes : List ℕ) (r : RipParts) → IsRip bytes r → length bytes ≡ 12 * length r.entries + 4
length-rip bytes r is = grind (arith, length-append, length-flat)

same_parts : (a b : RipParts) → a.width ≡ b.width → a.entries ≡ b.entries → a ≡ b
same_parts a b e f i = record { width = e i; entries = f i }

-- a value is that of one pack
pub same_rip : (bytes : List ℕ) (a b : RipParts) → IsRip bytes a → IsRip bytes b → a ≡ b
same_rip bytes a b p q =
    let la = length-rip bytes a p in
    let lb = length-rip bytes b q in
    let s = same_entries a.entries b.entries (big_bytes 4 (packet_length a)) (big_bytes 4 (packet_length b))
    (omega arith) p.parts.entries q.parts.entries (sym p.whole ∙ q.whole) in
    let n = same_number 4 (packet_length a) (packet_length b) [] [] p.parts.fits q.parts.fits s.1 in
    same_parts a b (omega (arith, n.0)) s.0

ok_excludes : (width : ℕ) (bytes : List ℕ) (r : RipParts) (e : PackFault) → ReadsRip width bytes (Ok r)
    → ReadsRip width bytes (Err e) → ⊥
ok_excludes width bytes r e h k = grind (arith, big_number-reads_back, drop_at, length-flat, length-rip)

pub one_rip_read : (width : ℕ) (bytes : List ℕ) (r s : Result RipParts PackFault) → ReadsRip width bytes r
    → ReadsRip width bytes s → r ≡ s
one_rip_read width bytes r s h k = grind (arith, ok_excludes, same_rip)

-- the pack whose entries and last number were read
pub rip_read : (width : ℕ) (bytes entries last : List ℕ) → entries ≡ take (length bytes - 4) bytes
    → last ≡ drop (length bytes - 4) bytes → length entries + 4 ≡ length bytes
    → length last ≡ 4 → AreBytes last → big_number 4 last ≡ 16 + width + length bytes
    → flat_map entry_bytes (entries_of entries) ≡ entries → AllByRecursion IsEntry (entries_of entries)
    → 12 * length (entries_of entries) ≡ length entries → IsRip bytes (rip_parts width (entries_of entries))
rip_read width bytes entries last front back len four h number again each count =
    let packet : big_number 4 last ≡ packet_length (rip_parts width (entries_of entries)) = number
    ∙ omega (arith, count) in
    record {
      parts = record { entries = each; fits = subst (λ (n : ℕ). n < 2 ^ 32) packet (big_from-lt 0 4 last h) };
      whole = sym (take-append-drop (length bytes - 4) bytes)
          ∙ ap (λ (t : List ℕ). t ++ drop (length bytes - 4) bytes) (sym front ∙ sym again)
          ∙ ap (λ (t : List ℕ). flat_map entry_bytes (entries_of entries) ++ t)
          (sym back ∙ bytes_again 4 last four h ∙ ap (big_bytes 4) packet);
    }
