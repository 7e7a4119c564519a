-- The note of a packet, the value of which has come whole.
use Rattle.std.proofs.Common.{◌≡◌, ℕ, List, length, Bool, false, Vec, Global, vec_len, Option, None, Some, IsSome}
use Rattle.std.proofs.Common.{SomeIff, if◌then◌else◌, refl, sym, ap, subst, arith}
use Rattle.sha2.specs.Sha256.{sha256}
use Rattle.sha2.specs.declared.Sha256.{Sha256}
use Rattle.sha2.specs.Hashers.{Holds256}
use Rattle.mxf_klv.specs.Parts.{CanSpell, NoteParts, note_parts, packet_parts}
use Rattle.mxf_klv.specs.Note.{CanNote, greatest_end, keeps, note_of}
use Rattle.mxf_read.specs.Coming.{HasTaken}
use Rattle.mxf_read.specs.ValueSoFar.{Has, came_of, is_gathered, is_passing, noted_if}
use Rattle.mxf_read.specs.declared.coming.ComingValue.{ComingValue}
use Rattle.mxf_read.specs.declared.coming.ValueSoFar.{ValueSoFar}
use Rattle.mxf_read.specs.declared.coming.ValueSoFar.TheVariants.{Gathered, Digested}

-- there is a value where it is wanted
pub some_where : {T : Type 0} (r : Option T) (P : Type 0) (v : T) → SomeIff r P v → P → IsSome r
some_where None P v none wanted = absurd (none wanted)
some_where (Some x) P v some wanted = refl

-- all bytes have come
pub all_came : (v : ComingValue) (m : List ℕ) → v.left ≡ 0 → HasTaken v m → length m ≡ v.ber.value
all_came v m none taken = omega (arith, none, taken.counted)

-- a note can be made of it, where what is held is as the key and the length ask for
pub can_note : (v : ComingValue) (width len : ℕ) (held : List ℕ) (whole : Bool) → width ≡ v.ber.width
    → len ≡ v.ber.value → CanSpell v.ber.width v.ber.value → is_gathered v.so_far ≡ whole
    → CanNote (note_parts v.offset v.key width len held) whole
can_note v width len held whole same_width same_len spelled is = grind (arith, greatest_end, keeps)

-- it is the packet's
pub same_note : (v : ComingValue) (m : List ℕ) (width len : ℕ) (held : List ℕ) (whole : Bool) → v.left ≡ 0
    → HasTaken v m
    → width ≡ v.ber.width → len ≡ v.ber.value → is_gathered v.so_far ≡ whole → held ≡ (if whole then m else sha256 m)
    → note_parts v.offset v.key width len held ≡ note_of v.offset (packet_parts v.key v.ber.width m)
same_note v m width len held whole none taken same_width same_len is held_is =
    grind (arith, all_came, keeps, length, note_parts, sha256)

-- a value that is gathered has its length
pub gathered : (v : ComingValue) (value : Vec ℕ Global) → v.so_far ≡ Gathered value → v.left ≡ 0
    → vec_len value ≡ v.ber.value
gathered v value is none = grind (arith, length, came_of)

-- and its bytes
pub gathered_bytes : (v : ComingValue) (value : Vec ℕ Global) (m : List ℕ) → v.so_far ≡ Gathered value → HasTaken v m
    → value.items ≡ m
gathered_bytes v value m is taken = subst (λ (h : ValueSoFar). Has h m) is taken.so_far

-- its digest has taken them
pub digested_bytes : (v : ComingValue) (hasher : Sha256) (m : List ℕ) → v.so_far ≡ Digested hasher → HasTaken v m
    → Holds256 hasher m
digested_bytes v hasher m is taken = subst (λ (h : ValueSoFar). Has h m) is taken.so_far

-- where the value was read, its note is that of the packet
pub noted_read : (held : ValueSoFar) (n : NoteParts) → is_passing held ≡ false → n ≡ noted_if (is_passing held) n
noted_read held n e = ap (λ (b : Bool). noted_if b n) (sym e)
