-- Packets of a container, and what is noted of one that was passed over (this project's profile).
use Rattle.std.specs.Prelude.{ℕ, Bool, true, false, ◌&&◌, ◌||◌, not, if◌then◌else◌, nat_lt, List, replicate, map}
use Rattle.std.specs.Str.{bytes_eq}
use Rattle.mxf_klv.specs.Kind.{is_in_containers, kind_of}
use Rattle.mxf_klv.specs.Parts.{NoteParts, note_parts}
use Rattle.mxf_klv.specs.declared.kinds.Kind.{Kind}
use Rattle.mxf_klv.specs.declared.kinds.Kind.TheVariants.{Essence, Other}
use Rattle.mxf_skim.specs.declared.scan.Scan.{Scan}
use Rattle.mxf_skim.specs.declared.scan.Scan.TheVariants.{Full, Skim}

abbrev pub is_essence : Kind → Bool
is_essence Essence = true
is_essence _ = false

abbrev pub is_other : Kind → Bool
is_other Other = true
is_other _ = false

-- A packet of this kind and key stands in a container: it is essence, or another thing whose key says so, as a system
-- item or an encrypted triplet.
abbrev pub stands_in_container : Kind → List ℕ → Bool
stands_in_container kind key = is_essence kind || (is_other kind && is_in_containers key)

-- A packet of a container: it stands in one, and has a value.
abbrev pub is_in_container : List ℕ → ℕ → Bool
is_in_container key len = nat_lt 0 len && stands_in_container (kind_of key) key

-- What stands for the digest of a value that was passed over: 32 zero bytes.
abbrev pub no_digest : List ℕ
no_digest = replicate 32 0

-- The note is that of a container's packet, all bytes of which are there.
abbrev pub is_of_container : NoteParts → Bool
is_of_container n = n.whole && is_in_container n.key n.length

-- Its value was passed over.
abbrev pub is_passed_over : NoteParts → Bool
is_passed_over n = is_of_container n && bytes_eq n.held no_digest

-- Its value was read.
abbrev pub was_read : NoteParts → Bool
was_read n = is_of_container n && not (bytes_eq n.held no_digest)

-- The note of the same packet, its value being passed over.
abbrev pub passed_note : NoteParts → NoteParts
passed_note n = note_parts n.offset n.key n.width n.length no_digest

-- What a skim notes in place of a note: a packet of a container is passed over.
abbrev pub skimmed : NoteParts → NoteParts
skimmed n = if is_of_container n then passed_note n else n

-- The notes of a scan in place of those of a reading.
abbrev pub noted_by : Scan → List NoteParts → List NoteParts
noted_by Full notes = notes
noted_by Skim notes = map skimmed notes
