-- What copies of the header metadata lack as damage leaves them: a Preface, labels of tags, sets that others refer to (ST
-- 377-1, header metadata; what is in doubt is this project's profile).
use Rattle.std.specs.Prelude.{◌≡◌, ℕ, ◌+◌, Bool, false, ◌&&◌, ◌||◌, ◌==◌, not, nat_le, if◌then◌else◌, Option, Some, None, is_some}
use Rattle.std.specs.Prelude.{is_none, List, [], ◌∷◌, length, map, filter, find, flat_map}
use Rattle.std.specs.BTreeSet.{BTreeSet, contains}
use Rattle.std.specs.Cmp.Lexicographic.{slice_cmp}
use Rattle.std.specs.List.{list_all, list_any}
use Rattle.std.specs.Option.{option_map, option_map_or}
use Rattle.std.specs.Ordering.{nat_cmp}
use Rattle.std.specs.Str.{bytes_eq}
use Rattle.mxf_klv.specs.Parts.{NoteParts}
use Rattle.mxf_klv.specs.Note.{end_of}
use Rattle.mxf_klv.specs.Kind.{kind_of}
use Rattle.mxf_sets.specs.Batch.{BatchParts, batch_items}
use Rattle.mxf_sets.specs.Fields.{is_batch}
use Rattle.mxf_sets.specs.Instance.{instance_uid_at}
use Rattle.mxf_sets.specs.Items.{ItemParts}
use Rattle.mxf_sets.specs.PackReadings.{batch_in, label_of}
use Rattle.mxf_sets.specs.Readable.{read_as}
use Rattle.mxf_catalogue.specs.Disputes.{clear_notes}
use Rattle.mxf_views.specs.declared.copy.CopyInfo.{CopyInfo}
use Rattle.mxf_views.specs.Copies.{is_fill, is_primer, is_set_note, sets_from, zone_of}
use Rattle.mxf_views.specs.Labels.{is_in_copy, primer_of}
use Rattle.mxf_views.specs.SetItems.{set_items}
use Rattle.mxf_doubts.specs.Strange.{is_other}
use Rattle.mxf_doubts.specs.declared.spans.Span.{Span}

-- ---- Prefaces (ST 377-1: header metadata have one)

-- A clear set lies wholly in the zone of the copy.
abbrev pub has_set : List NoteParts → CopyInfo → Bool
has_set notes c = list_any (λ n. is_in_copy n c) (filter is_set_note (clear_notes notes))

-- Where the packet of a note begins and ends.
abbrev pub span_of : NoteParts → Span
span_of n = record { start = n.offset; end = end_of n }

-- Where the clear sets lie.
abbrev pub set_spans : List NoteParts → List Span
set_spans notes = map span_of (filter is_set_note (clear_notes notes))

-- The bytes lie wholly in the zone that begins there.
abbrev pub is_within : ℕ → Option ℕ → Span → Bool
is_within bytes None s = false
is_within bytes (Some start) s = nat_le start s.start && nat_le s.end (start + bytes)

-- A finished copy that has not exactly one Preface.
abbrev pub is_without_one_preface : CopyInfo → Bool
is_without_one_preface c = c.finished && not (c.prefaces == 1)

-- The same of a copy that has a set.
abbrev pub lacks_preface : List NoteParts → CopyInfo → Bool
lacks_preface notes c = is_without_one_preface c && has_set notes c

-- ---- Orderly copies

-- The note is a primer at the start of the copy, a set, a fill, or of no known kind.
abbrev pub is_orderly_note : ℕ → NoteParts → Bool
is_orderly_note start n =
    is_set_note n || is_fill (kind_of n.key) || is_other (kind_of n.key)
    || (is_primer (kind_of n.key) && (n.offset == start))

-- All notes of the zone that begins there are such.
abbrev pub is_orderly_from : List NoteParts → ℕ → Option ℕ → Bool
is_orderly_from notes bytes None = false
is_orderly_from notes bytes (Some start) = list_all (is_orderly_note start) (zone_of start bytes (clear_notes notes))

-- A finished copy in whose zone each note is its primer, a set, a fill, or of no known kind.
unfoldable pub is_orderly : List NoteParts → CopyInfo → Bool
is_orderly notes c = c.finished && is_orderly_from notes c.bytes c.start

-- The sets of the copy.
abbrev pub sets_in_copy : List NoteParts → CopyInfo → List NoteParts
sets_in_copy notes c = sets_from (clear_notes notes) c.bytes c.start

-- ---- Labels (ST 377-1: the primer pack says what each dynamic tag, 8000 and above, stands for)

-- The primer pack has no label for the tag of the item, or several.
abbrev pub lacks_label : BatchParts → ItemParts → Bool
lacks_label primer i = nat_le 0x8000 i.tag && is_none (label_of i.tag primer)

-- Some item of the set is such.
abbrev pub lacks_labels : BatchParts → NoteParts → Bool
lacks_labels primer n = option_map_or (list_any (lacks_label primer)) (set_items n) false

-- The first of sets that has such an item.
abbrev pub first_lacking : List NoteParts → Option BatchParts → Option NoteParts
first_lacking sets None = None
first_lacking sets (Some primer) = find (lacks_labels primer) sets

-- The offset of the first set of an orderly copy with an item whose tag has not exactly one label in the copy's primer.
unfoldable pub first_unlabelled : List NoteParts → CopyInfo → Option ℕ
first_unlabelled notes c =
    if is_orderly notes c
    then option_map (λ n. n.offset) (first_lacking (sets_in_copy notes c) (primer_of notes c)) else None

-- ---- References (ST 377-1, strong references)

-- The tags of items that are one reference: ContentStorage, Descriptor, Sequence and DMFramework.
abbrev pub is_reference_tag : ℕ → Bool
is_reference_tag tag = (tag == 0x3B03) || (tag == 0x4701) || (tag == 0x4803) || (tag == 0x6101)

-- The tags of items that are batches of references: Identifications, Packages, EssenceContainerData, Tracks,
-- StructuralComponents, Locators and SubDescriptors.
abbrev pub is_batch_tag : ℕ → Bool
is_batch_tag tag =
    (tag == 0x3B06) || (tag == 0x1901) || (tag == 0x1902) || (tag == 0x4403) || (tag == 0x1001) || (tag == 0x2F01)
    || (tag == 0x3F01)

-- The references that an item holds: none if its value isn't of their form.
abbrev pub references_of : ItemParts → List (List ℕ)
references_of i =
    if is_reference_tag i.tag then (if length i.value == 16 then i.value ∷ [] else [])
    else (if is_batch_tag i.tag && is_batch 16 i.value then batch_items (batch_in i.value) else [])

-- The instance identifier of a set that is kept and whose items can be read, if that can be read too.
abbrev pub instance_of : NoteParts → Option (List ℕ)
instance_of n = if is_some (set_items n) then read_as instance_uid_at n else None

-- Each note of the zone but fills and a primer is such a set.
abbrev pub is_told_note : NoteParts → Bool
is_told_note n = is_fill (kind_of n.key) || is_primer (kind_of n.key) || is_some (instance_of n)

abbrev pub is_told_from : List NoteParts → ℕ → Option ℕ → Bool
is_told_from notes bytes None = false
is_told_from notes bytes (Some start) = list_all is_told_note (zone_of start bytes (clear_notes notes))

-- One of the sets has the instance identifier.
abbrev pub has_instance : List NoteParts → List ℕ → Bool
has_instance sets uid = list_any (λ n. option_map_or (bytes_eq uid) (instance_of n) false) sets

-- The table has the instance identifiers of the sets, and no others.
abbrev pub AreInstances : List NoteParts → BTreeSet (List ℕ) → Type 0
AreInstances sets uids = (uid : List ℕ) → contains (slice_cmp nat_cmp) uids uid ≡ has_instance sets uid

-- The set holds a reference to none of the sets.
abbrev pub refers_to_none : List NoteParts → NoteParts → Bool
refers_to_none sets n =
    list_any (λ uid. not (has_instance sets uid)) (option_map_or (flat_map references_of) (set_items n) [])

-- The offsets of the sets of an orderly copy that hold a reference to none of them, if all its notes are told.
unfoldable pub unreferred : List NoteParts → CopyInfo → List ℕ
unreferred notes c =
    let sets = sets_in_copy notes c in
    if is_orderly notes c && is_told_from notes c.bytes c.start
    then map (λ n. n.offset) (filter (refers_to_none sets) sets) else []
