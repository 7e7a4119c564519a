-- The lines of what a recording is, by the preferred copy of its header metadata (ST 377-1, structural metadata; the
-- lines are this project's profile).
use Rattle.std.specs.Prelude.{ℕ, ◌||◌, ◌&&◌, is_some, is_none, Bool, true, false, if◌then◌else◌, List, [], ◌∷◌}
use Rattle.std.specs.Prelude.{◌++◌, length, filter, flat_map, codes, Option, None, Some, option_and_then, option_map}
use Rattle.std.specs.Prelude.{unwrap_or}
use Prim.Native.String.{String}
use Rattle.std.specs.Fmt.{signed_decimal}
use Rattle.std.specs.Int.{w32, to_be_bytes}
use Rattle.std.specs.List.{list_all}
use Rattle.std.specs.Option.{option_map_or, option_to_list}
use Rattle.mxf_klv.specs.Parts.{NoteParts}
use Rattle.mxf_sets.specs.Component.{ClipParts, TimecodeParts, FillerParts, is_drop}
use Rattle.mxf_sets.specs.Descriptor.{DescriptorParts}
use Rattle.mxf_sets.specs.Track.{TrackParts}
use Rattle.mxf_sets.specs.declared.record.descriptor.PictureFields.{PictureFields}
use Rattle.mxf_sets.specs.declared.record.descriptor.SoundFields.{SoundFields}
use Rattle.mxf_sets.specs.declared.record.rate.Rate.{Rate}
use Rattle.mxf_views.specs.declared.copy.CopyInfo.{CopyInfo}
use Rattle.mxf_views.specs.Copies.{copies_of, preferred_of}
use Rattle.mxf_references.specs.declared.reference.target.Ref.{Ref}
use Rattle.mxf_references.specs.declared.reference.target.Target.{Target as StorageTarget}
use Rattle.mxf_references.specs.declared.reference.target.Target.TheVariants as storage
use Rattle.mxf_references.specs.Resolved.{ResolvedParts, resolved_of}
use Rattle.mxf_tracks.specs.declared.component.Component.{Component}
use Rattle.mxf_tracks.specs.declared.component.Part.{Part}
use Rattle.mxf_tracks.specs.declared.component.Part.TheVariants as parts
use Rattle.mxf_tracks.specs.declared.container.Container.{Container}
use Rattle.mxf_tracks.specs.declared.descriptor.DescriptorAt.{DescriptorAt}
use Rattle.mxf_tracks.specs.declared.descriptor.FoundDescriptor.{FoundDescriptor}
use Rattle.mxf_tracks.specs.declared.descriptor.SubdescriptorAt.{SubdescriptorAt}
use Rattle.mxf_tracks.specs.declared.package.FoundPackage.{FoundPackage}
use Rattle.mxf_tracks.specs.declared.package.PackageAt.{PackageAt}
use Rattle.mxf_tracks.specs.declared.package.PackageKind.{PackageKind}
use Rattle.mxf_tracks.specs.declared.package.PackageKind.TheVariants as packages
use Rattle.mxf_tracks.specs.declared.sequence.FoundSequence.{FoundSequence}
use Rattle.mxf_tracks.specs.declared.sequence.SequenceKind.{SequenceKind}
use Rattle.mxf_tracks.specs.declared.sequence.SequenceKind.TheVariants as kinds
use Rattle.mxf_tracks.specs.declared.target.Target.{Target}
use Rattle.mxf_tracks.specs.declared.target.Target.TheVariants as targets
use Rattle.mxf_tracks.specs.declared.track.FoundTrack.{FoundTrack}
use Rattle.mxf_tracks.specs.declared.track.TrackAt.{TrackAt}
use Rattle.mxf_tracks.specs.Digits.{length_text, timecode_text}
use Rattle.mxf_tracks.specs.Lengths.{length_of}
use Rattle.mxf_tracks.specs.Timecodes.{timecode_of}
use Rattle.mxf_tracks.specs.Walk.{tracks_in}
use Rattle.mxf_clocks.specs.Clocks.{ClocksParts, clocks_of}
use Rattle.mxf_clocks.specs.Runs.{RunParts}
use Rattle.mxf_clocks.specs.RunTimecodes.{last_timecode, timecode_with}
use Rattle.mxf_lines.specs.declared.printing.line.described.Within.{Within}
use Rattle.mxf_forms.specs.Forms.{Absent, Characters, Field, PrintedLine, digits, field, known, line, line_of, member}
use Rattle.mxf_forms.specs.Forms.{number, number_member, word}
use Rattle.mxf_forms.specs.Hexadecimal.{hex_of}
use Rattle.mxf_lines.specs.Lines.{finished_word, lines_where}
use Rattle.mxf_lines.specs.ReferenceLines.{shown_fields, timestamp_fields, value_lines}

-- ---- Fields

-- The members of JSON that say of which package a line is, and of which of its tracks.
abbrev pub within_fields : Within → List Field
within_fields w =
    member (codes "of-package") (Characters (hex_of w.uid))
    ∷ option_to_list (option_map (λ id. number_member "of-track" id) w.track)

-- A line by its name, its fields, and what it is of.
abbrev pub line_within : String → List Field → Within → PrintedLine
line_within name fields w = line name (fields ++ within_fields w)

-- What a reference leads to, and at which offset.
abbrev pub placed : List ℕ → ℕ → List Field
placed target offset = word " " "target" target ∷ number " " "offset" offset ∷ []

abbrev pub track_target_fields : Target → List Field
track_target_fields targets.Missing = word " " "target" (codes "missing") ∷ []
track_target_fields targets.Several = word " " "target" (codes "several") ∷ []
track_target_fields (targets.WrongKind offset) = placed (codes "wrong-kind") offset
track_target_fields (targets.Other offset) = placed (codes "other") offset
track_target_fields (targets.Again offset) = placed (codes "again") offset
track_target_fields (targets.Unreadable offset) = placed (codes "unreadable") offset
track_target_fields (targets.Found offset) = placed (codes "found") offset

-- Characters where something is there, and a hyphen where nothing is.
abbrev pub word_or : {X : Type 0} → List ℕ → List ℕ → (X → List ℕ) → Option X → Field
word_or before name text None = field before name (Absent (codes "-"))
word_or before name text (Some x) = field before name (Characters (text x))

abbrev pub word_if : {X : Type 0} → String → String → (X → List ℕ) → Option X → Field
word_if before name text x = word_or (codes before) (codes name) text x

-- A rate as one number over the other.
abbrev pub rate_text : Rate → List ℕ
rate_text r = signed_decimal r.numerator ++ (codes "/" ++ signed_decimal r.denominator)

abbrev pub number_if : String → String → Option ℕ → Field
number_if before name n = known before name "-" n

abbrev pub kind_text : SequenceKind → List ℕ
kind_text kinds.Picture = codes "picture"
kind_text kinds.Sound = codes "sound"
kind_text kinds.Data = codes "data"
kind_text kinds.Timecode = codes "timecode"
kind_text kinds.Descriptive = codes "descriptive"
kind_text (kinds.Other label) = hex_of label

abbrev pub package_kind_text : PackageKind → List ℕ
package_kind_text packages.Material = codes "material"
package_kind_text packages.Source = codes "source"

-- ---- Lines

-- The preferred copy, and whether it is finished.
unfoldable pub described_line : Option CopyInfo → PrintedLine
described_line copy =
    line "described" (known " " "partition" "none" (option_map (λ c. c.partition) copy)
    ∷ option_to_list (option_map (λ c. word " " "state" (finished_word c.finished)) copy))

-- What a reference leads to, under a name; a word more stands before it where what is found has a line of its own.
unfoldable pub target_line : List ℕ → List ℕ → Target → Option Within → PrintedLine
target_line name first target within =
    line_of name first (track_target_fields target ++ flat_map within_fields (option_to_list within)) []

unfoldable pub package_line : PackageKind → List ℕ → PrintedLine
package_line kind uid =
    line "package" (word " " "kind" (package_kind_text kind) ∷ word " " "uid" (hex_of uid) ∷ [])

unfoldable pub package_container_line : Container → Within → PrintedLine
package_container_line c w =
    line_within "container" (number " " "body-sid" c.body_sid ∷ number " " "index-sid" c.index_sid ∷ []) w

-- The duration of a sequence, if it is found and its duration is known.
abbrev pub sequence_duration : Option FoundSequence → Option ℕ
sequence_duration sequence = option_and_then (λ s. s.duration) sequence

abbrev pub length_at : Option ℕ → Rate → Option ℕ
length_at duration rate = option_and_then (λ d. length_of d rate) duration

-- A track: its identifier, what its sequence holds, and its number, bytes 13 to 16 of the keys of its essence.
abbrev pub track_fields : TrackParts → Option FoundSequence → List Field
track_fields track sequence =
    number " " "id" track.id ∷ word_if " " "kind" kind_text (option_map (λ s. s.kind) sequence)
    ∷ word " number " "number" (hex_of (to_be_bytes w32 track.number)) ∷ []

-- Its edit rate and origin, the duration of its sequence, and how long that lasts.
abbrev pub time_fields : TrackParts → Option FoundSequence → List Field
time_fields track sequence =
    word " rate " "rate" (rate_text track.edit_rate) ∷ digits " origin " "origin" (signed_decimal track.origin)
    ∷ number_if " duration " "duration" (sequence_duration sequence)
    ∷ word_if " length " "length" length_text (length_at (sequence_duration sequence) track.edit_rate) ∷ []

unfoldable pub track_line : TrackParts → Option FoundSequence → Within → PrintedLine
track_line track sequence w = line_within "track" (track_fields track sequence ++ time_fields track sequence) w

-- Where a component begins, and its duration.
abbrev pub span_of_component : Option ℕ → Option ℕ → List Field
span_of_component start duration = number_if " " "start" start ∷ number_if " " "duration" duration ∷ []

-- Where what a clip shows stands.
abbrev pub source_fields : ClipParts → List Field
source_fields c =
    word " package " "package" (hex_of c.source_package) ∷ number " track " "track" c.source_track
    ∷ digits " from " "from" (signed_decimal c.start_position) ∷ []

unfoldable pub clip_line : Option ℕ → ClipParts → Within → PrintedLine
clip_line start c w = line_within "clip" (span_of_component start c.duration ++ source_fields c) w

-- The timecode of the first frame of a timecode component, and frames in a second.
abbrev pub first_fields : TimecodeParts → List Field
first_fields t =
    word_if " at " "at" timecode_text (timecode_of t.start t.base (is_drop t)) ∷ number " base " "base" t.base ∷ []

unfoldable pub timecode_line : Option ℕ → TimecodeParts → Within → PrintedLine
timecode_line start t w = line_within "timecode" (span_of_component start t.duration ++ first_fields t) w

unfoldable pub filler_line : Option ℕ → FillerParts → Within → PrintedLine
filler_line start f w = line_within "filler" (span_of_component start f.duration) w

-- A component that isn't found.
unfoldable pub component_line : Option ℕ → Target → Within → PrintedLine
component_line start target w =
    line_within "component" (number_if " " "start" start ∷ track_target_fields target) w

unfoldable pub essence_line : DescriptorParts → Within → PrintedLine
essence_line d w =
    line_within "essence" (number_if " " "track" d.linked_track ∷ word_if " rate " "rate" rate_text d.sample_rate
    ∷ number_if " duration " "duration" d.duration ∷ word_if " container " "container" hex_of d.essence_container ∷ [])
    w

-- Sizes of a picture, and how its lines lie.
abbrev pub size_fields : PictureFields → List Field
size_fields p =
    number_if " " "width" p.stored_width ∷ number_if " " "height" p.stored_height
    ∷ number_if " display " "display-width" p.display_width ∷ number_if " " "display-height" p.display_height
    ∷ number_if " layout " "layout" p.frame_layout ∷ word_if " aspect " "aspect" rate_text p.aspect_ratio ∷ []

-- Its samples, and their coding.
abbrev pub sample_fields : PictureFields → List Field
sample_fields p =
    number_if " depth " "depth" p.component_depth
    ∷ number_if " sampling " "horizontal" p.horizontal_subsampling ∷ number_if " " "vertical" p.vertical_subsampling
    ∷ word_if " coding " "coding" hex_of p.coding ∷ []

unfoldable pub picture_line : PictureFields → Within → PrintedLine
picture_line p w = line_within "picture" (size_fields p ++ sample_fields p) w

unfoldable pub sound_line : SoundFields → Within → PrintedLine
sound_line s w =
    line_within "sound" (word_if " rate " "rate" rate_text s.sampling_rate
    ∷ number_if " channels " "channels" s.channel_count ∷ number_if " bits " "bits" s.quantization_bits
    ∷ word_if " coding " "coding" hex_of s.coding ∷ []) w

-- The positions of a run of an index: the first one, and how many there are if it has an end.
abbrev pub position_fields : RunParts → List Field
position_fields r =
    number " " "index-sid" r.index_sid ∷ number " " "position" r.position ∷ number_if " " "count" r.count ∷ []

-- The timecodes of its first and its last position, and frames in a second.
abbrev pub timecode_fields : RunParts → List Field
timecode_fields r =
    word_if " at " "first" timecode_text (timecode_with r r.number)
    ∷ word_if " to " "last" timecode_text (last_timecode r) ∷ number " base " "base" r.base ∷ []

-- A run of a clock, and which packages tell the time.
unfoldable pub clock_line : PackageKind → RunParts → PrintedLine
clock_line by r =
    line "clock" (position_fields r ++ (timecode_fields r ++ word " by " "by" (package_kind_text by) ∷ []))

-- How many packages and tracks are found, and how many runs the clocks have.
unfoldable pub packages_line : ℕ → ℕ → ℕ → PrintedLine
packages_line packages tracks clocks =
    line "packages" (number " " "packages" packages ∷ number " tracks " "tracks" tracks
    ∷ number " clocks " "clocks" clocks ∷ [])

-- ---- What is printed of each

-- A descriptor says something of a picture, or of a sound.
abbrev pub has_size : PictureFields → Bool
has_size p =
    is_some p.stored_width || is_some p.stored_height || is_some p.display_width || is_some p.display_height
    || is_some p.frame_layout || is_some p.aspect_ratio

abbrev pub has_picture : PictureFields → Bool
has_picture p =
    has_size p || is_some p.component_depth || is_some p.horizontal_subsampling || is_some p.vertical_subsampling
    || is_some p.coding

abbrev pub has_sound : SoundFields → Bool
has_sound s =
    is_some s.sampling_rate || is_some s.channel_count || is_some s.quantization_bits || is_some s.coding

abbrev pub picture_lines : PictureFields → Within → List PrintedLine
picture_lines p w = if has_picture p then picture_line p w ∷ [] else []

abbrev pub sound_lines : SoundFields → Within → List PrintedLine
sound_lines s w = if has_sound s then sound_line s w ∷ [] else []

-- What a descriptor that is found says.
abbrev pub essence_lines : Within → DescriptorParts → List PrintedLine
essence_lines w d = essence_line d w ∷ (picture_lines d.picture w ++ sound_lines d.sound w)

abbrev pub subdescriptor_lines : Within → SubdescriptorAt → List PrintedLine
subdescriptor_lines w s =
    target_line (codes "subdescriptor") (codes "subdescriptor") s.target (Some w)
    ∷ lines_where (essence_lines w) s.found

abbrev pub found_descriptor_lines : Within → FoundDescriptor → List PrintedLine
found_descriptor_lines w d = essence_lines w d.descriptor ++ flat_map (subdescriptor_lines w) d.subdescriptors

abbrev pub descriptor_lines : Within → DescriptorAt → List PrintedLine
descriptor_lines w d =
    target_line (codes "descriptor") (codes "descriptor") d.target (Some w)
    ∷ lines_where (found_descriptor_lines w) d.found

abbrev pub part_line : Option ℕ → Within → Part → PrintedLine
part_line start w (parts.Clip c) = clip_line start c w
part_line start w (parts.Timecode t) = timecode_line start t w
part_line start w (parts.Filler f) = filler_line start f w

abbrev pub line_of_component : Within → Option ℕ → Target → Option Part → PrintedLine
line_of_component w start target None = component_line start target w
line_of_component w start target (Some part) = part_line start w part

abbrev pub component_lines : Within → List Component → List PrintedLine
component_lines w components = flat_map (λ c. line_of_component w c.start c.target c.part ∷ []) components

abbrev pub sequence_lines_by : Within → Target → Option FoundSequence → List PrintedLine
sequence_lines_by w target None = target_line (codes "sequence") (codes "sequence") target (Some w) ∷ []
sequence_lines_by w target (Some s) = component_lines w s.components

-- A track of a package with its sequence.
abbrev pub found_track_lines : List ℕ → FoundTrack → List PrintedLine
found_track_lines uid t =
    let within : Within = record { uid = uid; track = Some t.track.id } in
    track_line t.track t.sequence.found (record { uid = uid; track = None })
    ∷ (value_lines (within_fields within) (codes "track-name") shown_fields t.track.name
    ++ sequence_lines_by within t.sequence.target t.sequence.found)

abbrev pub track_lines_by : List ℕ → Target → Option FoundTrack → List PrintedLine
track_lines_by uid target None =
    target_line (codes "track") (codes "track -") target (Some (record { uid = uid; track = None })) ∷ []
track_lines_by uid target (Some t) = found_track_lines uid t

abbrev pub track_lines : List ℕ → TrackAt → List PrintedLine
track_lines uid t = track_lines_by uid t.target t.found

-- A package with its tracks and its descriptor.
abbrev pub found_package_lines : FoundPackage → List PrintedLine
found_package_lines p =
    let uid = p.properties.package_uid in
    let within : Within = record { uid = uid; track = None } in
    package_line p.kind uid
    ∷ (value_lines (within_fields within) (codes "name") shown_fields p.properties.name
    ++ (value_lines (within_fields within) (codes "created") timestamp_fields p.properties.creation_date
    ++ (lines_where (λ c. package_container_line c within ∷ []) p.container
    ++ (flat_map (track_lines uid) p.tracks ++ lines_where (descriptor_lines within) p.descriptor))))

abbrev pub package_lines_by : Target → Option FoundPackage → List PrintedLine
package_lines_by target None = target_line (codes "package") (codes "package -") target None ∷ []
package_lines_by target (Some p) = found_package_lines p

abbrev pub package_at_lines : PackageAt → List PrintedLine
package_at_lines p = package_lines_by p.target p.found

-- A storage that isn't found.
abbrev pub lost_storage : StorageTarget → Option Target
lost_storage storage.Missing = Some targets.Missing
lost_storage storage.Several = Some targets.Several
lost_storage (storage.WrongKind offset) = Some (targets.WrongKind offset)
lost_storage (storage.Unreadable offset) = Some (targets.Unreadable offset)
lost_storage (storage.Found offset) = None

abbrev pub storage_line : Target → PrintedLine
storage_line target = target_line (codes "storage") (codes "storage") target None

abbrev pub preface_line : ℕ → PrintedLine
preface_line offset = target_line (codes "preface") (codes "preface") (targets.Unreadable offset) None

-- Why the packages of a copy aren't known: its Preface can't be read, or the storage that it names isn't found.
abbrev pub lost_lines_by : ℕ → Option Ref → List PrintedLine
lost_lines_by preface None = preface_line preface ∷ []
lost_lines_by preface (Some ref) = lines_where (λ t. storage_line t ∷ []) (lost_storage ref.target)

abbrev pub lost_lines : ResolvedParts → List PrintedLine
lost_lines r = lost_lines_by r.preface r.storage

-- ---- All of it

abbrev pub found_packages : List PackageAt → List PackageAt
found_packages packages = filter (λ p. is_some p.found) packages

-- The tracks that are found of a package.
abbrev pub tracks_found : Option FoundPackage → List TrackAt
tracks_found None = []
tracks_found (Some p) = filter (λ t. is_some t.found) p.tracks

abbrev pub found_tracks : List PackageAt → List TrackAt
found_tracks packages = flat_map (λ p. tracks_found p.found) packages

-- The runs of the clocks.
abbrev pub clock_lines : ClocksParts → List PrintedLine
clock_lines c = flat_map (λ r. clock_line c.by r ∷ []) c.runs

abbrev pub runs_told : Option ClocksParts → ℕ
runs_told clocks = option_map_or (λ c. length c.runs) clocks 0

-- The lines of what the preferred copy says.
abbrev pub description_of
    : Option CopyInfo → Option ResolvedParts → List PackageAt → Option ClocksParts → List PrintedLine
description_of copy resolved packages clocks =
    described_line copy ∷ (lines_where lost_lines resolved ++ (flat_map package_at_lines packages
    ++ (lines_where clock_lines clocks
    ++ packages_line (length (found_packages packages)) (length (found_tracks packages)) (runs_told clocks) ∷ [])))

-- The packages of the preferred copy, if there is one, and the clocks by them.
abbrev pub packages_said : List NoteParts → Option (List PackageAt)
packages_said content = option_map (tracks_in content) (resolved_of content)

abbrev pub clocks_said : List NoteParts → Option ClocksParts
clocks_said content = option_map (clocks_of content) (packages_said content)

abbrev pub description_lines : List NoteParts → List PrintedLine
description_lines content =
    description_of (preferred_of (copies_of content)) (resolved_of content) (unwrap_or (packages_said content) [])
    (clocks_said content)

-- ---- The status

-- The reference leads to what it names, or to a set of another key, which may stand there by right.
abbrev pub is_right : Target → Bool
is_right (targets.Found offset) = true
is_right (targets.Other offset) = true
is_right _ = false

abbrev pub right_components : Option FoundSequence → Bool
right_components None = true
right_components (Some s) = list_all (λ c. is_right c.target) s.components

abbrev pub right_sequence : Option FoundTrack → Bool
right_sequence None = true
right_sequence (Some t) = is_right t.sequence.target && right_components t.sequence.found

abbrev pub right_parts : Option FoundDescriptor → Bool
right_parts None = true
right_parts (Some d) = list_all (λ s. is_right s.target) d.subdescriptors

abbrev pub right_descriptor : Option DescriptorAt → Bool
right_descriptor None = true
right_descriptor (Some d) = is_right d.target && right_parts d.found

abbrev pub right_tracks : Option FoundPackage → Bool
right_tracks None = true
right_tracks (Some p) =
    list_all (λ t. is_right t.target && right_sequence t.found) p.tracks && right_descriptor p.descriptor

-- Each reference of the walk leads where it may.
abbrev pub all_right : List PackageAt → Bool
all_right packages = list_all (λ p. is_right p.target && right_tracks p.found) packages

-- The storage is found.
abbrev pub has_storage : ResolvedParts → Bool
has_storage r = is_some r.storage && is_none (option_and_then (λ ref. lost_storage ref.target) r.storage)

abbrev pub is_finished : Option CopyInfo → Bool
is_finished None = false
is_finished (Some copy) = copy.finished

abbrev pub finds_storage : Option ResolvedParts → Bool
finds_storage None = true
finds_storage (Some r) = has_storage r

-- 0 where a copy is preferred and finished and all that it refers to is where it may be, otherwise 1.
abbrev pub description_status_of : Option CopyInfo → Option ResolvedParts → List PackageAt → ℕ
description_status_of copy resolved packages =
    if is_finished copy && finds_storage resolved && all_right packages then 0 else 1

abbrev pub description_status : List NoteParts → ℕ
description_status content =
    description_status_of (preferred_of (copies_of content)) (resolved_of content)
    (unwrap_or (packages_said content) [])
