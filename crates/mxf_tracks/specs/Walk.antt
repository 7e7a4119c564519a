-- The walk from a package to its components (ST 377-1, structural metadata; what is followed, and in which order, is
-- this project's profile): each reference in its place with what it leads to. Of each step the result is a pair: what
-- is found, and the offsets of all sets that were reached up to here.
use Rattle.std.specs.Prelude.{ℕ, ◌+◌, ◌==◌, find, if◌then◌else◌, List, [], ◌∷◌, Option, Some, None, Result, Ok, Err}
use Rattle.std.specs.Option.{option_map, option_and_then}
use Rattle.mxf_klv.specs.declared.kinds.Kind.{Kind}
use Rattle.mxf_klv.specs.declared.kinds.Kind.TheVariants as kinds
use Rattle.mxf_klv.specs.Parts.{NoteParts}
use Rattle.mxf_klv.specs.Kind.{kind_of}
use Rattle.mxf_sets.specs.Component.{ClipParts, TimecodeParts, FillerParts, clip_at, timecode_at, filler_at}
use Rattle.mxf_sets.specs.Descriptor.{DescriptorParts, descriptor_at}
use Rattle.mxf_sets.specs.Package.{PackageParts, package_at}
use Rattle.mxf_sets.specs.Readable.{read_as}
use Rattle.mxf_sets.specs.Sequence.{SequenceParts, sequence_at}
use Rattle.mxf_sets.specs.Track.{TrackParts, track_at}
use Rattle.mxf_references.specs.declared.reference.target.Ref.{Ref}
use Rattle.mxf_references.specs.declared.reference.target.Target.{Target as ResolvedTarget}
use Rattle.mxf_references.specs.declared.reference.target.Target.TheVariants as resolved
use Rattle.mxf_references.specs.Resolved.{ResolvedParts}
use Rattle.mxf_catalogue.specs.Disputes.{clear_notes}
use Rattle.mxf_views.specs.Copies.{sets_of}
use Rattle.mxf_tracks.specs.declared.component.Component.{Component}
use Rattle.mxf_tracks.specs.declared.component.Part.{Part}
use Rattle.mxf_tracks.specs.declared.component.Part.TheVariants.{Clip, Timecode, Filler}
use Rattle.mxf_tracks.specs.declared.descriptor.DescriptorAt.{DescriptorAt}
use Rattle.mxf_tracks.specs.declared.descriptor.FoundDescriptor.{FoundDescriptor}
use Rattle.mxf_tracks.specs.declared.descriptor.SubdescriptorAt.{SubdescriptorAt}
use Rattle.mxf_tracks.specs.declared.package.FoundPackage.{FoundPackage}
use Rattle.mxf_tracks.specs.declared.package.PackageAt.{PackageAt}
use Rattle.mxf_tracks.specs.declared.package.PackageKind.{PackageKind}
use Rattle.mxf_tracks.specs.declared.package.PackageKind.TheVariants.{Material, Source}
use Rattle.mxf_tracks.specs.declared.sequence.SequenceAt.{SequenceAt}
use Rattle.mxf_tracks.specs.declared.sequence.FoundSequence.{FoundSequence}
use Rattle.mxf_tracks.specs.declared.target.Target.{Target}
use Rattle.mxf_tracks.specs.declared.target.Target.TheVariants.{Missing, Several, WrongKind, Again, Found, Unreadable}
use Rattle.mxf_tracks.specs.declared.target.Wanted.TheVariants as wanted
use Rattle.mxf_tracks.specs.declared.track.FoundTrack.{FoundTrack}
use Rattle.mxf_tracks.specs.declared.track.TrackAt.{TrackAt}
use Rattle.mxf_tracks.specs.Keys.{is_clip, is_timecode, sequence_kind}
use Rattle.mxf_tracks.specs.Containers.{container_of}
use Rattle.mxf_tracks.specs.Targets.{is_reached, set_of, with_reached}

-- ---- One reference, and several

-- Of a set that is reached: that it can't be read, or what is found of it, with what follows.
abbrev pub read_step : {A F R : Type 0} → (Target → Option F → R) → (List ℕ → A → F × List ℕ) → ℕ → List ℕ
    → Option A → R × List ℕ
read_step make follow offset reached None = (make (Unreadable offset) None, reached)
read_step make follow offset reached (Some value) =
    let found = follow reached value in (make (Found offset) (Some found.0), found.1)

-- Of a reference: a target that ends there, or a set that is reached and read.
abbrev pub step : {A F R : Type 0} → (Target → Option F → R) → (NoteParts → Option A) → (List ℕ → A → F × List ℕ)
    → List ℕ → Result NoteParts Target → R × List ℕ
step make read follow reached (Err target) = (make target None, reached)
step make read follow reached (Ok n) = read_step make follow n.offset (with_reached n.offset reached) (read n)

-- Nothing follows.
abbrev pub nothing_follows : {A : Type 0} → List ℕ → A → A × List ℕ
nothing_follows reached value = (value, reached)

-- Of references one after another, each with what is below it before the next.
abbrev pub steps : {U R : Type 0} → (List ℕ → U → R × List ℕ) → List ℕ → List U → List R × List ℕ
steps one reached [] = ([], reached)
steps one reached (u ∷ us) =
    let first = one reached u in
    let others = steps one first.1 us in
    (first.0 ∷ others.0, others.1)

-- ---- Components

-- What the set of a component is read as, if it is kept and can be read.
unfoldable pub clip_in : NoteParts → Option ClipParts
clip_in n = read_as clip_at n

unfoldable pub timecode_in : NoteParts → Option TimecodeParts
timecode_in n = read_as timecode_at n

unfoldable pub filler_in : NoteParts → Option FillerParts
filler_in n = read_as filler_at n

-- By the key of the set.
unfoldable pub part_in : NoteParts → Option Part
part_in n =
    if is_clip n.key then option_map Clip (clip_in n)
    else (if is_timecode n.key then option_map Timecode (timecode_in n) else option_map Filler (filler_in n))

-- The duration of a component, if it is known.
abbrev pub duration_of : Part → Option ℕ
duration_of (Clip c) = c.duration
duration_of (Timecode t) = t.duration
duration_of (Filler f) = f.duration

-- Where a component ends: it isn't known where the component isn't found, its start isn't known, or its duration isn't.
abbrev pub end_of_part : Option ℕ → Option Part → Option ℕ
end_of_part start part =
    option_and_then (λ s. option_map (λ d. s + d) (option_and_then duration_of part)) start

abbrev pub component_to : Option ℕ → List ℕ → Target → Option Part → Component
component_to start uid target part = record { uid = uid; target = target; start = start; part = part }

-- The component that a reference leads to.
unfoldable pub component_of : List NoteParts → Option ℕ → List ℕ → List ℕ → Component × List ℕ
component_of sets start reached uid =
    step (component_to start uid) part_in nothing_follows reached (set_of sets wanted.Component reached uid)

-- The components that references lead to: the first one begins at the start, each later one where the one before it
-- ends.
abbrev pub components_from : List NoteParts → Option ℕ → List ℕ → List (List ℕ) → List Component × List ℕ
components_from sets start reached [] = ([], reached)
components_from sets start reached (uid ∷ uids) =
    let one = component_of sets start reached uid in
    let others = components_from sets (end_of_part start one.0.part) one.1 uids in
    (one.0 ∷ others.0, others.1)

-- ---- Sequences

-- What the set of a sequence is read as, if it is kept and can be read.
unfoldable pub sequence_in : NoteParts → Option SequenceParts
sequence_in n = read_as sequence_at n

abbrev pub found_sequence : List NoteParts → List ℕ → SequenceParts → FoundSequence × List ℕ
found_sequence sets reached s =
    let components = components_from sets (Some 0) reached s.components in
    (record { kind = sequence_kind s.data_definition; duration = s.duration; components = components.0 }, components.1)

abbrev pub sequence_to : List ℕ → Target → Option FoundSequence → SequenceAt
sequence_to uid target found = record { uid = uid; target = target; found = found }

-- The sequence that a reference leads to, with its components.
unfoldable pub sequence_of : List NoteParts → List ℕ → List ℕ → SequenceAt × List ℕ
sequence_of sets reached uid =
    step (sequence_to uid) sequence_in (found_sequence sets) reached (set_of sets wanted.Sequence reached uid)

-- ---- Tracks

-- What the set of a track is read as, if it is kept and can be read.
unfoldable pub track_in : NoteParts → Option TrackParts
track_in n = read_as track_at n

abbrev pub found_track : List NoteParts → List ℕ → TrackParts → FoundTrack × List ℕ
found_track sets reached t =
    let sequence = sequence_of sets reached t.sequence in
    (record { track = t; sequence = sequence.0 }, sequence.1)

abbrev pub track_to : List ℕ → Target → Option FoundTrack → TrackAt
track_to uid target found = record { uid = uid; target = target; found = found }

-- The track that a reference leads to, with its sequence.
unfoldable pub track_of : List NoteParts → List ℕ → List ℕ → TrackAt × List ℕ
track_of sets reached uid =
    step (track_to uid) track_in (found_track sets) reached (set_of sets wanted.Track reached uid)

-- The tracks that references lead to, each with what is below it before the next.
abbrev pub tracks_from : List NoteParts → List ℕ → List (List ℕ) → List TrackAt × List ℕ
tracks_from sets reached uids = steps (track_of sets) reached uids

-- ---- Descriptors

-- What a set is read as where a descriptor is named, if it is kept and can be read.
unfoldable pub descriptor_in : NoteParts → Option DescriptorParts
descriptor_in n = read_as descriptor_at n

abbrev pub subdescriptor_to : List ℕ → Target → Option DescriptorParts → SubdescriptorAt
subdescriptor_to uid target found = record { uid = uid; target = target; found = found }

-- The descriptor of a part that a reference leads to. What it names itself isn't followed.
unfoldable pub subdescriptor_of : List NoteParts → List ℕ → List ℕ → SubdescriptorAt × List ℕ
subdescriptor_of sets reached uid =
    step (subdescriptor_to uid) descriptor_in nothing_follows reached (set_of sets wanted.Descriptor reached uid)

-- The descriptors of parts that references lead to, in order.
abbrev pub subdescriptors_from : List NoteParts → List ℕ → List (List ℕ) → List SubdescriptorAt × List ℕ
subdescriptors_from sets reached uids = steps (subdescriptor_of sets) reached uids

abbrev pub found_descriptor : List NoteParts → List ℕ → DescriptorParts → FoundDescriptor × List ℕ
found_descriptor sets reached d =
    let parts = subdescriptors_from sets reached d.subdescriptors in
    (record { descriptor = d; subdescriptors = parts.0 }, parts.1)

abbrev pub descriptor_to : List ℕ → Target → Option FoundDescriptor → DescriptorAt
descriptor_to uid target found = record { uid = uid; target = target; found = found }

-- The descriptor that a reference leads to, with those of its parts.
unfoldable pub descriptor_of : List NoteParts → List ℕ → List ℕ → DescriptorAt × List ℕ
descriptor_of sets reached uid =
    step (descriptor_to uid) descriptor_in (found_descriptor sets) reached (set_of sets wanted.Descriptor reached uid)

-- The same of a package that may name one.
abbrev pub descriptor_named : List NoteParts → List ℕ → Option (List ℕ) → Option DescriptorAt × List ℕ
descriptor_named sets reached None = (None, reached)
descriptor_named sets reached (Some uid) =
    let descriptor = descriptor_of sets reached uid in (Some descriptor.0, descriptor.1)

-- ---- Packages

-- What the set of a package is read as, if it is kept and can be read.
unfoldable pub package_in : NoteParts → Option PackageParts
package_in n = read_as package_at n

-- Which package it is, by the kind of its set.
abbrev pub package_kind : Kind → PackageKind
package_kind kinds.MaterialPackage = Material
package_kind _ = Source

-- A package that is found: its tracks, and behind them its descriptor.
abbrev pub found_package : List NoteParts → List ℕ → Kind → PackageParts → FoundPackage × List ℕ
found_package sets reached kind p =
    let tracks = tracks_from sets reached p.tracks in
    let descriptor = descriptor_named sets tracks.1 p.descriptor in (
      record {
        kind = package_kind kind;
        properties = p;
        container = container_of sets p.package_uid;
        tracks = tracks.0;
        descriptor = descriptor.0;
      },
      descriptor.1,
    )

abbrev pub package_to : List ℕ → Target → Option FoundPackage → PackageAt
package_to uid target found = record { uid = uid; target = target; found = found }

-- By the clear note at an offset.
abbrev pub package_there : List NoteParts → List ℕ → ℕ → List ℕ → Option NoteParts → PackageAt × List ℕ
package_there sets uid offset reached None = (package_to uid (Unreadable offset) None, reached)
package_there sets uid offset reached (Some n) =
    read_step (package_to uid) (λ after p. found_package sets after (kind_of n.key) p) offset reached (package_in n)

-- The package that a reference of the storage leads to. Its target is that of the reference; where it is found there,
-- and was so before, it isn't followed again.
abbrev pub target_unfollowed : ResolvedTarget → Target
target_unfollowed resolved.Missing = Missing
target_unfollowed resolved.Several = Several
target_unfollowed (resolved.WrongKind offset) = WrongKind offset
target_unfollowed (resolved.Unreadable offset) = Unreadable offset
target_unfollowed (resolved.Found offset) = Again offset

abbrev pub unfollowed : List ℕ → ResolvedTarget → PackageAt
unfollowed uid target = package_to uid (target_unfollowed target) None

abbrev pub package_by : List NoteParts → List NoteParts → List ℕ → List ℕ → ResolvedTarget → PackageAt × List ℕ
package_by clear sets uid reached (resolved.Found offset) =
    if is_reached offset reached then (unfollowed uid (resolved.Found offset), reached)
    else package_there sets uid offset (with_reached offset reached) (find (λ n. n.offset == offset) clear)
package_by clear sets uid reached target = (unfollowed uid target, reached)

unfoldable pub package_of : List NoteParts → List NoteParts → List ℕ → Ref → PackageAt × List ℕ
package_of clear sets reached r = package_by clear sets r.uid reached r.target

abbrev pub packages_from : List NoteParts → List NoteParts → List ℕ → List Ref → List PackageAt × List ℕ
packages_from clear sets reached refs = steps (package_of clear sets) reached refs

-- The packages that the storage of a copy names, each with what is below it before the next.
abbrev pub tracks_in : List NoteParts → ResolvedParts → List PackageAt
tracks_in notes r = (packages_from (clear_notes notes) (sets_of notes r.partition) [] r.packages).0

-- The same of the preferred copy; none without one.
abbrev pub tracks_from_resolved : List NoteParts → Option ResolvedParts → List PackageAt
tracks_from_resolved notes None = []
tracks_from_resolved notes (Some r) = tracks_in notes r
