-- Which sets a walk follows, in its order, and that it follows none twice.
use Rattle.std.specs.Prelude.{ℕ, List, [], ◌∷◌, ◌++◌}
use Rattle.std.specs.List.{flat_map}
use Rattle.std.specs.Option.{option_map_or}
use Rattle.mxf_klv.specs.Rising.{In}
use Rattle.mxf_tracks.specs.declared.component.Component.{Component}
use Rattle.mxf_tracks.specs.declared.descriptor.DescriptorAt.{DescriptorAt}
use Rattle.mxf_tracks.specs.declared.descriptor.SubdescriptorAt.{SubdescriptorAt}
use Rattle.mxf_tracks.specs.declared.package.FoundPackage.{FoundPackage}
use Rattle.mxf_tracks.specs.declared.package.PackageAt.{PackageAt}
use Rattle.mxf_tracks.specs.declared.sequence.SequenceAt.{SequenceAt}
use Rattle.mxf_tracks.specs.declared.target.Target.{Target}
use Rattle.mxf_tracks.specs.declared.target.Target.TheVariants.{Found, Unreadable}
use Rattle.mxf_tracks.specs.declared.track.TrackAt.{TrackAt}

-- The set that is read for a reference with this target, by its offset.
abbrev pub read_for : Target → List ℕ
read_for (Found offset) = offset ∷ []
read_for (Unreadable offset) = offset ∷ []
read_for _ = []

-- The offsets of the sets that are read, in the order of the walk.
abbrev pub read_of_components : List Component → List ℕ
read_of_components components = flat_map (λ c. read_for c.target) components

abbrev pub read_of_sequence : SequenceAt → List ℕ
read_of_sequence s = read_for s.target ++ option_map_or (λ f. read_of_components f.components) s.found []

abbrev pub read_of_track : TrackAt → List ℕ
read_of_track t = read_for t.target ++ option_map_or (λ f. read_of_sequence f.sequence) t.found []

abbrev pub read_of_tracks : List TrackAt → List ℕ
read_of_tracks tracks = flat_map read_of_track tracks

abbrev pub read_of_subdescriptors : List SubdescriptorAt → List ℕ
read_of_subdescriptors parts = flat_map (λ d. read_for d.target) parts

abbrev pub read_of_descriptor : DescriptorAt → List ℕ
read_of_descriptor d = read_for d.target ++ option_map_or (λ f. read_of_subdescriptors f.subdescriptors) d.found []

-- Of a package that is found, the set is read, its tracks, and its descriptor. One that isn't readable was judged where
-- the storage was read.
abbrev pub read_of_found : FoundPackage → List ℕ
read_of_found f = read_of_tracks f.tracks ++ option_map_or read_of_descriptor f.descriptor []

abbrev pub found_at : Target → List ℕ
found_at (Found offset) = offset ∷ []
found_at _ = []

abbrev pub read_of_package : PackageAt → List ℕ
read_of_package p = found_at p.target ++ option_map_or read_of_found p.found []

abbrev pub read_of_packages : List PackageAt → List ℕ
read_of_packages packages = flat_map read_of_package packages

-- No number stands twice.
abbrev pub AreOnce : List ℕ → Type 0
AreOnce [] = Unit {0}
AreOnce (x ∷ xs) = (¬ In x xs) × AreOnce xs
