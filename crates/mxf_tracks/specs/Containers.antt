-- The container of a package: which streams hold its essence and its index (ST 377-1, Essence Container Data set; that
-- sets which say the same count once, and others leave none, is this project's profile).
use Rattle.std.specs.Prelude.{◌≡◌, ℕ, Bool, ◌==◌, ◌&&◌, if◌then◌else◌, List, [], ◌∷◌, Option, Some, None}
use Rattle.std.specs.BTreeMap.{BTreeMap, get}
use Rattle.std.specs.Cmp.Lexicographic.{slice_cmp}
use Rattle.std.specs.List.{filter_map, list_all}
use Rattle.std.specs.Option.{option_and_then}
use Rattle.std.specs.Ordering.{nat_cmp}
use Rattle.std.specs.Str.{bytes_eq}
use Rattle.mxf_klv.specs.Parts.{NoteParts}
use Rattle.mxf_sets.specs.ContainerData.{ContainerDataParts, container_data_at}
use Rattle.mxf_sets.specs.Readable.{read_as}
use Rattle.mxf_tracks.specs.declared.container.Container.{Container}
use Rattle.mxf_tracks.specs.Keys.{is_container_data}

-- The container data that the set is read as, if it is such a set, kept, and can be read.
unfoldable pub container_data_in : NoteParts → Option ContainerDataParts
container_data_in n = if is_container_data n.key then read_as container_data_at n else None

-- The streams that container data name, if they name them for the package with this identifier.
abbrev pub streams_for : List ℕ → ContainerDataParts → Option Container
streams_for uid c =
    if bytes_eq c.linked_package uid then Some (record { body_sid = c.body_sid; index_sid = c.index_sid }) else None

abbrev pub named_by : List ℕ → NoteParts → Option Container
named_by uid n = option_and_then (streams_for uid) (container_data_in n)

-- All that sets of the copy name for the package.
abbrev pub named_for : List ℕ → List NoteParts → List Container
named_for uid sets = filter_map (named_by uid) sets

abbrev pub is_same : Container → Container → Bool
is_same c d = c.body_sid == d.body_sid && c.index_sid == d.index_sid

-- The one that all of them are.
abbrev pub only_one : List Container → Option Container
only_one [] = None
only_one (c ∷ cs) = if list_all (is_same c) cs then Some c else None

-- The container of the package with this identifier, by the sets of the copy.
abbrev pub container_of : List NoteParts → List ℕ → Option Container
container_of sets uid = only_one (named_for uid sets)

-- What is kept of those that are named for one package: nothing where there are none, otherwise the one that all of
-- them are, if they are one.
abbrev pub kept_of : List Container → Option (Option Container)
kept_of [] = None
kept_of (c ∷ cs) = Some (only_one (c ∷ cs))

-- What is kept by the identifiers of packages is that of the sets.
abbrev pub AreContainersOf : List NoteParts → BTreeMap (List ℕ) (Option Container) → Type 0
AreContainersOf sets kept = (uid : List ℕ) → get (slice_cmp nat_cmp) kept uid ≡ kept_of (named_for uid sets)

-- What is kept with one more: the same, or none where they differ.
abbrev pub with_container : Option (Option Container) → Container → Option Container
with_container None c = Some c
with_container (Some None) c = None
with_container (Some (Some d)) c = if is_same d c then Some d else None
