-- File packages: the source packages whose essence, with an index, is in this file (ST 377-1, Source Package and
-- Essence Container Data sets; that another package of the same identifier leaves none is this project's profile).
use Rattle.std.specs.Prelude.{◌&&◌, ◌==◌, not, nat_lt, count_by, if◌then◌else◌, ℕ, Bool, true, false}
use Rattle.std.specs.Prelude.{List, Option, Some, None}
use Rattle.std.specs.List.{list_all}
use Rattle.std.specs.Str.{bytes_eq}
use Rattle.mxf_tracks.specs.declared.container.Container.{Container}
use Rattle.mxf_tracks.specs.declared.package.FoundPackage.{FoundPackage}
use Rattle.mxf_tracks.specs.declared.package.PackageAt.{PackageAt}
use Rattle.mxf_tracks.specs.declared.package.PackageKind.{PackageKind}
use Rattle.mxf_tracks.specs.declared.package.PackageKind.TheVariants.{Material, Source}
use Rattle.mxf_clocks.specs.ClockTracks.{found_packages}

abbrev pub is_material : PackageKind → Bool
is_material Material = true
is_material Source = false

-- An identifier of zeros names no package.
abbrev pub is_zeros : List ℕ → Bool
is_zeros uid = list_all (λ b. b == 0) uid

abbrev pub has_identifier : List ℕ → FoundPackage → Bool
has_identifier uid p = bytes_eq p.properties.package_uid uid

-- Exactly one of the packages that are found has the identifier.
abbrev pub is_of_one : List PackageAt → List ℕ → Bool
is_of_one packages uid = count_by (has_identifier uid) (found_packages packages) == 1

-- The IndexSID of a container, if it is above 0.
abbrev pub index_in : Option Container → Option ℕ
index_in None = None
index_in (Some c) = if nat_lt 0 c.index_sid then Some c.index_sid else None

-- The IndexSID of a file package; none of any other package.
unfoldable pub file_index : List PackageAt → FoundPackage → Option ℕ
file_index packages f =
    let uid = f.properties.package_uid in
    if not (is_material f.kind) && not (is_zeros uid) && is_of_one packages uid then index_in f.container else None
