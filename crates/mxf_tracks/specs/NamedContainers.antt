-- Which streams hold the essence and the index of a package (ST 377-1, Essence Container Data set: one for each package
-- whose essence is in the file; that sets which differ tell none is this project's profile).
use Rattle.std.specs.Prelude.{◌≡◌, ℕ, true, List}
use Rattle.mxf_klv.specs.Parts.{NoteParts}
use Rattle.mxf_klv.specs.Rising.{In}
use Rattle.mxf_sets.specs.ContainerData.{ContainerDataParts, container_data_at}
use Rattle.mxf_views.specs.Readings.{IsReadAs}
use Rattle.mxf_tracks.specs.declared.container.Container.{Container}
use Rattle.mxf_tracks.specs.Keys.{is_container_data}

-- The set is Essence Container Data that can be read. Its LinkedPackageUID is that of the package, its BodySID and
-- IndexSID are those of the container.
pub record NamesContainer (n : NoteParts) (package_uid : List ℕ) (c : Container) : Type 0 where
  pub key : is_container_data n.key ≡ true
  pub stated : ContainerDataParts
  pub read : IsReadAs container_data_at n stated
  pub linked_package : stated.linked_package ≡ package_uid
  pub body_sid : c.body_sid ≡ stated.body_sid
  pub index_sid : c.index_sid ≡ stated.index_sid

-- At least one of the sets names the container for the package, and none names another.
pub record IsContainerOf (sets : List NoteParts) (package_uid : List ℕ) (c : Container) : Type 0 where
  pub note : NoteParts
  pub held : In note sets
  pub names : NamesContainer note package_uid c
  pub no_other : (n : NoteParts) (d : Container) → In n sets → NamesContainer n package_uid d → d ≡ c
