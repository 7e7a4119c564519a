-- What is shown by the functions that choose is shown by the relations of choices.
use Rattle.mxf_views.proofs.Common.{◌↔◌, ℕ, List, NoteParts, SegmentAtParts, refl, segments_of, subst, sym}
use Rattle.mxf_tracks.specs.declared.package.PackageAt.{PackageAt}
use Rattle.mxf_tracks.specs.declared.package.PackageKind.{PackageKind}
use Rattle.mxf_tracks.specs.declared.package.PackageKind.TheVariants.{Material, Source}
use Rattle.mxf_clocks.specs.Clocks.{clocks_of, teller}
use Rattle.mxf_clocks.specs.Shown.{IsShown, IsShownBy, IsShownByClip, IsShownByFile}
use Rattle.mxf_clocks.specs.TracksFor.{is_timed}
use Rattle.mxf_clocks.proofs.ChoiceLaws.{clip-is, clock-is, component-is, finished-is, index-is, origin-is, own-is}
use Rattle.mxf_clocks.proofs.ChoiceLaws.{teller-is, track-is}
use Rattle.mxf_clocks.proofs.FoundShown.{IsFoundBy, IsFoundByClip, IsFoundByFile}
use Rattle.mxf_clocks.proofs.ShownLaws.{Tells, found-is}

module _ (segments : List SegmentAtParts) (packages : List PackageAt) (index_sid position number : ℕ) where
  clip_to : IsFoundByClip (is_timed segments) packages index_sid position number
      → IsShownByClip segments packages index_sid position number
  clip_to s = record {
    material = s.material;
    material_found = s.material_found;
    kind = s.kind;
    clock = s.clock;
    tells = (clock-is s.material.tracks s.clock).0 s.tells;
    file = s.file;
    index = (index-is packages s.file index_sid).0 (s.file_found, s.index);
    track = s.track;
    track_is = (track-is segments index_sid s.clock.rate s.file.properties.package_uid s.material.tracks s.track).0
        s.track_is;
    component = s.component;
    held = (component-is s.track s.component).0 s.held;
    started = s.started;
    clip_is = (clip-is s.file.properties.package_uid s.component s.started).0 s.clip_is;
    origin = s.origin;
    origin_is = (origin-is s.file.tracks s.started.clip.source_track s.track.track.edit_rate s.origin).0 s.origin_is;
    units = s.units;
    behind = s.behind;
    in_clip = s.in_clip;
    in_time = s.in_time;
    stands = s.stands;
  }

  clip_from : IsShownByClip segments packages index_sid position number
      → IsFoundByClip (is_timed segments) packages index_sid position number
  clip_from s =
      let file = (index-is packages s.file index_sid).1 s.index in
      record {
        material = s.material;
        material_found = s.material_found;
        kind = s.kind;
        clock = s.clock;
        tells = (clock-is s.material.tracks s.clock).1 s.tells;
        file = s.file;
        file_found = file.0;
        index = file.1;
        track = s.track;
        track_is = (track-is segments index_sid s.clock.rate s.file.properties.package_uid s.material.tracks s.track).1
            s.track_is;
        component = s.component;
        held = (component-is s.track s.component).1 s.held;
        started = s.started;
        clip_is = (clip-is s.file.properties.package_uid s.component s.started).1 s.clip_is;
        origin = s.origin;
        origin_is = (origin-is s.file.tracks s.started.clip.source_track s.track.track.edit_rate s.origin).1
            s.origin_is;
        units = s.units;
        behind = s.behind;
        in_clip = s.in_clip;
        in_time = s.in_time;
        stands = s.stands;
      }

  file_to : IsFoundByFile (is_timed segments) packages index_sid position number
      → IsShownByFile segments packages index_sid position number
  file_to s = record {
    file = s.file;
    index = (index-is packages s.file index_sid).0 (s.file_found, s.index);
    clock = s.clock;
    tells = (clock-is s.file.tracks s.clock).0 s.tells;
    track = s.track;
    track_is = (own-is segments index_sid s.clock.rate s.file.tracks s.track).0 s.track_is;
    units = s.units;
    behind = s.behind;
    in_time = s.in_time;
    stands = s.stands;
  }

  file_from : IsShownByFile segments packages index_sid position number
      → IsFoundByFile (is_timed segments) packages index_sid position number
  file_from s =
      let file = (index-is packages s.file index_sid).1 s.index in
      record {
        file = s.file;
        file_found = file.0;
        index = file.1;
        clock = s.clock;
        tells = (clock-is s.file.tracks s.clock).1 s.tells;
        track = s.track;
        track_is = (own-is segments index_sid s.clock.rate s.file.tracks s.track).1 s.track_is;
        units = s.units;
        behind = s.behind;
        in_time = s.in_time;
        stands = s.stands;
      }

  by_to : (k : PackageKind) → IsFoundBy k (is_timed segments) packages index_sid position number
      → IsShownBy k segments packages index_sid position number
  by_to Material s = clip_to s
  by_to Source s = file_to s

  by_from : (k : PackageKind) → IsShownBy k segments packages index_sid position number
      → IsFoundBy k (is_timed segments) packages index_sid position number
  by_from Material s = clip_from s
  by_from Source s = file_from s

pub shown-is : (notes : List NoteParts) (packages : List PackageAt) (index_sid position number : ℕ)
    → IsShown notes packages index_sid position number
    ↔ Tells (clocks_of notes packages).runs index_sid position number
shown-is notes packages index_sid position number =
    let segments = segments_of notes in
    let runs = found-is notes packages index_sid position number in (
      λ s.
          let by = by_from segments packages index_sid position number s.teller s.by in
          runs.0 (record {
            finished = (finished-is notes).1 s.finished;
            by = subst (λ k. IsFoundBy k (is_timed segments) packages index_sid position number)
                (sym ((teller-is packages s.teller).1 s.teller_is)) by;
          }),
      λ t.
          let f = runs.1 t in
          record {
            finished = (finished-is notes).0 f.finished;
            teller = teller packages;
            teller_is = (teller-is packages (teller packages)).0 refl;
            by = by_to segments packages index_sid position number (teller packages) f.by;
          },
    )
