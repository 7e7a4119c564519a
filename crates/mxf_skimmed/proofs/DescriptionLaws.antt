-- What the header metadata say of a skim is what they say of the reading.
use Rattle.mxf_findings.proofs.Common.{◌≡◌, ℕ, false, List, [], Option, Some, None, refl, ap, ◌∙◌, ◌==◌, find, map}
use Rattle.mxf_findings.proofs.Common.{if◌then◌else◌, option_map, NoteParts, clear_notes, kind_of, package_at}
use Rattle.mxf_findings.proofs.Common.{sets_of, ResolvedParts}
use Rattle.std.specs.Prelude.{unwrap_or}
use Rattle.std.specs.Option.{option_map_or}
use Rattle.mxf_klv.specs.Rising.{union}
use Rattle.mxf_views.proofs.NumbersLaws.{find_mapped}
use Rattle.mxf_references.specs.declared.reference.target.Ref.{Ref}
use Rattle.mxf_references.specs.declared.reference.target.Target.{Target}
use Rattle.mxf_references.specs.declared.reference.target.Target.TheVariants.{Missing, Several, WrongKind, Unreadable}
use Rattle.mxf_references.specs.declared.reference.target.Target.TheVariants.{Found}
use Rattle.mxf_tracks.specs.declared.package.PackageAt.{PackageAt}
use Rattle.mxf_tracks.specs.Targets.{is_reached, with_reached}
use Rattle.mxf_tracks.specs.Walk.{found_package, package_by, package_in, package_of, package_there, package_to}
use Rattle.mxf_tracks.specs.Walk.{packages_from, read_step, steps, tracks_in, unfollowed}
use Rattle.mxf_clocks.specs.Clocks.{clocks_of, runs_by, runs_of, teller}
use Rattle.mxf_clocks.specs.RunOrder.{run_cmp}
use Rattle.mxf_clocks.specs.TracksFor.{is_timed}
use Rattle.mxf_findings.specs.SameViews.{SameViews}
use Rattle.mxf_lines.specs.DescriptionLines.{clocks_said, description_lines, description_of, description_status}
use Rattle.mxf_lines.specs.DescriptionLines.{description_status_of, packages_said}
use Rattle.mxf_skimmed.specs.Skims.{NoneAlike, noted_beside, skim_beside}
use Rattle.mxf_skimmed.proofs.HeldLaws.{clear_skim}
use Rattle.mxf_skimmed.proofs.SkimmedNotes.{noted_is, read_same, says_same}
use Rattle.mxf_skimmed.proofs.ViewLaws.{skim_has_the_same_views}

-- clocks ask for the preferred copy and the segments
clocks_alike : (a b : List NoteParts) → SameViews a b → (packages : List PackageAt)
    → clocks_of a packages ≡ clocks_of b packages
unfolding runs_of
clocks_alike a b same packages = λ i. record {
  by = teller packages;
  runs = if option_map_or (λ c. c.finished) (same.preferred i) false
      then union run_cmp [] (runs_by (teller packages) (is_timed (same.segments i)) packages) else [];
}

module _ (saved : List NoteParts) where
  abbrev noted : NoteParts → NoteParts
  noted = noted_beside saved

  abbrev skim : List NoteParts → List NoteParts
  skim = skim_beside saved

  -- ---- packages

  package_same : (n : NoteParts) → package_in (noted n) ≡ package_in n
  unfolding package_in
  package_same n = ap package_in (noted_is saved n) ∙ read_same saved package_at n

  there_same : (sets : List NoteParts) (uid : List ℕ) (offset : ℕ) (reached : List ℕ) (o : Option NoteParts)
      → package_there sets uid offset reached (option_map noted o) ≡ package_there sets uid offset reached o
  there_same sets uid offset reached None = refl
  there_same sets uid offset reached (Some n) =
      let kind : kind_of (noted n).key ≡ kind_of n.key = says_same saved (λ x. kind_of x.key) n (λ held. refl) in
      λ i. read_step (package_to uid) (λ after p. found_package sets after (kind i) p) offset reached (package_same n i)

  found_there : (clear : List NoteParts) (offset : ℕ)
      → find (λ n. n.offset == offset) (map noted clear) ≡ option_map noted (find (λ n. n.offset == offset) clear)
  found_there clear offset =
      find_mapped (λ n. n.offset == offset) noted clear
      ∙ (λ i. option_map noted (find (λ n. says_same saved (λ x. x.offset == offset) n (λ held. refl) i) clear))

  by_same : (clear sets : List NoteParts) (uid reached : List ℕ) (target : Target)
      → package_by (map noted clear) sets uid reached target ≡ package_by clear sets uid reached target
  by_same clear sets uid reached Missing = refl
  by_same clear sets uid reached Several = refl
  by_same clear sets uid reached (WrongKind offset) = refl
  by_same clear sets uid reached (Unreadable offset) = refl
  by_same clear sets uid reached (Found offset) =
      let after = with_reached offset reached in
      let there : package_there sets uid offset after (find (λ n. n.offset == offset) (map noted clear))
      ≡ package_there sets uid offset after (find (λ n. n.offset == offset) clear) =
      ap (package_there sets uid offset after) (found_there clear offset)
      ∙ there_same sets uid offset after (find (λ n. n.offset == offset) clear) in
      λ i. if is_reached offset reached then (unfollowed uid (Found offset), reached) else there i

  package_of_same : (clear sets : List NoteParts) (reached : List ℕ) (r : Ref)
      → package_of (map noted clear) sets reached r ≡ package_of clear sets reached r
  unfolding package_of
  package_of_same clear sets reached r = by_same clear sets r.uid reached r.target

  module _ (notes : List NoteParts) (apart : NoneAlike notes) where
    clear : clear_notes (skim notes) ≡ map noted (clear_notes notes)
    clear = clear_skim saved notes apart

    same : SameViews (skim notes) notes
    same = skim_has_the_same_views saved notes clear

    tracks_same : (r : ResolvedParts) → tracks_in (skim notes) r ≡ tracks_in notes r
    tracks_same r =
        (λ i. (packages_from (clear i) (same.sets r.partition i) [] r.packages).0)
        ∙ (λ i. (steps (λ reached ref. package_of_same (clear_notes notes) (sets_of notes r.partition) reached ref i)
        [] r.packages).0)

    packages_same : packages_said (skim notes) ≡ packages_said notes
    packages_same = λ i. option_map (λ r. tracks_same r i) (same.resolved i)

    clocks_same : clocks_said (skim notes) ≡ clocks_said notes
    clocks_same = λ i. option_map (λ packages. clocks_alike (skim notes) notes same packages i) (packages_same i)

    pub skim_is_described_the_same : description_lines (skim notes) ≡ description_lines notes
    skim_is_described_the_same = λ i.
        description_of (same.preferred i) (same.resolved i) (unwrap_or (packages_same i) []) (clocks_same i)

    pub description_has_the_same_status : description_status (skim notes) ≡ description_status notes
    description_has_the_same_status = λ i.
        description_status_of (same.preferred i) (same.resolved i) (unwrap_or (packages_same i) [])
