-- The sets of a copy that can't be read, by where they stand.
use Rattle.mxf_views.proofs.Common.{◌≡◌, ◌∙◌, ℕ, Bool, true, false, List, ap, refl, sym, ◌↔◌, ◌&&◌, filter, not}
use Rattle.mxf_views.proofs.Common.{kind_of, keeps_value, NoteParts, In, IsRising, IsContent, IsClear, In-clear_notes}
use Rattle.mxf_views.proofs.Common.{clear-alone, AreApart-filter, In-filter, In-map}
use Rattle.std.proofs.Common.{nat_cmp}
use Rattle.mxf_klv.specs.declared.kinds.Kind.{Kind}
use Rattle.mxf_references.specs.declared.reference.target.Wanted.{Wanted}
use Rattle.mxf_references.specs.declared.reference.target.Wanted.TheVariants.{Storage, Identification, Package}
use Rattle.mxf_views.specs.Copies.{sets_of}
use Rattle.mxf_references.specs.Identified.{unreadable_offsets}
use Rattle.mxf_references.specs.Targets.{fits, target_at, is_readable}
use Rattle.mxf_catalogue.proofs.MovedLaws.{rising_apart}
use Rattle.mxf_references.specs.Readable.{is_unreadable, reads_value}
use Rattle.mxf_views.proofs.CopyLaws.{sets_apart}
use Rattle.mxf_references.proofs.FoundLaws.{only_at, target_by}
use Rattle.mxf_references.proofs.OnlyFound.{sets_are_clear}
use Rattle.mxf_klv.specs.declared.kinds.Kind.TheVariants as kinds

pub unreadable_rise : (notes : List NoteParts) (partition : ℕ) → IsContent notes
    → IsRising nat_cmp (unreadable_offsets (sets_of notes partition))
unreadable_rise notes partition r =
    let sets = sets_of notes partition in
    rising_apart 0 (filter is_unreadable sets) (AreApart-filter is_unreadable 0 sets (sets_apart notes partition r))

-- A set of the copy is one of them where its offset is one of theirs.
pub unreadable_there : (notes : List NoteParts) (partition : ℕ) (n : NoteParts) → In n (sets_of notes partition)
    → In n.offset (unreadable_offsets (sets_of notes partition)) ↔ (is_unreadable n ≡ true)
unreadable_there notes partition n h =
    let sets = sets_of notes partition in
    let m = In-map (λ (m : NoteParts). m.offset) (filter is_unreadable sets) n.offset in
    let f = λ (m : NoteParts). In-filter is_unreadable sets m in
    let clear : (m : NoteParts) → In m sets → IsClear m notes =
    λ m i. (In-clear_notes m notes).0 (sets_are_clear notes partition m i) in (
      λ i.
          let s = m.0 i in
          let k = (f s.0).0 s.1 in
          let same = clear-alone s.0 n notes (clear s.0 k.0) (clear n h).held (sym s.2) in
          ap is_unreadable (sym same) ∙ k.1,
      λ t. m.1 (n, (f n).1 (h, t), refl),
    )

-- A set of the kind that references name is read as they want it.
reads_as_wanted : (wanted : Wanted) (kind : Kind) (bytes : List ℕ) → fits wanted kind ≡ true
    → reads_value kind bytes ≡ is_readable wanted bytes
reads_as_wanted Storage kinds.ContentStorage bytes e = refl
reads_as_wanted Storage _ bytes e = absurd cc
reads_as_wanted Identification kinds.Identification bytes e = refl
reads_as_wanted Identification _ bytes e = absurd cc
reads_as_wanted Package kinds.MaterialPackage bytes e = refl
reads_as_wanted Package kinds.SourcePackage bytes e = refl
reads_as_wanted Package _ bytes e = absurd cc

if_unreadable : (b : Bool) (r : Bool) → r ≡ not b → b ≡ not r
if_unreadable true r e = sym (ap not e)
if_unreadable false r e = sym (ap not e)

wanted_by_kind : (wanted : Wanted) (n : NoteParts) → fits wanted (kind_of n.key) ≡ true
    → (keeps_value n && is_readable wanted n.held) ≡ not (is_unreadable n)
wanted_by_kind wanted n e = ap (λ b. keeps_value n && b) (sym (reads_as_wanted wanted (kind_of n.key) n.held e))
    ∙ if_unreadable (keeps_value n && reads_value (kind_of n.key) n.held) (is_unreadable n) refl

-- So that tells what the set is to a reference that names its kind.
pub judged : (wanted : Wanted) (n : NoteParts) → fits wanted (kind_of n.key) ≡ true → (u : Bool) → is_unreadable n ≡ u
    → target_at wanted n ≡ target_by true (not u) n.offset
judged wanted n e u h = only_at wanted n true (not u) e (wanted_by_kind wanted n e ∙ ap not h)
