-- What the bytes that were read of a part tell of all that its reader gives.
use Rattle.mxf_views.proofs.Common.{◌≡◌, ℕ, ◌+◌, ◌<◌, ◌≤◌, List, [], ◌∷◌, ◌++◌, length, take, Option, Some, None, refl}
use Rattle.mxf_views.proofs.Common.{sym, ap, subst, ◌∙◌, arith, append-nil, length-take, take_all, NoteParts, notes_in}
use Rattle.mxf_views.proofs.Common.{reduced_union, IsFileOf, New, Read, Absorb}
use Rattle.std.specs.Prelude.{IfSome, IsSome, unwrap_or}
use Rattle.mxf_catalogue.specs.CatalogueFile.{IsRefused}
use Rattle.mxf_catalogue.specs.declared.catalogue.file.FileFault.{FileFault}
use Rattle.mxf_read.specs.declared.report.Report.{Report}
use Rattle.mxf_read.specs.Absorbs.{report_of}
use Rattle.mxf_read.specs.declared.gathering.part.Part.TheVariants.{Piece, Saved}
use Rattle.mxf_read.specs.declared.gathering.report.PieceReport.{PieceReport}
use Rattle.mxf_read.specs.declared.gathering.fault.PartFault.{PartFault}
use Rattle.mxf_read.specs.Levels.{Adds}
use Rattle.mxf_read.specs.Gathering.{IsSavedAs, IsSavedFault, TakesPart, Tells, bytes_of, piece_limit, piece_of}
use Rattle.mxf_read.specs.Gathering.{saved_limit}

pub too_long : (o : Option (List ℕ)) (v : List ℕ) → IfSome o (λ all. v ≡ take (saved_limit + 1) all)
    → saved_limit < length v → IfSome o (λ all. saved_limit < length all)
too_long None v h l = tt
too_long (Some all) v h l = omega (arith, ap length h, length-take (saved_limit + 1) all)

pub whole : (o : Option (List ℕ)) (v : List ℕ) → IfSome o (λ all. v ≡ take (saved_limit + 1) all)
    → length v ≤ saved_limit → IfSome o (λ all. (length all ≤ saved_limit) × (v ≡ all))
whole None v h l = tt
whole (Some all) v h l =
    let short : length all ≤ saved_limit = omega (arith, ap length h, length-take (saved_limit + 1) all) in
    (short, h ∙ take_all (saved_limit + 1) all (omega arith))

pub saved_read : (o : Option (List ℕ)) (v bytes : List ℕ) (notes : List NoteParts)
    → IfSome o (λ all. (length all ≤ saved_limit) × (v ≡ all)) → bytes ≡ v → IsFileOf bytes notes
    → IfSome o (λ all. IsSavedAs all notes)
saved_read None v bytes notes h e f = tt
saved_read (Some all) v bytes notes h e f = (h.0, subst (λ (t : List ℕ). IsFileOf t notes) (e ∙ h.1) f)

pub saved_refused : (o : Option (List ℕ)) (v bytes : List ℕ) (fault : FileFault) (told : PartFault)
    → IfSome o (λ all. (length all ≤ saved_limit) × (v ≡ all)) → bytes ≡ v → IsRefused bytes fault
    → ((t : List ℕ) → length t ≤ saved_limit → IsRefused t fault → IsSavedFault t told)
    → IfSome o (λ all. IsSavedFault all told)
saved_refused None v bytes fault told h e f says = tt
saved_refused (Some all) v bytes fault told h e f says =
    says all h.0 (subst (λ (t : List ℕ). IsRefused t fault) (e ∙ h.1) f)

-- a saved part was taken
pub saved_taken : {R : Type 0} (left : R → Option (List ℕ)) (from : R) (old new : List (List NoteParts))
    (number : ℕ) (notes : List NoteParts) (reports : List PieceReport) → IfSome (left from) (λ all. IsSavedAs all notes)
    → Adds old notes new → Tells left (Saved from) → TakesPart left number (Saved from) old new reports reports
saved_taken left from old new number notes reports h a t =
    let k = known (left from) h t in
    record {
      notes = notes;
      left_by = (Read (bytes_of left from) notes k.1, (from, refl, refl), refl);
      added = a;
      reported = sym (append-nil reports);
      good = (notes, k);
    }
  where
    known : (o : Option (List ℕ)) → IfSome o (λ all. IsSavedAs all notes) → IsSome o → IsSavedAs (unwrap_or o []) notes
    known None h t = absurd cc
    known (Some all) h t = h

-- a piece was taken
pub piece_taken : {R : Type 0} (left : R → Option (List ℕ)) (part offset : ℕ) (from : R)
    (old new : List (List NoteParts)) (notes : List NoteParts) (report : Report) (reports more : List PieceReport)
    → IfSome (left from) (λ all. notes ≡ reduced_union [] (notes_in offset (take piece_limit all)))
    → IfSome (left from) (λ all. report ≡ report_of offset (take piece_limit all))
    → Adds old notes new → more ≡ reports ++ record { part = part; offset = offset; report = report } ∷ []
    → Tells left (Piece offset from) → TakesPart left part (Piece offset from) old new reports more
piece_taken left part offset from old new notes report reports more h r a m t =
    let k = known (left from) h t in
    let s = reported (left from) r t in
    record {
      notes = notes;
      left_by = (Absorb New offset (piece_of left from), ([], Piece offset from, refl, (refl, refl), refl), k);
      added = a;
      reported = m ∙ ap (λ (x : Report). reports ++ record { part = part; offset = offset; report = x } ∷ []) s;
      good = tt;
    }
  where
    known : (o : Option (List ℕ)) → IfSome o (λ all. notes ≡ reduced_union [] (notes_in offset (take piece_limit all)))
        → IsSome o → notes ≡ reduced_union [] (notes_in offset (take piece_limit (unwrap_or o [])))
    known None h t = absurd cc
    known (Some all) h t = h

    reported : (o : Option (List ℕ)) → IfSome o (λ all. report ≡ report_of offset (take piece_limit all))
        → IsSome o → report ≡ report_of offset (take piece_limit (unwrap_or o []))
    reported None h t = absurd cc
    reported (Some all) h t = h
