-- The extents of sources one after another.
use Rattle.std.proofs.Common.{◌≡◌, ◌+◌, ◌<◌, ℕ, List, [], ◌∷◌, ◌++◌, false, length, get_or, take, subst, sym}
use Rattle.std.proofs.Common.{Result, Ok, Err, true, if◌then◌else◌, refl, ap, ◌∙◌, is_ok, is_err}
use Rattle.mxf_views.proofs.Common.{take_more}
use Rattle.mxf_hand.specs.declared.given.Extent.{Extent}
use Rattle.mxf_saving.specs.declared.source.Source.{Source}
use Rattle.mxf_sources.specs.Ranges.{AreExtentsOf, IsExtentOf}

pub extents_push : (sources : List Source) (extents : List Extent) (s : Source) (e : Extent)
    → AreExtentsOf sources extents → IsExtentOf s e → AreExtentsOf (sources ++ s ∷ []) (extents ++ e ∷ [])
extents_push [] [] s e are is = (is, tt)
extents_push [] (x ∷ extents) s e are is = absurd are
extents_push (t ∷ sources) [] s e are is = absurd are
extents_push (t ∷ sources) (x ∷ extents) s e are is = (are.0, extents_push sources extents s e are.1 is)

-- One source more was opened.
pub extents_next : (sources : List Source) (i : ℕ) (d : Source) (extents more : List Extent) (e : Extent)
    → i < length sources → more ≡ extents ++ e ∷ [] → IsExtentOf (get_or sources i d) e
    → AreExtentsOf (take i sources) extents → AreExtentsOf (take (i + 1) sources) more
extents_next sources i d extents more e within added is are =
    subst (λ (s : List Source). AreExtentsOf s more) (sym (take_more sources i d within))
    (subst (λ (l : List Extent). AreExtentsOf (take i sources ++ get_or sources i d ∷ []) l) (sym added)
    (extents_push (take i sources) extents (get_or sources i d) e are is))

-- What is no fault is a success.
is_ok_unless : {A E : Type 0} (r : Result A E) → is_err r ≡ false → is_ok r ≡ true
is_ok_unless (Ok a) f = refl
is_ok_unless (Err e) f = sym f

pub pushed : {A E : Type 0} (r : Result A E) (extents more : List Extent) (e : Extent) → is_err r ≡ false
    → more ≡ (if is_ok r then extents ++ e ∷ [] else extents) → more ≡ extents ++ e ∷ []
pushed r extents more e f added =
    added ∙ ap (λ ok. if ok then extents ++ e ∷ [] else extents) (is_ok_unless r f)
