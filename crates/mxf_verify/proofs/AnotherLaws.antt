-- Whether a later reading is of another recording.
use Rattle.mxf_views.proofs.Common.{ap, subst, arith, cond, and_from, and_parts, false_from_ne_true, kind_of}
use Rattle.mxf_views.proofs.Common.{note_total, note_cmp-IsAntisymmetric, NoteParts, In, same_from_members, IsContent}
use Rattle.mxf_views.proofs.Common.{has_note, In-filter, length-filter_le, IsContent-filter}
use Rattle.mxf_klv.specs.declared.kinds.Kind.{Kind}
use Rattle.mxf_klv.specs.declared.kinds.Kind.TheVariants.{Essence}
use Rattle.std.specs.Prelude.{◌≡◌, ◌↔◌, ◌+◌, ◌<◌, ◌≤◌, ◌&&◌, Bool, true, false, IsTrue, List, [], ◌∷◌, filter, length}
use Rattle.std.specs.Prelude.{refl}
use Rattle.std.proofs.lemmas.Bool.{lt-ltb, ltb-true}
use Rattle.mxf_verify.specs.Opposing.{IsOpposed, is_had, is_opposed}
use Rattle.mxf_verify.specs.Renewing.{AreNotesWhere, IsDropped, IsEssence, IsOfAnother, dropped_essence, dropped_of}
use Rattle.mxf_verify.specs.Renewing.{had_essence, is_essence, is_essence_kind, is_of_another}
use Rattle.mxf_verify.proofs.OpposingLaws.{had-by_test}
use Rattle.mxf_verify.proofs.RenewalLaws.{In-dropped, IsContent-dropped}
use Rattle.mxf_verify.proofs.RenewalSteps.{not_opposed-dropped, opposed-dropped}

-- ---- the two sets

essence_kind : (k : Kind) → is_essence_kind k ≡ true → k ≡ Essence
essence_kind Essence e = refl
essence_kind _ e = absurd cc

kind_essence : (k : Kind) → k ≡ Essence → is_essence_kind k ≡ true
kind_essence k e = ap is_essence_kind e

dropped-where : (old new : List NoteParts) → IsContent old
    → AreNotesWhere (λ n. IsDropped old new n × IsEssence n) (dropped_essence old new)
dropped-where old new r = record {
  content = IsContent-filter is_essence _ (IsContent-dropped old new r);
  members = λ n.
      let f = In-filter is_essence (dropped_of old new) n in
      let d = In-dropped n old new in (
        λ i. let p = f.0 i in (d.0 p.0, essence_kind (kind_of n.key) p.1),
        λ p. f.1 (d.1 p.0, kind_essence (kind_of n.key) p.1),
      );
}

had-where : (old new : List NoteParts) → IsContent old
    → AreNotesWhere (λ n. In n old × has_note new n × IsEssence n) (had_essence old new)
had-where old new r = record {
  content = IsContent-filter (λ n. is_essence n && is_had n new) old r;
  members = λ n.
      let f = In-filter (λ m. is_essence m && is_had m new) old n in
      let h = had-by_test n new in (
        λ i.
            let p = f.0 i in
            let q = and_parts (is_essence n) (is_had n new) p.1 in (p.0, h.0 q.1, essence_kind (kind_of n.key) q.0),
        λ p. f.1 (p.0, and_from (is_essence n) (is_had n new) (kind_essence (kind_of n.key) p.2) (h.1 p.1)),
      );
}

one_where : (P : NoteParts → Type 0) (a b : List NoteParts) → AreNotesWhere P a → AreNotesWhere P b → a ≡ b
one_where P a b p q = same_from_members note_total note_cmp-IsAntisymmetric a b p.content q.content
    (λ n. (λ i. (q.members n).1 ((p.members n).0 i), λ i. (p.members n).1 ((q.members n).0 i)))

pub another-by_test : (old new : List NoteParts) → IsContent old → IsTrue (is_of_another old new) ↔ IsOfAnother old new
another-by_test old new r =
    let dropped = dropped-where old new r in
    let had = had-where old new r in (
      λ t. record {
        dropped = dropped_essence old new;
        had = had_essence old new;
        are_dropped = dropped;
        are_had = had;
        more = ltb-true _ _ t;
      },
      λ a.
          let d = one_where _ a.dropped (dropped_essence old new) a.are_dropped dropped in
          let h = one_where _ a.had (had_essence old new) a.are_had had in
          lt-ltb _ _ (subst (λ (l : List NoteParts). length l < length (dropped_essence old new)) h
          (subst (λ (l : List NoteParts). length a.had < length l) d a.more)),
    )

-- ---- one note and others

essence-by : (e h : Bool) (n : NoteParts) → h ≡ true → cond (e && h) (n ∷ []) [] ≡ cond e (n ∷ []) []
essence-by true true n t = refl
essence-by true false n t = cc
essence-by false h n t = refl

none-by : (e h : Bool) (n : NoteParts) → h ≡ false → cond (e && h) (n ∷ []) [] ≡ []
none-by true true n f = cc
none-by true false n f = refl
none-by false h n f = refl

-- a note that is opposed is dropped, one that is had isn't, and any other is neither
pub opposed-essence : (n : NoteParts) (new : List NoteParts) → IsOpposed n new
    → dropped_essence (n ∷ []) new ≡ filter is_essence (n ∷ [])
opposed-essence n new o = ap (λ l. filter is_essence l) (opposed-dropped n new o)

pub spared-essence : (n : NoteParts) (new : List NoteParts) → (IsOpposed n new → ⊥) → dropped_essence (n ∷ []) new ≡ []
spared-essence n new f = ap (λ l. filter is_essence l) (not_opposed-dropped n new f)

pub had-essence : (n : NoteParts) (new : List NoteParts) → has_note new n
    → had_essence (n ∷ []) new ≡ filter is_essence (n ∷ [])
had-essence n new h = essence-by (is_essence n) (is_had n new) n ((had-by_test n new).1 h)

pub lacked-essence : (n : NoteParts) (new : List NoteParts) → (has_note new n → ⊥) → had_essence (n ∷ []) new ≡ []
lacked-essence n new l =
    none-by (is_essence n) (is_had n new) n (false_from_ne_true (is_had n new) (λ t. l ((had-by_test n new).0 t)))

length-step : (b : Bool) (n : NoteParts) (xs : List NoteParts)
    → length (cond b (n ∷ xs) xs) ≡ length (cond b (n ∷ []) []) + length xs
length-step true n xs = omega arith
length-step false n xs = omega arith

-- one note more
pub dropped-step : (n : NoteParts) (rest new : List NoteParts) → length (dropped_essence (n ∷ rest) new)
    ≡ length (dropped_essence (n ∷ []) new) + length (dropped_essence rest new)
dropped-step n rest new = grind (arith, length-step)

pub had-step : (n : NoteParts) (rest new : List NoteParts)
    → length (had_essence (n ∷ rest) new) ≡ length (had_essence (n ∷ []) new) + length (had_essence rest new)
had-step n rest new = length-step (is_essence n && is_had n new) n (had_essence rest new)

-- one note counts once at most
pub dropped-one : (n : NoteParts) (new : List NoteParts) → length (dropped_essence (n ∷ []) new) ≤ 1
dropped-one n new = grind (arith, length-filter_le, is_essence, dropped_of, is_opposed)

pub had-one : (n : NoteParts) (new : List NoteParts) → length (had_essence (n ∷ []) new) ≤ 1
had-one n new = length-filter_le (λ m. is_essence m && is_had m new) (n ∷ [])
