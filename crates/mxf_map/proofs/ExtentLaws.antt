-- Maximal ranges of offsets that stand alike.
use Rattle.mxf_views.proofs.Common.{◌≡◌, ◌≢◌, ◌↔◌, ◌⊎◌, ◌<◌, ◌≤◌, ◌+◌, ◌-◌, ℕ, Bool, true, false, List, [], ◌∷◌}
use Rattle.mxf_views.proofs.Common.{Some, arith, ap, filter, if◌then◌else◌, inl, inr, nat_lt, refl, subst, sym, ◌∙◌}
use Rattle.mxf_views.proofs.Common.{cases_lt, and_from, and_parts, In-filter, same_bool, In, is_between, Covers}
use Rattle.mxf_views.proofs.Common.{AreMaximal, LiesIn, starts_above, AreMaximal-lower}
use Rattle.mxf_catalogue.specs.declared.run.Run.{Run}
use Rattle.std.proofs.lemmas.Bool.{ltb-true, lt-ltb}
use Rattle.mxf_places.specs.AtHand.{KnownParts, has_offset}
use Rattle.mxf_places.specs.Held.{AreDisputed, IsDisputedAt, IsHeld, is_disputed_at, is_held}
use Rattle.mxf_places.proofs.AtHandLaws.{has_offset-says}
use Rattle.mxf_places.proofs.HeldLaws.{is_disputed_at-says, is_held-says}
use Rattle.mxf_map.specs.Extents.{AreExtents, IsExtent, IsExtentFrom, IsOfExtent, StandsAs, standing_at}
use Rattle.mxf_map.specs.declared.extent.ByteStanding.{ByteStanding}
use Rattle.mxf_map.specs.declared.extent.ByteStanding.TheVariants.{Disputed, Held, Hand, Missing}
use Rattle.mxf_map.specs.declared.extent.MapExtent.{MapExtent}

-- ---- how a byte stands

same_number : (a b : ℕ) → (a < b → ⊥) → (b < a → ⊥) → a ≡ b
same_number a b not_below not_above = grind (arith, cases_lt)

-- ---- where a cover changes

kept_or_not : (b : Bool) (low : ℕ) (r : Run) (rest : List Run) → low ≤ r.start → r.start < r.end
    → AreMaximal (r.end + 1) rest → AreMaximal low (if b then r ∷ rest else rest)
kept_or_not true low r rest above some m = (above, some, m)
kept_or_not false low r rest above some m = AreMaximal-lower low (r.end + 1) rest (omega (arith, above, some)) m

kept_maximal : (p : Run → Bool) (low : ℕ) (runs : List Run) → AreMaximal low runs → AreMaximal low (filter p runs)
kept_maximal p low [] m = tt
kept_maximal p low (r ∷ runs) m = kept_or_not (p r) low r (filter p runs) m.0 m.1 (kept_maximal p (r.end + 1) runs m.2)

-- a run that ends above an offset and begins below another is between the two
between-of : (from end : ℕ) (r : Run) → from < r.end → r.start < end → is_between from (Some end) r ≡ true
between-of from end r above below =
    and_from (nat_lt from r.end) (nat_lt r.start end) (lt-ltb from r.end above) (lt-ltb r.start end below)

between-parts : (from end : ℕ) (r : Run) → is_between from (Some end) r ≡ true → (from < r.end) × (r.start < end)
between-parts from end r b =
    let p = and_parts (nat_lt from r.end) (nat_lt r.start end) b in (ltb-true from r.end p.0, ltb-true r.start end p.1)

-- the runs between two offsets, none or some
module _ (runs : List Run) (m : AreMaximal 0 runs) (from end : ℕ) where
  abbrev pub kept : List Run
  kept = filter (is_between from (Some end)) runs

  -- of a run that has an offset there, one is kept
  lies_in-kept : (x : ℕ) → from ≤ x → x < end → LiesIn runs x → LiesIn kept x
  lies_in-kept x above below (r, i, w) = grind (arith, In-filter, between-of)

  kept-lies_in : (x : ℕ) → LiesIn kept x → LiesIn runs x
  kept-lies_in x (r, i, w) = (r, ((In-filter (is_between from (Some end)) runs r).0 i).0, w)

  pub first-kept : (r : Run) (rest : List Run) → kept ≡ r ∷ rest → (from < r.end) × (r.start < end)
  first-kept r rest e =
      let i : In r kept = subst (In r) (sym e) (inl refl) in
      between-parts from end r ((In-filter (is_between from (Some end)) runs r).0 i).1

  -- no offset lies in a run if none is kept
  pub none-lies : kept ≡ [] → (x : ℕ) → from ≤ x → x < end → LiesIn runs x → ⊥
  none-lies e x above below h = let k = lies_in-kept x above below h in absurd (subst (In k.0) e k.1)

  -- nor one before the first that is kept
  pub none-before : (r : Run) (rest : List Run) → kept ≡ r ∷ rest → (x : ℕ) → from ≤ x → x < end → x < r.start
      → LiesIn runs x → ⊥
  none-before r rest e x above below before h =
      let k = lies_in-kept x above below h in
      let i : In k.0 (r ∷ rest) = subst (In k.0) e k.1 in
      let max : AreMaximal 0 (r ∷ rest) = subst (AreMaximal 0) e (kept_maximal (is_between from (Some end)) 0 runs m) in
      let begun : k.0.start ≤ x = k.2.from in
      elim i [
        | inl same ↦ let s = ap (λ (q : Run). q.start) same in omega (arith, s, begun, before)
        | inr other ↦
            let far = starts_above (r.end + 1) rest k.0 max.2 other in
            let some : r.start < r.end = max.1 in omega (arith, far, some, begun, before)
      ]

  -- but all of it do
  pub all-within : (r : Run) (rest : List Run) → kept ≡ r ∷ rest → (x : ℕ) → r.start ≤ x → x < r.end → LiesIn runs x
  all-within r rest e x above below =
      kept-lies_in x (subst (λ (l : List Run). LiesIn l x) (sym e) (
        r,
        inl refl,
        record { from = above; before = omega (arith, below) },
      ))

-- ---- how bytes stand

pub standing-same : (known : KnownParts) (x y : ℕ) (disputed spans : List Run) → AreDisputed known.notes disputed
    → Covers spans known.notes → (LiesIn disputed x ↔ LiesIn disputed y) → (LiesIn spans x ↔ LiesIn spans y)
    → (LiesIn known.at.hand x ↔ LiesIn known.at.hand y) → standing_at known x ≡ standing_at known y
standing-same known x y disputed spans are cover d h k =
    let notes = known.notes in
    let dx = is_disputed_at-says notes x in
    let dy = is_disputed_at-says notes y in
    let hx = is_held-says notes x in
    let hy = is_held-says notes y in
    let kx = has_offset-says known.at.hand x in
    let ky = has_offset-says known.at.hand y in
    let first : is_disputed_at notes x ≡ is_disputed_at notes y = same_bool _ _
    (λ t. dy.1 ((are y).0 (d.0 ((are x).1 (dx.0 t))))) (λ t. dx.1 ((are x).0 (d.1 ((are y).1 (dy.0 t))))) in
    let second : is_held notes x ≡ is_held notes y = same_bool _ _
    (λ t. hy.1 ((cover y).0 (h.0 ((cover x).1 (hx.0 t))))) (λ t. hx.1 ((cover x).0 (h.1 ((cover y).1 (hy.0 t))))) in
    let third : has_offset known.at.hand x ≡ has_offset known.at.hand y = same_bool _ _
    (λ t. ky.1 (k.0 (kx.0 t))) (λ t. kx.1 (k.1 (ky.0 t))) in
    λ i. if first i then Disputed else (if second i then Held else (if third i then Hand else Missing))

-- a disputed byte is held
disputed-held : (known : KnownParts) (x : ℕ) → IsDisputedAt known.notes x → IsHeld known.notes x
disputed-held known x (n, i, d, c) = (n, i, c)

pub standing-says : (known : KnownParts) (x : ℕ) (s : ByteStanding) → (standing_at known x ≡ s) ↔ StandsAs known x s
standing-says known x s = grind (arith, is_disputed_at-says, is_held-says, has_offset-says, disputed-held)

-- ---- the maximal ranges

module _ (stands : ℕ → ByteStanding) (end : ℕ) where
  -- what stands before an offset: nothing, or a byte that stands otherwise than that at the offset
  abbrev Begins : ℕ → Type 0
  Begins from = (from ≡ 0) ⊎ ((x : ℕ) × (x + 1 ≡ from) × ((from ≡ end) ⊎ (stands x ≢ stands from)))

  is_extent : (from : ℕ) (e : MapExtent) → Begins from → IsExtentFrom stands end from e → IsExtent stands end e
  is_extent from e begins i = grind arith

  begins-next : (from : ℕ) (e : MapExtent) → IsExtentFrom stands end from e → Begins e.end
  begins-next from e i = grind arith

  members : (from : ℕ) (es : List MapExtent) (e : MapExtent) → Begins from → AreExtents stands end from es → In e es
      → IsExtent stands end e
  members from [] e begins are h = absurd h
  members from (d ∷ es) e begins are (inl same) = subst (IsExtent stands end) (sym same) (is_extent from d begins are.0)
  members from (d ∷ es) e begins are (inr h) = members d.end es e (begins-next from d are.0) are.1 h

  pub extent-members : (es : List MapExtent) (e : MapExtent) → AreExtents stands end 0 es → In e es
      → IsExtent stands end e
  extent-members es e are h = members 0 es e (inl refl) are h

  offsets : (from : ℕ) (es : List MapExtent) (x : ℕ) → AreExtents stands end from es → from ≤ x → x < end
      → (e : MapExtent) × In e es × IsOfExtent e x
  offsets from [] x are above below = absurd (let all : end ≤ from = are in omega (arith, all, above, below))
  offsets from (e ∷ es) x are above below =
      elim (cases_lt x e.end) [
        | inl before ↦ let start = are.0.start in (
          e,
          inl refl,
          record { above = omega (arith, start, above); below = before },
        )
        | inr behind ↦ let s = offsets e.end es x are.1 behind below in (s.0, inr s.1, s.2)
      ]

  pub extent-offsets : (es : List MapExtent) (x : ℕ) → AreExtents stands end 0 es → x < end
      → (e : MapExtent) × In e es × IsOfExtent e x
  extent-offsets es x are below = offsets 0 es x are (omega arith) below

  -- two maximal ranges with one offset are one
  alike : (x : ℕ) (d e : MapExtent) → IsExtent stands end d → IsExtent stands end e → IsOfExtent d x → IsOfExtent e x
      → d.standing ≡ e.standing
  alike x d e i j o p = sym (i.same x o) ∙ j.same x p

  starts : (x : ℕ) (d e : MapExtent) → IsExtent stands end d → IsExtent stands end e → IsOfExtent d x → IsOfExtent e x
      → d.start < e.start → ⊥
  starts x d e i j o p before = grind (arith, alike)

  ends : (x : ℕ) (d e : MapExtent) → IsExtent stands end d → IsExtent stands end e → IsOfExtent d x → IsOfExtent e x
      → d.end < e.end → ⊥
  ends x d e i j o p before =
      elim i.last [
        | inl last ↦ let within = j.within in omega (arith, last, within, before)
        | inr other ↦
            let above = p.above in
            let below = o.below in
            other (j.same d.end (record { above = omega (arith, above, below); below = before })
            ∙ sym (alike x d e i j o p))
      ]

  pub extent-alone : (x : ℕ) (d e : MapExtent) → IsExtent stands end d → IsExtent stands end e → IsOfExtent d x
      → IsOfExtent e x → d ≡ e
  extent-alone x d e i j o p =
      let start = same_number d.start e.start (starts x d e i j o p) (starts x e d j i p o) in
      let stop = same_number d.end e.end (ends x d e i j o p) (ends x e d j i p o) in
      let standing = alike x d e i j o p in λ k. record { start = start k; end = stop k; standing = standing k }

  pub members-extent : (es : List MapExtent) (e : MapExtent) → AreExtents stands end 0 es → IsExtent stands end e
      → In e es
  members-extent es e are i =
      let some = i.some in
      let within = i.within in
      let s = extent-offsets es e.start are (omega (arith, some, within)) in
      let own : IsOfExtent e e.start = record { above = omega arith; below = some } in
      subst (λ (d : MapExtent). In d es) (extent-alone e.start s.0 e (extent-members es s.0 are s.1) i s.2 own) s.1

  -- there is one list of them
  next-same : (from : ℕ) (d e : MapExtent) → IsExtentFrom stands end from d → IsExtentFrom stands end from e
      → d.end < e.end → ⊥
  next-same from d e i j before = grind arith

  one_from : (from : ℕ) (a b : List MapExtent) → AreExtents stands end from a → AreExtents stands end from b → a ≡ b
  one_from from [] [] p q = refl
  one_from from [] (e ∷ b) p q = absurd (let all : end ≤ from = p in let some = q.0.some in let within = q.0.within in
      omega (arith, all, some, within))
  one_from from (d ∷ a) [] p q = absurd (let all : end ≤ from = q in let some = p.0.some in let within = p.0.within in
      omega (arith, all, some, within))
  one_from from (d ∷ a) (e ∷ b) p q =
      let start = p.0.start ∙ sym q.0.start in
      let stop = same_number d.end e.end (next-same from d e p.0 q.0) (next-same from e d q.0 p.0) in
      let standing = sym (p.0.same from (omega arith) p.0.some) ∙ q.0.same from (omega arith) q.0.some in
      let first : d ≡ e = λ k. record { start = start k; end = stop k; standing = standing k } in
      let others : a ≡ b = one_from d.end a b p.1 (subst (λ (x : ℕ). AreExtents stands end x b) (sym stop) q.1) in
      λ k. first k ∷ others k

  pub one_list_of_extents : (a b : List MapExtent) → AreExtents stands end 0 a → AreExtents stands end 0 b → a ≡ b
  one_list_of_extents a b p q = one_from 0 a b p q

-- ranges go on with one that begins where they have come
pub extents_go_on : (stands : ℕ → ByteStanding) (end from : ℕ) (e : MapExtent) (rest : List MapExtent)
    → e.standing ≡ stands e.start → e.start < e.end → e.end ≤ end
    → ((x : ℕ) → e.start ≤ x → x < e.end → stands x ≡ stands e.start)
    → (e.end ≡ end) ⊎ (stands e.end ≢ stands e.start) → e.start ≡ from → AreExtents stands end e.end rest
    → AreExtents stands end from (e ∷ rest)
extents_go_on stands end from e rest standing some within same last start go = grind arith
