-- Rows of units that miss their packets.
use Rattle.mxf_views.proofs.Common.{◌≡◌, ◌∙◌, ◌↔◌, ◌⊎◌, ◌<◌, ◌≤◌, ◌==◌, ◌&&◌, ℕ, Bool, true, false, not, List, [], ◌∷◌}
use Rattle.mxf_views.proofs.Common.{Option, None, Some, refl, sym, ap, subst, inl, inr, arith, cond, eq-eqb, eqb-true, In}
use Rattle.mxf_views.proofs.Common.{AllByRecursion, all-In, and_from, and_parts, false_from_ne_true, same_Some}
use Rattle.mxf_doubts.specs.declared.starts.UnitStart.{UnitStart}
use Rattle.mxf_doubts.specs.UnitStarts.{begins_row, first_misses, goes_on}

-- The starts are of one stream and partition.
abbrev pub AreTogether : UnitStart → UnitStart → Type 0
AreTogether r s = (r.body_sid ≡ s.body_sid) × (r.body_offset ≡ s.body_offset)

-- One stands before the other: in an earlier stream or partition, or by an earlier unit.
pub record IsBefore (r s : UnitStart) : Type 0 where
  pub sid : r.body_sid ≤ s.body_sid
  pub offset : r.body_sid ≡ s.body_sid → r.body_offset ≤ s.body_offset
  pub unit : AreTogether r s → r.unit < s.unit

abbrev pub AreInRows : List UnitStart → Type 0
AreInRows [] = Unit {0}
AreInRows (s ∷ starts) = AllByRecursion (IsBefore s) starts × AreInRows starts

-- It is the one before some starts, or one of these.
abbrev pub IsAmong : Option UnitStart → List UnitStart → UnitStart → Type 0
IsAmong before starts r = (before ≡ Some r) ⊎ In r starts

-- The start misses its packet, and between it and each earlier one that does stands one at which a packet begins.
pub record IsFirstOf (before : Option UnitStart) (starts : List UnitStart) (s : UnitStart) : Type 0 where
  pub bad : s.is_good ≡ false
  pub first : (r : UnitStart) → IsAmong before starts r → r.is_good ≡ false → AreTogether r s → r.unit < s.unit
      → (g : UnitStart) × IsAmong before starts g × (g.is_good ≡ true) × AreTogether g s × (r.unit < g.unit) × (g.unit < s.unit)

between : (r s t : UnitStart) → IsBefore r s → IsBefore s t → AreTogether r t → AreTogether r s × AreTogether s t
between r s t a b e =
    let l = a.sid in
    let m = b.sid in
    let sids = e.0 in
    let offsets = e.1 in
    let rs : r.body_sid ≡ s.body_sid = omega (arith, l, m, sids) in
    let st : s.body_sid ≡ t.body_sid = omega (arith, l, m, sids) in
    let n = a.offset rs in
    let o = b.offset st in
    ((rs, omega (arith, n, o, offsets)), (st, omega (arith, n, o, offsets)))

goes_parts : (r s : UnitStart) → goes_on (Some r) s ≡ true → (r.is_good ≡ false) × AreTogether r s
goes_parts r s t =
    let p = and_parts (not r.is_good) ((r.body_sid == s.body_sid) && (r.body_offset == s.body_offset)) t in
    let q = and_parts (r.body_sid == s.body_sid) (r.body_offset == s.body_offset) p.1 in
    (not_good r.is_good p.0, (eqb-true _ _ q.0, eqb-true _ _ q.1))
  where
    not_good : (b : Bool) → not b ≡ true → b ≡ false
    not_good true e = absurd (cc (e))
    not_good false e = refl

goes_from : (r s : UnitStart) → r.is_good ≡ false → AreTogether r s → goes_on (Some r) s ≡ true
goes_from r s bad e =
    and_from (not r.is_good) ((r.body_sid == s.body_sid) && (r.body_offset == s.body_offset)) (ap not bad)
    (and_from (r.body_sid == s.body_sid) (r.body_offset == s.body_offset) (eq-eqb _ _ e.0) (eq-eqb _ _ e.1))

row_parts : (before : Option UnitStart) (s : UnitStart) → begins_row before s ≡ true
    → (s.is_good ≡ false) × (goes_on before s ≡ false)
row_parts before s t = by s.is_good (goes_on before s) t
  where
    by : (a b : Bool) → (not a && not b) ≡ true → (a ≡ false) × (b ≡ false)
    by false false e = (refl, refl)
    by true b e = absurd (cc (e))
    by false true e = absurd (cc (e))

row_from : (before : Option UnitStart) (s : UnitStart) → s.is_good ≡ false → goes_on before s ≡ false
    → begins_row before s ≡ true
row_from before s a b = and_from (not s.is_good) (not (goes_on before s)) (ap not a) (ap not b)

emitted : (b : Bool) (x o : ℕ) (xs : List ℕ) → In o (cond b (x ∷ xs) xs) → ((b ≡ true) × (o ≡ x)) ⊎ In o xs
emitted true x o xs (inl e) = inl (refl, e)
emitted true x o xs (inr i) = inr i
emitted false x o xs i = inr i

emits : (b : Bool) (x o : ℕ) (xs : List ℕ) → ((b ≡ true) × (o ≡ x)) ⊎ In o xs → In o (cond b (x ∷ xs) xs)
emits true x o xs (inl e) = inl e.1
emits false x o xs (inl e) = absurd (let f = e.0 in cc (f))
emits true x o xs (inr i) = inr i
emits false x o xs (inr i) = i

abbrev Ahead : Option UnitStart → List UnitStart → Type 0
Ahead before starts = (r : UnitStart) → before ≡ Some r → (s : UnitStart) → In s starts → IsBefore r s

-- The first one of starts is the first of a row.
head_first : (before : Option UnitStart) (s : UnitStart) (starts : List UnitStart) → AllByRecursion (IsBefore s) starts
    → begins_row before s ≡ true → IsFirstOf before (s ∷ starts) s
head_first before s starts all t =
    let p = row_parts before s t in record {
      bad = p.0;
      first = λ r i bad e l. elim i [
        | inl f ↦ absurd (let g = sym (ap (λ o. goes_on o s) f) ∙ p.1 in let h = goes_from r s bad e in cc (g, h))
        | inr k ↦ elim k [
          | inl f ↦ absurd (let u = ap (λ (x : UnitStart). x.unit) f in omega (arith, u, l))
          | inr j ↦ absurd (let u = (all-In (IsBefore s) starts r all j).unit (sym e.0, sym e.1) in omega (arith, u, l))
        ]
      ];
    }

-- What is first behind the first start is first behind the one before too.
later_first : (before : Option UnitStart) (s : UnitStart) (starts : List UnitStart) → Ahead before (s ∷ starts)
    → AllByRecursion (IsBefore s) starts → (t : UnitStart) → In t starts → IsFirstOf (Some s) starts t
    → IsFirstOf before (s ∷ starts) t
later_first before s starts ahead all t i first =
    let wider : (g : UnitStart) → IsAmong (Some s) starts g → IsAmong before (s ∷ starts) g = λ g k. elim k [
      | inl e ↦ inr (inl (same_Some g s (sym e)))
      | inr j ↦ inr (inr j)
    ] in
    let after = all-In (IsBefore s) starts t all i in
    let from_own : (r : UnitStart) → IsAmong (Some s) starts r → r.is_good ≡ false → AreTogether r t → r.unit < t.unit
    → (g : UnitStart) × IsAmong before (s ∷ starts) g × (g.is_good ≡ true) × AreTogether g t × (r.unit < g.unit)
    × (g.unit < t.unit) = λ r k bad e l.
    let g = first.first r k bad e l in (g.0, wider g.0 g.1, g.2, g.3, g.4, g.5) in record {
      bad = first.bad;
      first = λ r k bad e l. elim k [
        | inl f ↦
            let b = ahead r f s (inl refl) in
            let two = between r s t b after e in
            let u = b.unit two.0 in
            let v = after.unit two.1 in
            elim s.is_good as (λ c. s.is_good ≡ c → (g : UnitStart) × IsAmong before (s ∷ starts) g × (g.is_good ≡ true)
            × AreTogether g t × (r.unit < g.unit) × (g.unit < t.unit)) [
              | true ↦ λ h. (s, inr (inl refl), h, two.1, u, v)
              | false ↦ λ h.
                  let g = from_own s (inl refl) h two.1 v in
                  let w = g.4 in (g.0, g.1, g.2, g.3, omega (arith, u, w), g.5)
            ] refl
        | inr j ↦ elim j [
          | inl f ↦ from_own r (inl (ap Some (sym f))) bad e l
          | inr m ↦ from_own r (inr m) bad e l
        ]
      ];
    }

-- The other way.
first_head : (before : Option UnitStart) (s : UnitStart) (starts : List UnitStart) → Ahead before (s ∷ starts)
    → AllByRecursion (IsBefore s) starts → IsFirstOf before (s ∷ starts) s → begins_row before s ≡ true
first_head before s starts ahead all first = row_from before s first.bad (by before refl)
  where
    by : (o : Option UnitStart) → before ≡ o → goes_on o s ≡ false
    by None e = refl
    by (Some r) e = false_from_ne_true (goes_on (Some r) s) (λ t.
        let p = goes_parts r s t in
        let b = ahead r e s (inl refl) in
        let g = first.first r (inl e) p.0 p.1 (b.unit p.1) in
        let l = g.4 in
        let m = g.5 in
        elim g.1 [
          | inl f ↦ (let u = ap (λ (x : UnitStart). x.unit) (same_Some r g.0 (sym e ∙ f)) in omega (arith, u, l))
          | inr k ↦ elim k [
            | inl f ↦ (let u = ap (λ (x : UnitStart). x.unit) f in omega (arith, u, m))
            | inr j ↦
                let u = (all-In (IsBefore s) starts g.0 all j).unit (sym g.3.0, sym g.3.1) in
                omega (arith, u, m)
          ]
        ])

first_later : (before : Option UnitStart) (s : UnitStart) (starts : List UnitStart) → Ahead before (s ∷ starts)
    → AllByRecursion (IsBefore s) starts → (t : UnitStart) → In t starts → IsFirstOf before (s ∷ starts) t
    → IsFirstOf (Some s) starts t
first_later before s starts ahead all t i first = record {
  bad = first.bad;
  first = λ r k bad e l.
      let own : In r (s ∷ starts) = elim k [ inl f ↦ inl (same_Some r s (sym f)) | inr j ↦ inr j ] in
      let g = first.first r (inr own) bad e l in
      let m = g.4 in (
        g.0,
        elim g.1 [
          | inl f ↦ absurd (
              let u = (ahead g.0 f r own).unit (g.3.0 ∙ sym e.0, g.3.1 ∙ sym e.1) in omega (arith, u, m))
          | inr j ↦ elim j [ inl f ↦ inl (ap Some (sym f)) | inr n ↦ inr n ]
        ],
        g.2,
        g.3,
        g.4,
        g.5,
      );
}

pub rows : (before : Option UnitStart) (starts : List UnitStart) → Ahead before starts → AreInRows starts → (o : ℕ)
    → In o (first_misses before starts)
    ↔ ((t : UnitStart) × In t starts × IsFirstOf before starts t × (o ≡ t.offset))
rows before [] ahead in_rows o = (λ h. absurd h, λ k. absurd k.1)
rows before (s ∷ starts) ahead in_rows o =
    let b = begins_row before s in
    let rest = first_misses (Some s) starts in
    let ih = rows (Some s) starts (λ r e t i. subst (λ (x : UnitStart). IsBefore x t) (same_Some s r e)
    (all-In (IsBefore s) starts t in_rows.0 i)) in_rows.1 o in (
      λ h. elim (emitted b s.offset o rest h) [
        | inl e ↦ (s, inl refl, head_first before s starts in_rows.0 e.0, e.1)
        | inr i ↦
            let t = ih.0 i in
            (t.0, inr t.1, later_first before s starts ahead in_rows.0 t.0 t.1 t.2, t.3)
      ],
      λ k. emits b s.offset o rest (elim k.1 [
        | inl e ↦ inl (
          first_head before s starts ahead in_rows.0 (subst (IsFirstOf before (s ∷ starts)) e k.2),
          k.3 ∙ ap (λ (x : UnitStart). x.offset) e,
        )
        | inr i ↦ inr (ih.1 (k.0, i, first_later before s starts ahead in_rows.0 k.0 i k.2, k.3))
      ]),
    )
