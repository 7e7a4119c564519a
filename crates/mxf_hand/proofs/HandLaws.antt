-- Runs of bytes at hand.
use Rattle.mxf_views.proofs.Common.{◌≡◌, ◌∙◌, ◌≤◌, ◌<◌, ◌+◌, ◌-◌, ◌&&◌, ◌||◌, ◌==◌, ℕ, zero, suc, Bool, true, false}
use Rattle.mxf_views.proofs.Common.{List, [], ◌∷◌, Option, None, Some, ap, arith, cond, filter, find, get_or, inl, inr}
use Rattle.mxf_views.proofs.Common.{nat_le, nat_lt, not, refl, subst, sym, le-leb, leb-true, lt-leb, ltb-false}
use Rattle.mxf_views.proofs.Common.{range_with_len, option_map_or, NoteParts, In, In-list_all, found-In, list_all-In}
use Rattle.mxf_views.proofs.Common.{equals_itself, is_between, LiesIn, same_covers}
use Rattle.mxf_catalogue.specs.declared.run.Run.{Run}
use Rattle.std.proofs.lemmas.Bool.{ltb-true}
use Rattle.std.specs.Option.{option_and_then}
use Rattle.mxf_places.specs.AtHand.{has_offset, up_to_bound}
use Rattle.mxf_places.proofs.AtHandLaws.{has_offset-says, bound_le}
use Rattle.mxf_hand.specs.Given.{AreAtHand, AreTold, SourceParts}
use Rattle.mxf_hand.specs.Places.{GivenParts}
use Rattle.mxf_hand.specs.declared.given.Extent.{Extent}
use Rattle.mxf_hand.specs.Hand.{AreOf, AreToldIn, HandBytes, HandParts, read_to, run_end}
use Rattle.mxf_hand.specs.Heads.{fits}
use Rattle.mxf_skim.specs.declared.scan.Scan.{Scan}
use Rattle.mxf_places.specs.Heads.{key_and_length}

-- The first run that ends above an offset is the first of those that lie behind it.
pub first_above : (runs left : List Run) (x : ℕ) (r : Run) → filter (is_between x None) runs ≡ r ∷ left
    → find (λ s. nat_lt x s.end) runs ≡ Some r
first_above [] left x r e = absurd cc
first_above (s ∷ runs) left x r e =
    elim (nat_lt x s.end) as (λ b. cond (b && true) (s ∷ filter (is_between x None) runs)
    (filter (is_between x None) runs) ≡ r ∷ left
    → cond b (Some s) (find (λ s. nat_lt x s.end) runs) ≡ Some r) [
      | true ↦ λ h. cc (h)
      | false ↦ λ h. first_above runs left x r h
    ] e

pub none_above : (runs : List Run) (x : ℕ) → filter (is_between x None) runs ≡ []
    → find (λ s. nat_lt x s.end) runs ≡ None
none_above [] x e = refl
none_above (s ∷ runs) x e = elim (nat_lt x s.end) as (λ b. cond (b && true) (s ∷ filter (is_between x None) runs)
    (filter (is_between x None) runs) ≡ []
    → cond b (Some s) (find (λ s. nat_lt x s.end) runs) ≡ None) [
      | true ↦ λ h. absurd cc
      | false ↦ λ h. none_above runs x h
    ] e

-- What the end of a run is where runs lie behind an offset, and where none does.
pub run_end-none : (runs : List Run) (x : ℕ) → filter (is_between x None) runs ≡ [] → run_end runs x ≡ None
run_end-none runs x e =
    ap (option_and_then (λ (r : Run). cond (nat_le r.start x) (Some r.end) None)) (none_above runs x e)

pub run_end-some : (runs left : List Run) (x : ℕ) (r : Run) → filter (is_between x None) runs ≡ r ∷ left
    → r.start ≤ x → run_end runs x ≡ Some r.end
run_end-some runs left x r e low =
    ap (option_and_then (λ (s : Run). cond (nat_le s.start x) (Some s.end) None)) (first_above runs left x r e)
    ∙ ap (λ (b : Bool). cond b (Some r.end) None) (le-leb r.start x low)

pub run_end-above : (runs left : List Run) (x : ℕ) (r : Run) → filter (is_between x None) runs ≡ r ∷ left
    → x < r.start → run_end runs x ≡ None
run_end-above runs left x r e high =
    ap (option_and_then (λ (s : Run). cond (nat_le s.start x) (Some s.end) None)) (first_above runs left x r e)
    ∙ ap (λ (b : Bool). cond b (Some r.end) None) (lt-leb r.start x high)

-- Where an offset is at hand, all behind it are up to the end of its run.
pub run_lies : (runs : List Run) (x e y : ℕ) → run_end runs x ≡ Some e → x ≤ y → y < e → LiesIn runs y
run_lies runs x e y h from before =
    let p = λ (s : Run). nat_lt x s.end in
    let f = λ (s : Run). cond (nat_le s.start x) (Some s.end) None in
    elim (find p runs) as (λ o. find p runs ≡ o → option_and_then f o ≡ Some e → LiesIn runs y) [
      | None ↦ λ is k. absurd cc
      | Some r ↦ λ is k.
          let i = (found-In p runs r is).0 in
          elim (nat_le r.start x) as (λ b. nat_le r.start x ≡ b → cond b (Some r.end) None ≡ Some e
          → LiesIn runs y) [
            | true ↦ λ le s.
                let low : r.start ≤ x = leb-true _ _ le in
                let high : r.end ≡ e = cc (s) in (r, i, record { from = omega arith; before = omega arith })
            | false ↦ λ le s. absurd cc
          ] refl k
    ] refl h

-- All offsets that are read are at hand.
pub read_lies : (runs : List Run) (end : Option ℕ) (from x : ℕ) → from ≤ x → x < read_to runs end from → LiesIn runs x
read_lies runs end from x low high = elim (run_end runs from) as (λ o. run_end runs from ≡ o
    → x < option_map_or (λ e. up_to_bound e end) o from → LiesIn runs x) [
      | None ↦ λ e k. absurd (omega arith)
      | Some last ↦ λ e k. run_lies runs from last x e low (let b = bound_le last end in omega (arith, b))
    ] refl high

one_more : (a : ℕ) → suc a ≡ a + 1
one_more a = omega arith

-- A number of a range.
pub in_range : (a n x : ℕ) → a ≤ x → x < a + n → In x (range_with_len a n)
in_range a zero x from before = absurd (omega arith)
in_range a (suc n) x from before =
    elim (nat_lt a x) as (λ b. nat_lt a x ≡ b → In x (a ∷ range_with_len (a + 1) n)) [
      | true ↦ λ e.
          let h : a < x = ltb-true _ _ e in
          inr (subst (λ (k : ℕ). In x (range_with_len k n)) (one_more a) (in_range (suc a) n x (omega arith)
          (omega arith)))
      | false ↦ λ e. inl (let h : x ≤ a = ltb-false _ _ e in omega arith)
    ] refl

pub range_in : (a n x : ℕ) → In x (range_with_len a n) → (a ≤ x) × (x < a + n)
range_in a zero x i = absurd i
range_in a (suc n) x (inl e) = (omega arith, omega arith)
range_in a (suc n) x (inr i) =
    let h = range_in (suc a) n x (subst (λ (k : ℕ). In x (range_with_len k n)) (sym (one_more a)) i) in
    (omega arith, omega arith)

-- The test whether a head fits, and what it says of each offset of its key and length.
pub fits_at : (h : HandBytes) (n : NoteParts) → fits h n ≡ true → (x : ℕ) → n.offset ≤ x → x < n.offset + (16 + n.width)
    → LiesIn h.runs x → h.byte x ≡ get_or (key_and_length n) (x - n.offset) 0
unfolding fits
fits_at h n all x from before lies =
    let says = list_all-In (λ x. not (has_offset h.runs x) || (h.byte x == get_or (key_and_length n) (x - n.offset) 0))
    (range_with_len n.offset (16 + n.width)) x all (in_range n.offset (16 + n.width) x from before) in
    let has = (has_offset-says h.runs x).1 lies in
    let same : (h.byte x == get_or (key_and_length n) (x - n.offset) 0) ≡ true =
    subst (λ (b : Bool). (not b || (h.byte x == get_or (key_and_length n) (x - n.offset) 0)) ≡ true) has says in
    (equals_itself (h.byte x) (get_or (key_and_length n) (x - n.offset) 0)).0 same

pub at_fits : (h : HandBytes) (n : NoteParts) → ((x : ℕ) → n.offset ≤ x → x < n.offset + (16 + n.width)
    → LiesIn h.runs x → h.byte x ≡ get_or (key_and_length n) (x - n.offset) 0) → fits h n ≡ true
unfolding fits
at_fits h n all =
    In-list_all (λ x. not (has_offset h.runs x) || (h.byte x == get_or (key_and_length n) (x - n.offset) 0))
    (range_with_len n.offset (16 + n.width)) (λ x i.
    let bounds = range_in n.offset (16 + n.width) x i in
    elim (has_offset h.runs x) as (λ b. has_offset h.runs x ≡ b
    → (not b || (h.byte x == get_or (key_and_length n) (x - n.offset) 0)) ≡ true) [
      | true ↦ λ e. (equals_itself (h.byte x) (get_or (key_and_length n) (x - n.offset) 0)).1
          (all x bounds.0 bounds.1 ((has_offset-says h.runs x).0 e))
      | false ↦ λ e. refl
    ] refl)

-- What was told before and is told still.
pub told_after : {old new : Option (List SourceParts)} {extents : List Extent} {runs : List Run} {scan : Scan}
    {h : HandBytes} → new ≡ old → AreToldIn old extents runs scan h → AreToldIn new extents runs scan h
told_after {extents = extents} {runs = runs} {scan = scan} {h = h} e t =
    subst (λ (o : Option (List SourceParts)). AreToldIn o extents runs scan h) (sym e) t

-- There is one list of the runs at hand.
pub one_hand : (given : List SourceParts) (runs : List Run) (h : HandBytes) → AreAtHand given runs → AreOf given h
    → runs ≡ h.runs
one_hand given runs h a is =
    same_covers runs h.runs a.cover is.offsets.cover (λ x. (
      λ k. (is.offsets.offsets x).1 ((a.offsets x).0 k),
      λ k. (a.offsets x).1 ((is.offsets.offsets x).0 k),
    ))

-- The bytes at hand of sources are told in the runs that were found.
pub are_told : {told : Option (List SourceParts)} (given : List SourceParts) (h : HandBytes)
    {hand : HandParts} {parts : GivenParts} → AreTold told parts.extents given → AreOf given h → h.scan ≡ hand.scan
    → hand.given ≡ parts → AreAtHand given hand.runs → AreToldIn told hand.given.extents hand.runs hand.scan h
are_told {told = told} given h {hand = hand} {parts = parts} t is same e a = record {
  sources = given;
  are_told = subst (λ (p : GivenParts). AreTold told p.extents given) (sym e) t;
  lie = sym (one_hand given hand.runs h a is);
  scanned = same;
  bytes = λ x b lies gives. is.bytes x b
      (subst (λ (l : List Run). LiesIn l x) (one_hand given hand.runs h a is) lies) gives;
}
