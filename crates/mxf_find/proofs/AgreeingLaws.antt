-- Which notes agree, by what a catalogue has.
use Rattle.std.proofs.Common.{◌≡◌, ◌↔◌, ◌≤◌, ◌<◌, ◌-◌, ◌&&◌, ◌||◌, ◌==◌, ℕ, Bool, true, false, List, IsTrue}
use Rattle.std.proofs.Common.{Result, Ok, Err, not, refl, sym, ap, subst, arith, inl, inr, eq-eqb, eqb-true}
use Rattle.std.specs.List.{AllByRecursion}
use Rattle.std.specs.Result.{IfOk}
use Rattle.std.proofs.lemmas.Bool.{cases_Bool, false_from_ne_true, le-leb, lt-leb, true≢false}
use Rattle.mxf_klv.specs.Note.{CanHead, IsNote, greatest_end, head_note}
use Rattle.mxf_klv.specs.Parts.{NoteParts, head_parts}
use Rattle.mxf_klv.specs.Rising.{In}
use Rattle.mxf_klv.proofs.Lists.{all-In, list_any-In}
use Rattle.mxf_klv.proofs.Tests.{same_bool}
use Rattle.mxf_catalogue.specs.Content.{AreReduced, has_note}
use Rattle.mxf_catalogue.proofs.HeadWords.{own_head}
use Rattle.mxf_find.specs.Agreeing.{agrees, agrees_as_head, agrees_as_head_at, agrees_at, is_there, moved_place}
use Rattle.mxf_find.specs.Agreeing.{moved_to}
use Rattle.mxf_find.specs.Packets.{front_of, is_same_length, is_same_packet, packet_of}
use Rattle.mxf_find.specs.Votes.{FragmentParts, place}
use Rattle.mxf_find.proofs.TellerLaws.{either_false, or_false}
use Rattle.mxf_klv.proofs.Common.{and_from, and_parts}
use Rattle.mxf_find.proofs.TellingLaws.{same_says, says_same}

pub IfOk_then : {X E : Type 0} (r : Result X E) {P Q : X → Type 0} → IfOk r P → ((x : X) → P x → Q x) → IfOk r Q
IfOk_then (Ok x) p f = f x p
IfOk_then (Err e) p f = p

loose : (a b c : Bool) → a ≡ false → (not a || b || c) ≡ true
loose a b c e = cc

loose_second : (a b c : Bool) → b ≡ false → (not a || not b || c) ≡ true
loose_second a b c e = grind arith

loose_third : (a b c : Bool) → c ≡ true → (not a || b || c) ≡ true
loose_third a b c e = grind arith

loose_one : (a b : Bool) → a ≡ false → (not a || b) ≡ true
loose_one a b e = cc

loose_last : (a b : Bool) → b ≡ false → (not a || not b) ≡ true
loose_last a b e = grind arith

tight : (a b c : Bool) → a ≡ true → b ≡ true → (not a || not b || c) ≡ true → c ≡ true
tight a b c e f g = grind arith

none_loose : (a b : Bool) → a ≡ true → b ≡ true → (not a || not b) ≡ false
none_loose a b e f = grind arith

module _ (notes : List NoteParts) (offset : ℕ) (p : NoteParts) where
  abbrev pub head_there : NoteParts
  head_there = head_parts offset p.key p.width p.length

  abbrev standing : NoteParts → Bool
  standing n = is_there offset p n && (not p.whole || not n.whole || is_same_packet p n)

  pub there_head : (n : NoteParts) → IsTrue (is_there offset p n) → head_note n ≡ head_there
  there_head n t =
      let (at, same) = and_parts (n.offset == offset) (is_same_length p n) t in
      let e : front_of n ≡ front_of p = sym (same_says front_of p n same) in
      λ i. head_parts (eqb-true n.offset offset at i) (e i).key (e i).width (e i).length

  pub head_is_there : (n : NoteParts) → head_note n ≡ head_there → IsTrue (is_there offset p n)
  head_is_there n e =
      let f : front_of n ≡ front_of p = λ i. head_parts 0 (e i).key (e i).width (e i).length in
      and_from _ _ (eq-eqb n.offset offset (ap (λ (m : NoteParts). m.offset) e)) (says_same front_of p n (sym f))

  pub agrees_none : ((n : NoteParts) → In n notes → IsTrue (is_there offset p n) → ⊥) → false ≡ agrees_at notes offset p
  unfolding agrees_at
  agrees_none none = sym (false_from_ne_true _ (λ t.
      let s = (list_any-In standing notes).0 t in
      none s.0 s.1 (and_parts (is_there offset p s.0) _ s.2).0))

  pub as_head_none : false ≡ agrees_at notes offset p → false ≡ agrees_as_head_at notes offset p
  unfolding agrees_as_head_at
  as_head_none e = sym (either_false _ _ (sym e))

  -- One that stands there is a note, so its head is.
  pub no_head : AllByRecursion IsNote notes → (CanHead head_there → ⊥) → (n : NoteParts) → In n notes
      → IsTrue (is_there offset p n) → ⊥
  no_head all none n i t =
      let is = all-In IsNote notes n all i in
      none (subst (λ (m : NoteParts). CanHead m) (there_head n t) (is.width, is.within))

  pub not_had : (has_note notes head_there → ⊥) → (n : NoteParts) → In n notes → IsTrue (is_there offset p n) → ⊥
  not_had none n i t = none (inr (n, i, there_head n t))

  pub had : has_note notes head_there → (n : NoteParts) × In n notes × IsTrue (is_there offset p n)
  had (inl i) = (head_there, i, head_is_there head_there refl)
  had (inr s) = (s.0, s.1, head_is_there s.0 s.2)

  pub head_agrees : p.whole ≡ false → has_note notes head_there → true ≡ agrees_at notes offset p
  unfolding agrees_at
  head_agrees w h = grind (arith, had, list_any-In, and_from, loose)

  pub head_as_head : p.whole ≡ false → true ≡ agrees_at notes offset p → true ≡ agrees_as_head_at notes offset p
  unfolding agrees_as_head_at
  head_as_head w e = sym (and_from _ _ (sym e) (loose_one p.whole _ w))

  pub held_agrees : In head_there notes → true ≡ agrees_at notes offset p
  unfolding agrees_at
  held_agrees i =
      sym ((list_any-In standing notes).1 (
        head_there,
        i,
        and_from _ _ (head_is_there head_there refl) (loose_second p.whole false (is_same_packet p head_there) refl),
      ))

  pub held_as_head : AreReduced notes → In head_there notes → true ≡ agrees_as_head_at notes offset p
  unfolding agrees_as_head_at
  held_as_head reduced i =
      grind (
        arith,
        false_from_ne_true,
        list_any-In,
        and_parts,
        true≢false,
        there_head,
        and_from,
        held_agrees,
        loose_last,
      )

  module _ (all : AllByRecursion IsNote notes) (whole : p.whole ≡ true) (lacked : In head_there notes → ⊥) where
    -- Where no head stands there, what does is whole.
    there_whole : (n : NoteParts) → In n notes → IsTrue (is_there offset p n) → n.whole ≡ true
    there_whole n i t = grind (arith, cases_Bool, own_head, all-In, there_head)

    same_there : (n : NoteParts) → packet_of n ≡ packet_of p → n.offset ≡ offset → n ≡ moved_to offset p
    same_there n e f i = record {
      offset = f i;
      key = (e i).key;
      width = (e i).width;
      length = (e i).length;
      whole = (e i).whole;
      held = (e i).held;
    }

    pub moved_agrees : (r : Bool) → IsTrue r ↔ In (moved_to offset p) notes → r ≡ agrees_at notes offset p
    unfolding agrees_at
    moved_agrees r says =
        let any = list_any-In standing notes in
        same_bool r _
        (λ t. any.1 (
          moved_to offset p,
          says.0 t,
          and_from _ _ (head_is_there (moved_to offset p) refl)
              (loose_third p.whole (not p.whole) _ (says_same packet_of p (moved_to offset p) refl)),
        )) (λ t.
        let s = any.0 t in
        let (there, rest) = and_parts (is_there offset p s.0) _ s.2 in
        let same = tight p.whole s.0.whole (is_same_packet p s.0) whole (there_whole s.0 s.1 there) rest in
        let at = eqb-true s.0.offset offset (and_parts (s.0.offset == offset) (is_same_length p s.0) there).0 in
        says.1 (subst (λ (m : NoteParts). In m notes) (same_there s.0 (sym (same_says packet_of p s.0 same)) at) s.1))

    pub whole_as_head : has_note notes head_there → false ≡ agrees_as_head_at notes offset p
    unfolding agrees_as_head_at
    whole_as_head h = grind (arith, had, list_any-In, and_from, there_whole, or_false, none_loose)

-- Of a shift.
module _ (f : FragmentParts) (notes : List NoteParts) (at : ℕ) (p : NoteParts) where
  first_true : (a b : Bool) → a ≡ true → b ≡ (a && b)
  first_true a b e = cc

  pub agrees_moved : greatest_end - place f p ≤ at → agrees_at notes (moved_place f at p) p ≡ agrees f notes at p
  unfolding agrees
  agrees_moved l = first_true _ _ (le-leb _ _ l)

  pub as_head_moved : greatest_end - place f p ≤ at
      → agrees_as_head_at notes (moved_place f at p) p ≡ agrees_as_head f notes at p
  unfolding agrees_as_head
  as_head_moved l = first_true _ _ (le-leb _ _ l)

  pub agrees_unmoved : at < greatest_end - place f p → false ≡ agrees f notes at p
  unfolding agrees
  agrees_unmoved l = sym (either_false _ _ (lt-leb _ _ l))

  pub as_head_unmoved : at < greatest_end - place f p → false ≡ agrees_as_head f notes at p
  unfolding agrees_as_head
  as_head_unmoved l = sym (either_false _ _ (lt-leb _ _ l))
