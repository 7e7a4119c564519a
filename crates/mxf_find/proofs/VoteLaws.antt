-- Votes: a note has one at most in a recording.
use Rattle.mxf_klv.proofs.Common.{◌≡◌, ◌&&◌, ◌∙◌, Bool, true, false, List, [], ◌∷◌, IsTrue, Option, None, Some, is_some}
use Rattle.mxf_klv.proofs.Common.{refl, sym, ap, subst, arith, filter, inl, inr, not, IfNone, option_copied}
use Rattle.mxf_klv.proofs.Common.{option_to_list, cases_Bool, false_from_ne_true, NoteParts, head_parts, note_cmp}
use Rattle.mxf_klv.proofs.Common.{note_total, note_cmp-IsAntisymmetric, In, same_from_members, and_from, and_parts}
use Rattle.std.proofs.Common.{Bor}
use Rattle.std.specs.Option.{IfSome}
use Rattle.mxf_klv.proofs.Lists.{In-filter, filter_none}
use Rattle.mxf_catalogue.specs.Content.{IsContent}
use Rattle.mxf_catalogue.specs.ReducedLaws.{rising-filter}
use Rattle.mxf_find.specs.Packets.{front_of, is_same_length, is_same_packet, packet_of}
use Rattle.mxf_find.specs.Telling.{IsNoneOf, IsOneOf, is_teller_by_length, is_teller_by_value, tells_by_length}
use Rattle.mxf_find.specs.Telling.{tells_by_value}
use Rattle.mxf_find.specs.Votes.{voted_by}
use Rattle.mxf_find.specs.declared.recording.Tells.{Tells}
use Rattle.mxf_find.proofs.TellerLaws.{length_told, value_told}
use Rattle.mxf_klv.proofs.Tests.{three_parts}
use Rattle.mxf_find.proofs.TellingLaws.{alone, same_says, says_same}

-- Where one of a content passes a test, and each that passes it is that one, it is all that is left.
pub filter_only : (test : NoteParts → Bool) (notes : List NoteParts) (n : NoteParts) → IsContent notes
    → IsOneOf test notes n → ((m : NoteParts) → In m notes → IsTrue (test m) → m ≡ n) → n ∷ [] ≡ filter test notes
filter_only test notes n content is only =
    same_from_members note_total note_cmp-IsAntisymmetric (n ∷ []) (filter test notes) (tt, tt)
    (rising-filter note_cmp test notes content)
    (λ m. (
      λ i. (In-filter test notes m).1 (elim i [
        | inl e ↦ (
          subst (λ (x : NoteParts). In x notes) (sym e) is.held,
          subst (λ (x : NoteParts). IsTrue (test x)) (sym e) is.passes,
        )
        | inr j ↦ absurd j
      ]),
      λ i. let s = (In-filter test notes m).0 i in inl (only m s.0 s.1),
    ))

pub packet_front : (m n : NoteParts) → packet_of m ≡ packet_of n → front_of m ≡ front_of n
packet_front m n e = ap (λ (x : NoteParts). head_parts 0 x.key x.width x.length) e

pub packet_whole : (m n : NoteParts) → packet_of m ≡ packet_of n → m.whole ≡ n.whole
packet_whole m n e = ap (λ (x : NoteParts). x.whole) e

pub IfNone_then : {X : Type 0} (r : Option X) {P Q : Type 0} → IfNone r P → (P → Q) → IfNone r Q
IfNone_then None p f = f p
IfNone_then (Some x) p f = p

-- A vote by value, and one by length.
voted_value : (t : Tells) (notes : List NoteParts) (p n : NoteParts) → (p.whole && n.whole) ≡ true
    → voted_by t notes p n ≡ (t.by_value && is_teller_by_value notes p n)
unfolding voted_by
voted_value t notes p n e = rw e refl

voted_length : (t : Tells) (notes : List NoteParts) (p n : NoteParts) → (p.whole && n.whole) ≡ false
    → voted_by t notes p n ≡ (t.by_length && is_teller_by_length notes p n)
unfolding voted_by
voted_length t notes p n e = rw e refl

module _ (t : Tells) (notes : List NoteParts) (p : NoteParts) where
  pub value_parts : (n : NoteParts) → (p.whole && n.whole) ≡ true → IsTrue (voted_by t notes p n)
      → (t.by_value ≡ true) × IsTrue (is_teller_by_value notes p n)
  value_parts n e v = and_parts _ _ (sym (voted_value t notes p n e) ∙ v)

  pub length_parts : (n : NoteParts) → (p.whole && n.whole) ≡ false → IsTrue (voted_by t notes p n)
      → (t.by_length ≡ true) × IsTrue (is_teller_by_length notes p n)
  length_parts n e v = and_parts _ _ (sym (voted_length t notes p n e) ∙ v)

  pub value_vote : (n : NoteParts) → t.by_value ≡ true → p.whole ≡ true → IsOneOf (is_teller_by_value notes p) notes n
      → IsOneOf (voted_by t notes p) notes n
  value_vote n e w is = grind (arith, and_parts, voted_value, and_from, value_told)

  pub no_value : IsNoneOf (is_teller_by_value notes p) notes
      → IsNoneOf (λ n. p.whole && n.whole && voted_by t notes p n) notes
  no_value none n i v =
      let parts = three_parts p.whole n.whole (voted_by t notes p n) v in
      none n i (value_parts n (and_from _ _ parts.0 parts.1) parts.2).1

  pub untold_value : t.by_value ≡ false → IsNoneOf (λ n. p.whole && n.whole && voted_by t notes p n) notes
  untold_value e n i v =
      let parts = three_parts p.whole n.whole (voted_by t notes p n) v in
      let told = (value_parts n (and_from _ _ parts.0 parts.1) parts.2).0 in cc (e, told)

  pub head_value : p.whole ≡ false → IsNoneOf (λ n. p.whole && n.whole && voted_by t notes p n) notes
  head_value e n i v =
      let parts = three_parts p.whole n.whole (voted_by t notes p n) v in
      let whole = parts.0 in cc (e, whole)

  pub length_vote : (n : NoteParts) → t.by_length ≡ true → (p.whole && n.whole) ≡ false
      → IsOneOf (is_teller_by_length notes p) notes n → IsOneOf (voted_by t notes p) notes n
  length_vote n e w is = grind (arith, voted_length, and_from)

  no_both : (a b : Bool) → (not a && b) ≡ true → (a ≡ false) × (b ≡ true)
  no_both a b e = grind arith

  pub no_length : IsNoneOf (is_teller_by_length notes p) notes
      → IsNoneOf (λ n. not (p.whole && n.whole) && voted_by t notes p n) notes
  no_length none n i v =
      let parts = no_both (p.whole && n.whole) (voted_by t notes p n) v in
      none n i (length_parts n parts.0 parts.1).1

  pub untold_length : t.by_length ≡ false → IsNoneOf (λ n. not (p.whole && n.whole) && voted_by t notes p n) notes
  untold_length e n i v =
      let parts = no_both (p.whole && n.whole) (voted_by t notes p n) v in
      let told = (length_parts n parts.0 parts.1).0 in cc (e, told)

  -- Where a whole one tells by length what a whole one has, none of another kind does.
  pub whole_length : (n : NoteParts) → (p.whole && n.whole) ≡ true → IsOneOf (is_teller_by_length notes p) notes n
      → IsNoneOf (λ m. not (p.whole && m.whole) && voted_by t notes p m) notes
  whole_length n w is m i v =
      let parts = no_both (p.whole && m.whole) (voted_by t notes p m) v in
      let there = (length_parts m parts.0 parts.1).1 in
      let mine = and_parts (tells_by_length notes n) (is_same_length p n) is.passes in
      let its = and_parts (tells_by_length notes m) (is_same_length p m) there in
      let q : m ≡ n = alone front_of notes m n (length_told notes n mine.0).1 i is.held
      (sym (same_says front_of p m its.1) ∙ same_says front_of p n mine.1) in
      let same : (p.whole && m.whole) ≡ (p.whole && n.whole) = ap (λ (x : NoteParts). p.whole && x.whole) q in
      let no = parts.0 in cc (same, no, w)

  -- Two notes by which one votes are one.
  pub one_voted : (m n : NoteParts) → In m notes → In n notes → IsTrue (voted_by t notes p m)
      → IsTrue (voted_by t notes p n) → m ≡ n
  one_voted m n i j v w =
      elim (cases_Bool (p.whole && n.whole)) [ inl a ↦ by_value m n i j v w a | inr b ↦ by_length m n i j v w b ]
    where
      front_there : (x : NoteParts) → IsTrue (voted_by t notes p x) → front_of p ≡ front_of x
      front_there x u = elim (cases_Bool (p.whole && x.whole)) [
        | inl a ↦ packet_front p x (same_says packet_of p x
            (and_parts (tells_by_value notes x) (is_same_packet p x) (value_parts x a u).1).1)
        | inr b ↦ same_says front_of p x
            (and_parts (tells_by_length notes x) (is_same_length p x) (length_parts x b u).1).1
      ]

      by_length : (m n : NoteParts) → In m notes → In n notes → IsTrue (voted_by t notes p m)
          → IsTrue (voted_by t notes p n) → (p.whole && n.whole) ≡ false → m ≡ n
      by_length m n i j v w b =
          let mine = and_parts (tells_by_length notes n) (is_same_length p n) (length_parts n b w).1 in
          alone front_of notes m n (length_told notes n mine.0).1 i j (sym (front_there m v) ∙ front_there n w)

      by_value : (m n : NoteParts) → In m notes → In n notes → IsTrue (voted_by t notes p m)
          → IsTrue (voted_by t notes p n) → (p.whole && n.whole) ≡ true → m ≡ n
      by_value m n i j v w a =
          let mine = and_parts (tells_by_value notes n) (is_same_packet p n) (value_parts n a w).1 in
          elim (cases_Bool (p.whole && m.whole)) [
            | inl b ↦
                let its = and_parts (tells_by_value notes m) (is_same_packet p m) (value_parts m b v).1 in
                alone packet_of notes m n (value_told notes n mine.0).2 i j
                (sym (same_says packet_of p m its.1) ∙ same_says packet_of p n mine.1)
            | inr b ↦ sym (by_length n m j i w v b)
          ]

  -- What is found, and that nothing is.
  pub votes_one : IsContent notes → (n : NoteParts) → IsOneOf (voted_by t notes p) notes n
      → n ∷ [] ≡ filter (voted_by t notes p) notes
  votes_one content n is =
      filter_only (voted_by t notes p) notes n content is (λ m i v. one_voted m n i is.held v is.passes)

  pub votes_none : IsNoneOf (λ n. p.whole && n.whole && voted_by t notes p n) notes
      → IsNoneOf (λ n. not (p.whole && n.whole) && voted_by t notes p n) notes → [] ≡ filter (voted_by t notes p) notes
  votes_none no_value no_length = grind (arith, filter_none, cases_Bool)

  -- The one that is found, if the first search found none.
  pub votes_found : IsContent notes → IsNoneOf (λ n. p.whole && n.whole && voted_by t notes p n) notes
      → (found : Option (Bor NoteParts)) → IfSome found (λ n. IsOneOf (voted_by t notes p) notes n.now)
      → IfNone found (IsNoneOf (λ n. not (p.whole && n.whole) && voted_by t notes p n) notes)
      → option_to_list (option_copied found) ≡ filter (voted_by t notes p) notes
  votes_found content no_value None some none = votes_none no_value none
  votes_found content no_value (Some n) some none = votes_one content n.now some

-- Whether one that tells was found for a note itself.
module _ (notes : List NoteParts) (n : NoteParts) (held : In n notes) where
  pub told_by_value : (found : Option (Bor NoteParts))
      → IfSome found (λ m. IsOneOf (is_teller_by_value notes n) notes m.now)
      → IfNone found (IsNoneOf (is_teller_by_value notes n) notes) → is_some found ≡ tells_by_value notes n
  told_by_value None some none = sym (false_from_ne_true (tells_by_value notes n)
      (λ t. none n held (and_from _ _ t (says_same packet_of n n refl))))
  told_by_value (Some m) some none =
      let parts = and_parts (tells_by_value notes m.now) (is_same_packet n m.now) some.passes in
      sym (ap (tells_by_value notes) (alone packet_of notes n m.now (value_told notes m.now parts.0).2 held some.held
      (same_says packet_of n m.now parts.1)) ∙ parts.0)

  pub told_by_length : (found : Option (Bor NoteParts))
      → IfSome found (λ m. IsOneOf (is_teller_by_length notes n) notes m.now)
      → IfNone found (IsNoneOf (is_teller_by_length notes n) notes) → is_some found ≡ tells_by_length notes n
  told_by_length None some none = sym (false_from_ne_true (tells_by_length notes n)
      (λ t. none n held (and_from _ _ t (says_same front_of n n refl))))
  told_by_length (Some m) some none =
      let parts = and_parts (tells_by_length notes m.now) (is_same_length n m.now) some.passes in
      sym (ap (tells_by_length notes) (alone front_of notes n m.now (length_told notes m.now parts.0).1 held some.held
      (same_says front_of n m.now parts.1)) ∙ parts.0)
