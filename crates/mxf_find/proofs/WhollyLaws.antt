-- A fragment all of whose notes a recording has is found there.
use Rattle.mxf_klv.proofs.Common.{◌≡◌, ◌≢◌, ◌∙◌, ◌-◌, ◌≤◌, ◌&&◌, ◌||◌, ℕ, Bool, true, false, List, [], ◌∷◌, IsTrue}
use Rattle.mxf_klv.proofs.Common.{Option, None, Some, ap, arith, count_by, eq-eqb, filter, inl, inr, length, map, not}
use Rattle.mxf_klv.proofs.Common.{refl, subst, sym, cases_Bool, true≢false, kind_of, IsNote, greatest_end, head_note}
use Rattle.mxf_klv.proofs.Common.{NoteParts, In, and_from, and_parts}
use Rattle.mxf_klv.proofs.Counts.{count_by-cons, tally}
use Rattle.mxf_klv.proofs.Lists.{all-In, In-at, In-filter, In-flat_map, In-map, list_any-In}
use Rattle.mxf_catalogue.specs.Content.{AreReduced, IsCatalogue}
use Rattle.mxf_catalogue.specs.Disputes.{SharesByte}
use Rattle.mxf_catalogue.proofs.ClearLaws.{shared_low, shares}
use Rattle.mxf_catalogue.proofs.DisputeLaws.{SharesByte-symmetric}
use Rattle.mxf_catalogue.proofs.HeadLaws.{same_note}
use Rattle.mxf_find.specs.Agreeing.{agrees, agrees_at, agreeing, is_there, moved_place}
use Rattle.mxf_find.specs.Found.{IsFound, offset_of}
use Rattle.mxf_find.specs.Packets.{front_of, is_same_length, is_same_packet, packet_of}
use Rattle.mxf_find.specs.Telling.{IsSound, IsTellingByLength, IsTellingByValue, tells_by_length, tells_by_value}
use Rattle.mxf_find.specs.Telling.{tells_in}
use Rattle.mxf_find.specs.Votes.{FragmentParts, is_vote, place, shift, votes}
use Rattle.mxf_find.specs.Wholly.{LiesWholly, StandsFor, TellsFor}
use Rattle.mxf_find.specs.declared.found.Match.{Match}
use Rattle.mxf_find.proofs.AgreeingLaws.{agrees_moved}
use Rattle.mxf_find.proofs.ByDefinition.{by_length, by_value}
use Rattle.mxf_find.proofs.CountLaws.{placed}
use Rattle.mxf_find.proofs.TellerLaws.{either_false, length_told, value_told}
use Rattle.mxf_find.proofs.TellingLaws.{alone, same_says, says_same}
use Rattle.mxf_find.proofs.VoteLaws.{length_parts, length_vote, packet_front, packet_whole, value_parts, value_vote}
use Rattle.mxf_find.specs.PacketOrder.{same_parts}

count-all : (test : NoteParts → Bool) (notes : List NoteParts) → ((p : NoteParts) → In p notes → test p ≡ true)
    → count_by test notes ≡ length notes
count-all test [] f = refl
count-all test (p ∷ notes) f =
    let a = count_by-cons test p notes in
    let one : tally (test p) ≡ 1 = ap tally (f p (inl refl)) in
    let ih = count-all test notes (λ q i. f q (inr i)) in
    omega (arith, a, one, ih)

head_of : (p q n : NoteParts) → packet_of p ≡ packet_of n → packet_of q ≡ front_of n → p.offset ≡ q.offset
    → head_note p ≡ q
head_of p q n e g o i = record {
  offset = o i;
  key = (ap (λ (x : NoteParts). x.key) e ∙ sym (ap (λ (x : NoteParts). x.key) g)) i;
  width = (ap (λ (x : NoteParts). x.width) e ∙ sym (ap (λ (x : NoteParts). x.width) g)) i;
  length = (ap (λ (x : NoteParts). x.length) e ∙ sym (ap (λ (x : NoteParts). x.length) g)) i;
  whole = (sym (ap (λ (x : NoteParts). x.whole) g)) i;
  held = (sym (ap (λ (x : NoteParts). x.held) g)) i;
}

module _ (f : FragmentParts) (r : List NoteParts) (at : ℕ) (own : IsCatalogue f.notes) (reduced : AreReduced f.notes)
    (theirs : IsCatalogue r) (lies : LiesWholly f r at) where
  front_stands : (p n : NoteParts) → StandsFor f r at p n → front_of p ≡ front_of n
  front_stands p n s = grind (arith, packet_front)

  packet_stands : (p n : NoteParts) → p.whole ≡ true → StandsFor f r at p n → packet_of p ≡ packet_of n
  packet_stands p n w s = grind (arith, true≢false)

  -- All votes are for the shift.
  one_vote : (p n : NoteParts) → In p f.notes → In n r → IsTrue (is_vote f r p n) → shift f p n ≡ at
  one_vote p n i j v =
      let (m, s) = lies.each p i in
      let e : m ≡ n = elim (cases_Bool p.whole) [
        | inl w ↦
            let t = (value_parts (tells_in f.notes p) r p n (and_from _ _ w (lies.whole n j)) v).1 in
            let told = and_parts (tells_by_value r n) (is_same_packet p n) t in
            alone packet_of r m n (value_told r n told.0).2 s.held j
            (sym (packet_stands p m w s) ∙ same_says packet_of p n told.1)
        | inr w ↦
            let t = (length_parts (tells_in f.notes p) r p n (either_false _ _ w) v).1 in
            let told = and_parts (tells_by_length r n) (is_same_length p n) t in
            alone front_of r m n (length_told r n told.0).1 s.held j
            (sym (front_stands p m s) ∙ same_says front_of p n told.1)
      ] in
      ap (shift f p) (sym e) ∙ s.moved

  pub votes_at : (v : ℕ) → In v (votes f r) → v ≡ at
  votes_at v i =
      let (p, j, k) = (In-flat_map (λ p. map (shift f p) (filter (is_vote f r p) r)) f.notes v).0 i in
      let (n, l, e) = (In-map (shift f p) (filter (is_vote f r p) r) v).0 k in
      let m = (In-filter (is_vote f r p) r n).0 l in
      e ∙ one_vote p n j m.0 m.1

  low : (p : NoteParts) → In p f.notes → p.offset ≤ greatest_end
  low p i = let is = all-In IsNote f.notes p own.members i in let w = is.within in omega (arith, w)

  same_offset : (p q n : NoteParts) → In p f.notes → In q f.notes → StandsFor f r at p n → StandsFor f r at q n
      → p.offset ≡ q.offset
  same_offset p q n i j s t =
      let a = low p i in let b = low q j in let c = lies.inside p i in let d = lies.inside q j in
      let e = s.moved in let g = t.moved in omega (arith, a, b, c, d, e, g)

  -- Two notes of the fragment that are one in the recording are one.
  same_one : (p q n : NoteParts) → In p f.notes → In q f.notes → StandsFor f r at p n → StandsFor f r at q n → p ≡ q
  same_one p q n i j s t =
      let o = same_offset p q n i j s t in
      elim s.packet [
        | inl e ↦ elim t.packet [
          | inl g ↦ same_parts p q (e ∙ sym g) o
          | inr g ↦ absurd (reduced q j (p, i, apart p q n (lies.whole n s.held) e g, head_of p q n e g o))
        ]
        | inr e ↦ elim t.packet [
          | inl g ↦ absurd (reduced p i (q, j, apart q p n (lies.whole n s.held) g e, head_of q p n g e (sym o)))
          | inr g ↦ same_parts p q (e ∙ sym g) o
        ]
      ]
    where
      apart : (a b n : NoteParts) → n.whole ≡ true → packet_of a ≡ packet_of n → packet_of b ≡ front_of n → a ≢ b
      apart a b n w e g h = true≢false (sym w ∙ sym (packet_whole a n e) ∙ ap (λ (x : NoteParts). x.whole) h
          ∙ ap (λ (x : NoteParts). x.whole) g)

  moved_share : (p q n m : NoteParts) → In p f.notes → In q f.notes → StandsFor f r at p n → StandsFor f r at q m
      → SharesByte q p → SharesByte m n
  moved_share p q n m i j s t h = grind (arith, low, shared_low, SharesByte-symmetric, front_stands, shares)

  module _ (p n : NoteParts) (i : In p f.notes) (s : StandsFor f r at p n) where
    own_sound : IsSound n r → IsSound p f.notes
    own_sound there = record {
      held = i;
      undisputed = λ dispute.
          let (q, j, differ, h) = dispute in
          let (m, t) = lies.each q j in
          elim (same_note m n) [
            | inl e ↦ differ (same_one q p n j i (subst (λ (x : NoteParts). StandsFor f r at q x) e t) s)
            | inr other ↦ there.undisputed (m, t.held, other, moved_share p q n m i j s t h)
          ];
      no_fill = λ k. there.no_fill (ap kind_of (ap (λ (x : NoteParts). x.key) (sym (front_stands p n s))) ∙ k);
    }

    value_tells : p.whole ≡ true → IsTellingByValue n r → IsTellingByValue p f.notes
    value_tells w there = record {
      sound = own_sound there.sound;
      whole = w;
      only = λ q j e k x l h.
          let (m, t) = lies.each q j in
          let a = packet_stands q m e t in
          let b = packet_stands p n w s in
          let one : m ≡ n = there.only m t.held (lies.whole m t.held)
          (sym (ap (λ (z : NoteParts). z.key) a) ∙ k ∙ ap (λ (z : NoteParts). z.key) b)
          (sym (ap (λ (z : NoteParts). z.width) a) ∙ x ∙ ap (λ (z : NoteParts). z.width) b)
          (sym (ap (λ (z : NoteParts). z.length) a) ∙ l ∙ ap (λ (z : NoteParts). z.length) b)
          (sym (ap (λ (z : NoteParts). z.held) a) ∙ h ∙ ap (λ (z : NoteParts). z.held) b) in
          same_one q p n j i (subst (λ (z : NoteParts). StandsFor f r at q z) one t) s;
    }

    length_tells : IsTellingByLength n r → IsTellingByLength p f.notes
    length_tells there = record {
      sound = own_sound there.sound;
      only = λ q j k x l.
          let (m, t) = lies.each q j in
          let a = front_stands q m t in
          let b = front_stands p n s in
          let one : m ≡ n = there.only m t.held
          (sym (ap (λ (z : NoteParts). z.key) a) ∙ k ∙ ap (λ (z : NoteParts). z.key) b)
          (sym (ap (λ (z : NoteParts). z.width) a) ∙ x ∙ ap (λ (z : NoteParts). z.width) b)
          (sym (ap (λ (z : NoteParts). z.length) a) ∙ l ∙ ap (λ (z : NoteParts). z.length) b) in
          same_one q p n j i (subst (λ (z : NoteParts). StandsFor f r at q z) one t) s;
    }

    -- One that tells there votes.
    votes_there : TellsFor r p n → IsTrue (is_vote f r p n)
    votes_there tells = elim (cases_Bool p.whole) [
      | inl w ↦
          let there = tells.by_value w in
          (value_vote (tells_in f.notes p) r p n ((by_value p f.notes own i).1 (value_tells w there)) w (record {
            held = s.held;
            passes = and_from _ _ ((by_value n r theirs s.held).1 there)
                (says_same packet_of p n (packet_stands p n w s));
          })).passes
      | inr w ↦
          let there = tells.by_length w in
          (length_vote (tells_in f.notes p) r p n ((by_length p f.notes own i).1 (length_tells there))
          (either_false _ _ w) (record {
            held = s.held;
            passes = and_from _ _ ((by_length n r theirs s.held).1 there) (says_same front_of p n (front_stands p n s));
          })).passes
    ]

  voted : In at (votes f r)
  voted =
      let (p, n, i, s, tells) = lies.some in
      (In-flat_map (λ p. map (shift f p) (filter (is_vote f r p) r)) f.notes at).1 (
        p,
        i,
        (In-map (shift f p) (filter (is_vote f r p) r) at).1 (
          n,
          (In-filter (is_vote f r p) r n).1 (s.held, votes_there p n i s tells),
          sym s.moved,
        ),
      )

  loosened : (p n : NoteParts) → StandsFor f r at p n → (not p.whole || not n.whole || is_same_packet p n) ≡ true
  loosened p n s = elim (cases_Bool p.whole) [
    | inl w ↦ last p.whole (not n.whole) _ (says_same packet_of p n (packet_stands p n w s))
    | inr w ↦ first p.whole (not n.whole) (is_same_packet p n) w
  ]
    where
      last : (a b c : Bool) → c ≡ true → (not a || b || c) ≡ true
      last a b c e = grind arith

      first : (a b c : Bool) → a ≡ false → (not a || b || c) ≡ true
      first a b c e = cc

  agrees_there : (p n : NoteParts) → StandsFor f r at p n → n.offset ≡ moved_place f at p
      → agrees_at r (moved_place f at p) p ≡ true
  unfolding agrees_at
  agrees_there p n s o =
      (list_any-In (λ m. is_there (moved_place f at p) p m && (not p.whole || not m.whole || is_same_packet p m)) r).1 (
        n,
        s.held,
        and_from _ _ (and_from _ _ (eq-eqb _ _ o) (says_same front_of p n (front_stands p n s))) (loosened p n s),
      )

  each_agrees : (p : NoteParts) → In p f.notes → agrees f r at p ≡ true
  each_agrees p i =
      let (n, s) = lies.each p i in
      let e = s.moved in
      let l : greatest_end - place f p ≤ at = omega (arith, e) in
      let o : n.offset ≡ moved_place f at p = omega (arith, e) in
      sym (agrees_moved f r at p l) ∙ agrees_there p n s o

  -- So it is found, with all its notes.
  pub found_wholly : (found : Option Match) → IsFound f r found
      → (m : Match) × (found ≡ Some m) × (m.offset ≡ offset_of at) × (m.agree ≡ length f.notes)
  found_wholly None e = absurd (subst (λ (l : List ℕ). In at l) e voted)
  found_wholly (Some m) (v, is) =
      let (k, l, e) = placed (votes f r) v is.voted.some in
      let same : v ≡ at = votes_at v (subst (λ (x : ℕ). In x (votes f r)) e (In-at (votes f r) k 0 l)) in (
        m,
        refl,
        is.offset ∙ ap offset_of same,
        is.agree ∙ ap (agreeing f r) same ∙ count-all (agrees f r at) f.notes each_agrees,
      )
