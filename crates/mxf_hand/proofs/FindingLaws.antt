-- What is found of sections.
use Rattle.mxf_views.proofs.Common.{◌≡◌, ◌∙◌, ◌↔◌, ◌⊎◌, ◌≤◌, ◌+◌, ℕ, List, [], ◌∷◌, ◌++◌, ap, arith, inl, inr, map}
use Rattle.mxf_views.proofs.Common.{refl, append-nil, append_assoc, subst, sym, map-append, NoteParts, In, In-append}
use Rattle.mxf_views.proofs.Common.{reduced_union, reduced_with, LiesIn-with_run, with_run, LiesIn, run, ◌<◌, drop}
use Rattle.mxf_views.proofs.Common.{get_or, length, drop_all}
use Rattle.mxf_catalogue.specs.declared.run.Run.{Run}
use Rattle.mxf_read.proofs.Taking.{union_append}
use Rattle.mxf_places.proofs.LoopLaws.{appended-step, nothing_left}
use Rattle.mxf_restore.specs.declared.section.Section.{Section}
use Rattle.mxf_hand.specs.Finding.{Finds, Grows, GrowsBySection, IsStart, read_notes}
use Rattle.mxf_hand.specs.Hand.{HandBytes}
use Rattle.mxf_hand.specs.Rounds.{made_in, packets_in, read_heads_in, read_heads_of}
use Rattle.mxf_hand.specs.Sections.{made_of, packets_of}
use Rattle.mxf_hand.specs.declared.found.CutHead.{CutHead}
use Rattle.mxf_hand.specs.declared.found.Found.{Found}

-- A note of two lists begins at an offset where one of either does.
pub start-append : (a b : List NoteParts) (x : ℕ) → IsStart (a ++ b) x ↔ IsStart a x ⊎ IsStart b x
start-append a b x = (
  λ h. elim ((In-append h.0 a b).0 h.1) [ inl i ↦ inl (h.0, i, h.2) | inr i ↦ inr (h.0, i, h.2) ],
  λ h. elim h [
    | inl k ↦ (k.0, (In-append k.0 a b).1 (inl k.1), k.2)
    | inr k ↦ (k.0, (In-append k.0 a b).1 (inr k.1), k.2)
  ],
)

-- The start of one more note is added.
pub start_added : (old new : List Run) (items left : List NoteParts) (n : NoteParts)
    → new ≡ with_run (run n.offset (n.offset + 1)) old → items ≡ n ∷ left → (x : ℕ)
    → (LiesIn new x ⊎ IsStart left x) ↔ (LiesIn old x ⊎ IsStart items x)
start_added old new items left n is first x =
    let one = LiesIn-with_run (run n.offset (n.offset + 1)) old x in
    let there : (m : NoteParts) → In m (n ∷ left) → In m items =
    λ m i. subst (λ (l : List NoteParts). In m l) (sym first) i in
    let back : (m : NoteParts) → In m items → In m (n ∷ left) =
    λ m i. subst (λ (l : List NoteParts). In m l) first i in (
      λ h. elim h [
        | inl k ↦ elim (one.0 (subst (λ (l : List Run). LiesIn l x) is k)) [
          | inl w ↦
              let from : n.offset ≤ x = w.from in
              let before : x + 1 ≤ n.offset + 1 = w.before in inr (n, there n (inl refl), omega arith)
          | inr o ↦ inl o
        ]
        | inr k ↦ inr (k.0, there k.0 (inr k.1), k.2)
      ],
      λ h. elim h [
        | inl o ↦ inl (subst (λ (l : List Run). LiesIn l x) (sym is) (one.1 (inr o)))
        | inr k ↦ elim (back k.0 k.1) [
          | inl e ↦
              let at : n.offset ≡ x = sym (ap (λ (m : NoteParts). m.offset) e) ∙ k.2 in
              inl (subst (λ (l : List Run). LiesIn l x) (sym is)
              (one.1 (inl (record { from = omega arith; before = omega arith }))))
          | inr i ↦ inr (k.0, i, k.2)
        ]
      ],
    )

-- All notes that were read, of two parts.
pub read_more : (p n : List NoteParts) (h m : List CutHead) (x : ℕ) → IsStart (read_notes (p ++ n) (h ++ m)) x
    ↔ IsStart (read_notes p h) x ⊎ (IsStart n x ⊎ IsStart (map (λ c. c.note) m) x)
read_more p n h m x =
    let note = λ (c : CutHead). c.note in
    let all = start-append (p ++ n) (map note (h ++ m)) x in
    let packets = start-append p n x in
    let heads = start-append (map note h) (map note m) x in
    let first = start-append p (map note h) x in
    let split : map note (h ++ m) ≡ map note h ++ map note m = map-append note h m in (
      λ k. elim (all.0 k) [
        | inl a ↦ elim (packets.0 a) [ inl b ↦ inl (first.1 (inl b)) | inr b ↦ inr (inl b) ]
        | inr a ↦ elim (heads.0 (subst (λ (l : List NoteParts). IsStart l x) split a)) [
          | inl b ↦ inl (first.1 (inr b))
          | inr b ↦ inr (inr b)
        ]
      ],
      λ k. all.1 (elim k [
        | inl a ↦ elim (first.0 a) [
          | inl b ↦ inl (packets.1 (inl b))
          | inr b ↦ inr (subst (λ (l : List NoteParts). IsStart l x) (sym split) (heads.1 (inl b)))
        ]
        | inr a ↦ elim a [
          | inl b ↦ inl (packets.1 (inr b))
          | inr b ↦ inr (subst (λ (l : List NoteParts). IsStart l x) (sym split) (heads.1 (inr b)))
        ]
      ]),
    )

-- A start of one more list is one of all, where that list is empty.
no_start : (x : ℕ) → IsStart [] x → ⊥
no_start x h = absurd h.1

-- What was found, seen by equal lists.
pub same_found : (f : Found) (p q m n : List NoteParts) (h k : List CutHead) → p ≡ q → m ≡ n → h ≡ k → Finds f p m h
    → Finds f q n k
same_found f p q m n h k ep em eh found = grind arith

-- A packet that was made is added.
pub grow_made : (old new : Found) (n : NoteParts) → new.packets ≡ old.packets → new.made ≡ reduced_with n old.made
    → new.heads ≡ old.heads → new.starts ≡ old.starts → Grows old new [] (n ∷ []) []
grow_made old new n ep em eh es packets made heads found =
    same_found new packets (packets ++ []) (made ++ n ∷ []) (made ++ n ∷ []) heads (heads ++ [])
    (sym (append-nil packets)) refl (sym (append-nil heads)) (record {
      read = ep ∙ found.read;
      put = em ∙ ap (reduced_with n) found.put ∙ sym (union_append [] made (n ∷ []));
      cut = ap (λ v. v.items) eh ∙ found.cut;
      starts = λ x. subst (λ (runs : List Run). LiesIn runs x ↔ IsStart (read_notes packets heads) x) (sym es)
          (found.starts x);
    })

-- Packets that were read are added.
pub grow_packets : (old new : Found) (notes : List NoteParts) → new.packets ≡ reduced_union old.packets notes
    → new.made ≡ old.made → new.heads ≡ old.heads
    → ((x : ℕ) → LiesIn new.starts x ↔ LiesIn old.starts x ⊎ IsStart notes x) → Grows old new notes [] []
grow_packets old new notes ep em eh es packets made heads found = record {
  read = ep ∙ ap (λ (l : List NoteParts). reduced_union l notes) found.read ∙ sym (union_append [] packets notes);
  put = em ∙ found.put ∙ ap (reduced_union []) (sym (append-nil made));
  cut = ap (λ v. v.items) eh ∙ found.cut ∙ sym (append-nil heads);
  starts = λ x.
      let more = read_more packets notes heads [] x in (
        λ k. more.1 (elim ((es x).0 k) [ inl a ↦ inl ((found.starts x).0 a) | inr a ↦ inr (inl a) ]),
        λ k. (es x).1 (elim (more.0 k) [
          | inl a ↦ inl ((found.starts x).1 a)
          | inr a ↦ elim a [ inl b ↦ inr b | inr b ↦ absurd (no_start x b) ]
        ]),
      );
}

-- A head that was read is added.
pub grow_head : (old new : Found) (c : CutHead) → new.packets ≡ old.packets → new.made ≡ old.made
    → new.heads.items ≡ old.heads.items ++ c ∷ []
    → new.starts ≡ with_run (run c.note.offset (c.note.offset + 1)) old.starts → Grows old new [] [] (c ∷ [])
grow_head old new c ep em eh es packets made heads found = record {
  read = ep ∙ found.read ∙ ap (reduced_union []) (sym (append-nil packets));
  put = em ∙ found.put ∙ ap (reduced_union []) (sym (append-nil made));
  cut = eh ∙ ap (λ (l : List CutHead). l ++ c ∷ []) found.cut;
  starts = λ x.
      let more = read_more packets [] heads (c ∷ []) x in
      let one = start_added old.starts new.starts (c.note ∷ []) [] c.note es refl x in (
        λ k. more.1 (elim (one.0 (inl k)) [ inl a ↦ inl ((found.starts x).0 a) | inr a ↦ inr (inr a) ]),
        λ k. elim (one.1 (elim (more.0 k) [
          | inl a ↦ inl ((found.starts x).1 a)
          | inr a ↦ elim a [ inl b ↦ absurd (no_start x b) | inr b ↦ inr b ]
        ])) [ inl a ↦ a | inr a ↦ absurd (no_start x a) ],
      );
}

-- What was found grows twice.
pub grow_twice : (old mid new : Found) (p q m n : List NoteParts) (h k : List CutHead) → Grows old mid p m h
    → Grows mid new q n k → Grows old new (p ++ q) (m ++ n) (h ++ k)
grow_twice old mid new p q m n h k f g packets made heads found =
    same_found new ((packets ++ p) ++ q) (packets ++ (p ++ q)) ((made ++ m) ++ n) (made ++ (m ++ n))
    ((heads ++ h) ++ k) (heads ++ (h ++ k)) (append_assoc packets p q) (append_assoc made m n)
    (append_assoc heads h k) (g (packets ++ p) (made ++ m) (heads ++ h) (f packets made heads found))

-- What was added, seen by equal lists.
pub same_growth : (old new : Found) (p q m n : List NoteParts) (h k : List CutHead) → p ≡ q → m ≡ n → h ≡ k
    → Grows old new p m h → Grows old new q n k
same_growth old new p q m n h k ep em eh g packets made heads found =
    same_found new (packets ++ p) (packets ++ q) (made ++ m) (made ++ n) (heads ++ h) (heads ++ k)
    (ap (λ (l : List NoteParts). packets ++ l) ep) (ap (λ (l : List NoteParts). made ++ l) em)
    (ap (λ (l : List CutHead). heads ++ l) eh) (g packets made heads found)

-- One section more was added, of those from one on.
pub next_found : (h : HandBytes) (notes : List NoteParts) (sections : List Section) (i : ℕ) (d : Section)
    (old new : Found) (packets made : List NoteParts) (heads : List CutHead) → i < length sections
    → GrowsBySection h notes (get_or sections i d) old new → Finds old packets made heads
    → packets ++ packets_in h notes (drop i sections) ≡ packets_in h notes sections
    → made ++ made_in h notes (drop i sections) ≡ made_in h notes sections
    → heads ++ read_heads_in h notes (drop i sections) ≡ read_heads_in h notes sections
    → (p : List NoteParts) × (m : List NoteParts) × (k : List CutHead) × Finds new p m k
    × (p ++ packets_in h notes (drop (i + 1) sections) ≡ packets_in h notes sections)
    × (m ++ made_in h notes (drop (i + 1) sections) ≡ made_in h notes sections)
    × (k ++ read_heads_in h notes (drop (i + 1) sections) ≡ read_heads_in h notes sections)
next_found h notes sections i d old new packets made heads here grown found ep em eh =
    let s = get_or sections i d in (
      packets ++ packets_of h notes s,
      made ++ made_of h notes s,
      heads ++ read_heads_of h notes s,
      grown packets made heads found,
      appended-step (packets_of h notes) sections i d packets (packets ++ packets_of h notes s)
          (packets_in h notes sections) here refl ep,
      appended-step (made_of h notes) sections i d made (made ++ made_of h notes s) (made_in h notes sections) here
          refl em,
      appended-step (read_heads_of h notes) sections i d heads (heads ++ read_heads_of h notes s)
          (read_heads_in h notes sections) here refl eh,
    )

-- All sections were.
pub all_found : (h : HandBytes) (notes : List NoteParts) (sections : List Section) (i : ℕ) (f : Found)
    (packets made : List NoteParts) (heads : List CutHead) → length sections ≤ i → Finds f packets made heads
    → packets ++ packets_in h notes (drop i sections) ≡ packets_in h notes sections
    → made ++ made_in h notes (drop i sections) ≡ made_in h notes sections
    → heads ++ read_heads_in h notes (drop i sections) ≡ read_heads_in h notes sections
    → Finds f (packets_in h notes sections) (made_in h notes sections) (read_heads_in h notes sections)
all_found h notes sections i f packets made heads ended found ep em eh =
    let none = drop_all i sections ended in
    same_found f packets (packets_in h notes sections) made (made_in h notes sections) heads
    (read_heads_in h notes sections) (nothing_left (packets_in h notes) (drop i sections) packets _ refl none ep)
    (nothing_left (made_in h notes) (drop i sections) made _ refl none em)
    (nothing_left (read_heads_in h notes) (drop i sections) heads _ refl none eh) found
