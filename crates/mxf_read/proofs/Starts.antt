-- Where a piece may begin, by the tests, and the first such position.
use Rattle.mxf_views.proofs.Common.{◌≡◌, ℕ, zero, suc, ◌+◌, ◌-◌, ◌<◌, ◌≤◌, Bool, true, false, not, ◌&&◌, nat_le, List}
use Rattle.mxf_views.proofs.Common.{[], ◌∷◌, length, take, drop, Option, None, Some, refl, sym, ap, subst, ◌∙◌, arith}
use Rattle.mxf_views.proofs.Common.{inl, inr, ◌↔◌, slice_get, option_map_or, bytes_eq, leb-true, le-leb, and_parts}
use Rattle.mxf_views.proofs.Common.{and_from, or_cases, or_left, or_right, false_from_ne_true, cases_lt, cases_order}
use Rattle.mxf_views.proofs.Common.{cases_Bool, cond-false, bytes_eq-Decides, take_at, drop_at, drop-drop, take_all}
use Rattle.mxf_views.proofs.Common.{length-drop, length-take, take-append-drop, LengthParts, packet_parts}
use Rattle.mxf_views.proofs.Common.{begins_as_label, label_start, kind_of, BeginsWithKeyAndLength, greatest_end}
use Rattle.mxf_views.proofs.Common.{size_of, IsHeadOf, IsNoHead, IsOpen, head_at, packet_at, head-size, head-width}
use Rattle.mxf_views.proofs.Common.{head_at-head, packet_at-given, at_cut, stops}
use Rattle.mxf_klv.specs.declared.kinds.Kind.{Kind}
use Rattle.mxf_klv.specs.declared.kinds.Kind.TheVariants.{Essence, Header, Body, Footer, Primer, Segment, Rip, Preface}
use Rattle.mxf_klv.specs.declared.kinds.Kind.TheVariants.{Identification, ContentStorage, MaterialPackage}
use Rattle.mxf_klv.specs.declared.kinds.Kind.TheVariants.{SourcePackage, RawSet, Fill, Other}
use Rattle.mxf_klv.specs.declared.piece.Stop.{Stop}
use Rattle.mxf_klv.specs.declared.piece.Stop.TheVariants.{Truncated}
use Rattle.std.specs.Option.{option_map}
use Rattle.std.proofs.lemmas.Bool.{both_ways, cond-true}
use Rattle.mxf_klv.specs.PieceReading.{end_with}
use Rattle.mxf_klv.proofs.KeyAndLengthLaws.{head-begins, head-past_key, head-packet}
use Rattle.mxf_klv.proofs.PieceLaws.{begins-test, head_at-stands, test-begins}
use Rattle.memchr.specs.Find.{FindsNeedle, OccursAt}
use Rattle.memchr.proofs.lemmas.MatchLemmas.{OccursAt-from_part}
use Rattle.mxf_read.specs.Ranges.{IsStart, IsStartKey, MayBegin, is_other, is_start_key, may_begin, start_in}

-- ---- keys

other_is : (k : Kind) → is_other k ≡ true → k ≡ Other
other_is (Header s) e = absurd cc
other_is (Body s) e = absurd cc
other_is (Footer s) e = absurd cc
other_is Primer e = absurd cc
other_is Segment e = absurd cc
other_is Rip e = absurd cc
other_is Preface e = absurd cc
other_is Identification e = absurd cc
other_is ContentStorage e = absurd cc
other_is MaterialPackage e = absurd cc
other_is SourcePackage e = absurd cc
other_is RawSet e = absurd cc
other_is Fill e = absurd cc
other_is Essence e = absurd cc
other_is Other e = refl

byte_at : (n : ℕ) (xs : List ℕ) (b : ℕ) → take 1 (drop n xs) ≡ b ∷ [] → slice_get xs n ≡ Some b
byte_at zero [] b e = absurd cc
byte_at zero (x ∷ xs) b e = cc
byte_at (suc n) [] b e = absurd cc
byte_at (suc n) (x ∷ xs) b e = byte_at n xs b e

at_byte : (n : ℕ) (xs : List ℕ) (b : ℕ) → slice_get xs n ≡ Some b → take 1 (drop n xs) ≡ b ∷ []
at_byte zero [] b e = absurd cc
at_byte zero (x ∷ xs) b e = cc
at_byte (suc n) [] b e = absurd cc
at_byte (suc n) (x ∷ xs) b e = at_byte n xs b e

test-key : (key : List ℕ) → is_start_key key ≡ true → IsStartKey key
test-key key e =
    elim (or_cases (not (is_other (kind_of key))) (bytes_eq (take 1 (drop 4 key)) (0x02 ∷ [])) e) [
      | inl p ↦ inl (λ is. both_ways (is_other (kind_of key)) (known (is_other (kind_of key)) p) (ap is_other is))
      | inr p ↦ inr (byte_at 4 key 0x02 ((bytes_eq-Decides (take 1 (drop 4 key)) (0x02 ∷ [])).0 p))
    ]
  where
    known : (b : Bool) → not b ≡ true → b ≡ false
    known true p = absurd cc
    known false p = refl

key-test : (key : List ℕ) → IsStartKey key → is_start_key key ≡ true
key-test key (inl p) =
    or_left _ _ (ap not (false_from_ne_true (is_other (kind_of key)) (λ e. p (other_is (kind_of key) e))))
key-test key (inr p) = or_right _ _ ((bytes_eq-Decides (take 1 (drop 4 key)) (0x02 ∷ [])).1 (at_byte 4 key 0x02 p))

-- ---- one position

-- A piece may begin at the front of bytes, by the tests.
pub record Begins (offset : ℕ) (bytes : List ℕ) : Type 0 where
  pub l : LengthParts
  pub head : head_at bytes ≡ Some l
  pub key : is_start_key (take 16 bytes) ≡ true
  pub within : end_with offset l ≤ greatest_end
  pub next : begins_as_label (drop (16 + l.width + l.value) bytes) ≡ true

may_begin-true : (offset : ℕ) (bytes : List ℕ) → may_begin offset bytes ≡ true → Begins offset bytes
unfolding may_begin
may_begin-true offset bytes e = elim (head_at bytes) as (λ o. head_at bytes ≡ o
    → option_map_or (λ l. is_start_key (take 16 bytes) && nat_le (end_with offset l) greatest_end
    && begins_as_label (drop (16 + l.width + l.value) bytes)) o false ≡ true → Begins offset bytes) [
      | None ↦ λ h f. absurd cc
      | Some l ↦ λ h f.
          let p = and_parts (is_start_key (take 16 bytes) && nat_le (end_with offset l) greatest_end) _ f in
          let q = and_parts (is_start_key (take 16 bytes)) (nat_le (end_with offset l) greatest_end) p.0 in
          record { l = l; head = h; key = q.0; within = leb-true (end_with offset l) greatest_end q.1; next = p.1 }
    ] refl e

may_begin-from : (offset : ℕ) (bytes : List ℕ) → Begins offset bytes → may_begin offset bytes ≡ true
unfolding may_begin
may_begin-from offset bytes b = ap (λ (o : Option LengthParts). option_map_or (λ l. is_start_key (take 16 bytes)
    && nat_le (end_with offset l) greatest_end && begins_as_label (drop (16 + l.width + l.value) bytes)) o false) b.head
    ∙ and_from _ _ (and_from _ _ b.key (le-leb (end_with offset b.l) greatest_end b.within)) b.next

-- what stands behind the packet
past : (bytes key after : List ℕ) (l : LengthParts) (h : BeginsWithKeyAndLength bytes key l after)
    → drop (16 + l.width + l.value) bytes ≡ drop l.value after
past bytes key after l h = sym (drop-drop l.value (16 + l.width) bytes)
    ∙ ap (drop l.value) (sym (drop-drop l.width 16 bytes) ∙ ap (drop l.width) (head-past_key h)
    ∙ drop_at h.spelled after l.width (head-width h))

key_is : (bytes key after : List ℕ) (l : LengthParts) → BeginsWithKeyAndLength bytes key l after → take 16 bytes ≡ key
key_is bytes key after l h = ap (take 16) h.whole ∙ take_at key _ 16 h.label.0

-- of a packet at the front
pub begins_with : (offset : ℕ) (bytes key after : List ℕ) (l : LengthParts) → BeginsWithKeyAndLength bytes key l after
    → is_start_key key ≡ true → end_with offset l ≤ greatest_end → begins_as_label (drop l.value after) ≡ true
    → Begins offset bytes
begins_with offset bytes key after l h k within next = record {
  l = l;
  head = head_at-head bytes key l after h;
  key = ap is_start_key (key_is bytes key after l h) ∙ k;
  within = within;
  next = ap begins_as_label (past bytes key after l h) ∙ next;
}

pub may-test : (offset : ℕ) (window : List ℕ) (position : ℕ) → MayBegin offset window position
    → may_begin (offset + position) (drop position window) ≡ true
may-test offset window position m = may_begin-from (offset + position) (drop position window)
    (begins_with (offset + position) (drop position window) m.key m.after m.length m.stands (key-test m.key m.start_key)
    m.within (begins-test (drop m.length.value m.after) m.next))

pub test-may : (offset : ℕ) (window : List ℕ) (position : ℕ)
    → may_begin (offset + position) (drop position window) ≡ true → MayBegin offset window position
test-may offset window position e =
    let bytes = drop position window in
    let b = may_begin-true (offset + position) bytes e in
    let h = head_at-stands bytes b.l b.head in
    record {
      key = take 16 bytes;
      length = b.l;
      after = drop b.l.width (drop 16 bytes);
      stands = h;
      start_key = test-key (take 16 bytes) b.key;
      within = b.within;
      next = test-begins _ (ap begins_as_label (sym (past bytes _ _ b.l h)) ∙ b.next);
    }

-- ---- the exits of `may_begin`

-- a label stands where a piece may begin
pub occurs : (offset : ℕ) (hay : List ℕ) (k : ℕ) → may_begin offset (drop k hay) ≡ true → OccursAt hay label_start k
occurs offset hay k e =
    let b = may_begin-true offset (drop k hay) e in
    let h = head_at-stands (drop k hay) b.l b.head in
    let size = head-size h in
    let left = length-drop k hay in
    OccursAt-from_part hay label_start k (omega arith)
    (head-begins h ∙ take_all (length (drop k hay)) label_start (omega arith))

-- such a position lies in the window, and ends where a packet may
pub may_within : (offset : ℕ) (window : List ℕ) (p : ℕ) → may_begin (offset + p) (drop p window) ≡ true
    → (p < length window) × (offset + p ≤ greatest_end)
may_within offset window p e =
    let b = may_begin-true (offset + p) (drop p window) e in
    let size = head-size (head_at-stands (drop p window) b.l b.head) in
    let left = length-drop p window in
    let within = b.within in
    (omega arith, omega arith)

-- no piece begins where no head is given
pub no_head_given : (offset : ℕ) (bytes : List ℕ) (stop : Stop) → IsNoHead offset bytes stop
    → may_begin offset bytes ≡ false
no_head_given offset bytes stop none = false_from_ne_true (may_begin offset bytes) (λ e.
    let b = may_begin-true offset bytes e in
    let h = head_at-stands bytes b.l b.head in
    let after = drop b.l.width (drop 16 bytes) in
    elim (cases_lt (length after) b.l.value) [
      | inl short ↦
          let cut = stops offset bytes (Truncated offset)
          (at_cut offset bytes (take 16 bytes) after b.l h b.within short) in
          none.cut (subst IsOpen (cut.1 ∙ sym none.is) tt) (take 16 bytes) after b.l h
      | inr whole ↦
          let read = head-packet h whole in
          let p = packet_parts (take 16 bytes) b.l.width (take b.l.value after) in
          let size = 16 + b.l.width + b.l.value in
          let within = b.within in
          let is : size ≡ size_of p = omega (arith, length-take b.l.value after) in
          let stands : packet_at offset bytes ≡ Some p =
          packet_at-given offset bytes (take size bytes) (drop size bytes) p read.1 (sym (take-append-drop size bytes))
          (omega arith) in
          let not = none.none in
          absurd cc
    ])

-- where one is given, the key and what stands behind decide
pub head_given : (offset : ℕ) (bytes key : List ℕ) (l : LengthParts) → IsHeadOf offset bytes key l
    → may_begin offset bytes ≡ is_start_key key && begins_as_label (drop (16 + l.width + l.value) bytes)
unfolding may_begin
head_given offset bytes key l h = ap (λ (o : Option LengthParts). option_map_or (λ l. is_start_key (take 16 bytes)
    && nat_le (end_with offset l) greatest_end && begins_as_label (drop (16 + l.width + l.value) bytes)) o false)
    (head_at-head bytes key l h.after h.begins)
    ∙ ap (λ (k : List ℕ). is_start_key k && nat_le (end_with offset l) greatest_end
    && begins_as_label (drop (16 + l.width + l.value) bytes)) (key_is bytes key h.after l h.begins)
    ∙ ap (λ (t : Bool). t && begins_as_label (drop (16 + l.width + l.value) bytes))
    (both_true (is_start_key key) (nat_le (end_with offset l) greatest_end)
    (le-leb (end_with offset l) greatest_end h.within))
  where
    both_true : (a b : Bool) → b ≡ true → (a && b) ≡ a
    both_true true b e = e
    both_true false b e = refl

pub key_stands : (offset : ℕ) (bytes key : List ℕ) (l : LengthParts) (size : ℕ) (k n : Bool)
    → IsHeadOf offset bytes key l → k ≡ is_start_key key → k ≡ true → size ≡ 16 + l.width + l.value
    → n ≡ begins_as_label (drop size bytes) → n ≡ may_begin offset bytes
key_stands offset bytes key l size k n h is t s next = next ∙ ap (λ (m : ℕ). begins_as_label (drop m bytes)) s
    ∙ ap (λ (b : Bool). b && begins_as_label (drop (16 + l.width + l.value) bytes)) (sym t ∙ is)
    ∙ sym (head_given offset bytes key l h)

pub no_key : (offset : ℕ) (bytes key : List ℕ) (l : LengthParts) (k : Bool) → IsHeadOf offset bytes key l
    → k ≡ is_start_key key → k ≡ false → k ≡ may_begin offset bytes
no_key offset bytes key l k h is f =
    f ∙ ap (λ (b : Bool). b && begins_as_label (drop (16 + l.width + l.value) bytes)) (sym f ∙ is)
    ∙ sym (head_given offset bytes key l h)

-- nor where the packet would end above the greatest end
pub too_far_on : (offset : ℕ) (bytes : List ℕ) → greatest_end < offset → may_begin offset bytes ≡ false
too_far_on offset bytes far = false_from_ne_true (may_begin offset bytes) (λ e.
    let b = may_begin-true offset bytes e in
    let within = b.within in
    omega arith)

-- ---- the first of them

abbrev pub MayAt : ℕ → List ℕ → ℕ → Type 0
MayAt offset window p = may_begin (offset + p) (drop p window) ≡ true

-- No piece may begin at any of the first so many positions.
abbrev pub NoneOf : ℕ → List ℕ → ℕ → Type 0
NoneOf offset window count = (p : ℕ) → p < count → may_begin (offset + p) (drop p window) ≡ false

may_nothing : (offset : ℕ) → may_begin offset [] ≡ false
unfolding may_begin head_at
may_nothing offset = refl

may_past : (offset : ℕ) (k : ℕ) → may_begin offset (drop k []) ≡ false
may_past offset zero = may_nothing offset
may_past offset (suc k) = may_nothing offset

-- What is given: none, where a piece may begin nowhere; or the first.
abbrev pub IsGiven : ℕ → List ℕ → Option ℕ → Type 0
IsGiven offset window None = (p : ℕ) → may_begin (offset + p) (drop p window) ≡ false
IsGiven offset window (Some k) = NoneOf offset window k × MayAt offset window k

at_front : (offset : ℕ) (window : List ℕ) → may_begin (offset + 0) window ≡ may_begin offset window
at_front offset window = let same : offset + 0 ≡ offset = omega arith in ap (λ (o : ℕ). may_begin o window) same

behind_front : (offset b p : ℕ) (bs : List ℕ)
    → may_begin (offset + suc p) (drop (suc p) (b ∷ bs)) ≡ may_begin (offset + 1 + p) (drop p bs)
behind_front offset b p bs =
    let moved : offset + suc p ≡ offset + 1 + p = omega arith in ap (λ (o : ℕ). may_begin o (drop p bs)) moved

given_next : (offset : ℕ) (b : ℕ) (bs : List ℕ) (o : Option ℕ) → may_begin offset (b ∷ bs) ≡ false
    → IsGiven (offset + 1) bs o → IsGiven offset (b ∷ bs) (option_map (λ p. suc p) o)
given_next offset b bs None here none = at
  where
    at : (p : ℕ) → may_begin (offset + p) (drop p (b ∷ bs)) ≡ false
    at zero = at_front offset (b ∷ bs) ∙ here
    at (suc p) = behind_front offset b p bs ∙ none p
given_next offset b bs (Some k) here (before, e) = (at, behind_front offset b k bs ∙ e)
  where
    at : NoneOf offset (b ∷ bs) (suc k)
    at zero l = at_front offset (b ∷ bs) ∙ here
    at (suc p) l = behind_front offset b p bs ∙ before p (omega arith)

pub given : (offset : ℕ) (window : List ℕ) → IsGiven offset window (start_in offset window)
unfolding start_in
given offset [] = λ p. may_past (offset + p) p
given offset (b ∷ bs) =
    elim (cases_Bool (may_begin offset (b ∷ bs))) [
      | inl e ↦ subst (IsGiven offset (b ∷ bs)) (sym (cond-true _ _ _ e))
          (λ p l. absurd (omega arith), at_front offset (b ∷ bs) ∙ e)
      | inr e ↦ grind (arith, cond-false, given_next, start_in, given (offset + 1) bs)
    ]

pub first_is : (offset : ℕ) (window : List ℕ) (k : ℕ) → NoneOf offset window k → MayAt offset window k
    → start_in offset window ≡ Some k
first_is offset window k before e =
    elim (start_in offset window) as (λ o. IsGiven offset window o → o ≡ Some k) [
      | None ↦ λ none. absurd (both_ways _ (none k) e)
      | Some j ↦ λ (low, at). elim (cases_order j k) [
        | inl same ↦ ap (λ i. Some i) same
        | inr other ↦ elim other [
          | inl less ↦ absurd (both_ways _ (before j less) at)
          | inr more ↦ absurd (both_ways _ (low k more) e)
        ]
      ]
    ] (given offset window)

pub none_is : (offset : ℕ) (window : List ℕ) → ((p : ℕ) → may_begin (offset + p) (drop p window) ≡ false)
    → start_in offset window ≡ None
none_is offset window none =
    elim (start_in offset window) as (λ o. IsGiven offset window o → o ≡ None) [
      | None ↦ λ _. refl
      | Some j ↦ λ (low, at). absurd (both_ways _ (none j) at)
    ] (given offset window)

-- ---- the law

none_before : (offset : ℕ) (window : List ℕ) (p : ℕ) → may_begin (offset + p) (drop p window) ≡ false
    → MayBegin offset window p → ⊥
none_before offset window p e m = both_ways _ e (may-test offset window p m)

test_none : (offset : ℕ) (window : List ℕ) (p : ℕ) → (MayBegin offset window p → ⊥)
    → may_begin (offset + p) (drop p window) ≡ false
test_none offset window p n = false_from_ne_true _ (λ e. n (test-may offset window p e))

pub one_start : (offset : ℕ) (window : List ℕ) (start : ℕ)
    → (start_in offset window ≡ Some start) ↔ IsStart offset window start
one_start offset window start = (
  λ e.
      let g = subst (IsGiven offset window) e (given offset window) in
      record { may = test-may offset window start g.1; least = λ p l. none_before offset window p (g.0 p l) },
  λ s.
      let before : NoneOf offset window start = λ p l. test_none offset window p (s.least p l) in
      first_is offset window start before (may-test offset window start s.may),
)

pub no_start_is : (offset : ℕ) (window : List ℕ)
    → (start_in offset window ≡ None) ↔ ((position : ℕ) → MayBegin offset window position → ⊥)
no_start_is offset window = (
  λ e p m. none_before offset window p (subst (IsGiven offset window) e (given offset window) p) m,
  λ n. none_is offset window (λ p. test_none offset window p (n p)),
)

-- ---- the search for labels

-- no piece begins at the positions up to a label that is found, or anywhere where none is
found_at : (offset : ℕ) (window : List ℕ) (passed : ℕ) (hay needle : List ℕ) (p : ℕ) → hay ≡ drop passed window
    → needle ≡ label_start → passed ≤ p → MayAt offset window p → OccursAt hay needle (p - passed)
found_at offset window passed hay needle p is label from e =
    let at : passed + (p - passed) ≡ p = omega arith in
    subst (λ (h : List ℕ). OccursAt h needle (p - passed)) (sym is)
    (subst (λ (n : List ℕ). OccursAt (drop passed window) n (p - passed)) (sym label)
    (occurs (offset + p) (drop passed window) (p - passed)
    (ap (may_begin (offset + p)) (drop-drop (p - passed) passed window ∙ ap (λ (n : ℕ). drop n window) at) ∙ e)))

pub none_found : (offset : ℕ) (window : List ℕ) (passed : ℕ) (hay needle : List ℕ) → hay ≡ drop passed window
    → needle ≡ label_start → NoneOf offset window passed → FindsNeedle hay needle 0 None → start_in offset window ≡ None
none_found offset window passed hay needle is label before none = none_is offset window at
  where
    at : (p : ℕ) → may_begin (offset + p) (drop p window) ≡ false
    at p = elim (cases_lt p passed) [
      | inl under ↦ before p under
      | inr over ↦ false_from_ne_true (may_begin (offset + p) (drop p window)) (λ e.
          let o = found_at offset window passed hay needle p is label over e in
          let fits = o.fits in
          none (p - passed) (omega arith) (omega arith) o)
    ]

-- A label is found behind the positions that were passed: no piece begins before it, and it lies in the window.
pub found_next : (offset : ℕ) (window : List ℕ) (passed : ℕ) (hay needle : List ℕ) (found : ℕ)
    → hay ≡ drop passed window → needle ≡ label_start → NoneOf offset window passed
    → FindsNeedle hay needle 0 (Some found)
    → (passed + found + 1 ≤ length window) × NoneOf offset window (passed + found)
found_next offset window passed hay needle found is label before (none, here) = (within, at)
  where
    at : NoneOf offset window (passed + found)
    at p l =
        elim (cases_lt p passed) [
          | inl under ↦ before p under
          | inr over ↦ false_from_ne_true (may_begin (offset + p) (drop p window)) (λ e.
              none.before (p - passed) (omega arith) (omega arith)
              (found_at offset window passed hay needle p is label over e))
        ]

    within : passed + found + 1 ≤ length window
    within =
        let fits = here.fits in
        let four = ap length label in
        let left = ap length is in
        omega (arith, length-drop passed window)

pub none_more : (offset : ℕ) (window : List ℕ) (p : ℕ) → NoneOf offset window p
    → may_begin (offset + p) (drop p window) ≡ false → NoneOf offset window (p + 1)
none_more offset window p before here q l =
    elim (cases_lt q p) [
      | inl under ↦ before q under
      | inr over ↦
          let same : q ≡ p = omega arith in
          ap (λ (n : ℕ). may_begin (offset + n) (drop n window)) same ∙ here
    ]
