-- The bytes of a file by their parts.
use Rattle.mxf_klv.proofs.Common.{◌≡◌, ℕ, zero, suc, ◌+◌, ◌^◌, ◌<◌, List, [], ◌∷◌, ◌++◌, length, get_or, refl, sym, ap}
use Rattle.mxf_klv.proofs.Common.{◌∙◌, arith, inl, inr, append_assoc, length-append, append-nil, take_at, drop_at}
use Rattle.mxf_klv.proofs.Common.{flat_map-append, w64, from_be_bytes, flat_map, IsTotalOrder, Ordering, Less}
use Rattle.mxf_klv.proofs.Common.{NoteParts, IsNote, IsRising, less_in}
use Rattle.std.proofs.lemmas.Nat.{be_bytes_8, from_be_bytes-to_be_bytes_8}
use Rattle.std.specs.Prelude.{Bool}
use Rattle.mxf_catalogue.specs.declared.catalogue.file.fixed_part.FixedPart.{FixedPart}
use Rattle.mxf_catalogue.specs.Content.{AreReduced, IsContent}
use Rattle.mxf_catalogue.specs.declared.catalogue.file.start.Version.{Version}
use Rattle.mxf_catalogue.specs.CatalogueFile.{number_bytes, IsFixedPart, fixed_bytes, CanBeNoted, held_length}
use Rattle.mxf_catalogue.specs.CatalogueFile.{fixed_part_of, note_bytes, start_bytes, IsFileOfVersion, BeginsWithNote}
use Rattle.mxf_catalogue.specs.CatalogueFile.{IsCutNote, IsBadNote, IsFront, place_after, CanHave, IsMarkIn}
use Rattle.mxf_catalogue.specs.CatalogueFile.{BeginsWithParts, CanBeMarked, length_ahead, mark_bytes, mark_of}
use Rattle.mxf_klv.proofs.Lists.{all_push, all_last, In-at}

-- ---- parts of a text

pub same_front : (us vs xs ys : List ℕ) → length us ≡ length vs → us ++ xs ≡ vs ++ ys → (us ≡ vs) × (xs ≡ ys)
same_front us vs xs ys p e =
    grind (
      arith,
      take_at us xs (length vs) p,
      take_at vs ys (length vs) refl,
      drop_at us xs (length vs) p,
      drop_at vs ys (length vs) refl,
    )

pub length-number_bytes : (n : ℕ) → length (number_bytes n) ≡ 8
unfolding number_bytes
length-number_bytes n = refl

number_read : (n : ℕ) → n < 2 ^ 64 → from_be_bytes w64 (number_bytes n) ≡ n
unfolding number_bytes
number_read n h = from_be_bytes-to_be_bytes_8 n h

-- the number that eight bytes stand for is spelled by them
pub number_in : (bs : List ℕ) (n : ℕ) → length bs ≡ 8 → ((i : ℕ) → get_or bs i 0 < 256) → n ≡ from_be_bytes w64 bs
    → bs ≡ number_bytes n
unfolding number_bytes
number_in bs n l h e = sym (be_bytes_8 bs n l h e)

pub same_number : (m n : ℕ) (xs ys : List ℕ) → m < 2 ^ 64 → n < 2 ^ 64 → number_bytes m ++ xs ≡ number_bytes n ++ ys
    → (m ≡ n) × (xs ≡ ys)
same_number m n xs ys p q e =
    let same = same_front (number_bytes m) (number_bytes n) xs ys (length-number_bytes m ∙ sym (length-number_bytes n))
    e in
    (sym (number_read m p) ∙ ap (from_be_bytes w64) same.0 ∙ number_read n q, same.1)

-- ---- fixed parts

pub regrouped : (h : FixedPart) (xs : List ℕ)
    → fixed_bytes h ++ xs ≡ number_bytes h.offset ++ (h.key ++ (h.width ∷ (number_bytes h.length ++ xs)))
regrouped h xs = grind (arith, append_assoc)

pub length-fixed_bytes : (h : FixedPart) → length h.key ≡ 16 → length (fixed_bytes h) ≡ 33
length-fixed_bytes h k = grind (arith, length-append, length-number_bytes)

fixed_parts_from : (g h : FixedPart) → g.offset ≡ h.offset → g.key ≡ h.key → g.width ≡ h.width → g.length ≡ h.length
    → g ≡ h
fixed_parts_from g h a b c d i = record { offset = a i; key = b i; width = c i; length = d i }

pub same_fixed_part : (g h : FixedPart) (xs ys : List ℕ) → IsFixedPart g → IsFixedPart h
    → fixed_bytes g ++ xs ≡ fixed_bytes h ++ ys → (g ≡ h) × (xs ≡ ys)
same_fixed_part g h xs ys p q e = grind (arith, fixed_parts_from, regrouped, same_front, same_number)

-- ---- notes

pub fixed_part_fits : (n : NoteParts) → IsNote n → IsFixedPart (fixed_part_of n)
fixed_part_fits n i = omega arith

pub fixed_part_noted : (n : NoteParts) → IsNote n → CanBeNoted (fixed_part_of n)
fixed_part_noted n i = record { label = i.label; width = i.width; within = i.within }

pub note_marked : (n : NoteParts) → IsNote n → CanBeMarked (fixed_part_of n) (mark_of n.whole)
note_marked n i = grind (arith, fixed_part_noted n i)

length-held : (n : NoteParts) → IsNote n → length n.held ≡ held_length (fixed_part_of n) (mark_of n.whole)
length-held n i = grind arith

-- a mark stands for one thing
same_whole : (a b : Bool) → mark_of a ≡ mark_of b → a ≡ b
same_whole a b h = grind arith

notes_from : (m n : NoteParts) → fixed_part_of m ≡ fixed_part_of n → m.whole ≡ n.whole → m.held ≡ n.held → m ≡ n
notes_from m n e w f i = record
    { offset = (e i).offset; key = (e i).key; width = (e i).width; length = (e i).length; whole = w i; held = f i }

laid : (v : Version) (n : NoteParts) (xs : List ℕ) → note_bytes v n ++ xs
    ≡ fixed_bytes (fixed_part_of n) ++ (mark_bytes v (mark_of n.whole) ++ (n.held ++ xs))
laid v n xs = grind (arith, append_assoc)

-- the mark of a note that a version can have is one of the version
pub mark_in : (v : Version) (n : NoteParts) → CanHave v n → IsMarkIn v (mark_of n.whole)
mark_in v n h = grind arith

-- a mark at the front of one text is one
same_mark : (v : Version) (a b : ℕ) (xs ys : List ℕ) → IsMarkIn v a → IsMarkIn v b
    → mark_bytes v a ++ xs ≡ mark_bytes v b ++ ys → (a ≡ b) × (xs ≡ ys)
same_mark v a b xs ys h k e = grind arith

-- two fixed parts with their marks at the front of one text are one
pub same_parts : (v : Version) (g h : FixedPart) (a b : ℕ) (xs ys : List ℕ) → IsFixedPart g → IsFixedPart h
    → IsMarkIn v a → IsMarkIn v b → fixed_bytes g ++ (mark_bytes v a ++ xs) ≡ fixed_bytes h ++ (mark_bytes v b ++ ys)
    → (g ≡ h) × (a ≡ b) × (xs ≡ ys)
same_parts v g h a b xs ys p q i j e = grind (arith, same_fixed_part, same_mark)

-- how many bytes a fixed part with its mark has
pub length-ahead : (v : Version) (f : FixedPart) (mark : ℕ) → length f.key ≡ 16
    → length (fixed_bytes f) + length (mark_bytes v mark) ≡ length_ahead v
length-ahead v f mark h = grind (arith, length-fixed_bytes)

pub length-parts : (v : Version) (f : FixedPart) (mark : ℕ) (xs : List ℕ) → length f.key ≡ 16
    → length (fixed_bytes f ++ (mark_bytes v mark ++ xs)) ≡ length_ahead v + length xs
length-parts v f mark xs k = grind (arith, length-ahead, length-append)

-- two notes at the front of one text are one
pub same_note : (v : Version) (m n : NoteParts) (xs ys : List ℕ) → IsNote m → IsNote n → CanHave v m → CanHave v n
    → note_bytes v m ++ xs ≡ note_bytes v n ++ ys → (m ≡ n) × (xs ≡ ys)
same_note v m n xs ys i j c d e =
    let a = same_parts v (fixed_part_of m) (fixed_part_of n) (mark_of m.whole) (mark_of n.whole) (m.held ++ xs)
    (n.held ++ ys) (fixed_part_fits m i) (fixed_part_fits n j) (mark_in v m c) (mark_in v n d)
    (sym (laid v m xs) ∙ e ∙ laid v n ys) in
    let len : held_length (fixed_part_of m) (mark_of m.whole) ≡ held_length (fixed_part_of n) (mark_of n.whole) =
    λ i. held_length (a.0 i) (a.1 i) in
    let b = same_front m.held n.held xs ys (length-held m i ∙ len ∙ sym (length-held n j)) a.2 in
    (notes_from m n a.0 (same_whole m.whole n.whole a.1) b.0, b.1)

-- the same of what begins with them
pub same_beginning : (v : Version) (m n : NoteParts) (bytes xs ys : List ℕ) → BeginsWithNote v bytes m xs
    → BeginsWithNote v bytes n ys → m ≡ n
same_beginning v m n bytes xs ys b d = grind (arith, same_note)

-- the fixed part and the mark that a note at the front begins with are the note's
note_mark : (v : Version) (n : NoteParts) (f : FixedPart) (mark : ℕ) (bytes more rest : List ℕ)
    → BeginsWithNote v bytes n more → BeginsWithParts v bytes f mark rest
    → (f ≡ fixed_part_of n) × (mark ≡ mark_of n.whole) × (rest ≡ n.held ++ more)
note_mark v n f mark bytes more rest b p =
    same_parts v f (fixed_part_of n) mark (mark_of n.whole) rest (n.held ++ more) p.fixed (fixed_part_fits n b.note)
    p.marked (mark_in v n b.can_have) (sym p.whole ∙ b.whole ∙ laid v n more)

-- a note at the front isn't cut
pub note_uncut : (v : Version) (n : NoteParts) (bytes more : List ℕ) → BeginsWithNote v bytes n more
    → IsCutNote v bytes → ⊥
note_uncut v n bytes more b (inl short) =
    grind (
      arith,
      laid v n more,
      length-parts v (fixed_part_of n) (mark_of n.whole) (n.held ++ more) b.note.label.0,
      fixed_part_of n,
      mark_of n.whole,
    )
note_uncut v n bytes more b (inr (f, mark, rest, p, good, short)) =
    let same = note_mark v n f mark bytes more rest b p in
    let len = ap length same.2 in
    let held = length-held n b.note in
    let size : held_length f mark ≡ held_length (fixed_part_of n) (mark_of n.whole) =
    λ i. held_length (same.0 i) (same.1 i) in
    omega (arith, len, held, size, short, length-append n.held more)

-- and its fixed part is no bad one
pub note_good : (v : Version) (n : NoteParts) (bytes more : List ℕ) → BeginsWithNote v bytes n more
    → IsBadNote v bytes → ⊥
note_good v n bytes more b (f, mark, rest, p, bad) =
    grind (arith, note_mark v n f mark bytes more rest b p, fixed_part_of n, note_marked n b.note)

pub cut_good : (v : Version) (bytes : List ℕ) → IsCutNote v bytes → IsBadNote v bytes → ⊥
cut_good v bytes h k = grind (arith, length-parts, same_parts)

-- ---- lists that go on

module _ {K : Type 0} {R : K → K → Ordering} (o : IsTotalOrder R) where
  -- a list goes on rising above its last element
  pub rising_push : (xs : List K) (k : ℕ) (d x : K) → length xs ≡ suc k → IsRising R xs → R (get_or xs k d) x ≡ Less
      → IsRising R (xs ++ x ∷ [])
  rising_push [] k d x l r e = absurd (omega arith)
  rising_push (y ∷ []) zero d x l r e = ((e, tt), (tt, tt))
  rising_push (y ∷ []) (suc k) d x l r e = absurd (omega arith)
  rising_push (y ∷ z ∷ zs) zero d x l r e = absurd (omega arith)
  rising_push (y ∷ z ∷ zs) (suc k) d x l r e =
      grind (
        arith,
        less_in o y (get_or (z ∷ zs) k d) (z ∷ zs) r.0 (In-at (z ∷ zs) k d (omega arith)),
        In-at (z ∷ zs) k d (omega arith),
        all_push (λ w. R y w ≡ Less) (z ∷ zs) x r.0,
        rising_push (z ∷ zs) k d x (omega arith) r.1 e,
      )

pub rising_last : {K : Type 0} (R : K → K → Ordering) (xs : List K) (k : ℕ) (d x : K) → k < length xs
    → IsRising R (xs ++ x ∷ []) → R (get_or xs k d) x ≡ Less
rising_last R [] k d x l r = absurd (omega arith)
rising_last R (y ∷ ys) zero d x l r = all_last (λ w. R y w ≡ Less) ys x r.0
rising_last R (y ∷ ys) (suc k) d x l r = rising_last R ys k d x (omega arith) r.1

pub flat_push : {X : Type 0} (f : X → List ℕ) (xs : List X) (x : X) (more : List ℕ)
    → flat_map f (xs ++ x ∷ []) ++ more ≡ flat_map f xs ++ (f x ++ more)
flat_push f xs x more = grind (arith, append-nil, append_assoc, flat_map-append)

-- ---- fronts of files

pub length-start_bytes : (v : Version) (count : ℕ) → length (start_bytes v count) ≡ 16
length-start_bytes v count = omega (arith, length-number_bytes count)

pub front_begins : (v : Version) (bytes rest : List ℕ) (count : ℕ) → count < 2 ^ 64
    → bytes ≡ start_bytes v count ++ rest → IsFront v bytes count [] rest
front_begins v bytes rest count h e = grind arith

pub front_next : (v : Version) (bytes rest more : List ℕ) (count : ℕ) (notes : List NoteParts) (n : NoteParts)
    → IsFront v bytes count notes rest → length notes < count → BeginsWithNote v rest n more
    → IsContent (notes ++ n ∷ []) → AreReduced (notes ++ n ∷ []) → IsFront v bytes count (notes ++ n ∷ []) more
front_next v bytes rest more count notes n f lt b r p = grind (arith, all_push, flat_push, length-append)

pub front_place : (v : Version) (bytes rest : List ℕ) (count : ℕ) (notes : List NoteParts)
    → IsFront v bytes count notes rest → length bytes ≡ place_after v notes + length rest
front_place v bytes rest count notes f =
    grind (
      arith,
      length-append (start_bytes v count) (flat_map (note_bytes v) notes ++ rest),
      start_bytes v count,
      flat_map (note_bytes v) notes,
      note_bytes v,
      length-append (flat_map (note_bytes v) notes) rest,
      length-start_bytes v count,
    )

pub front_whole : (v : Version) (bytes rest : List ℕ) (count : ℕ) (notes : List NoteParts)
    → IsFront v bytes count notes rest → length notes ≡ count → length rest ≡ 0 → IsFileOfVersion v bytes notes
front_whole v bytes [] count notes f e l = grind (arith, append-nil)
front_whole v bytes (b ∷ bs) count notes f e l = absurd (omega arith)
