-- Bytes are the file of one content, or are refused for one fault.
use Rattle.std.proofs.Common.{◌≡◌, ◌≢◌, ℕ, ◌<◌, ◌≤◌, List, [], ◌∷◌, ◌++◌, length, drop, Result, Ok, Err, Option, Some}
use Rattle.std.proofs.Common.{refl, sym, ap, subst, ◌∙◌, arith, inl, inr, ◌⊎◌, append_assoc, length-append, append-nil}
use Rattle.std.specs.List.{flat_map, AllByRecursion, slice_get}
use Rattle.std.specs.Prelude.{IsSomeAnd, IfSome, IsTrue, ◌↔◌, ◌^◌}
use Rattle.mxf_klv.specs.Parts.{NoteParts}
use Rattle.mxf_klv.specs.Note.{IsNote, head_note, note_cmp}
use Rattle.mxf_klv.specs.Rising.{In}
use Rattle.mxf_catalogue.specs.declared.catalogue.file.FileFault.{FileFault}
use Rattle.mxf_catalogue.specs.declared.catalogue.file.FileFault.TheVariants.{BadMagic, BadVersion, Truncated, BadNote}
use Rattle.mxf_catalogue.specs.declared.catalogue.file.FileFault.TheVariants.{NotSorted, NotReduced, Trailing}
use Rattle.mxf_catalogue.specs.declared.catalogue.file.FileFault.TheVariants.{OutOfMemory}
use Rattle.mxf_catalogue.specs.Content.{AreReduced, IsCatalogue, IsContent}
use Rattle.mxf_catalogue.specs.CatalogueFile.{IsUnreducedNote, number_bytes, note_bytes, start_bytes, version_byte}
use Rattle.mxf_catalogue.specs.CatalogueFile.{IsFileOf, BeginsWithNote, CanHave, IsKnownVersion, IsUnknownVersion}
use Rattle.mxf_catalogue.specs.CatalogueFile.{IsCutNote, IsBadNote, IsUnsortedNote, IsFront, place_after, BeginsAsFile}
use Rattle.mxf_catalogue.specs.CatalogueFile.{IsFileOfVersion, IsHeadLast, IsRefused, ReadsFile, StopsAt, file_bytes}
use Rattle.mxf_catalogue.proofs.HeadLaws.{AreReduced-part, not-AreReduced-push}
use Rattle.mxf_catalogue.proofs.Fronts.{rising_front}
use Rattle.mxf_catalogue.specs.declared.catalogue.file.start.Version.{Version}
use Rattle.mxf_catalogue.specs.declared.catalogue.file.start.Version.TheVariants.{One, Two}
use Rattle.mxf_catalogue.proofs.FileBytes.{same_number, same_note, same_beginning, note_uncut, note_good, cut_good}
use Rattle.mxf_catalogue.proofs.FileBytes.{length-start_bytes}
use Rattle.mxf_klv.proofs.Lists.{In-append, all-In, all_last}

-- what is told behind the notes of a front
abbrev EndsWith : Version → ℕ → List NoteParts → List ℕ → Result (List NoteParts) FileFault → Type 0
EndsWith v count notes rest (Ok all) = (all ≡ notes) × (length notes ≡ count) × (length rest ≡ 0)
EndsWith v count notes rest (Err BadMagic) = ⊥
EndsWith v count notes rest (Err BadVersion) = ⊥
EndsWith v count notes rest (Err (Truncated p)) = (p ≡ place_after v notes) × (length notes < count) × IsCutNote v rest
EndsWith v count notes rest (Err (BadNote p)) = (p ≡ place_after v notes) × (length notes < count) × IsBadNote v rest
EndsWith v count notes rest (Err (NotSorted p)) =
    (p ≡ place_after v notes) × (length notes < count) × IsUnsortedNote v notes rest
EndsWith v count notes rest (Err (NotReduced p)) =
    (p ≡ place_after v notes) × (length notes < count) × IsUnreducedNote v notes rest
EndsWith v count notes rest (Err (Trailing p)) = (p ≡ place_after v notes) × (length notes ≡ count) × (0 < length rest)
EndsWith v count notes rest (Err OutOfMemory) = ⊥

-- it isn't another note
no_next : (v : Version) (count : ℕ) (notes : List NoteParts) (rest more : List ℕ) (m : NoteParts)
    (r : Result (List NoteParts) FileFault) → EndsWith v count notes rest r → length notes < count
    → BeginsWithNote v rest m more → IsContent (notes ++ m ∷ []) → AreReduced (notes ++ m ∷ []) → ⊥
no_next v count notes rest more m (Ok all) e lt b c d = omega (arith, e.1)
no_next v count notes rest more m (Err BadMagic) e lt b c d = e
no_next v count notes rest more m (Err BadVersion) e lt b c d = e
no_next v count notes rest more m (Err (Truncated p)) e lt b c d = note_uncut v m rest more b e.2
no_next v count notes rest more m (Err (BadNote p)) e lt b c d = note_good v m rest more b e.2
no_next v count notes rest more m (Err (NotSorted p)) e lt b c d =
    let (n, others, g, never) = e.2 in
    let same = same_beginning v m n rest more others b g in
    never (subst (λ (x : NoteParts). IsContent (notes ++ x ∷ [])) same c)
no_next v count notes rest more m (Err (NotReduced p)) e lt b c d =
    let (n, others, g, rises, last) = e.2 in
    let same = same_beginning v m n rest more others b g in
    not-AreReduced-push notes last.0 n _ rises last.1 refl
    (subst (λ (x : NoteParts). AreReduced (notes ++ x ∷ [])) same d)
no_next v count notes rest more m (Err (Trailing p)) e lt b c d = omega (arith, e.1)
no_next v count notes rest more m (Err OutOfMemory) e lt b c d = e

-- it is one thing
same_end : (v : Version) (count : ℕ) (notes : List NoteParts) (rest : List ℕ) (r s : Result (List NoteParts) FileFault)
    → EndsWith v count notes rest r → EndsWith v count notes rest s → r ≡ s
same_end v count notes rest (Err BadMagic) s e f = absurd e
same_end v count notes rest (Err BadVersion) s e f = absurd e
same_end v count notes rest (Err OutOfMemory) s e f = absurd e
same_end v count notes rest r (Err BadMagic) e f = absurd f
same_end v count notes rest r (Err BadVersion) e f = absurd f
same_end v count notes rest r (Err OutOfMemory) e f = absurd f
same_end v count notes rest (Ok x) (Ok y) e f = ap (λ (t : List NoteParts). Ok t) (e.0 ∙ sym f.0)
same_end v count notes rest (Ok x) (Err (Truncated q)) e f = absurd (omega (arith, e.1, f.1))
same_end v count notes rest (Ok x) (Err (BadNote q)) e f = absurd (omega (arith, e.1, f.1))
same_end v count notes rest (Ok x) (Err (NotSorted q)) e f = absurd (omega (arith, e.1, f.1))
same_end v count notes rest (Ok x) (Err (Trailing q)) e f = absurd (omega (arith, e.2, f.2))
same_end v count notes rest (Err (Truncated p)) (Ok y) e f = absurd (omega (arith, e.1, f.1))
same_end v count notes rest (Err (Truncated p)) (Err (Truncated q)) e f = cc
same_end v count notes rest (Err (Truncated p)) (Err (BadNote q)) e f = absurd (cut_good v rest e.2 f.2)
same_end v count notes rest (Err (Truncated p)) (Err (NotSorted q)) e f = search (arith, note_uncut)
same_end v count notes rest (Err (Truncated p)) (Err (Trailing q)) e f = absurd (omega (arith, e.1, f.1))
same_end v count notes rest (Err (BadNote p)) (Ok y) e f = absurd (omega (arith, e.1, f.1))
same_end v count notes rest (Err (BadNote p)) (Err (Truncated q)) e f = absurd (cut_good v rest f.2 e.2)
same_end v count notes rest (Err (BadNote p)) (Err (BadNote q)) e f = ap (λ (t : ℕ). Err (BadNote t)) (e.0 ∙ sym f.0)
same_end v count notes rest (Err (BadNote p)) (Err (NotSorted q)) e f = search (arith, note_good)
same_end v count notes rest (Err (BadNote p)) (Err (Trailing q)) e f = absurd (omega (arith, e.1, f.1))
same_end v count notes rest (Err (NotSorted p)) (Ok y) e f = absurd (omega (arith, e.1, f.1))
same_end v count notes rest (Err (NotSorted p)) (Err (Truncated q)) e f = search (arith, note_uncut)
same_end v count notes rest (Err (NotSorted p)) (Err (BadNote q)) e f = search (arith, note_good)
same_end v count notes rest (Err (NotSorted p)) (Err (NotSorted q)) e f = cc
same_end v count notes rest (Err (NotSorted p)) (Err (Trailing q)) e f = absurd (omega (arith, e.1, f.1))
same_end v count notes rest (Ok x) (Err (NotReduced q)) e f = absurd (omega (arith, e.1, f.1))
same_end v count notes rest (Err (NotReduced p)) (Ok y) e f = absurd (omega (arith, e.1, f.1))
same_end v count notes rest (Err (Truncated p)) (Err (NotReduced q)) e f = search (arith, note_uncut)
same_end v count notes rest (Err (NotReduced p)) (Err (Truncated q)) e f = search (arith, note_uncut)
same_end v count notes rest (Err (BadNote p)) (Err (NotReduced q)) e f = search (arith, note_good)
same_end v count notes rest (Err (NotReduced p)) (Err (BadNote q)) e f = search (arith, note_good)
same_end v count notes rest (Err (NotSorted p)) (Err (NotReduced q)) e f =
    let (n, more, d, rises, last) = f.2 in
    let (m, others, g, never) = e.2 in
    let same = same_beginning v n m rest more others d g in
    absurd (never (subst (λ (x : NoteParts). IsContent (notes ++ x ∷ [])) same rises))
same_end v count notes rest (Err (NotReduced p)) (Err (NotSorted q)) e f =
    let (n, more, d, rises, last) = e.2 in
    let (m, others, g, never) = f.2 in
    let same = same_beginning v n m rest more others d g in
    absurd (never (subst (λ (x : NoteParts). IsContent (notes ++ x ∷ [])) same rises))
same_end v count notes rest (Err (NotReduced p)) (Err (NotReduced q)) e f = cc
same_end v count notes rest (Err (NotReduced p)) (Err (Trailing q)) e f = absurd (omega (arith, e.1, f.1))
same_end v count notes rest (Err (Trailing p)) (Err (NotReduced q)) e f = absurd (omega (arith, e.1, f.1))
same_end v count notes rest (Err (Trailing p)) (Ok y) e f = absurd (omega (arith, e.2, f.2))
same_end v count notes rest (Err (Trailing p)) (Err (Truncated q)) e f = absurd (omega (arith, e.1, f.1))
same_end v count notes rest (Err (Trailing p)) (Err (BadNote q)) e f = absurd (omega (arith, e.1, f.1))
same_end v count notes rest (Err (Trailing p)) (Err (NotSorted q)) e f = absurd (omega (arith, e.1, f.1))
same_end v count notes rest (Err (Trailing p)) (Err (Trailing q)) e f = ap (λ (t : ℕ). Err (Trailing t)) (e.0 ∙ sym f.0)

-- the first of a reduced list are reduced
AreReduced-front : (before ks : List NoteParts) (k : NoteParts) → AreReduced (before ++ k ∷ ks)
    → AreReduced (before ++ k ∷ [])
AreReduced-front before ks k r =
    AreReduced-part (before ++ k ∷ []) (before ++ k ∷ ks) (λ n h. elim ((In-append n before (k ∷ [])).0 h) [
      | inl i ↦ (In-append n before (k ∷ ks)).1 (inl i)
      | inr i ↦ (In-append n before (k ∷ ks)).1 (inr (elim i [ inl e ↦ inl e | inr z ↦ absurd z ]))
    ]) r

-- behind two lists of notes of one text there is one thing, and so the lists are one
same_walk : (v : Version) (count : ℕ) (before ns ms : List NoteParts) (x y : List ℕ)
    (r s : Result (List NoteParts) FileFault) → AllByRecursion IsNote ns → AllByRecursion IsNote ms
    → AllByRecursion (CanHave v) ns → AllByRecursion (CanHave v) ms
    → IsContent (before ++ ns) → IsContent (before ++ ms) → AreReduced (before ++ ns) → AreReduced (before ++ ms)
    → length (before ++ ns) ≤ count → length (before ++ ms) ≤ count
    → flat_map (note_bytes v) ns ++ x ≡ flat_map (note_bytes v) ms ++ y → EndsWith v count (before ++ ns) x r
    → EndsWith v count (before ++ ms) y s → r ≡ s
same_walk v count before [] [] x y r s a b g h c d i j l m t e f = grind (arith, same_end)
same_walk v count before [] (k ∷ ks) x y r s a b g h c d i j l m t e f =
    let at : before ++ [] ≡ before = append-nil before in
    let next : IsContent (before ++ k ∷ []) = rising_front note_cmp (before ++ k ∷ []) ks
    (subst IsContent (sym (append_assoc before (k ∷ []) ks)) d) in
    absurd (no_next v count before x (flat_map (note_bytes v) ks ++ y) k r
    (subst (λ (z : List NoteParts). EndsWith v count z x r) at e) (omega (arith, m, length-append before (k ∷ ks)))
    (record {
      note = b.0;
      can_have = h.0;
      whole = t ∙ append_assoc (note_bytes v k) (flat_map (note_bytes v) ks) y;
    }) next (AreReduced-front before ks k j))
same_walk v count before (k ∷ ks) [] x y r s a b g h c d i j l m t e f =
    let at : before ++ [] ≡ before = append-nil before in
    let next : IsContent (before ++ k ∷ []) = rising_front note_cmp (before ++ k ∷ []) ks
    (subst IsContent (sym (append_assoc before (k ∷ []) ks)) c) in
    absurd (no_next v count before y (flat_map (note_bytes v) ks ++ x) k s
    (subst (λ (z : List NoteParts). EndsWith v count z y s) at f) (omega (arith, l, length-append before (k ∷ ks)))
    (record {
      note = a.0;
      can_have = g.0;
      whole = sym t ∙ append_assoc (note_bytes v k) (flat_map (note_bytes v) ks) x;
    }) next (AreReduced-front before ks k i))
same_walk v count before (n ∷ ns) (k ∷ ks) x y r s a b g h c d i j l m t e f =
    let same = same_note v n k (flat_map (note_bytes v) ns ++ x) (flat_map (note_bytes v) ks ++ y) a.0 b.0 g.0 h.0
    (sym (append_assoc (note_bytes v n) (flat_map (note_bytes v) ns) x) ∙ t
    ∙ append_assoc (note_bytes v k) (flat_map (note_bytes v) ks) y) in
    let left : before ++ (n ∷ ns) ≡ (before ++ n ∷ []) ++ ns = sym (append_assoc before (n ∷ []) ns) in
    let right : before ++ (k ∷ ks) ≡ (before ++ n ∷ []) ++ ks = ap (λ (z : NoteParts). before ++ (z ∷ ks)) (sym same.0)
    ∙ sym (append_assoc before (n ∷ []) ks) in
    same_walk v count (before ++ n ∷ []) ns ks x y r s a.1 b.1 g.1 h.1 (subst IsContent left c)
    (subst IsContent right d) (subst AreReduced left i) (subst AreReduced right j)
    (subst (λ (z : List NoteParts). length z ≤ count) left l)
    (subst (λ (z : List NoteParts). length z ≤ count) right m) same.1
    (subst (λ (z : List NoteParts). EndsWith v count z x r) left e)
    (subst (λ (z : List NoteParts). EndsWith v count z y s) right f)

-- a version has a byte of its own
one_version : (v w : Version) → version_byte v ≡ version_byte w → v ≡ w
one_version v w h = grind arith

-- a reading that came to the notes, and one that didn't
record Late (bytes : List ℕ) (r : Result (List NoteParts) FileFault) : Type 0 where
  pub version : Version
  pub count : ℕ
  pub notes : List NoteParts
  pub rest : List ℕ
  pub front : IsFront version bytes count notes rest
  pub ends : EndsWith version count notes rest r

abbrev Early : List ℕ → Result (List NoteParts) FileFault → Type 0
Early bytes r = ((r ≡ Err BadMagic) × ¬ BeginsAsFile bytes)
    ⊎ ((r ≡ Err BadVersion) × BeginsAsFile bytes × (v : ℕ) × (slice_get bytes 7 ≡ Some v) × IsUnknownVersion v)
    ⊎ ((r ≡ Err (Truncated 0)) × BeginsAsFile bytes × ((v : ℕ) → slice_get bytes 7 ≡ Some v → IsKnownVersion v)
    × (length bytes < 16))

pub version_at : (v : Version) (count : ℕ) (rest : List ℕ)
    → slice_get (start_bytes v count ++ rest) 7 ≡ Some (version_byte v)
version_at v count rest = refl

-- byte eight of a front is that of its version
version_of_front : (v : Version) (bytes rest : List ℕ) (count : ℕ) (notes : List NoteParts)
    → IsFront v bytes count notes rest → slice_get bytes 7 ≡ Some (version_byte v)
version_of_front v bytes rest count notes f = grind (arith, version_at)

same_late_in : (v : Version) (bytes : List ℕ) (k l : ℕ) (ns ms : List NoteParts) (x y : List ℕ)
    (r s : Result (List NoteParts) FileFault) → IsFront v bytes k ns x → IsFront v bytes l ms y
    → EndsWith v k ns x r → EndsWith v l ms y s → r ≡ s
same_late_in v bytes k l ns ms x y r s f g e h =
    let starts : number_bytes k ++ (flat_map (note_bytes v) ns ++ x)
    ≡ number_bytes l ++ (flat_map (note_bytes v) ms ++ y)
    = ap (drop 8) (sym f.whole ∙ g.whole) in
    let same = same_number k l _ _ f.fits g.fits starts in
    same_walk v k [] ns ms x y r s f.catalogue.members g.catalogue.members f.can_have g.can_have f.catalogue.content
    g.catalogue.content f.reduced g.reduced f.room (rw same.0 g.room) same.1 e
    (subst (λ (c : ℕ). EndsWith v c ms y s) (sym same.0) h)

same_late : (bytes : List ℕ) (r s : Result (List NoteParts) FileFault) → Late bytes r → Late bytes s → r ≡ s
same_late bytes r s p q =
    grind (
      arith,
      version_of_front p.version bytes p.rest p.count p.notes p.front,
      version_of_front q.version bytes q.rest q.count q.notes q.front,
      version_byte p.version,
      version_byte q.version,
      one_version p.version q.version,
      same_late_in p.version bytes p.count q.count p.notes q.notes p.rest q.rest r s p.front,
    )

some_and : (o : Option ℕ) (P : ℕ → Type 0) → IsSomeAnd o P → (v : ℕ) × (o ≡ Some v) × P v
some_and o P h = grind arith

pub if_some : (o : Option ℕ) (P : ℕ → Type 0) → IfSome o P → (v : ℕ) → o ≡ Some v → P v
if_some o P h v k = grind arith

-- a file is a front with nothing behind it
pub file_front : (v : Version) (bytes : List ℕ) (notes : List NoteParts) → IsFileOfVersion v bytes notes
    → IsFront v bytes (length notes) notes []
file_front v bytes notes f = grind (arith, append-nil)

stopped : (bytes : List ℕ) (place : ℕ) (r : Result (List NoteParts) FileFault)
    (why : Version → ℕ → List NoteParts → List ℕ → Type 0) (s : StopsAt bytes place why)
    → EndsWith s.version s.count s.notes s.rest r → Late bytes r
stopped bytes place r why s e = grind arith

-- each reading is one of these
sorted : (bytes : List ℕ) (r : Result (List NoteParts) FileFault) → r ≢ Err OutOfMemory → ReadsFile bytes r
    → Late bytes r ⊎ Early bytes r
sorted bytes (Ok notes) m (version, f) = grind (arith, file_front version bytes notes f)
sorted bytes (Err BadMagic) m f = inr (inl (refl, f))
sorted bytes (Err BadVersion) m f = grind (arith, some_and)
sorted bytes (Err (Truncated p)) m (inl (z, b, v, l)) = grind (arith, if_some)
sorted bytes (Err (Truncated p)) m (inr s) = inl (stopped bytes p _ _ s (s.stands, s.why.0, s.why.1))
sorted bytes (Err (BadNote p)) m s = inl (stopped bytes p _ _ s (s.stands, s.why.0, s.why.1))
sorted bytes (Err (NotSorted p)) m s = inl (stopped bytes p _ _ s (s.stands, s.why.0, s.why.1))
sorted bytes (Err (NotReduced p)) m s = inl (stopped bytes p _ _ s (s.stands, s.why.0, s.why.1))
sorted bytes (Err (Trailing p)) m s = inl (stopped bytes p _ _ s (s.stands, s.why.0, s.why.1))
sorted bytes (Err OutOfMemory) m f = absurd (m refl)

pub begins_as_file : (v : Version) (count : ℕ) (rest : List ℕ) → BeginsAsFile (start_bytes v count ++ rest)
begins_as_file v count rest = refl

late_early : (bytes : List ℕ) (r s : Result (List NoteParts) FileFault) → Late bytes r → Early bytes s → ⊥
late_early bytes r s h k =
    grind (
      arith,
      begins_as_file h.version h.count (flat_map (note_bytes h.version) h.notes ++ h.rest),
      flat_map (note_bytes h.version) h.notes,
      note_bytes h.version,
      version_of_front h.version bytes h.rest h.count h.notes h.front,
      version_byte h.version,
      length-append (start_bytes h.version h.count) (flat_map (note_bytes h.version) h.notes ++ h.rest),
      start_bytes h.version h.count,
      length-start_bytes h.version h.count,
    )

unknown_known : (byte : ℕ) → IsUnknownVersion byte → IsKnownVersion byte → ⊥
unknown_known byte never (v, is) = never v is

same_early : (bytes : List ℕ) (r s : Result (List NoteParts) FileFault) → Early bytes r → Early bytes s → r ≡ s
same_early bytes r s h k = grind (arith, unknown_known)

pub one_reading : (bytes : List ℕ) (r s : Result (List NoteParts) FileFault) → r ≢ Err OutOfMemory
    → s ≢ Err OutOfMemory → ReadsFile bytes r → ReadsFile bytes s → r ≡ s
one_reading bytes r s m n p q =
    elim (sorted bytes r m p) [
      | inl a ↦ elim
          (sorted bytes s n q) [ inl b ↦ same_late bytes r s a b | inr b ↦ absurd (late_early bytes r s a b) ]
      | inr a ↦ elim
          (sorted bytes s n q) [ inl b ↦ absurd (late_early bytes s r b a) | inr b ↦ same_early bytes r s a b ]
    ]

-- bytes are the file of one content at most
pub one_content : (bytes : List ℕ) (a b : List NoteParts) → IsFileOf bytes a → IsFileOf bytes b → a ≡ b
one_content bytes a b p q = cc (one_reading bytes (Ok a) (Ok b) (λ h. cc) (λ h. cc) p q)

-- ---- versions

-- what is written is a file of version 2
pub written_file : (notes : List NoteParts) → IsCatalogue notes → AreReduced notes → length notes < 2 ^ 64
    → (bytes : List ℕ) → bytes ≡ file_bytes notes → IsFileOfVersion Two bytes notes
written_file notes c r h bytes e = record { catalogue = c; reduced = r; can_have = any notes; fits = h; whole = e }
  where
    any : (ns : List NoteParts) → AllByRecursion (CanHave Two) ns
    any [] = tt
    any (n ∷ ns) = (tt, any ns)

all_whole : (ns : List NoteParts) → ((n : NoteParts) → In n ns → IsTrue n.whole) → AllByRecursion (CanHave One) ns
all_whole [] h = tt
all_whole (n ∷ ns) h = (h n (inl refl), all_whole ns (λ m i. h m (inr i)))

-- a content has a file of version 1 exactly where it has no head
pub file_of_one : (notes : List NoteParts) → IsCatalogue notes → AreReduced notes → length notes < 2 ^ 64
    → ((bytes : List ℕ) × IsFileOfVersion One bytes notes) ↔ ((n : NoteParts) → In n notes → IsTrue n.whole)
file_of_one notes c r h = grind (arith, all-In, all_whole)

pub version_of_file : (v : Version) (bytes : List ℕ) (notes : List NoteParts) → IsFileOfVersion v bytes notes
    → slice_get bytes 7 ≡ Some (version_byte v)
version_of_file v bytes notes f = version_of_front v bytes [] (length notes) notes (file_front v bytes notes f)

one_not_two : version_byte One ≡ version_byte Two → ⊥
one_not_two e = omega (arith, e)

-- a file whose byte eight is 2 is as it would be written
pub version_two : (v : Version) (bytes : List ℕ) (notes : List NoteParts) → IsFileOfVersion v bytes notes
    → slice_get bytes 7 ≡ Some 2 → bytes ≡ file_bytes notes
version_two v bytes notes h k = grind (arith, one_not_two, version_of_file)

no_head_in_one : (notes : List NoteParts) (n : NoteParts) → AllByRecursion (CanHave One) notes → IsHeadLast notes n → ⊥
no_head_in_one notes n all (front, e) =
    let last = all_last (CanHave One) front (head_note n) (subst (AllByRecursion (CanHave One)) e all) in cc (last)

no_head_first : (v : Version) (bytes rest : List ℕ) (count : ℕ) (notes : List NoteParts) (n : NoteParts)
    → IsFront v bytes count notes rest → slice_get bytes 7 ≡ Some 1 → IsHeadLast notes n → ⊥
no_head_first One bytes rest count notes n f e h = no_head_in_one notes n f.can_have h
no_head_first Two bytes rest count notes n f e h = cc (version_of_front Two bytes rest count notes f)

-- in version 1 no note takes a head's place
pub reduced_in_one : (bytes : List ℕ) (place : ℕ) → slice_get bytes 7 ≡ Some 1 → IsRefused bytes (NotReduced place) → ⊥
reduced_in_one bytes place e s = search (arith, no_head_first)
