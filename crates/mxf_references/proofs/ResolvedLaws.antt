-- What the Preface of the preferred copy names.
use Rattle.mxf_views.proofs.Common.{◌≡◌, ℕ, ◌+◌, ◌≤◌, Bool, true, false, cond, List, [], ◌∷◌, length, Option, Some}
use Rattle.mxf_views.proofs.Common.{None, refl, sym, ap, subst, ◌∙◌, inl, inr, arith, ◌↔◌, filter, find, option_map}
use Rattle.mxf_views.proofs.Common.{NoteParts, end_of, kind_of, read_as, IsContent, AreApart, AreApart-filter}
use Rattle.mxf_views.proofs.Common.{IsCopy, copies_of, is_preface_note, preferred_of, IsReadAs, find-only, same_Some}
use Rattle.mxf_views.proofs.Common.{AreSoMany, CountsZone, IsBest, IsPreferred, IsPrefaceIn, preface}
use Rattle.mxf_sets.specs.Storage.{storage_at, StorageParts}
use Rattle.mxf_views.specs.declared.copy.CopyInfo.{CopyInfo}
use Rattle.mxf_references.specs.declared.reference.target.Wanted.{Wanted}
use Rattle.mxf_references.specs.declared.reference.target.Wanted.TheVariants.{Storage, Identification, Package}
use Rattle.mxf_views.specs.Copies.{sets_of}
use Rattle.mxf_references.specs.References.{has_uid}
use Rattle.mxf_references.specs.Resolved.{resolved_of, storage_among, ResolvedParts, packages_of, preface_in}
use Rattle.mxf_references.specs.Resolved.{resolved_by, resolved_from, storage_in, resolved_in}
use Rattle.mxf_references.specs.Targets.{fits, target_of, refs_of, ref_of}
use Rattle.mxf_klv.proofs.Tests.{none_some}
use Rattle.mxf_sets.specs.Preface.{PrefaceParts, preface_at}
use Rattle.mxf_references.specs.declared.reference.target.Ref.{Ref}
use Rattle.mxf_references.specs.ResolvedView.{AreNamedBy, ArePackages, AreRefsOf, IsOnlyPreface, IsRefOf, IsResolved}
use Rattle.mxf_references.specs.ResolvedView.{IsResolvedFrom, IsStorage}
use Rattle.mxf_views.proofs.BestLaws.{one_best, preferred_is}
use Rattle.mxf_views.proofs.CopyLaws.{copies_are, one_named, preface_note, sets_are, sets_apart}
use Rattle.mxf_references.proofs.FoundLaws.{Picks, only_from, only_of, picks, target_of_iff, wanted_kind}
use Rattle.mxf_views.proofs.ReadingLaws.{reads}
use Rattle.mxf_klv.specs.declared.kinds.Kind.TheVariants as kinds

-- ---- references

ref_is : (notes : List NoteParts) (partition : ℕ) (w : Wanted) (uid : List ℕ) → AreApart 0 (sets_of notes partition)
    → IsRefOf notes partition w uid (ref_of notes partition w uid)
ref_is notes partition w uid a =
    record { own = refl; target = (target_of_iff notes partition w uid (target_of notes partition w uid) a).0 refl }

ref_only : (notes : List NoteParts) (partition : ℕ) (w : Wanted) (uid : List ℕ) (ref : Ref)
    → AreApart 0 (sets_of notes partition) → IsRefOf notes partition w uid ref → ref ≡ ref_of notes partition w uid
ref_only notes partition w uid ref a i = grind (arith, target_of_iff)

refs_are : (notes : List NoteParts) (partition : ℕ) (w : Wanted) (uids : List (List ℕ))
    → AreApart 0 (sets_of notes partition) → AreRefsOf notes partition w uids (refs_of notes partition w uids)
refs_are notes partition w [] a = tt
refs_are notes partition w (uid ∷ uids) a = (ref_is notes partition w uid a, refs_are notes partition w uids a)

refs_only : (notes : List NoteParts) (partition : ℕ) (w : Wanted) (uids : List (List ℕ)) (refs : List Ref)
    → AreApart 0 (sets_of notes partition) → AreRefsOf notes partition w uids refs
    → refs ≡ refs_of notes partition w uids
refs_only notes partition w [] [] a i = refl
refs_only notes partition w [] (ref ∷ refs) a i = absurd i
refs_only notes partition w (uid ∷ uids) [] a i = absurd i
refs_only notes partition w (uid ∷ uids) (ref ∷ refs) a i =
    let first = ref_only notes partition w uid ref a i.0 in
    let rest = refs_only notes partition w uids refs a i.1 in
    λ k. first k ∷ rest k

-- ---- the storage

storage_in_iff : (n : NoteParts) (s : StorageParts)
    → (storage_in n ≡ Some s) ↔ ((kind_of n.key ≡ kinds.ContentStorage) × IsReadAs storage_at n s)
unfolding storage_in
storage_in_iff n s =
    let k = wanted_kind Storage (kind_of n.key) in
    let fit = fits Storage (kind_of n.key) in
    let r = reads storage_at n s in (
      λ e. elim fit as (λ b. fit ≡ b → cond b (read_as storage_at n) None ≡ Some s
          → (kind_of n.key ≡ kinds.ContentStorage) × IsReadAs storage_at n s) [
            | false ↦ λ _ q. absurd (none_some None s refl q)
            | true ↦ λ t q. (k.0 t, r.0 q)
          ] refl e,
      λ i. ap (λ (b : Bool). cond b (read_as storage_at n) None) (k.1 i.0) ∙ r.1 i.1,
    )

storage_from : (notes : List NoteParts) (partition : ℕ) (uid : List ℕ) (ws : List NoteParts) (s : StorageParts)
    → Picks (sets_of notes partition) uid ws → storage_among ws ≡ Some s → IsStorage notes partition uid s
storage_from notes partition uid [] s p e = absurd (none_some None s refl e)
storage_from notes partition uid (n ∷ []) s p e =
    let i = (storage_in_iff n s).0 e in
    record { note = n; only = only_from (sets_of notes partition) uid n p; kind = i.0; read = i.1 }
storage_from notes partition uid (m ∷ n ∷ ws) s p e = absurd (none_some None s refl e)

storage_iff : (notes : List NoteParts) (partition : ℕ) (uid : List ℕ) (s : StorageParts)
    → AreApart 0 (sets_of notes partition)
    → (storage_among (filter (has_uid uid) (sets_of notes partition)) ≡ Some s) ↔ IsStorage notes partition uid s
storage_iff notes partition uid s a =
    let sets = sets_of notes partition in
    let ws = filter (has_uid uid) sets in
    let p = picks sets uid in (
      λ e. storage_from notes partition uid ws s p e,
      λ i. ap storage_among (only_of sets uid ws p (AreApart-filter (has_uid uid) 0 sets a) i.note i.only)
          ∙ (storage_in_iff i.note s).1 (i.kind, i.read),
    )

-- the storage of a copy with an identifier
abbrev found_storage : List NoteParts → ℕ → List ℕ → Option StorageParts
found_storage notes partition uid = storage_among (filter (has_uid uid) (sets_of notes partition))

packages_are : (notes : List NoteParts) (partition : ℕ) (uid : List ℕ) → AreApart 0 (sets_of notes partition)
    → ArePackages notes partition uid (refs_of notes partition Package
    (packages_of (found_storage notes partition uid)))
packages_are notes partition uid a =
    elim (found_storage notes partition uid) as (λ o. found_storage notes partition uid ≡ o
    → ArePackages notes partition uid (refs_of notes partition Package (packages_of o))) [
      | None ↦ λ e. inr (
        λ s i. none_some (found_storage notes partition uid) s e ((storage_iff notes partition uid s a).1 i),
        refl,
      )
      | Some s ↦ λ e. inl (s, (storage_iff notes partition uid s a).0 e, refs_are notes partition Package s.packages a)
    ] refl

packages_only : (notes : List NoteParts) (partition : ℕ) (uid : List ℕ) (refs : List Ref)
    → AreApart 0 (sets_of notes partition) → ArePackages notes partition uid refs
    → refs ≡ refs_of notes partition Package (packages_of (found_storage notes partition uid))
packages_only notes partition uid refs a (inl i) = refs_only notes partition Package i.0.packages refs a i.2
    ∙ ap (λ (o : Option StorageParts). refs_of notes partition Package (packages_of o))
    (sym ((storage_iff notes partition uid i.0 a).1 i.1))
packages_only notes partition uid refs a (inr i) =
    elim (found_storage notes partition uid) as (λ o. found_storage notes partition uid ≡ o
    → refs ≡ refs_of notes partition Package (packages_of o)) [
      | None ↦ λ _. i.1
      | Some s ↦ λ e. absurd (i.0 s ((storage_iff notes partition uid s a).0 e))
    ] refl

-- ---- what a Preface names

preface_in_iff : (n : NoteParts) (p : PrefaceParts) → (preface_in n ≡ Some p) ↔ IsReadAs preface_at n p
unfolding preface_in
preface_in_iff n p = reads preface_at n p

named_is : (notes : List NoteParts) (partition : ℕ) (n : NoteParts) → AreApart 0 (sets_of notes partition)
    → AreNamedBy notes n (resolved_by notes partition n.offset (preface_in n))
named_is notes partition n a =
    elim (preface_in n) as (λ o. preface_in n ≡ o → AreNamedBy notes n (resolved_by notes partition n.offset o)) [
      | None ↦ λ e. inr (
        λ s. none_some (preface_in n) s.0 e ((preface_in_iff n s.0).1 s.1),
        record { storage = refl; identifications = refl; packages = refl },
      )
      | Some p ↦ λ e. inl (
        p,
        (preface_in_iff n p).0 e,
        record {
          storage = (
            ref_of notes partition Storage p.content_storage,
            refl,
            ref_is notes partition Storage p.content_storage a,
          );
          identifications = refs_are notes partition Identification p.identifications a;
          packages = packages_are notes partition p.content_storage a;
        },
      )
    ] refl

named_only : (notes : List NoteParts) (n : NoteParts) (r : ResolvedParts) → AreApart 0 (sets_of notes r.partition)
    → r.preface ≡ n.offset → AreNamedBy notes n r → r ≡ resolved_by notes r.partition n.offset (preface_in n)
named_only notes n r a at (inl i) =
    let p = i.0 in
    let these = i.2 in
    let storage = these.storage.1 ∙ ap (λ (ref : Ref). Some ref)
    (ref_only notes r.partition Storage p.content_storage these.storage.0 a these.storage.2) in
    let identifications = refs_only notes r.partition Identification p.identifications r.identifications a
    these.identifications in
    let packages = packages_only notes r.partition p.content_storage r.packages a these.packages in
    let same : r ≡ resolved_by notes r.partition n.offset (Some p) = λ k. record {
      partition = r.partition;
      preface = at k;
      storage = storage k;
      identifications = identifications k;
      packages = packages k;
    } in
    same ∙ ap (resolved_by notes r.partition n.offset) (sym ((preface_in_iff n p).1 i.1))
named_only notes n r a at (inr i) =
    let storage = i.1.storage in
    let identifications = i.1.identifications in
    let packages = i.1.packages in
    elim (preface_in n) as (λ o. preface_in n ≡ o → r ≡ resolved_by notes r.partition n.offset o) [
      | None ↦ λ _. λ k. record {
        partition = r.partition;
        preface = at k;
        storage = storage k;
        identifications = identifications k;
        packages = packages k;
      }
      | Some p ↦ λ e. absurd (i.0 (p, (preface_in_iff n p).0 e))
    ] refl

-- ---- the only Preface of a candidate

-- a list of one
single : (list : List NoteParts) → length list ≡ 1 → (n : NoteParts) × (list ≡ n ∷ [])
single [] e = absurd cc
single (n ∷ []) e = (n, refl)
single (m ∷ n ∷ list) e = absurd (omega (arith, e))

one_of_many : (IsSuch : NoteParts → Type 0) → AreSoMany 1 IsSuch
    → (n : NoteParts) × IsSuch n × ((m : NoteParts) → IsSuch m → m ≡ n)
one_of_many IsSuch s = grind (arith, single)

only_preface : (notes : List NoteParts) (c : CopyInfo) (s : ℕ) → IsContent notes → IsCopy notes c → c.start ≡ Some s
    → AreSoMany c.prefaces (IsPrefaceIn notes s c.bytes) → c.prefaces ≡ 1
    → (n : NoteParts) × IsOnlyPreface notes c.partition n
only_preface notes c s r i e many one =
    let found = one_of_many (IsPrefaceIn notes s c.bytes)
    (subst (λ (k : ℕ). AreSoMany k (IsPrefaceIn notes s c.bytes)) one many) in
    let n = found.0 in
    let is = found.1 in (
      n,
      record {
        set = record {
          copy = c;
          copied = i;
          there = refl;
          start = s;
          begins = e;
          clear = is.clear;
          kind = preface is.kind;
          from = is.from;
          before = is.before;
        };
        kind = is.kind;
        only = λ m set kind.
            let same : set.copy ≡ c = one_named notes set.copy c r set.copied i set.there in
            let begins : Some set.start ≡ Some s = sym set.begins ∙ ap (λ (x : CopyInfo). x.start) same ∙ e in
            let start : set.start ≡ s = same_Some set.start s begins in
            let bytes : set.copy.bytes ≡ c.bytes = ap (λ (x : CopyInfo). x.bytes) same in
            let from : set.start ≤ m.offset = set.from in
            let before : end_of m ≤ set.start + set.copy.bytes = set.before in
            found.2 m record {
              clear = set.clear;
              kind = kind;
              from = omega (arith, from, start);
              before = omega (arith, before, start, bytes);
            };
      },
    )

candidate_preface : (notes : List NoteParts) (c : CopyInfo) → IsContent notes → IsBest (copies_of notes) c
    → (n : NoteParts) × IsOnlyPreface notes c.partition n
candidate_preface notes c r b =
    let i = (copies_are notes c r).0 b.held in
    let is = b.candidate in
    let counts = subst (CountsZone notes c) is.begins i.2.counts in
    only_preface notes c is.start r i is.begins counts.1 is.one

found_preface : (notes : List NoteParts) (partition : ℕ) (n : NoteParts) → IsContent notes
    → IsOnlyPreface notes partition n → find is_preface_note (sets_of notes partition) ≡ Some n
found_preface notes partition n r o =
    find-only is_preface_note (sets_of notes partition) n ((sets_are notes partition n r).1 o.set)
    ((preface_note n).1 o.kind) (λ m h t. o.only m ((sets_are notes partition m r).0 h) ((preface_note m).0 t))

-- ---- what is resolved

resolved_there : (notes : List NoteParts) (c : CopyInfo) (n : NoteParts) → IsContent notes
    → IsOnlyPreface notes c.partition n
    → resolved_in notes c ≡ Some (resolved_by notes c.partition n.offset (preface_in n))
resolved_there notes c n r o = ap (option_map (λ m. resolved_by notes c.partition m.offset (preface_in m)))
    (found_preface notes c.partition n r o)

resolved_by_parts : (notes : List NoteParts) (partition offset : ℕ) (o : Option PrefaceParts)
    → ((resolved_by notes partition offset o).partition ≡ partition)
    × ((resolved_by notes partition offset o).preface ≡ offset)
resolved_by_parts notes partition offset None = (refl, refl)
resolved_by_parts notes partition offset (Some p) = (refl, refl)

resolved_from_it : (notes : List NoteParts) (c : CopyInfo) (n : NoteParts) → IsContent notes
    → IsBest (copies_of notes) c → IsOnlyPreface notes c.partition n
    → IsResolvedFrom notes (resolved_by notes c.partition n.offset (preface_in n))
resolved_from_it notes c n r best o = grind (arith, resolved_by_parts, preface_in, preface, named_is, sets_apart)

resolved_in_is : (notes : List NoteParts) (c : CopyInfo) → IsContent notes → IsBest (copies_of notes) c
    → IsResolved notes (resolved_in notes c)
resolved_in_is notes c r best =
    let p = candidate_preface notes c r best in
    subst (IsResolved notes) (sym (resolved_there notes c p.0 r p.1)) (resolved_from_it notes c p.0 r best p.1)

resolved_by_best : (notes : List NoteParts) (best : Option CopyInfo) → IsContent notes
    → IsPreferred (copies_of notes) best → IsResolved notes (resolved_from notes best)
resolved_by_best notes None r p = p
resolved_by_best notes (Some c) r p = resolved_in_is notes c r p

resolved_is : (notes : List NoteParts) → IsContent notes → IsResolved notes (resolved_of notes)
resolved_is notes r = resolved_by_best notes (preferred_of (copies_of notes)) r (preferred_is (copies_of notes))

one_resolved : (notes : List NoteParts) (a b : Option ResolvedParts) → IsContent notes → IsResolved notes a
    → IsResolved notes b → a ≡ b
one_resolved notes None None r x y = refl
one_resolved notes None (Some b) r x y = absurd (x y.copy y.preferred.held y.preferred.candidate)
one_resolved notes (Some a) None r x y = absurd (y x.copy x.preferred.held x.preferred.candidate)
one_resolved notes (Some a) (Some b) r x y =
    let copies = copies_of notes in
    let q : a.partition ≡ b.partition =
    x.partition ∙ one_best copies x.copy y.copy x.preferred y.preferred ∙ sym y.partition in
    let other : IsOnlyPreface notes a.partition y.note =
    subst (λ (k : ℕ). IsOnlyPreface notes k y.note) (sym q) y.one in
    let t : x.note ≡ y.note = other.only x.note x.one.set x.one.kind in
    let e = named_only notes x.note a (sets_apart notes a.partition r) x.preface x.named in
    let f = named_only notes y.note b (sets_apart notes b.partition r) y.preface y.named in
    let middle : resolved_by notes a.partition x.note.offset (preface_in x.note)
    ≡ resolved_by notes b.partition y.note.offset (preface_in y.note) =
    λ k. resolved_by notes (q k) (t k).offset (preface_in (t k)) in
    ap (λ (z : ResolvedParts). Some z) (e ∙ middle ∙ sym f)

-- What is resolved is what the only Preface of the preferred copy names.
pub resolved_iff : (notes : List NoteParts) (resolved : Option ResolvedParts) → IsContent notes
    → (resolved_of notes ≡ resolved) ↔ IsResolved notes resolved
resolved_iff notes resolved r = grind (arith, resolved_is, one_resolved, resolved_of)
