-- The container that sets name for a package, by what each of them names.
use Rattle.std.proofs.Common.{◌≡◌, ◌∙◌, ◌↔◌, ◌==◌, ℕ, true, false, cond, List, [], ◌∷◌, Some, None}
use Rattle.std.proofs.Common.{refl, ap, sym, subst, inl, inr, eqb-true, option_and_then}
use Rattle.std.specs.List.{list_all}
use Rattle.std.specs.Str.{bytes_eq}
use Rattle.mxf_views.proofs.Common.{In, In-filter_map, In-list_all, list_all-In, and_from, and_parts, bytes_eq-Decides}
use Rattle.mxf_views.proofs.Common.{eq-eqb}
use Rattle.mxf_klv.specs.Parts.{NoteParts}
use Rattle.mxf_sets.specs.ContainerData.{ContainerDataParts, container_data_at}
use Rattle.mxf_sets.specs.Readable.{read_as}
use Rattle.mxf_views.specs.Readings.{IsReadAs}
use Rattle.mxf_tracks.specs.declared.container.Container.{Container}
use Rattle.mxf_tracks.specs.Containers.{container_data_in, container_of, is_same, named_by, named_for, only_one, streams_for}
use Rattle.mxf_tracks.specs.Keys.{is_container_data}
use Rattle.mxf_tracks.specs.NamedContainers.{IsContainerOf, NamesContainer}
use Rattle.mxf_tracks.proofs.FoundLaws.{read_from}
use Rattle.mxf_tracks.proofs.ContainerLaws.{streams}

-- ---- what one set names

read_to : (n : NoteParts) (d : ContainerDataParts) → IsReadAs container_data_at n d
    → read_as container_data_at n ≡ Some d
read_to n d r = rw r.0 (rw r.1 refl)

names_by : (uid : List ℕ) (n : NoteParts) (c : Container) (d : ContainerDataParts) → is_container_data n.key ≡ true
    → read_as container_data_at n ≡ Some d → streams_for uid d ≡ Some c → NamesContainer n uid c
names_by uid n c d k r e =
    elim (bytes_eq d.linked_package uid) as (λ b. bytes_eq d.linked_package uid ≡ b
    → cond b (Some (streams d)) None ≡ Some c → NamesContainer n uid c) [
      | true ↦ λ t e.
          let same : streams d ≡ c = cc in
          subst (NamesContainer n uid) same (record {
            key = k;
            stated = d;
            read = read_from container_data_at n d r;
            linked_package = (bytes_eq-Decides d.linked_package uid).0 t;
            body_sid = refl;
            index_sid = refl;
          })
      | false ↦ λ t e. absurd cc
    ] refl e

names_to : (uid : List ℕ) (n : NoteParts) (c : Container) → named_by uid n ≡ Some c → NamesContainer n uid c
unfolding container_data_in
names_to uid n c e =
    elim (is_container_data n.key) as (λ k. is_container_data n.key ≡ k
    → option_and_then (streams_for uid) (cond k (read_as container_data_at n) None) ≡ Some c → NamesContainer n uid c) [
      | true ↦ λ k e. elim (read_as container_data_at n) as (λ o. read_as container_data_at n ≡ o
          → option_and_then (streams_for uid) o ≡ Some c → NamesContainer n uid c) [
            | Some d ↦ λ r e. names_by uid n c d k r e
            | None ↦ λ r e. absurd cc
          ] refl e
      | false ↦ λ k e. absurd cc
    ] refl e

names_from : (uid : List ℕ) (n : NoteParts) (c : Container) → NamesContainer n uid c → named_by uid n ≡ Some c
unfolding container_data_in
names_from uid n c m =
    let same : streams m.stated ≡ c = (λ i. record { body_sid = sym m.body_sid i; index_sid = sym m.index_sid i }) in
    ap (λ k. option_and_then (streams_for uid) (cond k (read_as container_data_at n) None)) m.key
    ∙ ap (option_and_then (streams_for uid)) (read_to n m.stated m.read)
    ∙ ap (λ b. cond b (Some (streams m.stated)) None) ((bytes_eq-Decides m.stated.linked_package uid).1 m.linked_package)
    ∙ ap (λ x. Some x) same

-- ---- what all of them name

same-is : (c d : Container) → (is_same c d ≡ true) ↔ (d ≡ c)
same-is c d = (
  λ e.
      let p = and_parts (c.body_sid == d.body_sid) (c.index_sid == d.index_sid) e in
      let body = eqb-true c.body_sid d.body_sid p.0 in
      let index = eqb-true c.index_sid d.index_sid p.1 in
      (λ i. record { body_sid = sym body i; index_sid = sym index i }),
  λ e. and_from (c.body_sid == d.body_sid) (c.index_sid == d.index_sid)
      (eq-eqb c.body_sid d.body_sid (ap (λ x. x.body_sid) (sym e)))
      (eq-eqb c.index_sid d.index_sid (ap (λ x. x.index_sid) (sym e))),
)

only_to : (cs : List Container) (c : Container) → only_one cs ≡ Some c → In c cs × ((d : Container) → In d cs → d ≡ c)
only_to [] c e = absurd cc
only_to (x ∷ xs) c e = elim (list_all (is_same x) xs) as (λ b. list_all (is_same x) xs ≡ b
    → cond b (Some x) None ≡ Some c → In c (x ∷ xs) × ((d : Container) → In d (x ∷ xs) → d ≡ c)) [
      | true ↦ λ t e.
          let same : x ≡ c = cc in (
            inl (sym same),
            λ d h. elim h as (λ _. d ≡ c) [
              | inl q ↦ q ∙ same
              | inr k ↦ (same-is x d).0 (list_all-In (is_same x) xs d t k) ∙ same
            ],
          )
      | false ↦ λ t e. absurd cc
    ] refl e

only_from : (cs : List Container) (c : Container) → In c cs → ((d : Container) → In d cs → d ≡ c) → only_one cs ≡ Some c
only_from [] c h one = absurd h
only_from (x ∷ xs) c h one =
    let first : x ≡ c = one x (inl refl) in
    let all : list_all (is_same x) xs ≡ true =
    In-list_all (is_same x) xs (λ d k. (same-is x d).1 (one d (inr k) ∙ sym first)) in
    ap (λ b. cond b (Some x) None) all ∙ ap (λ y. Some y) first

pub container-is : (sets : List NoteParts) (uid : List ℕ) (c : Container)
    → (container_of sets uid ≡ Some c) ↔ IsContainerOf sets uid c
container-is sets uid c = (
  λ e.
      let o = only_to (named_for uid sets) c e in
      let n = (In-filter_map (named_by uid) sets c).0 o.0 in
      record {
        note = n.0;
        held = n.1;
        names = names_to uid n.0 c n.2;
        no_other = λ m d h k. o.1 d ((In-filter_map (named_by uid) sets d).1 (m, h, names_from uid m d k));
      },
  λ r. only_from (named_for uid sets) c
      ((In-filter_map (named_by uid) sets c).1 (r.note, r.held, names_from uid r.note c r.names))
      (λ d h. let n = (In-filter_map (named_by uid) sets d).0 h in r.no_other n.0 d n.1 (names_to uid n.0 d n.2)),
)
