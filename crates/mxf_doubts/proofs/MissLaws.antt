-- Where packets of essence containers begin, and what misses them.
use Rattle.mxf_views.proofs.Common.{◌≡◌, ◌≢◌, if◌then◌else◌, ◌↔◌, ◌⊎◌, ◌<◌, ◌≤◌, ◌+◌, ◌==◌, ◌&&◌, ◌||◌, ℕ, Bool, true, false, List, [], ◌∷◌}
use Rattle.mxf_views.proofs.Common.{Some, refl, sym, ap, subst, inl, inr, arith, eq-eqb, eqb-true, In, In-filter}
use Rattle.mxf_views.proofs.Common.{and_from, and_parts, filter, find, lt-ltb, ltb-true, nat_lt}
use Rattle.mxf_views.proofs.Common.{NoteParts, clear_notes, end_of, kind_of, In-clear_notes, IsClear, either, is_fill, IsCatalogue}
use Rattle.mxf_views.proofs.Common.{list_any, list_any-In, map, union_of_runs, drop, take, IsInSpan}
use Rattle.mxf_views.proofs.Common.{IsNote, all-In, bytes_eq-Decides, In-map, ne_eqb, union_of_runs-IsUnion}
use Rattle.std.specs.Option.{option_map_or}
use Rattle.mxf_klv.specs.declared.kinds.Kind.TheVariants as kinds
use Rattle.mxf_klv.specs.Kind.{is_in_containers}
use Rattle.mxf_catalogue.specs.Disputes.{AreApart}
use Rattle.mxf_catalogue.specs.Runs.{IsWithin, run}
use Rattle.mxf_catalogue.specs.declared.run.Run.{Run}
use Rattle.mxf_views.proofs.KindLaws.{fill_kind}
use Rattle.mxf_doubts.specs.DoubtCauses.{BeginsPacket, IsInContainer, MissesPacket}
use Rattle.mxf_doubts.specs.Strange.{is_container_packet, is_essence, is_other}
use Rattle.mxf_doubts.specs.UnitStarts.{AreMisses, begins_packet, is_amid, leads_to_packet, misses_packet}
use Rattle.mxf_doubts.proofs.StrangeLaws.{essence_kind, other_kind}

-- ---- Packets of the containers

one_of : (a b : Bool) → (a || b) ≡ true → (a ≡ true) ⊎ (b ≡ true)
one_of true b t = inl refl
one_of false b t = inr t

container : (n : NoteParts) → (is_container_packet n ≡ true) ↔ IsInContainer n
container n =
    let k = kind_of n.key in
    let inside = is_in_containers n.key in
    let bytes = bytes_eq-Decides (take 4 (drop 8 n.key)) (0x0D ∷ 0x01 ∷ 0x03 ∷ 0x01 ∷ []) in (
      λ t. elim (one_of (is_essence k) (is_other k && inside) t) [
        | inl e ↦ inl ((essence_kind k).0 e)
        | inr e ↦
            let p = and_parts (is_other k) inside e in
            inr ((other_kind k).0 p.0, bytes.0 p.1)
      ],
      λ h. either (is_essence k) (is_other k && inside) (elim h [
        | inl e ↦ inl ((essence_kind k).1 e)
        | inr e ↦ inr (and_from (is_other k) inside ((other_kind k).1 e.0) (bytes.1 e.1))
      ]),
    )

-- ---- Where one begins

pub begins : (notes : List NoteParts) (x : ℕ) → (begins_packet notes x ≡ true) ↔ BeginsPacket notes x
begins notes x =
    let any = list_any-In (λ (n : NoteParts). (n.offset == x) && is_container_packet n) (clear_notes notes) in (
      λ t.
          let s = any.0 t in
          let p = and_parts (s.0.offset == x) (is_container_packet s.0) s.2 in record {
            packet = s.0;
            clear = (In-clear_notes s.0 notes).0 s.1;
            there = eqb-true _ _ p.0;
            container = (container s.0).0 p.1;
          },
      λ b. any.1 (
        b.packet,
        (In-clear_notes b.packet notes).1 b.clear,
        and_from (b.packet.offset == x) (is_container_packet b.packet) (eq-eqb _ _ b.there) ((container b.packet).1 b.container),
      ),
    )

-- Two clear packets that have one byte are one.
pub one_clear : (notes : List NoteParts) (m n : NoteParts) (x : ℕ) → IsClear m notes → In n notes → IsInSpan m x → IsInSpan n x
    → m.offset ≢ n.offset → ⊥
one_clear notes m n x clear held a b apart =
    clear.undisputed (n, held, λ e. apart (sym (ap (λ (y : NoteParts). y.offset) e)), (x, b, a))

not_later : (low x : ℕ) (ns : List NoteParts) (p : NoteParts → Bool) → AreApart low ns → x < low
    → list_any (λ n. (n.offset == x) && p n) ns ≡ false
not_later low x [] p a l = refl
not_later low x (n ∷ ns) p a l =
    let from = a.0 in
    let rest = not_later (end_of n) x ns p a.1 (omega (arith, from, l)) in
    let apart = ne_eqb n.offset x (omega (arith, from, l)) in
    cc (rest, apart)

-- The only clear packet that begins there tells it.
by_found : (low x : ℕ) (ns : List NoteParts) (p : NoteParts → Bool) → AreApart low ns
    → list_any (λ n. (n.offset == x) && p n) ns ≡ option_map_or p (find (λ n. n.offset == x) ns) false
by_found low x [] p a = refl
by_found low x (n ∷ ns) p a = elim (n.offset == x) as (λ b. n.offset == x ≡ b
    → ((b && p n) || list_any (λ m. (m.offset == x) && p m) ns)
    ≡ option_map_or p (if b then Some n else find (λ m. m.offset == x) ns) false) [
      | true ↦ λ e.
          let at = eqb-true n.offset x e in
          let none = not_later (end_of n) x ns p a.1 (omega (arith, at)) in
          or_none (p n) _ none
      | false ↦ λ e. by_found (end_of n) x ns p a.1
    ] refl
  where
    or_none : (a b : Bool) → b ≡ false → (a || b) ≡ a
    or_none true b e = refl
    or_none false b e = e

pub begins_found : (notes : List NoteParts) (x : ℕ) → AreApart 0 (clear_notes notes)
    → begins_packet notes x ≡ option_map_or is_container_packet (find (λ n. n.offset == x) (clear_notes notes)) false
begins_found notes x a = by_found 0 x (clear_notes notes) is_container_packet a

-- ---- What misses them

pub misses : (notes : List NoteParts) (x : ℕ) → (misses_packet notes x ≡ true) ↔ MissesPacket notes x
unfolding leads_to_packet
misses notes x =
    let any = list_any-In (is_amid x) (filter (leads_to_packet notes) (clear_notes notes)) in (
      λ t.
          let s = any.0 t in
          let n = s.0 in
          let f = (In-filter (leads_to_packet notes) (clear_notes notes) n).0 s.1 in
          let p = and_parts (nat_lt n.offset x) (nat_lt x (end_of n)) s.2 in record {
            packet = n;
            clear = (In-clear_notes n notes).0 f.0;
            above = ltb-true _ _ p.0;
            before = ltb-true _ _ p.1;
            leads = elim (one_of (is_container_packet n) (is_fill (kind_of n.key) && begins_packet notes (end_of n)) f.1) [
              | inl e ↦ inl ((container n).0 e)
              | inr e ↦
                  let q = and_parts (is_fill (kind_of n.key)) (begins_packet notes (end_of n)) e in
                  inr ((fill_kind (kind_of n.key)).0 q.0, (begins notes (end_of n)).0 q.1)
            ];
          },
      λ m.
          let n = m.packet in
          any.1 (
            n,
            (In-filter (leads_to_packet notes) (clear_notes notes) n).1 (
              (In-clear_notes n notes).1 m.clear,
              either (is_container_packet n) (is_fill (kind_of n.key) && begins_packet notes (end_of n)) (elim m.leads [
                | inl e ↦ inl ((container n).1 e)
                | inr e ↦ inr (and_from (is_fill (kind_of n.key)) (begins_packet notes (end_of n))
                    ((fill_kind (kind_of n.key)).1 e.0) ((begins notes (end_of n)).1 e.1))
              ]),
            ),
            and_from (nat_lt n.offset x) (nat_lt x (end_of n)) (lt-ltb _ _ m.above) (lt-ltb _ _ m.before),
          ),
    )

-- No packet begins where one is missed.
pub not_both : (notes : List NoteParts) (x : ℕ) → BeginsPacket notes x → MissesPacket notes x → ⊥
not_both notes x b m =
    let at = b.there in
    let above = m.above in
    let before = m.before in
    one_clear notes m.packet b.packet x m.clear b.clear.held (record { from = omega (arith, above); before = omega (arith, before) })
    (record { from = omega (arith, at); before = omega (arith, at) }) (omega (arith, at, above))

-- The runs of their offsets above the first.
abbrev pub amid_run : NoteParts → Run
amid_run n = run (n.offset + 1) (end_of n)

pub miss_runs : (notes : List NoteParts)
    → AreMisses notes (union_of_runs [] (map amid_run (filter (leads_to_packet notes) (clear_notes notes))))
miss_runs notes x =
    let ns = filter (leads_to_packet notes) (clear_notes notes) in
    let both = union_of_runs-IsUnion [] (map amid_run ns) x in
    let any = list_any-In (is_amid x) ns in (
      λ h. elim (both.0 h) [
        | inl k ↦ absurd k.1
        | inr k ↦
            let s = (In-map amid_run ns k.0).0 k.1 in
            let w = subst (λ (r : Run). IsWithin r x) s.2 k.2 in
            let from = w.from in
            let before = w.before in
            any.1 (
              s.0,
              s.1,
              and_from (nat_lt s.0.offset x) (nat_lt x (end_of s.0)) (lt-ltb s.0.offset x (omega (arith, from)))
                  (lt-ltb x (end_of s.0) (omega (arith, before))),
            )
      ],
      λ t.
          let s = any.0 t in
          let p = and_parts (nat_lt s.0.offset x) (nat_lt x (end_of s.0)) s.2 in
          let from = ltb-true _ _ p.0 in
          let before = ltb-true _ _ p.1 in
          both.1 (inr (
            amid_run s.0,
            (In-map amid_run ns (amid_run s.0)).1 (s.0, s.1, refl),
            record { from = omega (arith, from); before = omega (arith, before) },
          )),
    )

-- Nothing begins or is missed behind the greatest end.
pub far : (notes : List NoteParts) (x : ℕ) → IsCatalogue notes → 9223372036854775807 ≤ x
    → (begins_packet notes x || misses_packet notes x) ≡ false
far notes x is l = neither (begins_packet notes x) (misses_packet notes x)
    (λ t.
    let b = (begins notes x).0 t in
    let w = (all-In IsNote notes b.packet is.members b.clear.held).within in
    let at = b.there in
    omega (arith, w, at, l)) (λ t.
    let m = (misses notes x).0 t in
    let w = (all-In IsNote notes m.packet is.members m.clear.held).within in
    let before = m.before in
    omega (arith, w, before, l))
  where
    neither : (a b : Bool) → (a ≡ true → ⊥) → (b ≡ true → ⊥) → (a || b) ≡ false
    neither true b f g = absurd (f refl)
    neither false true f g = absurd (g refl)
    neither false false f g = refl
