use Rattle.mxf_views.proofs.Common.{◌≡◌, ◌∙◌, ◌<◌, ◌&&◌, Bool, ap, arith, not, nat_lt, refl, sym, and_from, and_parts}
use Rattle.mxf_views.proofs.Common.{end_of, NoteParts, list_any-In, same_bool}
use Rattle.std.proofs.lemmas.Bool.{lt-ltb, ltb-true}
use Rattle.mxf_hand.specs.Rounds.{is_crossed}
use Rattle.mxf_hand.proofs.found.is_taken.Goals as goal

pub returns-then-ends_within : goal.returns-then-ends_within
returns-then-ends_within c = λ read starts.
    let n = c.args.head.now.note in
    let test = λ (m : NoteParts). nat_lt n.offset m.offset && nat_lt m.offset (end_of n) in
    let ends = sym c.ends_within.ensures ∙ c.if-ends_within.true in
    let from = c.offset.ensures.offset in
    let to = c.end.ensures in
    let same : c.meets.result ≡ is_crossed read n = same_bool c.meets.result (is_crossed read n) (λ t.
    let (at, lies, low, high) = c.meets.ensures.0 t in
    let (m, i, e) = (starts at).0 lies in
    (list_any-In test read).1 (
      m,
      i,
      and_from (nat_lt n.offset m.offset) (nat_lt m.offset (end_of n))
          (lt-ltb n.offset m.offset (omega (arith, low, e, from)))
          (lt-ltb m.offset (end_of n) (omega (arith, high, e, to))),
    )) (λ t.
    let (m, i, e) = (list_any-In test read).0 t in
    let parts = and_parts (nat_lt n.offset m.offset) (nat_lt m.offset (end_of n)) e in
    let low : n.offset < m.offset = ltb-true n.offset m.offset parts.0 in
    let high : m.offset < end_of n = ltb-true m.offset (end_of n) parts.1 in
    c.meets.ensures.1 (m.offset, (starts m.offset).1 (m, i, refl), omega (arith, low, from), omega (arith, high, to)))
    in
    ap not same ∙ sym (ap (λ (b : Bool). b && not (is_crossed read n)) ends)
