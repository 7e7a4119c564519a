use Rattle.mxf_views.proofs.Common.{◌≡◌, ◌++◌, ◌+◌, ◌-◌, length, take, arith, refl, sym, ap, ◌∙◌, LengthParts}
use Rattle.mxf_views.proofs.Common.{IsHeadNow}
use Rattle.mxf_read.proofs.Feeding.{begun, few_held, head_whole, held_more, lacks_head, passing_as, stopped}
use Rattle.mxf_read.proofs.piece.Piece.take_more_of_head.Goals as goal

pub overflow_sub-known : goal.overflow_sub-known
overflow_sub-known c = grind (arith, few_held)

pub overflow_sub-result : goal.overflow_sub-result
overflow_sub-result c =
    let p = c.args.self.now in
    let v = c.in_ok-value-in-Ok.value in
    let made = c.in_ok-value-in-Ok.ensures in
    let items : c.extend_from_slice.new.self.items ≡ p.head.items ++ take c.min-count.result c.args.bytes.now =
    c.in_ok-extend_from_slice.ensures.items in
    let now : IsHeadNow p.head.items c.args.bytes.now v.key v.ber =
    head_whole p c.args.bytes.now c.deref.result.now c.extend_from_slice.new.self.items _ c.min-count.result _ v
    c.requires.fed c.requires.goes_on c.requires.head c.deref.ensures.value items c.in-Ok.ensures.head made.key
    made.length in
    let below = now.below in
    let width : v.ber.width ≡ c.width.result =
    ap (λ (l : LengthParts). l.width) made.length ∙ sym c.width.ensures.width in
    omega (arith, below, width, c.from.ensures, c.len-known.ensures, p.head.ok.0)

pub returns-in_ok-go_on-in-Ok : goal.returns-in_ok-go_on-in-Ok
returns-in_ok-go_on-in-Ok c =
    let p = c.args.self.now in
    let v = c.in_ok-value-in-Ok.value in
    let made = c.in_ok-value-in-Ok.ensures in
    let items : c.extend_from_slice.new.self.items ≡ p.head.items ++ take c.min-count.result c.args.bytes.now =
    c.in_ok-extend_from_slice.ensures.items in
    let now : IsHeadNow p.head.items c.args.bytes.now v.key v.ber =
    head_whole p c.args.bytes.now c.deref.result.now c.extend_from_slice.new.self.items _ c.min-count.result _ v
    c.requires.fed c.requires.goes_on c.requires.head c.deref.ensures.value items c.in-Ok.ensures.head made.key
    made.length in
    let below = now.below in
    let room = now.room in
    let width : v.ber.width ≡ c.width.result =
    ap (λ (l : LengthParts). l.width) made.length ∙ sym c.width.ensures.width in
    let used = 16 + c.from.result - c.len-known.result in
    let is : used ≡ 16 + v.ber.width - length p.head.items =
    omega (arith, below, width, c.from.ensures, c.len-known.ensures, p.head.ok.0) in
    record {
      some = omega (arith, below, width, c.from.ensures, c.len-known.ensures, p.head.ok.0);
      room = omega (arith, below, room, width, c.from.ensures, c.len-known.ensures, p.head.ok.0);
      fed = λ scan o m fed. c.in_ok-go_on-in-Ok.ensures.fed scan o m (take used c.args.bytes.now)
          (record { taken_by = fed.knows.taken_by; notes = fed.knows.notes; at = fed.knows.at })
          (begun scan o m c.args.bytes.now p v used fed c.requires.goes_on c.requires.head now is made.offset made.none
          (passing_as scan p v fed.knows.taken_by _ _ made.key made.length made.passing));
    }

pub returns-then-not-may_go_on : goal.returns-then-not-may_go_on
returns-then-not-may_go_on c =
    let p = c.args.self.now in
    let items : c.extend_from_slice.new.self.items ≡ p.head.items ++ take c.min-count.result c.args.bytes.now =
    c.in_ok-extend_from_slice.ensures.items in
    let lacks = lacks_head p c.deref.result.now c.extend_from_slice.new.self.items _ c.in-Err.stop c.deref.ensures.value
    items c.in-Err.ensures.none in
    let few = few_held p c.requires.fed c.requires.goes_on c.requires.head in
    record {
      some = omega (arith, few, c.len-known.ensures, p.head.ok.0, c.min-count.ensures, c.requires.more);
      room = omega (arith, c.min-count.ensures);
      fed = λ scan o m fed. stopped scan o m _ p _ c.in-Err.stop fed c.requires.goes_on c.requires.head lacks
          (λ t. let yes = c.may_go_on.ensures.1 t in absurd (cc (yes, c.if-not-may_go_on.true))) refl refl refl refl;
    }

pub returns-else-not-may_go_on : goal.returns-else-not-may_go_on
returns-else-not-may_go_on c =
    let p = c.args.self.now in
    let items : c.extend_from_slice.new.self.items ≡ p.head.items ++ take c.min-count.result c.args.bytes.now =
    c.in_ok-extend_from_slice.ensures.items in
    let lacks = lacks_head p c.deref.result.now c.extend_from_slice.new.self.items _ c.in-Err.stop c.deref.ensures.value
    items c.in-Err.ensures.none in
    let few = few_held p c.requires.fed c.requires.goes_on c.requires.head in
    record {
      some = omega (arith, few, c.len-known.ensures, p.head.ok.0, c.min-count.ensures, c.requires.more);
      room = omega (arith, c.min-count.ensures);
      fed = λ scan o m fed. held_more scan o m _ p _ c.in-Err.stop fed c.requires.goes_on c.requires.head lacks
          (c.may_go_on.ensures.0 c.if-not-may_go_on.false) refl refl refl c.requires.goes_on c.requires.head items;
    }
