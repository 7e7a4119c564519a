use Rattle.std.proofs.Common.{◌+◌, None}
use Rattle.mxf_partial.specs.NearTable.{HasAddedThose, IsFrom, LiesInStream}
use Rattle.mxf_partial.proofs.NearLaws.{moved}
use Rattle.mxf_partial.proofs.NearPlaces.{asks_all, asks_named, asks_near}
use Rattle.mxf_partial.proofs.near.Near.add_place.Goals as goal

pub returns-then-branch : goal.returns-then-branch
returns-then-branch c = λ u named nm are x there.
    let near = c.args.self.now in
    let b = c.args.place.body_sid in
    let s = c.args.place.offset in
    let low = c.low.result.from + c.low.result.more in
    let from = c.from_place-from.result in
    let end = c.high-end.result in
    let from_is = moved (λ l. IsFrom l b low from) _ near.places.items c.deref.ensures.value c.from_place-from.ensures
    are.places.order in
    let any = c.in_ok-add_between.field-0 in
    let old = c.args.found.now.positions in
    let mid = c.add_between.new.positions in
    let has = moved (λ l. HasAddedThose l (LiesInStream b from end) old mid any) _ near.named.items
    c.deref-2.ensures.value c.in_ok-add_between.ensures are.named.order in
    asks_near u named near nm are b s low from end (c.low.ensures.low u are.streams)
    (c.high-end.ensures u are.streams) from_is any c.args.found.now.all old mid has c.if-branch.true x

pub returns-else-not-branch : goal.returns-else-not-branch
returns-else-not-branch c = λ u named nm are x there.
    let near = c.args.self.now in
    let b = c.args.place.body_sid in
    let s = c.args.place.offset in
    let low = c.low.result.from + c.low.result.more in
    let from = c.from_place-from.result in
    let end = c.high-end.result in
    let from_is = moved (λ l. IsFrom l b low from) _ near.places.items c.deref.ensures.value c.from_place-from.ensures
    are.places.order in
    let any = c.in_ok-add_between.field-0 in
    let old = c.args.found.now.positions in
    let mid = c.add_between.new.positions in
    let has = moved (λ l. HasAddedThose l (LiesInStream b from end) old mid any) _ near.named.items
    c.deref-2.ensures.value c.in_ok-add_between.ensures are.named.order in
    let own = c.in_ok-add_between-2.field-0 in
    let new = c.add_between-2.new.positions in
    let more = moved (λ l. HasAddedThose l (LiesInStream b 0 None) mid new own) _ near.named.items
    c.deref-3.ensures.value c.in_ok-add_between-2.ensures are.named.order in
    asks_named u named near nm are b s low from end (c.low.ensures.low u are.streams)
    (c.high-end.ensures u are.streams) from_is any own c.args.found.now.all old mid new has
    c.if-branch.false more c.if-not-branch.false x

pub returns-then-not-branch : goal.returns-then-not-branch
returns-then-not-branch c = λ u named nm are x there.
    let near = c.args.self.now in
    let b = c.args.place.body_sid in
    let s = c.args.place.offset in
    let low = c.low.result.from + c.low.result.more in
    let from = c.from_place-from.result in
    let end = c.high-end.result in
    let from_is = moved (λ l. IsFrom l b low from) _ near.places.items c.deref.ensures.value c.from_place-from.ensures
    are.places.order in
    let any = c.in_ok-add_between.field-0 in
    let old = c.args.found.now.positions in
    let mid = c.add_between.new.positions in
    let has = moved (λ l. HasAddedThose l (LiesInStream b from end) old mid any) _ near.named.items
    c.deref-2.ensures.value c.in_ok-add_between.ensures are.named.order in
    let own = c.in_ok-add_between-2.field-0 in
    let new = c.add_between-2.new.positions in
    let more = moved (λ l. HasAddedThose l (LiesInStream b 0 None) mid new own) _ near.named.items
    c.deref-3.ensures.value c.in_ok-add_between-2.ensures are.named.order in
    asks_all u named near nm are b s low from end (c.low.ensures.low u are.streams)
    (c.high-end.ensures u are.streams) from_is any own c.args.found.now.all old mid new has
    c.if-branch.false more c.if-not-branch.true x there
