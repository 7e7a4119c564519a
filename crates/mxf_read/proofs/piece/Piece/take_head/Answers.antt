use Rattle.mxf_views.proofs.Common.{◌≡◌, ◌+◌, ◌-◌, ◌++◌, [], length, take, arith, refl, sym, ap, ◌∙◌, take_all}
use Rattle.mxf_views.proofs.Common.{LengthParts, IsHeadNow, rules}
use Rattle.mxf_read.proofs.Feeding.{begun, head_whole, passing_as}
use Rattle.mxf_read.proofs.Reports.{nil_from}
use Rattle.mxf_read.proofs.WholePackets.{some_of_front}
use Rattle.mxf_read.proofs.piece.Piece.take_head.Goals as goal

pub returns-in_ok-go_on-in-Ok : goal.returns-in_ok-go_on-in-Ok
returns-in_ok-go_on-in-Ok c =
    let p = c.args.self.now in
    let bytes = c.args.bytes.now in
    let v = c.in_ok-value-in-Ok.value in
    let made = c.in_ok-value-in-Ok.ensures in
    let empty : p.head.items ≡ [] =
    nil_from p.head.items p.head.len p.head.ok.0 (sym c.is_empty.ensures ∙ c.if-not-is_empty.false) in
    let items : bytes ≡ p.head.items ++ take (length bytes) bytes =
    sym (take_all (length bytes) bytes (omega arith)) ∙ ap (λ (held : _). held
    ++ take (length bytes) bytes) (sym empty) in
    let now : IsHeadNow p.head.items bytes v.key v.ber =
    head_whole p bytes bytes bytes _ (length bytes) _ v c.requires.fed c.requires.goes_on c.requires.head refl items
    c.in-Ok.ensures.head made.key made.length in
    let width : v.ber.width ≡ c.width.result =
    ap (λ (l : LengthParts). l.width) made.length ∙ sym c.width.ensures.width in
    let none : length p.head.items ≡ 0 = ap length empty in
    let used : 16 + c.from.result ≡ 16 + v.ber.width - length p.head.items =
    omega (arith, width, c.from.ensures, none) in
    let below = now.below in
    let room = now.room in
    record {
      some = omega arith;
      room = omega (arith, room, used);
      fed = λ scan o m fed. c.in_ok-go_on-in-Ok.ensures.fed scan o m (take (16 + c.from.result) bytes)
          (record { taken_by = fed.knows.taken_by; notes = fed.knows.notes; at = fed.knows.at })
          (begun scan o m bytes p v (16 + c.from.result) fed c.requires.goes_on c.requires.head now used made.offset
          made.none (passing_as scan p v fed.knows.taken_by _ _ made.key made.length made.passing));
    }

pub returns-in_err-value-in-Ok : goal.returns-in_err-value-in-Ok
returns-in_err-value-in-Ok c = some_of_front c.args.self.now c.args.self.now c.args.bytes.now
    c.from_residual-in_err-value-in-Ok.result (search rules)

pub returns-in_err-go_on-in-Ok : goal.returns-in_err-go_on-in-Ok
returns-in_err-go_on-in-Ok c = some_of_front c.args.self.now c.go_on.new.self c.args.bytes.now
    c.from_residual-in_err-go_on-in-Ok.result (search rules)
