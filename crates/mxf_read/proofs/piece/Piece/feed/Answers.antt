use Rattle.std.proofs.Common.{[], ◌++◌, List, ℕ, take, drop, refl, sym, ap, subst, ◌∙◌, append_assoc, take-append-drop}
use Rattle.std.specs.Prelude.{Err, Ok, OnErr, Result}
use Rattle.mxf_read.specs.Feeding.{Fails, Feeds}
use Rattle.mxf_read.proofs.Feeding.{Fails-joined, Feeds-none, Feeds-trans, Feeds-where_stopped}
use Rattle.mxf_read.proofs.Feeding.{same_fed}
use Rattle.mxf_read.proofs.piece.Piece.feed.Goals as goal

-- what holds holds where a call failed
where_failed : {T E P : Type 0} (r : Result T E) → P → OnErr r P
where_failed (Ok x) p = tt
where_failed (Err e) p = p

pub bytes-init : goal.bytes-init
bytes-init c = ([], refl, Feeds-none c.args.self.now)

pub bytes-preserved : goal.bytes-preserved
bytes-preserved c =
    let (done, split, fed) = c.bytes.invariant in
    let rest = c.bytes.rest.now in
    let n = c.in_ok-used.used in (
      done ++ take n rest,
      split ∙ ap (λ (t : List ℕ). done ++ t) (sym (take-append-drop n rest))
          ∙ sym (append_assoc done (take n rest) (drop n rest))
          ∙ ap (λ (t : List ℕ). (done ++ take n rest) ++ t) (sym c.split_at.ensures.back),
      Feeds-trans c.args.self.now c.bytes.self c.take.new.self done (take n rest) fed c.in_ok-used.ensures.fed,
    )

pub returns-else-is_none-clause-fed : goal.returns-else-is_none-clause-fed
returns-else-is_none-clause-fed c =
    let (done, split, fed) = c.bytes.invariant in
    let rest = c.bytes.rest.now in
    let last : Feeds c.bytes.self c.bytes.self rest = Feeds-where_stopped c.bytes.self rest c.if-is_none.ensures in
    let all : Feeds c.args.self.now c.bytes.self c.args.bytes.now =
    subst (Feeds c.args.self.now c.bytes.self) (sym split)
    (Feeds-trans c.args.self.now c.bytes.self c.bytes.self done rest fed last) in
    λ scan o m h. same_fed scan o (m ++ c.args.bytes.now) c.bytes.self _ refl refl refl refl refl refl (all scan o m h)

pub returns-in_err-used-clause-err : goal.returns-in_err-used-clause-err
returns-in_err-used-clause-err c =
    let (done, split, fed) = c.bytes.invariant in
    where_failed c.from_residual.result (subst (Fails c.args.self.now c.take.new.self) (sym split)
    (Fails-joined c.args.self.now c.bytes.self c.take.new.self done c.bytes.rest.now fed c.in_err-used.ensures))
