-- What is kept of notes, put behind what is there one after another.
use Rattle.mxf_views.proofs.Common.{◌≡◌, ◌∙◌, ◌+◌, ◌++◌, ◌≤◌, List, [], ◌∷◌, Option, None, Some, ap, append-nil}
use Rattle.mxf_views.proofs.Common.{append_assoc, arith, refl, sym, cons_option, count_by, filter_map, length}
use Rattle.mxf_views.proofs.Common.{vec_capacity, vec_len, Global, Vec, NoteParts, count_by-cons, is_kept, is_some}
use Rattle.mxf_views.proofs.Common.{tally}
use Rattle.mxf_views.specs.Kept.{IsAppended}

module _ {A : Type 0} (take : NoteParts → Option A) where
  -- What is there and what the notes left bring is what was before and that of all new notes, and there is room.
  pub record AreAppended (before now : Vec A Global) (left new : List NoteParts) : Type 0 where
    pub items : now.items ++ filter_map take left ≡ before.items ++ filter_map take new
    pub room : vec_len now + count_by (is_kept take) left ≤ vec_capacity now

  pub appended_none : (list : Vec A Global) (left new : List NoteParts) → left ≡ new
      → length list.items + count_by (is_kept take) new ≤ vec_capacity list → AreAppended list list left new
  appended_none list left new e room = record {
    items = ap (λ l. list.items ++ filter_map take l) e;
    room = (let many = ap (count_by (is_kept take)) e in omega (arith, many, room, list.ok.0));
  }

  one : (n : NoteParts) → length (cons_option (take n) []) ≡ tally (is_kept take n)
  one n = elim (take n) as (λ o. length (cons_option o []) ≡ tally (is_some o)) [ None ↦ refl | Some x ↦ refl ]

  behind : (n : NoteParts) (rest : List NoteParts)
      → cons_option (take n) [] ++ filter_map take rest ≡ filter_map take (n ∷ rest)
  behind n rest =
      elim (take n) as (λ o. cons_option o [] ++ filter_map take rest ≡ cons_option o (filter_map take rest)) [
        | None ↦ refl
        | Some x ↦ refl
      ]

  -- There is room for the next.
  pub next_fits : (before now : Vec A Global) (left new rest : List NoteParts) (n : NoteParts) (o : Option A)
      → AreAppended before now left new → left ≡ n ∷ rest → o ≡ take n
      → length now.items + length (cons_option o []) ≤ vec_capacity now
  next_fits before now left new rest n o a e is =
      let all = ap (count_by (is_kept take)) e in
      let more = count_by-cons (is_kept take) n rest in
      let size = ap (λ o. length (cons_option o [])) is in omega (arith, all, more, one n, size, a.room, now.ok.0)

  pub appended_next : (before now next : Vec A Global) (left new rest : List NoteParts) (n : NoteParts) (o : Option A)
      → AreAppended before now left new → left ≡ n ∷ rest → o ≡ take n → IsAppended o now next
      → AreAppended before next rest new
  appended_next before now next left new rest n o a e is f = record {
    items = grind (arith, filter_map, append_assoc, cons_option, behind);
    room = (let all = ap (count_by (is_kept take)) e in
        let more = count_by-cons (is_kept take) n rest in
        let size = ap (λ o. length (cons_option o [])) is in
        omega (arith, all, more, one n, size, a.room, f.len, f.capacity));
  }

  -- Where none is left, it is that of all.
  pub appended_all : (before now : Vec A Global) (left new : List NoteParts) → AreAppended before now left new
      → left ≡ [] → now.items ≡ before.items ++ filter_map take new
  appended_all before now left new a e =
      sym (append-nil now.items) ∙ ap (λ l. now.items ++ filter_map take l) (sym e) ∙ a.items
