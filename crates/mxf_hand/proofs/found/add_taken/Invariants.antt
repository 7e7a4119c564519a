-- What was added so far, with the heads that are to come.
use Rattle.mxf_views.proofs.Common.{◌≡◌, ◌↔◌, ℕ, List, filter, map, into_iter_items, NoteParts, reduced_union, LiesIn}
use Rattle.mxf_hand.specs.Finding.{IsStart}
use Rattle.mxf_hand.specs.Rounds.{is_taken}
use Rattle.mxf_hand.proofs.found.add_taken.Given as goal

abbrev pub invariant-loop-head : goal.invariant-loop-head
invariant-loop-head l = (read : List NoteParts) → ((x : ℕ) → LiesIn l.starts x ↔ IsStart read x)
    → reduced_union l.made (map (λ c. c.note) (filter (is_taken read) (into_iter_items l.head-iterator)))
    ≡ reduced_union l.initial.made (map (λ c. c.note) (filter (is_taken read) l.fn.heads.items))
