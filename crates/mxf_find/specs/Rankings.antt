-- The recordings in which a fragment lies best (this project's profile).
use Rattle.std.specs.Prelude.{List, [], ◌∷◌, ◌++◌, take}
use Rattle.std.specs.Ordering.{flip_args, int_cmp, nat_cmp, on, then_cmp}
use Rattle.std.specs.declared.cmp.Ordering.{Ordering}
use Rattle.mxf_klv.specs.Rising.{union}
use Rattle.mxf_find.specs.declared.ranking.Ranked.{Ranked}

-- Recordings go by the notes that agree, the most first, then by their numbers; then by what else is said of them.
abbrev pub rank_cmp : Ranked → Ranked → Ordering
rank_cmp =
    then_cmp (on (λ r. r.found.agree) (flip_args nat_cmp))
    (then_cmp (on (λ r. r.recording) nat_cmp)
    (then_cmp (on (λ r. r.found.heads) nat_cmp) (on (λ r. r.found.offset) int_cmp)))

-- Recordings in their order, each once.
abbrev pub in_order : List Ranked → List Ranked
in_order all = union rank_cmp [] all

-- The first 16 of recordings in their order.
abbrev pub ranked : List Ranked → List Ranked
ranked all = take 16 (in_order all)

-- A ranking with one more.
abbrev pub with_ranked : Ranked → List Ranked → List Ranked
with_ranked r best = ranked (best ++ r ∷ [])

-- A ranking with more, one after another.
abbrev pub with_all : List Ranked → List Ranked → List Ranked
with_all [] best = best
with_all (r ∷ all) best = with_all all (with_ranked r best)
