-- What was put together, as what calls leave.
use Rattle.mxf_views.proofs.Common.{◌≡◌, ◌∙◌, ℕ, zero, suc, List, [], ◌∷◌, ap, inl, inr, refl, sym, NoteParts}
use Rattle.mxf_views.proofs.Common.{AreReduced, IsContent, has_note, reduced_union, Add, Hands, History, content}
use Rattle.mxf_views.proofs.Common.{AreReduced-reduced_union, IsContent-reduced_union, has-reduced_union, one_reduced}
use Rattle.mxf_restore.specs.Sections.{sections_of}
use Rattle.mxf_hand.specs.Hand.{HandBytes}
use Rattle.mxf_hand.specs.Rounds.{put_together, round, rounds, taken_in}
use Rattle.mxf_hand.proofs.RoundLaws.{all_rounds, rounds_end}

-- A round adds notes.
pub round_adds : (h : HandBytes) (notes : List NoteParts)
    → round h notes ≡ reduced_union notes (taken_in h notes (sections_of notes))
unfolding round
round_adds h notes = refl

-- What a content has stays in a round, and in all.
round_keeps : (h : HandBytes) (notes : List NoteParts) (n : NoteParts) → has_note notes n → has_note (round h notes) n
unfolding round
round_keeps h notes n has = (has-reduced_union n notes (taken_in h notes (sections_of notes))).1 (inl has)

rounds_keep : (count : ℕ) (h : HandBytes) (notes : List NoteParts) (n : NoteParts) → has_note notes n
    → has_note (rounds count h notes) n
unfolding rounds
rounds_keep zero h notes n has = has
rounds_keep (suc count) h notes n has = rounds_keep count h (round h notes) n (round_keeps h notes n has)

pub all_keep : (h : HandBytes) (notes : List NoteParts) (n : NoteParts) → has_note notes n
    → has_note (put_together h notes) n
unfolding put_together
all_keep h notes n has = rounds_keep 64 h notes n has

-- A content stays a reduced one.
pub round_content : (h : HandBytes) (notes : List NoteParts) → IsContent notes → IsContent (round h notes)
unfolding round
round_content h notes r = IsContent-reduced_union notes (taken_in h notes (sections_of notes)) r

pub round_reduced : (h : HandBytes) (notes : List NoteParts) → AreReduced notes → AreReduced (round h notes)
unfolding round
round_reduced h notes p = AreReduced-reduced_union notes (taken_in h notes (sections_of notes)) p

rounds_content : (count : ℕ) (h : HandBytes) (notes : List NoteParts) → IsContent notes
    → IsContent (rounds count h notes)
unfolding rounds
rounds_content zero h notes r = r
rounds_content (suc count) h notes r = rounds_content count h (round h notes) (round_content h notes r)

rounds_reduced : (count : ℕ) (h : HandBytes) (notes : List NoteParts) → AreReduced notes
    → AreReduced (rounds count h notes)
unfolding rounds
rounds_reduced zero h notes p = p
rounds_reduced (suc count) h notes p = rounds_reduced count h (round h notes) (round_reduced h notes p)

all_content : (h : HandBytes) (notes : List NoteParts) → IsContent notes → IsContent (put_together h notes)
unfolding put_together
all_content h notes r = rounds_content 64 h notes r

all_reduced : (h : HandBytes) (notes : List NoteParts) → AreReduced notes → AreReduced (put_together h notes)
unfolding put_together
all_reduced h notes p = rounds_reduced 64 h notes p

-- A content with all that was put together of it is what was put together.
joined_again : (h : HandBytes) (notes : List NoteParts) → IsContent notes → AreReduced notes
    → reduced_union notes (put_together h notes) ≡ put_together h notes
joined_again h notes r p =
    let all = put_together h notes in
    one_reduced (reduced_union notes all) all (IsContent-reduced_union notes all r) (all_content h notes r)
    (AreReduced-reduced_union notes all p) (all_reduced h notes p) (λ n.
    let u = has-reduced_union n notes all in (
      λ k. elim (u.0 k) [ inl a ↦ all_keep h notes n a | inr b ↦ b ],
      λ k. u.1 (inr k),
    ))

pub saved_again : (h : HandBytes) (notes : List NoteParts) → IsContent notes → AreReduced notes
    → round h (put_together h notes) ≡ put_together h notes
    → put_together h (reduced_union notes (put_together h notes)) ≡ put_together h notes
saved_again h notes r p e = ap (put_together h) (joined_again h notes r p) ∙ all_rounds h (put_together h notes)
    ∙ rounds_end h (put_together h notes) 64 e

-- Notes that are added one after another.
adds : History → List NoteParts → History
adds before [] = before
adds before (n ∷ notes) = adds (Add before n) notes

content-adds : (before : History) (notes : List NoteParts)
    → content (adds before notes) ≡ reduced_union (content before) notes
unfolding adds
content-adds before [] = refl
content-adds before (n ∷ notes) = content-adds (Add before n) notes

hands-adds : (before : History) (notes : List NoteParts) (n : NoteParts) → Hands before n → Hands (adds before notes) n
unfolding adds
hands-adds before [] n k = k
hands-adds before (m ∷ notes) n k = hands-adds (Add before m) notes n (inl k)

-- A history of rounds.
abbrev Leads : HandBytes → ℕ → History → Type 0
Leads h count before = (after : History) × (content after ≡ rounds count h (content before))
    × ((n : NoteParts) → Hands before n → Hands after n)

led : (h : HandBytes) (count : ℕ) (before : History) → Leads h count before
unfolding rounds
led h zero before = (before, refl, λ n k. k)
led h (suc count) before =
    let taken = taken_in h (content before) (sections_of (content before)) in
    let next = adds before taken in
    let rest = led h count next in
    let is : content next ≡ round h (content before) =
    content-adds before taken ∙ sym (round_adds h (content before)) in
    (rest.0, rest.1 ∙ ap (rounds count h) is, λ n k. rest.2 n (hands-adds before taken n k))

pub history : (h : HandBytes) (before : History) → (after : History)
    × (content after ≡ put_together h (content before)) × ((n : NoteParts) → Hands before n → Hands after n)
history h before =
    let all = led h 64 before in (all.0, all.1 ∙ sym (all_rounds h (content before)), all.2)
