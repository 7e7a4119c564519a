use Rattle.mxf_views.proofs.Common.{◌≡◌, ◌∙◌, ◌||◌, ap, ℕ, Bool, List, true, false, NoteParts, None, Some, list_any, segments_of}
use Rattle.mxf_doubts.specs.Sizes.{is_between, is_other_than}
use Rattle.mxf_doubts.proofs.SizeLaws.{other_sizes}
use Rattle.mxf_doubts.proofs.sizes.Sizes.has_other_than.Goals as goal

-- Whether a lesser and a greater size are among those that are kept.
abbrev lesser : ℕ × ℕ × ℕ → List (ℕ × ℕ × ℕ) → Bool
lesser s sizes = list_any (is_between (s.0, s.1, 0) (Some s.2)) sizes

abbrev greater : ℕ × ℕ × ℕ → List (ℕ × ℕ × ℕ) → Bool
greater s sizes = list_any (is_between (s.0, s.1, s.2) None) sizes

abbrev other : ℕ × ℕ × ℕ → List NoteParts → Bool
other s notes = list_any (is_other_than s.0 s.1 s.2) (segments_of notes)

by_first : (r a b c : Bool) → r ≡ true → r ≡ a → (a || b) ≡ c → r ≡ c
by_first r a b c e f g = cc (e, f, g)

by_second : (f r a b c : Bool) → f ≡ false → f ≡ a → r ≡ b → (a || b) ≡ c → r ≡ c
by_second f r a b c e g h k = cc (e, g, h, k)

pub returns-then-has_between : goal.returns-then-has_between
returns-then-has_between c =
    let notes = c.self.inside.views.now in
    let sizes = c.self.inside.sizes.items in
    let size : ℕ × ℕ × ℕ = (c.args.index_sid, c.args.body_sid, c.args.bytes) in
    by_first c.has_between.result (lesser size sizes) (greater size sizes) (other size c.args.self.now) c.if-has_between.true
    (c.has_between.ensures ∙ ap (lesser size) c.deref.ensures.value)
    (other_sizes notes c.args.index_sid c.args.body_sid c.args.bytes sizes c.self.invariant.0
    ∙ ap (λ (l : List NoteParts). other size l) c.self.view_is)

pub returns-else-has_between : goal.returns-else-has_between
returns-else-has_between c =
    let notes = c.self.inside.views.now in
    let sizes = c.self.inside.sizes.items in
    let size : ℕ × ℕ × ℕ = (c.args.index_sid, c.args.body_sid, c.args.bytes) in
    by_second c.has_between.result c.has_between-else-has_between.result (lesser size sizes) (greater size sizes)
    (other size c.args.self.now) c.if-has_between.false
    (c.has_between.ensures ∙ ap (lesser size) c.deref.ensures.value)
    (c.has_between-else-has_between.ensures ∙ ap (greater size) c.deref-else-has_between.ensures.value)
    (other_sizes notes c.args.index_sid c.args.body_sid c.args.bytes sizes c.self.invariant.0
    ∙ ap (λ (l : List NoteParts). other size l) c.self.view_is)
