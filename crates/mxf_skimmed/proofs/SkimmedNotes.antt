-- What a skim makes of a note: all stays but what is held of a container's packet, and no view reads that.
use Rattle.mxf_views.proofs.Common.{◌≡◌, ℕ, Bool, true, false, ◌&&◌, if◌then◌else◌, List, None, Result, refl, sym, ap}
use Rattle.mxf_views.proofs.Common.{◌∙◌, rules, NoteParts, and_parts, keeps_value, kind_of, head_note, read_as}
use Rattle.std.specs.Result.{result_ok}
use Rattle.mxf_klv.specs.declared.kinds.Kind.{Kind}
use Rattle.mxf_klv.specs.declared.kinds.Kind.TheVariants.{Essence, Other}
use Rattle.mxf_skim.specs.PassedOver.{is_in_container, is_of_container, no_digest, passed_note, skimmed}
use Rattle.mxf_skim.specs.PassedOver.{stands_in_container}
use Rattle.mxf_skim.proofs.ContainerLaws.{keeps_nothing}
use Rattle.mxf_readings.specs.Readings.{is_held}
use Rattle.mxf_skimmed.specs.Skims.{noted_beside}
use Rattle.std.proofs.Common.{nat_lt}

-- all stays but what is held
skimmed_is : (n : NoteParts) → skimmed n ≡ record n { held = (skimmed n).held }
skimmed_is n = elim (is_of_container n) as (λ b. is_of_container n ≡ b
    → (if b then passed_note n else n) ≡ record n { held = (if b then passed_note n else n).held }) [
      | true ↦ λ e.
          let whole = (and_parts n.whole (is_in_container n.key n.length) e).0 in
          λ i. record {
            offset = n.offset;
            key = n.key;
            width = n.width;
            length = n.length;
            whole = sym whole i;
            held = no_digest;
          }
      | false ↦ λ e. refl
    ] refl

pub passed_is : (n : NoteParts) → is_of_container n ≡ true → skimmed n ≡ passed_note n
passed_is n e = ap (λ (b : Bool). if b then passed_note n else n) e

skim_stays : (n : NoteParts) → is_of_container n ≡ false → skimmed n ≡ n
skim_stays n e = ap (λ (b : Bool). if b then passed_note n else n) e

-- two notes of a container's packets with one head become one
pub alike_are_one : (m n : NoteParts) → is_of_container m ≡ true → is_of_container n ≡ true
    → head_note m ≡ head_note n → skimmed m ≡ skimmed n
alike_are_one m n c d e = passed_is m c ∙ ap passed_note e ∙ sym (passed_is n d)

-- ---- values that are kept

-- a container's packet keeps none
keeps_none : (n : NoteParts) → is_of_container n ≡ true → keeps_value n ≡ false
keeps_none n e =
    let p = and_parts n.whole (is_in_container n.key n.length) e in
    let whole = p.0 in
    let none = keeps_nothing n.key n.length p.1 in
    λ i. whole i && none i

-- what is read of a value that is kept stays
value_skimmed : {A : Type 0} (f : List ℕ → A) (d : A) (n : NoteParts)
    → (if keeps_value n then f (skimmed n).held else d) ≡ (if keeps_value n then f n.held else d)
value_skimmed f d n =
    elim (is_of_container n) as (λ b. is_of_container n ≡ b
    → (if keeps_value n then f (if b then passed_note n else n).held else d)
    ≡ (if keeps_value n then f n.held else d)) [
      | true ↦ λ e.
          let none = keeps_none n e in
          ap (λ (b : Bool). if b then f no_digest else d) none ∙ sym (ap (λ (b : Bool). if b then f n.held else d) none)
      | false ↦ λ e. refl
    ] refl

-- ---- packets of other kinds

no_container : (t : Kind → Bool) (kind : Kind) (key : List ℕ) → t Essence ≡ false → t Other ≡ false → t kind ≡ true
    → stands_in_container kind key ≡ true → ⊥
no_container t Essence key e o is stands = cc (e, is)
no_container t Other key e o is stands = cc (o, is)
no_container t kind key e o is stands = search rules

-- a note of another kind is as it was
other_skimmed : (t : Kind → Bool) (n : NoteParts) → t Essence ≡ false → t Other ≡ false → t (kind_of n.key) ≡ true
    → skimmed n ≡ n
other_skimmed t n e o is = elim (is_of_container n) as (λ b. is_of_container n ≡ b
    → (if b then passed_note n else n) ≡ n) [
      | true ↦ λ c.
          let p = and_parts n.whole (is_in_container n.key n.length) c in
          let q = and_parts (nat_lt 0 n.length) (stands_in_container (kind_of n.key) n.key) p.1 in
          absurd (no_container t (kind_of n.key) n.key e o is q.1)
      | false ↦ λ c. refl
    ] refl

-- ---- beside catalogues

module _ (saved : List NoteParts) where
  -- a note is as it was, or as a skim makes it
  pub either_note : (P : NoteParts → Type 0) (n : NoteParts) → P n → P (skimmed n) → P (noted_beside saved n)
  either_note P n own passed = elim (is_held n saved) as (λ b. P (if b then n else skimmed n)) [
    | true ↦ own
    | false ↦ passed
  ]

  pub noted_is : (n : NoteParts) → noted_beside saved n ≡ record n { held = (noted_beside saved n).held }
  noted_is n = either_note (λ m. m ≡ record n { held = m.held }) n refl (skimmed_is n)

  -- what is said of a note without what is held stays
  pub says_same : {A : Type 0} (f : NoteParts → A) (n : NoteParts)
      → ((held : List ℕ) → f (record n { held = held }) ≡ f n) → f (noted_beside saved n) ≡ f n
  says_same f n same = ap f (noted_is n) ∙ same (noted_beside saved n).held

  pub stays : (n : NoteParts) → is_of_container n ≡ false → noted_beside saved n ≡ n
  stays n e = either_note (λ m. m ≡ n) n refl (skim_stays n e)

  -- what is read of a value that is kept stays
  pub value_same : {A : Type 0} (f : List ℕ → A) (d : A) (n : NoteParts)
      → (if keeps_value n then f (noted_beside saved n).held else d) ≡ (if keeps_value n then f n.held else d)
  value_same f d n = either_note
      (λ m. (if keeps_value n then f m.held else d) ≡ (if keeps_value n then f n.held else d)) n refl
      (value_skimmed f d n)

  pub read_same : {A E : Type 0} (read : List ℕ → Result A E) (n : NoteParts)
      → read_as read (record n { held = (noted_beside saved n).held }) ≡ read_as read n
  read_same read n = value_same (λ (bytes : List ℕ). result_ok (read bytes)) None n

  -- a note of another kind is as it was
  pub other_stays : (t : Kind → Bool) (n : NoteParts) → t Essence ≡ false → t Other ≡ false
      → t (kind_of n.key) ≡ true → noted_beside saved n ≡ n
  other_stays t n e o is = either_note (λ m. m ≡ n) n refl (other_skimmed t n e o is)
