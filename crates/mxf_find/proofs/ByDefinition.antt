-- Which notes tell, by their fields.
use Rattle.mxf_klv.proofs.Common.{◌≡◌, ◌↔◌, ◌==◌, ◌∙◌, true, List, IsTrue, length, ap, arith, eq-eqb, refl, sym}
use Rattle.mxf_klv.proofs.Common.{kind_of, NoteParts, head_parts, In, and_from, and_parts}
use Rattle.mxf_klv.specs.declared.kinds.Kind.{Kind}
use Rattle.mxf_klv.proofs.Tests.{not-true-false, not_true}
use Rattle.mxf_catalogue.specs.Content.{IsCatalogue, IsContent}
use Rattle.mxf_catalogue.proofs.DisputeLaws.{is_disputed-IsDisputed}
use Rattle.mxf_find.specs.Packets.{front_of, packet_of}
use Rattle.mxf_find.specs.Telling.{IsSound, IsTellingByLength, IsTellingByValue, is_fill, is_sound, tells_by_length}
use Rattle.mxf_find.specs.Telling.{tells_by_value}
use Rattle.mxf_find.proofs.TellerLaws.{length_teller, length_told, value_teller, value_told}
use Rattle.mxf_find.proofs.TellingLaws.{alike, alone, same, same_says, says_same}
use Rattle.mxf_find.proofs.VoteLaws.{filter_only}
use Rattle.mxf_klv.specs.declared.kinds.Kind.TheVariants as kinds

fill_is : (k : Kind) → is_fill k ≡ true → k ≡ kinds.Fill
fill_is k e = grind arith

is_fill_so : (k : Kind) → k ≡ kinds.Fill → is_fill k ≡ true
is_fill_so k e = ap is_fill e

sound : (n : NoteParts) (notes : List NoteParts) → In n notes → is_sound notes n ≡ true → IsSound n notes
unfolding is_sound
sound n notes i t = grind (arith, and_parts, not-true-false, is_disputed-IsDisputed, is_fill_so)

so_sound : (n : NoteParts) (notes : List NoteParts) → IsSound n notes → is_sound notes n ≡ true
unfolding is_sound
so_sound n notes s = and_from _ _ (not_true _ (λ t. s.undisputed ((is_disputed-IsDisputed n notes).0 t)))
    (not_true _ (λ t. s.no_fill (fill_is (kind_of n.key) t)))

one_there : (key : NoteParts → NoteParts) (n : NoteParts) (notes : List NoteParts) → IsContent notes → In n notes
    → ((m : NoteParts) → In m notes → IsTrue (same key n m) → m ≡ n) → (length (alike key notes n) == 1) ≡ true
one_there key n notes content i only =
    eq-eqb (length (alike key notes n)) 1 (sym (ap length (filter_only (same key n) notes n content
    (record { held = i; passes = says_same key n n refl }) only)))

pub by_length : (n : NoteParts) (notes : List NoteParts) → IsCatalogue notes → In n notes
    → IsTrue (tells_by_length notes n) ↔ IsTellingByLength n notes
by_length n notes is i = (
  λ t. let told = length_told notes n t in record {
    sound = sound n notes i told.0;
    only = λ m j k w l. alone front_of notes m n told.1 j i (λ x. head_parts 0 (k x) (w x) (l x));
  },
  λ t. length_teller notes n (so_sound n notes t.sound) (one_there front_of n notes is.content i (λ m j s.
      let e = sym (same_says front_of n m s) in
      t.only m j (ap (λ (x : NoteParts). x.key) e) (ap (λ (x : NoteParts). x.width) e)
      (ap (λ (x : NoteParts). x.length) e))),
)

same_packets : (m n : NoteParts) → m.whole ≡ n.whole → m.key ≡ n.key → m.width ≡ n.width → m.length ≡ n.length
    → m.held ≡ n.held → packet_of m ≡ packet_of n
same_packets m n e k w l h i = record { offset = 0; key = k i; width = w i; length = l i; whole = e i; held = h i }

pub by_value : (n : NoteParts) (notes : List NoteParts) → IsCatalogue notes → In n notes
    → IsTrue (tells_by_value notes n) ↔ IsTellingByValue n notes
by_value n notes is i = (
  λ t. let told = value_told notes n t in record {
    sound = sound n notes i told.1;
    whole = told.0;
    only = λ m j e k w l h. alone packet_of notes m n told.2 j i (same_packets m n (e ∙ sym told.0) k w l h);
  },
  λ t. value_teller notes n t.whole (so_sound n notes t.sound) (one_there packet_of n notes is.content i (λ m j s.
      let e = sym (same_says packet_of n m s) in
      t.only m j (ap (λ (x : NoteParts). x.whole) e ∙ t.whole) (ap (λ (x : NoteParts). x.key) e)
      (ap (λ (x : NoteParts). x.width) e) (ap (λ (x : NoteParts). x.length) e) (ap (λ (x : NoteParts). x.held) e))),
)
