-- What looking up one that tells gives.
use Rattle.std.proofs.Common.{◌≡◌, ◌↔◌, ◌&&◌, ◌==◌, ◌∙◌, Bool, true, false, List, IsTrue, Option, None, Some, sym, ap}
use Rattle.std.proofs.Common.{subst, arith, filter, length}
use Rattle.mxf_klv.specs.Parts.{NoteParts}
use Rattle.mxf_klv.specs.Rising.{In}
use Rattle.mxf_klv.proofs.Tests.{same_bool}
use Rattle.mxf_catalogue.specs.Disputes.{IsDisputed, is_disputed}
use Rattle.mxf_catalogue.proofs.DisputeLaws.{is_disputed-IsDisputed}
use Rattle.mxf_find.specs.Packets.{IsByPacket, front_of, is_same_length, is_same_packet, packet_of, sole}
use Rattle.mxf_find.specs.Telling.{IsNoneOf, IsOneOf, is_sound, is_teller_by_length, is_teller_by_value}
use Rattle.mxf_find.specs.Telling.{tells_by_length, tells_by_value}
use Rattle.mxf_klv.proofs.Common.{and_from, and_parts}
use Rattle.mxf_find.proofs.TellingLaws.{alike, none_alone, one_alone, one_held, one_is, one_same}

pub disputed_is : (notes : List NoteParts) (n : NoteParts) (r : Bool) → IsTrue r ↔ (In n notes × IsDisputed n notes)
    → In n notes → r ≡ is_disputed n notes
disputed_is notes n r f i =
    let d = is_disputed-IsDisputed n notes in
    same_bool r (is_disputed n notes) (λ t. d.1 (f.0 t).1) (λ t. f.1 (i, d.0 t))

pub seen_disputed : (notes seen : List NoteParts) (n : NoteParts) (r : Bool) → notes ≡ seen
    → (IsTrue r ↔ (In n notes × IsDisputed n notes)) → In n seen → r ≡ is_disputed n seen
seen_disputed notes seen n r e f i = disputed_is notes n r f (subst (In n) (sym e) i) ∙ ap (is_disputed n) e

pub either_false : (a b : Bool) → a ≡ false → (a && b) ≡ false
either_false a b e = cc

pub or_false : (a b : Bool) → b ≡ false → (a && b) ≡ false
or_false a b e = grind arith

pub length_teller : (notes : List NoteParts) (n : NoteParts) → is_sound notes n ≡ true
    → (length (alike front_of notes n) == 1) ≡ true → tells_by_length notes n ≡ true
unfolding tells_by_length
length_teller notes n s l = and_from _ _ s l

pub length_told : (notes : List NoteParts) (n : NoteParts) → tells_by_length notes n ≡ true
    → (is_sound notes n ≡ true) × ((length (alike front_of notes n) == 1) ≡ true)
unfolding tells_by_length
length_told notes n t = and_parts _ _ t

pub value_teller : (notes : List NoteParts) (n : NoteParts) → n.whole ≡ true → is_sound notes n ≡ true
    → (length (alike packet_of notes n) == 1) ≡ true → tells_by_value notes n ≡ true
unfolding tells_by_value
value_teller notes n w s l = grind arith

pub value_told : (notes : List NoteParts) (n : NoteParts) → tells_by_value notes n ≡ true
    → (n.whole ≡ true) × (is_sound notes n ≡ true) × ((length (alike packet_of notes n) == 1) ≡ true)
unfolding tells_by_value
value_told notes n t = grind arith

-- The packets that are lent are those of the content that is seen.
pub lent : (notes packets seen slice : List NoteParts) → IsByPacket notes packets → notes ≡ seen → slice ≡ packets
    → IsByPacket seen slice
lent notes packets seen slice is e f = subst (λ (l : List NoteParts). IsByPacket seen l) (sym f)
    (subst (λ (l : List NoteParts). IsByPacket l packets) e is)

module _ (notes packets : List NoteParts) (is : IsByPacket notes packets) (p : NoteParts)
    (only : Option NoteParts) where
  module _ (found : only ≡ sole (filter (is_same_length p) packets)) where
    pub length_held : (n : NoteParts) → only ≡ Some n → In n notes
    length_held n e = one_held front_of notes packets is.ordered is.content p only found n e

    pub length_none : only ≡ None → IsNoneOf (is_teller_by_length notes p) notes
    length_none e m i t =
        let (tells, alike) = and_parts (tells_by_length notes m) (is_same_length p m) t in
        none_alone front_of notes packets is.ordered is.content p only found m e alike (length_told notes m tells).1

    pub length_one : (n : NoteParts) → only ≡ Some n → is_sound notes n ≡ true
        → IsOneOf (is_teller_by_length notes p) notes n
    length_one n e s = record {
      held = length_held n e;
      passes = and_from (tells_by_length notes n) (is_same_length p n)
          (length_teller notes n s (one_alone front_of notes packets is.ordered is.content p only found n e))
          (one_same front_of notes packets is.ordered is.content p only found n e);
    }

    pub length_unsound : (n : NoteParts) → only ≡ Some n → is_sound notes n ≡ false
        → IsNoneOf (is_teller_by_length notes p) notes
    length_unsound n e s m i t =
        let (tells, alike) = and_parts (tells_by_length notes m) (is_same_length p m) t in
        let q : m ≡ n = one_is front_of notes packets is.ordered is.content p only found m n e i alike in
        let sound : is_sound notes m ≡ true = (length_told notes m tells).0 in
        let u : is_sound notes m ≡ is_sound notes n = ap (is_sound notes) q in cc (s, sound, u)

  module _ (found : only ≡ sole (filter (is_same_packet p) packets)) where
    pub value_held : (n : NoteParts) → only ≡ Some n → In n notes
    value_held n e = one_held packet_of notes packets is.ordered is.content p only found n e

    pub value_none : only ≡ None → IsNoneOf (is_teller_by_value notes p) notes
    value_none e m i t =
        let (tells, alike) = and_parts (tells_by_value notes m) (is_same_packet p m) t in
        none_alone packet_of notes packets is.ordered is.content p only found m e alike (value_told notes m tells).2

    pub value_one : (n : NoteParts) → only ≡ Some n → n.whole ≡ true → is_sound notes n ≡ true
        → IsOneOf (is_teller_by_value notes p) notes n
    value_one n e w s = record {
      held = value_held n e;
      passes = and_from (tells_by_value notes n) (is_same_packet p n)
          (value_teller notes n w s (one_alone packet_of notes packets is.ordered is.content p only found n e))
          (one_same packet_of notes packets is.ordered is.content p only found n e);
    }

    pub value_unsound : (n : NoteParts) → only ≡ Some n → (n.whole && is_sound notes n) ≡ false
        → IsNoneOf (is_teller_by_value notes p) notes
    value_unsound n e s m i t =
        let (tells, alike) = and_parts (tells_by_value notes m) (is_same_packet p m) t in
        let q : m ≡ n = one_is packet_of notes packets is.ordered is.content p only found m n e i alike in
        let told = value_told notes m tells in
        let good : (m.whole && is_sound notes m) ≡ true = and_from _ _ told.0 told.1 in
        let u : (m.whole && is_sound notes m) ≡ (n.whole && is_sound notes n) =
        ap (λ (x : NoteParts). x.whole && is_sound notes x) q in cc (s, good, u)
