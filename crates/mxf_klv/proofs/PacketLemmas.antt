-- Facts on packets and what bytes begin with.
use Rattle.mxf_klv.proofs.Common.{◌≡◌, ℕ, suc, ◌+◌, ◌-◌, ◌<◌, ◌≤◌, List, [], ◌∷◌, ◌++◌, length, take, drop, replicate}
use Rattle.mxf_klv.proofs.Common.{Err, refl, sym, ap, subst, ◌∙◌, arith, inl, length-append, append_assoc, take_at}
use Rattle.mxf_klv.proofs.Common.{drop_at, take_all, take-append-drop, length-replicate, PacketParts, label_start}
use Rattle.mxf_klv.proofs.Common.{IsLabel, BeginsAsLabel, IsSpelledLength, IsCutLength, ReadsLength, IsSpelledPacket}
use Rattle.mxf_klv.proofs.Common.{IsCutPacket, ReadsPacket, packet_fault}
use Rattle.mxf_klv.specs.declared.ber.BerFault.{BerFault}
use Rattle.std.proofs.lemmas.List.{append-nil}
use Rattle.byteorder.specs.Endian.{big_number}
use Rattle.mxf_klv.proofs.LengthLemmas.{wide_found_cons}

-- the first sixteen of bytes that begin as a label
pub label_of : (bytes : List ℕ) → BeginsAsLabel bytes → 16 ≤ length bytes → IsLabel (take 16 bytes)
label_of bytes h long = grind arith

-- a length that is cut, where one follows that could be whole
length_cut_cons : (bytes : List ℕ) (f : ℕ) (rest : List ℕ) (n : ℕ) → BeginsAsLabel bytes → 16 ≤ length bytes
    → drop 16 bytes ≡ f ∷ rest → f ≡ 129 + n → n ≤ 7 → length rest < suc n → IsCutPacket bytes
length_cut_cons bytes f rest n h long is high low cut =
    let pad = replicate (suc n - length rest) 0 in
    let pads : length pad ≡ suc n - length rest = length-replicate (suc n - length rest) 0 in
    let digits : length (rest ++ pad) ≡ suc n = omega (arith, length-append rest pad) in
    let v = big_number (suc n) (rest ++ pad) in
    let value = replicate v 0 in
    let len : length value ≡ v = length-replicate v 0 in
    let spells : IsSpelledLength (f ∷ (rest ++ pad)) (suc (suc n)) v = subst
    (λ (t : List ℕ). IsSpelledLength (f ∷ t) (suc (suc n)) v) (take_all (suc n) (rest ++ pad) (omega arith))
    (wide_found_cons f (rest ++ pad) n high low (omega arith)) in
    record {
      more = pad ++ value;
      packet = record { key = take 16 bytes; width = suc (suc n); value = value };
      some = omega (arith, length-append pad value);
      spells = record {
        spelled = f ∷ (rest ++ pad);
        label = label_of bytes h long;
        width = rw len spells;
        whole = ap (λ (t : List ℕ). t ++ (pad ++ value))
            (sym (take-append-drop 16 bytes) ∙ ap (λ (t : List ℕ). take 16 bytes ++ t) is) ∙ append_assoc
            (take 16 bytes) (f ∷ rest) (pad ++ value) ∙ ap (λ (t : List ℕ). take 16 bytes ++ (f ∷ t))
            (sym (append_assoc rest pad value));
      };
    }

pub length_cut : (bytes tail : List ℕ) → drop 16 bytes ≡ tail → BeginsAsLabel bytes → 16 ≤ length bytes
    → IsCutLength tail → IsCutPacket bytes
length_cut bytes [] is h long cut = record {
  more = 0 ∷ [];
  packet = record { key = take 16 bytes; width = 1; value = [] };
  some = omega arith;
  spells = record {
    spelled = 0 ∷ [];
    label = label_of bytes h long;
    width = inl (refl, omega arith, refl, refl);
    whole = ap (λ (t : List ℕ). t ++ (0 ∷ []))
        (sym (take-append-drop 16 bytes) ∙ ap (λ (t : List ℕ). take 16 bytes ++ t) is ∙ append-nil (take 16 bytes));
  };
}
length_cut bytes (f ∷ rest) is h long cut =
    length_cut_cons bytes f rest (f - 129) h long is (omega arith) (omega arith) (omega arith)

-- what a fault of the length is for the packet
pub length_fault : (bytes : List ℕ) (e : BerFault) → BeginsAsLabel bytes → 16 ≤ length bytes → ReadsLength
    (drop 16 bytes) (Err e) → ReadsPacket bytes (Err (packet_fault e))
length_fault bytes e h k p = grind (arith, length_cut)

-- a key, the length 0 and no value, for what is cut before the length
cut_at_key : (bytes key : List ℕ) (more : List ℕ) → IsLabel key → bytes ++ more ≡ key → IsCutPacket bytes
cut_at_key bytes key more label is = record {
  more = more ++ (0 ∷ []);
  packet = record { key = key; width = 1; value = [] };
  some = omega (arith, length-append more (0 ∷ []));
  spells = record {
    spelled = 0 ∷ [];
    label = label;
    width = inl (refl, omega arith, refl, refl);
    whole = sym (append_assoc bytes more (0 ∷ [])) ∙ ap (λ (t : List ℕ). t ++ (0 ∷ [])) is;
  };
}

-- fewer bytes than a key has
pub key_cut : (bytes : List ℕ) → BeginsAsLabel bytes → length bytes < 16 → IsCutPacket bytes
key_cut [] h short = cut_at_key [] (label_start ++ replicate 12 0) (label_start ++ replicate 12 0) (refl, refl) refl
key_cut (a ∷ []) h short = cut_at_key (a ∷ []) (a ∷ drop 1 (label_start ++ replicate 12 0))
    (drop 1 (label_start ++ replicate 12 0))
    (refl, (let g : a ∷ [] ≡ 0x06 ∷ [] = h in let is : a ≡ 0x06 = cc in rw is refl)) refl
key_cut (a ∷ b ∷ []) h short = cut_at_key (a ∷ b ∷ []) (a ∷ b ∷ drop 2 (label_start ++ replicate 12 0))
    (drop 2 (label_start ++ replicate 12 0)) (
      refl,
      (let g : a ∷ b ∷ [] ≡ 0x06 ∷ 0x0E ∷ [] = h in let is : a ≡ 0x06 = cc in let is2 : b ≡ 0x0E = cc in rw
          (is, is2) refl),
    ) refl
key_cut (a ∷ b ∷ c ∷ []) h short = cut_at_key (a ∷ b ∷ c ∷ []) (a ∷ b ∷ c ∷ drop 3 (label_start ++ replicate 12 0))
    (drop 3 (label_start ++ replicate 12 0)) (
      refl,
      (let g : a ∷ b ∷ c ∷ [] ≡ 0x06 ∷ 0x0E ∷ 0x2B ∷ [] = h in let is : a ≡ 0x06 = cc in let is2 : b ≡ 0x0E =
          cc in let is3 : c ≡ 0x2B = cc in rw (is, is2, is3) refl),
    ) refl
key_cut (a ∷ b ∷ c ∷ d ∷ rest) h short =
    let more : List ℕ = replicate (16 - length (a ∷ b ∷ c ∷ d ∷ rest)) 0 in
    let lens : length more ≡ 16 - length (a ∷ b ∷ c ∷ d ∷ rest) = length-replicate
    (16 - length (a ∷ b ∷ c ∷ d ∷ rest)) 0 in
    let all : take (length (a ∷ b ∷ c ∷ d ∷ rest)) label_start ≡ label_start = take_all
    (length (a ∷ b ∷ c ∷ d ∷ rest)) label_start (omega arith) in
    cut_at_key (a ∷ b ∷ c ∷ d ∷ rest) ((a ∷ b ∷ c ∷ d ∷ rest) ++ more) more (
      omega (arith, length-append (a ∷ b ∷ c ∷ d ∷ rest) more),
      (let e : take 4 (a ∷ b ∷ c ∷ d ∷ rest) ≡ label_start = h ∙ all in e),
    ) refl

regroup : (key spelled value x : List ℕ) → (key ++ (spelled ++ value)) ++ x ≡ key ++ (spelled ++ (value ++ x))
regroup key spelled value x = simp append_assoc

-- two lists of one length at the front of one text
same_front : (n : ℕ) (a b x y : List ℕ) → length a ≡ n → length b ≡ n → a ++ x ≡ b ++ y → (a ≡ b) × (x ≡ y)
same_front n a b x y p q e = grind (arith, take_at a x n p, take_at b y n q, drop_at a x n p, drop_at b y n q)

-- two packets at the front of one text are one
pub same_packet : (a b x y : List ℕ) (p q : PacketParts) → IsSpelledPacket a p → IsSpelledPacket b q → a ++ x ≡ b ++ y
    → (a ≡ b) × (p ≡ q)
same_packet a b x y p q s t e =
    grind (
      arith,
      regroup p.key s.spelled p.value x,
      regroup q.key t.spelled q.value y,
      same_front 16 p.key q.key (s.spelled ++ (p.value ++ x)) (t.spelled ++ (q.value ++ y)) s.label.0 t.label.0,
      same_front (length s.spelled) s.spelled t.spelled (p.value ++ x) (q.value ++ y) refl,
      same_front (length p.value) p.value q.value x y refl,
    )
