-- What is known of a piece whose bytes come in parts.
use Rattle.mxf_views.proofs.Common.{◌≡◌, ℕ, ◌+◌, ◌-◌, ◌<◌, ◌≤◌, List, [], ◌∷◌, ◌++◌, length, take, Option, None, Some}
use Rattle.mxf_views.proofs.Common.{refl, sym, ap, subst, ◌∙◌, arith, append_assoc, append-nil, LengthParts, NoteParts}
use Rattle.mxf_views.proofs.Common.{packet_parts, size_of, BeginsWithKeyAndLength, HasNoKeyAndLength, note_of, end_of}
use Rattle.mxf_views.proofs.Common.{end_after, notes_from, IsHeadOf, IsNoHead, IsOpen, packet_at, packets_in, rest_in}
use Rattle.mxf_views.proofs.Common.{stop_of, IsHeadNow, none_more, none_at_end, packets_in-none, rest_in-none, at_cut}
use Rattle.mxf_views.proofs.Common.{stops, reduced_with, AreApart, PacketParts, nil_from_length}
use Rattle.mxf_skim.specs.PassedOver.{noted_by}
use Rattle.mxf_skim.specs.declared.scan.Scan.{Scan}
use Rattle.mxf_klv.specs.declared.piece.Stop.{Stop}
use Rattle.mxf_klv.specs.declared.piece.Stop.TheVariants.{Truncated}
use Rattle.std.specs.Prelude.{Bool, true, false, if◌then◌else◌, is_some}
use Rattle.mxf_klv.proofs.MoreBytes.{few_without_head, head_now, more_head, one_more, stays, whole_value}
use Rattle.mxf_klv.proofs.KeyAndLengthLaws.{no_head_short}
use Rattle.mxf_read.proofs.Pieces.{apart_packets}
use Rattle.mxf_read.proofs.Scans.{noted_end, noted_none, with_last_by}
use Rattle.mxf_read.specs.ValueSoFar.{is_passing, noted_if, passes}
use Rattle.mxf_read.specs.Coming.{HasCome, HasTaken, IsSamePacket}
use Rattle.mxf_read.specs.Feeding.{Fails, Fed, Feeds, IsFed, IsNext, Knows, NotesOne, passing_left}
use Rattle.mxf_read.specs.declared.coming.ComingValue.{ComingValue}
use Rattle.mxf_read.specs.declared.piece.Piece.{Piece}

-- ---- what has come of the next packet

-- where nothing is left the piece may go on
open_at_end : (at : ℕ) → IsOpen (stop_of at [])
unfolding stop_of
open_at_end at = tt

next_value : (scan : Scan) (at : ℕ) (s : Option Stop) (vo : Option ComingValue) (head r : List ℕ) (v : ComingValue) → s ≡ None
    → vo ≡ Some v → head ≡ [] → HasCome scan at v r → 0 < v.left → IsNext scan at s vo head r
next_value scan at s vo head r v es ev h come some = subst (λ (t : Option Stop). IsNext scan at t vo head r) (sym es)
    (subst (λ (w : Option ComingValue). IsNext scan at None w head r) (sym ev) (h, come, some))

next_head : (scan : Scan) (at : ℕ) (s : Option Stop) (vo : Option ComingValue) (head r : List ℕ) → s ≡ None → vo ≡ None → head ≡ r
    → HasNoKeyAndLength r → IsOpen (stop_of at r) → IsNext scan at s vo head r
next_head scan at s vo head r es ev h none cut = subst (λ (t : Option Stop). IsNext scan at t vo head r) (sym es)
    (subst (λ (w : Option ComingValue). IsNext scan at None w head r) (sym ev) (h, none, cut))

next_stop : (scan : Scan) (at : ℕ) (s : Option Stop) (vo : Option ComingValue) (head r : List ℕ) (stop : Stop) → s ≡ Some stop
    → packet_at at r ≡ None → stop ≡ stop_of at r → ¬ IsOpen stop → IsNext scan at s vo head r
next_stop scan at s vo head r stop es none is final =
    subst (λ (t : Option Stop). IsNext scan at t vo head r) (sym es) (none, is, final)

-- ---- states

-- a state is known by these fields
pub same_fed : (scan : Scan) (o : ℕ) (m : List ℕ) (p q : Piece) → q.scan ≡ p.scan → q.notes ≡ p.notes → q.at ≡ p.at → q.head.items ≡ p.head.items
    → q.value ≡ p.value → q.stop ≡ p.stop → Fed scan o m p → Fed scan o m q
same_fed scan o m p q by notes at head value stop fed = record {
  knows = record { taken_by = by ∙ fed.knows.taken_by; notes = notes ∙ fed.knows.notes; at = at ∙ fed.knows.at };
  next = grind (arith, rest_in);
}

-- the next packet isn't whole
fed_more : (scan : Scan) (o : ℕ) (m x : List ℕ) (p q : Piece) → Knows scan o m p → q.scan ≡ p.scan → q.notes ≡ p.notes → q.at ≡ p.at
    → packet_at p.at (rest_in o m ++ x) ≡ None → IsNext scan p.at q.stop q.value q.head.items (rest_in o m ++ x)
    → Fed scan o (m ++ x) q
fed_more scan o m x p q k by notes at none next =
    let j = none_more o m x (subst (λ (n : ℕ). packet_at n (rest_in o m ++ x) ≡ None) k.at none) in
    record {
      knows = record {
        taken_by = by ∙ k.taken_by;
        notes = notes ∙ k.notes ∙ ap (λ (l : List PacketParts). noted_by scan (notes_from o l)) (sym j.0);
        at = at ∙ k.at ∙ ap (end_after o) (sym j.0);
      };
      next = subst (λ (r : List ℕ). IsNext scan q.at q.stop q.value q.head.items r) (sym j.1)
          (subst (λ (n : ℕ). IsNext scan n q.stop q.value q.head.items (rest_in o m ++ x)) (sym at) next);
    }

-- its value has come in part
pub waits : (scan : Scan) (o : ℕ) (m x : List ℕ) (p q : Piece) (v : ComingValue) → Knows scan o m p → HasCome scan p.at v (rest_in o m ++ x)
    → 0 < v.left → q.scan ≡ p.scan → q.notes ≡ p.notes → q.at ≡ p.at → q.stop ≡ None → q.value ≡ Some v
    → q.head.items ≡ []
    → Fed scan o (m ++ x) q
waits scan o m x p q v k come some by notes at stop value head =
    let r = rest_in o m ++ x in
    let within = v.within in
    let here = come.offset in
    let counted = come.taken.counted in
    let cut = at_cut p.at r v.key come.after v.ber come.begins (omega arith) (omega arith) in
    let s = stops p.at r (Truncated p.at) cut in
    fed_more scan o m x p q k by notes at s.0 (next_value scan p.at q.stop q.value q.head.items r v stop value head come some)

-- or it is whole: it is noted
pub noted_packet : (scan : Scan) (o : ℕ) (m x : List ℕ) (p q : Piece) (pk : PacketParts) (n : NoteParts) → Knows scan o m p
    → packet_at p.at (rest_in o m ++ x) ≡ Some pk → size_of pk ≡ length (rest_in o m ++ x)
    → n ≡ noted_if (passes scan pk.key (length pk.value)) (note_of p.at pk)
    → q.scan ≡ p.scan → q.notes ≡ reduced_with n p.notes → q.at ≡ end_of n → q.stop ≡ None → q.value ≡ None → q.head.items ≡ []
    → Fed scan o (m ++ x) q
noted_packet scan o m x p q pk n k stands size note by notes at stop value head =
    let r = rest_in o m ++ x in
    let here = end_after o (packets_in o m) in
    let one = one_more o m x pk (subst (λ (j : ℕ). packet_at j r ≡ Some pk) k.at stands) size in
    let whole_note = note_of here pk in
    let is : n ≡ noted_if (passes scan whole_note.key whole_note.length) whole_note =
    note ∙ ap (λ (j : ℕ). noted_if (passes scan pk.key (length pk.value)) (note_of j pk)) k.at in
    let apart : AreApart o (notes_from o (packets_in o m) ++ whole_note ∷ []) =
    subst (AreApart o) one.notes (apart_packets o (packets_in o (m ++ x))) in
    let ends : q.at ≡ end_after o (packets_in o (m ++ x)) =
    at ∙ ap end_of is ∙ noted_end (passes scan whole_note.key whole_note.length) whole_note
    ∙ (let e : end_of whole_note ≡ here + size_of pk = omega arith in e) ∙ sym one.at in
    record {
      knows = record {
        taken_by = by ∙ k.taken_by;
        notes = notes ∙ ap (reduced_with n) k.notes
            ∙ ap (λ (z : NoteParts). reduced_with z (noted_by scan (notes_from o (packets_in o m)))) is
            ∙ with_last_by scan o (notes_from o (packets_in o m)) whole_note refl apart
            ∙ ap (noted_by scan) (sym one.notes);
        at = ends;
      };
      next = grind (arith, next_head, no_head_short, open_at_end);
    }

-- its value has come whole
pub noted : (scan : Scan) (o : ℕ) (m x : List ℕ) (p q : Piece) (v : ComingValue) (n : NoteParts) → Knows scan o m p
    → HasCome scan p.at v (rest_in o m ++ x)
    → v.left ≡ 0 → ((y : List ℕ) → HasTaken v y
    → n ≡ noted_if (is_passing v.so_far) (note_of v.offset (packet_parts v.key v.ber.width y)))
    → NotesOne p q n → p.stop ≡ None → p.value ≡ None → p.head.items ≡ []
    → Fed scan o (m ++ x) q
noted scan o m x p q v n k come none_left note one stop value head =
    let r = rest_in o m ++ x in
    let pk = packet_parts v.key v.ber.width come.after in
    let within = v.within in
    let offset = come.offset in
    let counted = come.taken.counted in
    let whole = whole_value p.at r v.key v.ber come.after come.begins (omega arith) (omega arith) in
    let spelled : v.ber.value ≡ length come.after = omega (arith, counted, none_left) in
    let passing : is_passing v.so_far ≡ passes scan pk.key (length pk.value) =
    come.passing ∙ ap (passes scan v.key) spelled in
    let is : n ≡ noted_if (passes scan pk.key (length pk.value)) (note_of p.at pk) =
    note come.after come.taken ∙ ap (λ (b : Bool). noted_if b (note_of v.offset pk)) passing
    ∙ ap (λ (j : ℕ). noted_if (passes scan pk.key (length pk.value)) (note_of j pk)) come.offset in
    noted_packet scan o m x p q pk n k whole.stands whole.size is one.scan one.notes one.at (one.stop ∙ stop)
    (one.value ∙ value) (one.head ∙ head)

-- ---- bytes of a head

pub record Holds (o : ℕ) (m : List ℕ) (p : Piece) : Type 0 where
  pub head : p.head.items ≡ rest_in o m
  pub none : HasNoKeyAndLength (rest_in o m)
  pub cut : IsOpen (stop_of p.at (rest_in o m))

pub holds : (scan : Scan) (o : ℕ) (m : List ℕ) (p : Piece) → Fed scan o m p → p.stop ≡ None → p.value ≡ None → Holds o m p
holds scan o m p fed stop value =
    let next : IsNext scan p.at None None p.head.items (rest_in o m) =
    subst (λ (v : Option ComingValue). IsNext scan p.at None v p.head.items (rest_in o m)) value
    (subst (λ (s : Option Stop). IsNext scan p.at s p.value p.head.items (rest_in o m)) stop fed.next)
    in
    record { head = next.0; none = next.1; cut = next.2 }

pub few_held : (p : Piece) → IsFed p → p.stop ≡ None → p.value ≡ None → length p.head.items ≤ 24
few_held p (scan, o, m, fed) stop value =
    let h = holds scan o m p fed stop value in
    let few = few_without_head p.at (rest_in o m) h.none h.cut in
    let len = ap length h.head in
    omega arith

pub held_no_head : (p : Piece) → IsFed p → p.stop ≡ None → p.value ≡ None → HasNoKeyAndLength p.head.items
held_no_head p (scan, o, m, fed) stop value =
    let h = holds scan o m p fed stop value in
    subst HasNoKeyAndLength (sym h.head) h.none

-- key and length are whole now
pub begun : (scan : Scan) (o : ℕ) (m x : List ℕ) (p : Piece) (v : ComingValue) (n : ℕ) → Fed scan o m p → p.stop ≡ None → p.value ≡ None
    → IsHeadNow p.head.items x v.key v.ber → n ≡ 16 + v.ber.width - length p.head.items → v.offset ≡ p.at
    → HasTaken v [] → is_passing v.so_far ≡ passes scan v.key v.ber.value
    → HasCome scan p.at v (rest_in o m ++ take n x)
begun scan o m x p v n fed stop value now is offset taken passing =
    let h = holds scan o m p fed stop value in
    record { after = []; begins = grind (arith, take); offset = offset; taken = taken; passing = passing }

-- they aren't, and are held
pub held_more : (scan : Scan) (o : ℕ) (m x : List ℕ) (p q : Piece) (stop : Stop) → Fed scan o m p → p.stop ≡ None → p.value ≡ None
    → IsNoHead p.at (p.head.items ++ x) stop → IsOpen stop
    → q.scan ≡ p.scan → q.notes ≡ p.notes → q.at ≡ p.at → q.stop ≡ None → q.value ≡ None → q.head.items ≡ p.head.items ++ x
    → Fed scan o (m ++ x) q
held_more scan o m x p q stop fed es ev lacks cut by notes at stop-is value head =
    let h = holds scan o m p fed es ev in
    let r = rest_in o m ++ x in
    let same : p.head.items ++ x ≡ r = ap (λ (t : List ℕ). t ++ x) h.head in
    let here : IsNoHead p.at r stop = subst (λ (t : List ℕ). IsNoHead p.at t stop) same lacks in
    fed_more scan o m x p q fed.knows by notes at here.none
    (next_head scan p.at q.stop q.value q.head.items r stop-is value (head ∙ same) (here.cut cut) (subst IsOpen here.is cut))

-- the piece stops
pub stopped : (scan : Scan) (o : ℕ) (m x : List ℕ) (p q : Piece) (stop : Stop) → Fed scan o m p → p.stop ≡ None → p.value ≡ None
    → IsNoHead p.at (p.head.items ++ x) stop → ¬ IsOpen stop
    → q.scan ≡ p.scan → q.notes ≡ p.notes → q.at ≡ p.at → q.stop ≡ Some stop → Fed scan o (m ++ x) q
stopped scan o m x p q stop fed es ev lacks final by notes at stop-is =
    let h = holds scan o m p fed es ev in
    let r = rest_in o m ++ x in
    let same : p.head.items ++ x ≡ r = ap (λ (t : List ℕ). t ++ x) h.head in
    let here : IsNoHead p.at r stop = subst (λ (t : List ℕ). IsNoHead p.at t stop) same lacks in
    fed_more scan o m x p q fed.knows by notes at here.none
    (next_stop scan p.at q.stop q.value q.head.items r stop stop-is here.none here.is final)

-- ---- one step after another

-- a value is awaited
pub record Awaits (scan : Scan) (o : ℕ) (m : List ℕ) (p : Piece) (v : ComingValue) : Type 0 where
  pub head : p.head.items ≡ []
  pub come : HasCome scan p.at v (rest_in o m)
  pub left : 0 < v.left

pub awaits : (scan : Scan) (o : ℕ) (m : List ℕ) (p : Piece) (v : ComingValue) → Fed scan o m p → p.stop ≡ None → p.value ≡ Some v
    → Awaits scan o m p v
awaits scan o m p v fed stop value =
    let next : IsNext scan p.at None (Some v) p.head.items (rest_in o m) =
    subst (λ (w : Option ComingValue). IsNext scan p.at None w p.head.items (rest_in o m)) value
    (subst (λ (s : Option Stop). IsNext scan p.at s p.value p.head.items (rest_in o m)) stop fed.next)
    in
    record { head = next.0; come = next.1; left = next.2 }

pub Feeds-none : (p : Piece) → Feeds p p []
Feeds-none p scan o m fed = subst (λ (t : List ℕ). Fed scan o t p) (sym (append-nil m)) fed

pub Feeds-trans : (p q s : Piece) (x y : List ℕ) → Feeds p q x → Feeds q s y → Feeds p s (x ++ y)
Feeds-trans p q s x y f g scan o m fed =
    subst (λ (t : List ℕ). Fed scan o t s) (append_assoc m x y) (g scan o (m ++ x) (f scan o m fed))

-- behind a stop nothing changes, whatever follows
pub Feeds-stopped : (p : Piece) (x : List ℕ) (stop : Stop) → p.stop ≡ Some stop → Feeds p p x
Feeds-stopped p x stop e scan o m fed =
    let r = rest_in o m in
    let next : IsNext scan p.at (Some stop) p.value p.head.items r =
    subst (λ (s : Option Stop). IsNext scan p.at s p.value p.head.items r) e fed.next in
    let s = stays p.at r x stop next.0 (sym next.1) next.2 in
    fed_more scan o m x p p fed.knows refl refl refl s.none
    (next_stop scan p.at p.stop p.value p.head.items (r ++ x) stop e s.none (next.1 ∙ sym s.stop) next.2)

-- ---- no byte yet

-- no byte has come
pub none_fed : (scan : Scan) (offset : ℕ) (p : Piece) → p.scan ≡ scan → p.notes ≡ [] → p.at ≡ offset → p.head.items ≡ [] → p.value ≡ None
    → p.stop ≡ None → Fed scan offset [] p
none_fed scan offset p by notes at head value stop =
    let none = none_at_end offset [] (omega arith) in
    let packets = packets_in-none offset [] none in
    let rest = rest_in-none offset [] none in
    record {
      knows = record {
        taken_by = by;
        notes = notes ∙ sym (noted_none scan)
            ∙ sym (ap (λ (l : List PacketParts). noted_by scan (notes_from offset l)) packets);
        at = at ∙ sym (ap (end_after offset) packets);
      };
      next = grind (arith, rest, no_head_short, open_at_end);
    }

-- ---- what the code looks at: the held bytes with more behind them

pub head_whole : (p : Piece) (x window items key : List ℕ) (count : ℕ) (l : LengthParts) (v : ComingValue) → IsFed p
    → p.stop ≡ None → p.value ≡ None → window ≡ items → items ≡ p.head.items ++ take count x
    → IsHeadOf p.at window key l → v.key ≡ key → v.ber ≡ l → IsHeadNow p.head.items x v.key v.ber
head_whole p x window items key count l v fed stop value win is h same spelled =
    let now : IsHeadNow p.head.items x key l =
    head_now p.head.items x key count l h.after (held_no_head p fed stop value)
    (subst (λ (t : List ℕ). BeginsWithKeyAndLength t key l h.after) (win ∙ is) h.begins)
    in
    subst (λ (k : List ℕ). IsHeadNow p.head.items x k v.ber) (sym same)
    (subst (λ (j : LengthParts). IsHeadNow p.head.items x key j) (sym spelled) now)

pub lacks_head : (p : Piece) (window items y : List ℕ) (stop : Stop) → window ≡ items → items ≡ p.head.items ++ y
    → IsNoHead p.at window stop → IsNoHead p.at (p.head.items ++ y) stop
lacks_head p window items y stop win is h = subst (λ (t : List ℕ). IsNoHead p.at t stop) (win ∙ is) h

pub Feeds-where_stopped : (p : Piece) (x : List ℕ) → is_some p.stop ≡ true → Feeds p p x
Feeds-where_stopped p x e =
    elim p.stop as (λ s. p.stop ≡ s → is_some s ≡ true → Feeds p p x) [
      | None ↦ λ is f. absurd cc
      | Some stop ↦ λ is f. Feeds-stopped p x stop is
    ] refl e

-- a later step was refused
pub Fails-joined : (p q s : Piece) (x y : List ℕ) → Feeds p q x → Fails q s y → Fails p s (x ++ y)
Fails-joined p q s x y f g scan o m fed =
    let (done, left, split, k) = g scan o (m ++ x) (f scan o m fed) in (
      x ++ done,
      left,
      ap (λ (t : List ℕ). x ++ t) split ∙ sym (append_assoc x done left),
      subst (λ (t : List ℕ). Knows scan o t s) (append_assoc m x done) k,
    )

-- a value is passed over exactly as its piece's scan says
pub passing_as : (scan : Scan) (p : Piece) (v : ComingValue) → p.scan ≡ scan → (key : List ℕ) (l : LengthParts)
    → v.key ≡ key → v.ber ≡ l → is_passing v.so_far ≡ passes p.scan key l.value
    → is_passing v.so_far ≡ passes scan v.key v.ber.value
passing_as scan p v by key l same spelled is =
    is ∙ ap (λ (s : Scan). passes s key l.value) by ∙ ap (λ (k : List ℕ). passes scan k l.value) (sym same)
    ∙ ap (λ (j : LengthParts). passes scan v.key j.value) (sym spelled)

-- ---- bytes that are passed over

pub none_passed : (p : Piece) (x : List ℕ) → length x ≡ 0 → Feeds p p x
none_passed p x e = subst (Feeds p p) (sym (nil_from_length x e)) (Feeds-none p)

-- more bytes of the value have come, or passed
pub come_on : (scan : Scan) (at : ℕ) (v w : ComingValue) (r x : List ℕ) → HasCome scan at v r → IsSamePacket v w
    → ((m : List ℕ) → HasTaken v m → HasTaken w (m ++ x)) → HasCome scan at w (r ++ x)
come_on scan at v w r x h same more = record {
  after = h.after ++ x;
  begins = subst (λ (k : List ℕ). BeginsWithKeyAndLength (r ++ x) k w.ber (h.after ++ x)) (sym same.key)
      (subst (λ (l : LengthParts). BeginsWithKeyAndLength (r ++ x) v.key l (h.after ++ x)) (sym same.spelled)
      (more_head r v.key v.ber h.after x h.begins));
  offset = same.offset ∙ h.offset;
  taken = more h.after h.taken;
  passing = same.passing ∙ h.passing ∙ ap (λ (k : List ℕ). passes scan k v.ber.value) (sym same.key)
      ∙ ap (λ (l : LengthParts). passes scan w.key l.value) (sym same.spelled);
}

-- what is passed over is a value that has begun
pub record IsPassing (stop : Option Stop) (v : ComingValue) (count : ℕ) : Type 0 where
  pub goes_on : stop ≡ None
  pub passing : is_passing v.so_far ≡ true
  pub within : count ≤ v.left

pub passing_now : (stop : Option Stop) (value : Option ComingValue) (v : ComingValue) (count : ℕ)
    → count ≤ passing_left stop value → value ≡ Some v → (count ≡ 0 → ⊥) → IsPassing stop v count
passing_now (Some stop) value v count within is some = absurd (some (omega (arith, within)))
passing_now None value v count within is some =
    let here = subst (λ (o : Option ComingValue). count ≤ passing_left None o) is within in
    elim (is_passing v.so_far) as (λ b. is_passing v.so_far ≡ b → count ≤ (if b then v.left else 0)
    → IsPassing None v count) [
      | true ↦ λ e l. record { goes_on = refl; passing = e; within = l }
      | false ↦ λ e l. absurd (some (omega (arith, l)))
    ] refl here

pub passed_on : (scan : Scan) (o : ℕ) (m x : List ℕ) (p : Piece) (v w : ComingValue) → Fed scan o m p → p.stop ≡ None
    → p.value ≡ Some v → IsSamePacket v w → ((k : List ℕ) → HasTaken v k → HasTaken w (k ++ x))
    → HasCome scan p.at w (rest_in o m ++ x)
passed_on scan o m x p v w fed stop value same more =
    come_on scan p.at v w (rest_in o m) x (awaits scan o m p v fed stop value).come same more
