-- Lines that are printed one after another.
use Rattle.mxf_views.proofs.Common.{◌≡◌, ℕ, ◌+◌, ◌^◌, ◌<◌, List, [], ◌++◌, Ok, Err, Result, arith, length, refl, take}
use Rattle.mxf_views.proofs.Common.{sym, ap, ◌∙◌, subst, length-append, Option, Appends-nil, take-append-add}
use Rattle.mxf_views.proofs.Common.{take-append-le}
use Rattle.std.proofs.lemmas.Grind.{flat_map-append}
use Rattle.std.specs.Io.KnownBytes.{Appends}
use Rattle.mxf_klv.proofs.WrittenParts.{WritesPart-after}
use Rattle.mxf_klv.specs.Written.{WritesPart}
use Rattle.mxf_lines.specs.declared.printing.AnswerFault.{AnswerFault}
use Rattle.mxf_lines.specs.declared.printing.AnswerFault.TheVariants.{OutOfMemory, Write, BadUnit}
use Rattle.mxf_forms.specs.declared.form.Form.{Form}
use Rattle.mxf_forms.specs.Forms.{PrintedLine, line_in, lines_in}
use Rattle.mxf_lines.specs.Printing.{Prints}

-- What a call answers that prints lines in a form after `before` bytes; `after` counts both.
abbrev pub PrintsPart : {X : Type 0} → Form → Option (List ℕ) → Option (List ℕ) → ℕ → ℕ → Result X AnswerFault
    → List PrintedLine → Type 0
PrintsPart form old new before after r lines = Prints form (WritesPart {X = Unit {0}} old new before after) r lines

-- All of the lines were printed.
abbrev pub Printed : Form → Option (List ℕ) → Option (List ℕ) → ℕ → ℕ → List PrintedLine → Type 0
Printed form old new before after lines = WritesPart {X = Unit {0}} old new before after (Ok tt) (lines_in form lines)

-- no line was printed
none_printed : (f : Form) (a : Option (List ℕ)) (before : ℕ) → before < 2 ^ 64 → Printed f a a before before []
none_printed f a before h = (Appends-nil a, omega (arith, h))

-- lines that were printed, and what is answered of the lines after them
after_printed : {X : Type 0} (f : Form) (a b c : Option (List ℕ)) (before mid after : ℕ) (r : Result X AnswerFault)
    (done more : List PrintedLine) → Printed f a b before mid done → PrintsPart f b c mid after r more
    → PrintsPart f a c before after r (done ++ more)
after_printed f a b c before mid after (Ok x) done more p q =
    subst (WritesPart {X = Unit {0}} a c before after (Ok tt)) (sym (flat_map-append (line_in f) done more))
    (WritesPart-after {X = Unit {0}} a b c before mid after (Ok tt) (lines_in f done) (lines_in f more) p.0 p.1 q)
after_printed f a b c before mid after (Err (Write fault)) done more p q =
    subst (WritesPart {X = Unit {0}} a c before after (Err fault)) (sym (flat_map-append (line_in f) done more))
    (WritesPart-after {X = Unit {0}} a b c before mid after (Err fault) (lines_in f done) (lines_in f more) p.0 p.1 q)
after_printed f a b c before mid after (Err OutOfMemory) done more p (k, low, q) =
    let lines = take-append-add done more k in
    let same = sym (flat_map-append (line_in f) done (take k more)) ∙ ap (lines_in f) (sym lines) in
    let size = length-append done more in (
      length done + k,
      omega (arith, low, size),
      subst (WritesPart {X = Unit {0}} a c before after (Ok tt)) same
          (WritesPart-after {X = Unit {0}} a b c before mid after (Ok tt) (lines_in f done) (lines_in f
          (take k more)) p.0 p.1 q),
    )
after_printed f a b c before mid after (Err BadUnit) done more p q = q

-- the same, where the form was kept
pub Prints-after : {X : Type 0} (f g : Form) (a b c : Option (List ℕ)) (before mid after : ℕ) (r : Result X AnswerFault)
    (done more : List PrintedLine) → Printed f a b before mid done → g ≡ f → PrintsPart g b c mid after r more
    → PrintsPart f a c before after r (done ++ more)
Prints-after f g a b c before mid after r done more p kept q = after_printed f a b c before mid after r done more p
    (subst (λ (form : Form). PrintsPart form b c mid after r more) kept q)

-- a fault among lines is a fault among these and more
pub Prints-fault : (X Y : Type 0) (f : Form) (a c : Option (List ℕ)) (before after : ℕ) (e : AnswerFault)
    (lines more : List PrintedLine) → PrintsPart {X = X} f a c before after (Err e) lines
    → PrintsPart {X = Y} f a c before after (Err e) (lines ++ more)
Prints-fault X Y f a c before after (Write fault) lines more ((n, low, told, wrote), count) =
    let bytes = flat_map-append (line_in f) lines more in
    let size = length-append (lines_in f lines) (lines_in f more) in
    let taken = take-append-le n (lines_in f lines) (lines_in f more) (omega (arith, low)) in
    let front = sym taken ∙ ap (take n) (sym bytes) in
    let whole = ap length bytes ∙ size in
    ((n, omega (arith, low, whole), told, subst (Appends a c) front wrote), count)
Prints-fault X Y f a c before after OutOfMemory lines more (k, low, wrote) =
    let size = length-append lines more in
    let front = ap (lines_in f) (sym (take-append-le k lines more (omega (arith, low)))) in
    (k, omega (arith, low, size), subst (WritesPart {X = Unit {0}} a c before after (Ok tt)) front wrote)
Prints-fault X Y f a c before after BadUnit lines more p = p

-- Lines of some items that are printed one after another in one form: whatever is answered of those to come, it is
-- answered of all.
pub record Leads (f : Form) (a : Option (List ℕ)) (before : ℕ) (all : List PrintedLine) (g : Form)
    (b : Option (List ℕ)) (mid : ℕ) (left : List PrintedLine) : Type 0 where
  pub kept : g ≡ f
  pub leads : (c : Option (List ℕ)) (after : ℕ) (r : Result (Unit {0}) AnswerFault)
      → PrintsPart g b c mid after r left → PrintsPart f a c before after r all

-- none was printed yet
pub leads_first : {f : Form} {a : Option (List ℕ)} {before : ℕ} {all left : List PrintedLine} → left ≡ all
    → Leads f a before all f a before left
leads_first {f} {a} {before} e = record {
  kept = refl;
  leads = λ c after r q. subst (PrintsPart f a c before after r) e q;
}

-- those of one more item were printed
pub leads_more : {f g h : Form} {a b c : Option (List ℕ)} {before mid next : ℕ} {all left : List PrintedLine}
    (lines rest : List PrintedLine) → left ≡ lines ++ rest → Leads f a before all g b mid left
    → Printed g b c mid next lines → h ≡ g → Leads f a before all h c next rest
leads_more {f} {g} {h} {a} {b} {c} {before} {mid} {next} {all} {left} lines rest e led p kept = record {
  kept = kept ∙ led.kept;
  leads = λ d after r q. led.leads d after r (subst (PrintsPart g b d mid after r) (sym e)
      (Prints-after g h b c d mid next after r lines rest p kept q));
}

-- a fault among those of the next item
pub leads_failed : {f g : Form} {a b : Option (List ℕ)} {before mid : ℕ} {all left : List PrintedLine}
    (c : Option (List ℕ)) (after : ℕ) (e : AnswerFault) (lines rest : List PrintedLine)
    → left ≡ lines ++ rest → Leads f a before all g b mid left → PrintsPart {X = Unit {0}} g b c mid after (Err e) lines
    → PrintsPart {X = Unit {0}} f a c before after (Err e) all
leads_failed {f} {g} {a} {b} {before} {mid} {all} {left} c after e lines rest same led p =
    led.leads c after (Err e) (subst (PrintsPart {X = Unit {0}} g b c mid after (Err e)) (sym same)
    (Prints-fault (Unit {0}) (Unit {0}) g b c mid after e lines rest p))

-- no line is left
pub leads_end : {f g : Form} {a b : Option (List ℕ)} {before mid : ℕ} {all left : List PrintedLine} → left ≡ []
    → mid < 2 ^ 64 → Leads f a before all g b mid left → Printed f a b before mid all
leads_end {f} {g} {a} {b} {before} {mid} {all} {left} e h led =
    led.leads b mid (Ok tt) (subst (Printed g b b mid mid) (sym e) (none_printed g b mid h))
