use Rattle.mxf_views.proofs.Common.{◌≡◌, ◌∙◌, ◌<◌, ℕ, List, ap, subst, sym}
use Rattle.mxf_catalogue.specs.declared.run.Run.{Run}
use Rattle.std.specs.Result.{IfOk}
use Rattle.mxf_hand.specs.Given.{bytes_between}
use Rattle.mxf_hand.specs.Noting.{IsReading}
use Rattle.mxf_hand.specs.Hand.{AreToldIn, HandBytes, HandParts, read_bytes, read_to}
use Rattle.mxf_skim.specs.declared.scan.Scan.{Scan}
use Rattle.mxf_hand.proofs.HandLaws.{read_lies}
use Rattle.mxf_hand.proofs.hand.Hand.read.Goals as goal

pub reading-requires : goal.reading-requires
reading-requires g c = λ x low high.
    let is = c.read_to-to.ensures
    ∙ ap (λ (a : HandParts). read_to a.runs c.args.end c.args.from) (sym c.self.view_is) in
    c.self.invariant.1 x (read_lies c.self.inside.runs c.args.end c.args.from x low (subst (λ (n : ℕ). x < n) is high))

pub returns-clause-reading : goal.returns-clause-reading
returns-clause-reading g c =
    subst (λ (a : HandParts). (h : HandBytes) → AreToldIn (g.S.Sources.told c.args.sources.now) a.given.extents a.runs
    a.scan h
    → IfOk c.reading.result (λ r. IsReading h.scan c.args.from (read_bytes h c.args.end c.args.from) r.notes r.head))
    c.self.view_is (λ h t.
    let from = c.args.from in
    let end = c.args.end in
    let runs = c.self.inside.runs in
    let to : c.read_to-to.result ≡ read_to runs end from = c.read_to-to.ensures
    ∙ ap (λ (a : HandParts). read_to a.runs end from) (sym c.self.view_is) in
    let bytes : bytes_between h.byte from c.read_to-to.result ≡ read_bytes h end from =
    ap (bytes_between h.byte from) (to ∙ ap (λ (l : List Run). read_to l end from) (sym t.lie)) in
    subst (λ (s : Scan). IfOk c.reading.result (λ r. IsReading s from (read_bytes h end from) r.notes r.head))
    (sym t.scanned) (subst (λ (l : List ℕ). IfOk c.reading.result
    (λ r. IsReading c.self.inside.scan from l r.notes r.head)) bytes
    (c.reading.ensures.notes t.sources h.byte t.are_told (λ x b low high is. t.bytes x b
    (read_lies runs end from x low (subst (λ (n : ℕ). x < n) to high)) is))))
