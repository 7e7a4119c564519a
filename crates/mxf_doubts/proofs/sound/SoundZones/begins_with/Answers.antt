use Rattle.mxf_views.proofs.Common.{◌≡◌, ◌↔◌, ◌∙◌, ◌&&◌, true, List, NoteParts, IsTrue, In, ap, kind_of, map, subst, sym}
use Rattle.mxf_views.specs.Copies.{is_primer}
use Rattle.mxf_doubts.specs.declared.sound.Zone.{Zone}
use Rattle.mxf_doubts.specs.Sound.{begin_at, sound_zones}
use Rattle.mxf_doubts.proofs.SoundLaws.{begins_there}
use Rattle.mxf_doubts.proofs.sound.SoundZones.begins_with.Goals as goal

pub returns-in-Primer : goal.returns-in-Primer
returns-in-Primer c =
    let n = c.args.note.now in
    let primer : is_primer (kind_of n.key) ≡ true = ap is_primer (sym c.kind.ensures ∙ c.in-Primer.is) in
    let zones = c.self.inside.zones.items in
    let there = subst (λ (l : List Zone). IsTrue c.has_key.result ↔ In c.offset.result (map (λ (z : Zone). z.start) l))
    c.deref.ensures.value c.has_key.ensures in
    let begins = begins_there c.offset.result zones c.has_key.result there ∙ c.self.invariant.begins c.offset.result in
    begins ∙ ap (λ o. begin_at o (sound_zones c.self.inside.views.now)) c.offset.ensures.offset
    ∙ ap (λ (v : List NoteParts). begin_at n.offset (sound_zones v)) c.self.view_is
    ∙ ap (λ b. b && begin_at n.offset (sound_zones c.args.self.now)) (sym primer)
