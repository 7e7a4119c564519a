use Rattle.std.proofs.Common.{◌≡◌, ◌∙◌, ℕ, Option, ap, sym, nat_cmp}
use Rattle.std.specs.BTreeMap.{get}
use Rattle.std.specs.Cmp.Lexicographic.{slice_cmp}
use Rattle.mxf_tracks.specs.declared.container.Container.{Container}
use Rattle.mxf_tracks.specs.Containers.{with_container}
use Rattle.mxf_tracks.proofs.ContainerLaws.{none_more, one_put_in, streams}
use Rattle.mxf_tracks.proofs.container.Containers.add.Goals as goal

pub returns-in_default : goal.returns-in_default
returns-in_default c =
    λ sets are. none_more c.args.self.now.by_package sets c.args.set.now (sym c.container_data_in.ensures
    ∙ c.in_default.is) are

pub returns : goal.returns
returns c =
    let d = c.in-Some.data in
    let index = c.index_sid.result in
    let named : record { body_sid = c.body_sid.result; index_sid = index } ≡ streams d =
    ap (λ (b : ℕ). record { body_sid = b; index_sid = index }) c.body_sid.ensures
    ∙ ap (λ (i : ℕ). record { body_sid = d.body_sid; index_sid = i }) c.index_sid.ensures in
    let old = get (slice_cmp nat_cmp) c.args.self.now.by_package c.linked_package-package.result in
    let kept = c.with_container-kept.ensures ∙ ap (λ (o : Option (Option Container)). with_container o
    (record { body_sid = c.body_sid.result; index_sid = index })) (c.copied.ensures ∙ c.get.ensures.value)
    ∙ ap (λ (x : Container). with_container old x) named in
    λ sets are. one_put_in c.args.self.now.by_package c.insert.new.self sets c.args.set.now d
    c.linked_package-package.result c.with_container-kept.result (sym c.in-Some.ensures)
    c.linked_package-package.ensures kept (c.in_ok-insert.ensures.updates).0 are
