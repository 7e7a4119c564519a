use Rattle.mxf_views.proofs.Common.{◌∙◌, Bool, List, None, Some, ap, bytes_eq, cond, get, nat_cmp, ℕ}
use Rattle.std.specs.Cmp.Lexicographic.{slice_cmp}
use Rattle.mxf_clocks.specs.Lookups.{own_index, with_index}
use Rattle.mxf_clocks.proofs.FileTableLaws.{put-in}
use Rattle.mxf_clocks.proofs.file_package.FileIndexes.add.Goals as goal

pub returns : goal.returns
returns c = λ uid.
    let found = c.args.found.now in
    let old = c.args.self.now.by_package in
    let key = c.package_uid-uid.result in
    let kept = c.with_index-index.ensures ∙ ap (λ (b : Bool). cond b None (own_index found)) c.contains_key.ensures in
    let before = get (slice_cmp nat_cmp) old uid in
    put-in old c.insert.new.self key c.with_index-index.result (λ o. with_index o found) kept
    c.in_ok-insert.ensures.updates.0 uid
    ∙ ap (λ (k : List ℕ). cond (bytes_eq k uid) (Some (with_index before found)) before) c.package_uid-uid.ensures
