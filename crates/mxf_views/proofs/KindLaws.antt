-- What the tests of kinds say.
use Rattle.mxf_views.proofs.Common.{◌≡◌, true, refl, ap, ◌↔◌, is_fill, is_primer, is_segment, is_rip, IsSetKind, is_set}
use Rattle.mxf_views.proofs.Common.{preface, identification, storage, material_package, source_package, raw_set}
use Rattle.mxf_klv.specs.declared.kinds.Kind.{Kind}
use Rattle.mxf_views.specs.Copies.{is_preface}
use Rattle.mxf_klv.specs.declared.kinds.Kind.TheVariants as kinds

pub fill_kind : (k : Kind) → (is_fill k ≡ true) ↔ (k ≡ kinds.Fill)
fill_kind kinds.Fill = (λ e. refl, λ e. refl)
fill_kind _ = (λ e. absurd cc, λ e. absurd cc)

pub primer_kind : (k : Kind) → (is_primer k ≡ true) ↔ (k ≡ kinds.Primer)
primer_kind kinds.Primer = (λ e. refl, λ e. refl)
primer_kind _ = (λ e. absurd cc, λ e. absurd cc)

pub preface_kind : (k : Kind) → (is_preface k ≡ true) ↔ (k ≡ kinds.Preface)
preface_kind kinds.Preface = (λ e. refl, λ e. refl)
preface_kind _ = (λ e. absurd cc, λ e. absurd cc)

pub segment_kind : (k : Kind) → (is_segment k ≡ true) ↔ (k ≡ kinds.Segment)
segment_kind kinds.Segment = (λ e. refl, λ e. refl)
segment_kind _ = (λ e. absurd cc, λ e. absurd cc)

pub rip_kind : (k : Kind) → (is_rip k ≡ true) ↔ (k ≡ kinds.Rip)
rip_kind kinds.Rip = (λ e. refl, λ e. refl)
rip_kind _ = (λ e. absurd cc, λ e. absurd cc)

set_says : (k : Kind) → is_set k ≡ true → IsSetKind k
set_says kinds.Preface e = preface refl
set_says kinds.Identification e = identification refl
set_says kinds.ContentStorage e = storage refl
set_says kinds.MaterialPackage e = material_package refl
set_says kinds.SourcePackage e = source_package refl
set_says kinds.RawSet e = raw_set refl
set_says _ e = absurd cc

set_tells : (k : Kind) → IsSetKind k → is_set k ≡ true
set_tells k (preface e) = ap is_set e
set_tells k (identification e) = ap is_set e
set_tells k (storage e) = ap is_set e
set_tells k (material_package e) = ap is_set e
set_tells k (source_package e) = ap is_set e
set_tells k (raw_set e) = ap is_set e

pub set_kind : (k : Kind) → (is_set k ≡ true) ↔ IsSetKind k
set_kind k = (set_says k, set_tells k)
