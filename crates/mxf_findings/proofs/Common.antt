-- The names that most proofs cite, passed on from one place. Declares nothing.
pub use Rattle.std.proofs.Common.{Bool, Equal, Err, Greater, IfErr, IfSome, IsPermutation, IsTrue, Less, List, None, Ok}
pub use Rattle.std.proofs.Common.{OnOk, Option, Result, Some, [], ap, append_assoc, arith, bytes_eq, cond, drop, eq-eqb}
pub use Rattle.std.proofs.Common.{eqb-true, false, filter, filter_map, find, flat_map, get_or, if◌then◌else◌, inl, inr}
pub use Rattle.std.proofs.Common.{is_ok, is_some, length, lt-ltb, ltb-false, ltb-true, map, nat_cmp, nat_lt, not}
pub use Rattle.std.proofs.Common.{option_and_then, option_map, refl, rules, subst, suc, sym, take, true, zero, ℕ, ◌&&◌}
pub use Rattle.std.proofs.Common.{◌++◌, ◌+◌, ◌-◌, ◌<◌, ◌==◌, ◌^◌, ◌||◌, ◌↔◌, ◌∙◌, ◌∷◌, ◌≡◌, ◌≢◌, ◌≤◌, ◌⊎◌}
pub use Rattle.mxf_catalogue.proofs.ApartLaws.{later_differs, picked_none, picked_one, picked_several}
pub use Rattle.mxf_catalogue.proofs.DisputeLaws.{In-clear_notes, clear-alone, clear_at-found}
pub use Rattle.mxf_catalogue.proofs.MovedLaws.{rising_apart}
pub use Rattle.mxf_catalogue.proofs.Places.{search_says}
pub use Rattle.mxf_catalogue.proofs.RunBounds.{has_byte}
pub use Rattle.mxf_catalogue.proofs.SpanLaws.{AreApart-filter}
pub use Rattle.mxf_catalogue.specs.Content.{IsContent}
pub use Rattle.mxf_catalogue.specs.Disputes.{AreApart, IsClear, clear_notes, disputed_notes, disputed_parts, lies_in}
pub use Rattle.mxf_catalogue.specs.declared.run.Run.{Run}
pub use Rattle.mxf_klv.proofs.Lists.{Contains-from_In, In-append, In-chosen, In-filter, In-from_Contains, In-map}
pub use Rattle.mxf_klv.proofs.Lists.{all-In, find-only, found-In, list_any-In, none_found}
pub use Rattle.mxf_klv.proofs.SmallPackets.{are_packets}
pub use Rattle.mxf_klv.proofs.Tests.{either, none_some, not-true-false, not_equal, not_true, same_bool}
pub use Rattle.mxf_klv.specs.Kind.{kind_of}
pub use Rattle.mxf_klv.specs.Note.{end_of, greatest_end, keeps_value}
pub use Rattle.mxf_klv.specs.Packet.{IsPacket, size_of}
pub use Rattle.mxf_klv.specs.Parts.{NoteParts, PacketParts}
pub use Rattle.mxf_klv.specs.Piece.{end_after}
pub use Rattle.mxf_klv.specs.Rising.{In, In-union, IsPlaceOf, IsRising, IsRising-union}
pub use Rattle.mxf_klv.specs.declared.kinds.Kind.{Kind}
pub use Rattle.mxf_klv.specs.declared.kinds.Status.{Status}
pub use Rattle.mxf_klv.specs.declared.kinds.Status.TheVariants.{ClosedComplete, OpenIncomplete}
pub use Rattle.mxf_sets.proofs.PackKinds.{is_pack_kind, kind_says, kind_tells}
pub use Rattle.mxf_sets.specs.Identification.{identification_at}
pub use Rattle.mxf_sets.specs.Instance.{instance_uid_at}
unfoldable pub use Rattle.mxf_sets.specs.Items.{item_at, items_of, left_of}
pub use Rattle.mxf_sets.specs.Offset.{stream_offset}
pub use Rattle.mxf_sets.specs.PackReadings.{pack_at, part_and_status, primer_at, rip_at}
pub use Rattle.mxf_sets.specs.Package.{package_at}
pub use Rattle.mxf_sets.specs.PartitionPack.{IsPartitionKind, PartitionPackParts}
pub use Rattle.mxf_sets.specs.Preface.{PrefaceParts, preface_at}
pub use Rattle.mxf_sets.specs.RandomIndexPack.{RipParts}
unfoldable pub use Rattle.mxf_sets.specs.RandomIndexPack.{entries_of}
pub use Rattle.mxf_sets.specs.Readable.{read_as}
pub use Rattle.mxf_sets.specs.Segment.{SegmentParts, segment_at}
pub use Rattle.mxf_sets.specs.Storage.{storage_at}
pub use Rattle.mxf_sets.specs.declared.pack.part.PackPart.TheVariants.{Body, Footer, Header}
pub use Rattle.mxf_sets.specs.declared.pack.random_index.RipEntry.{RipEntry}
pub use Rattle.mxf_findings.specs.Codes.{finding, finding_cmp, finding_cmp-IsAntisymmetric, finding_total}
pub use Rattle.mxf_views.specs.Copies.{AreSoMany, CountsZone, IsBest, IsCopy, IsPrefaceIn, IsPreferred, copies_among}
pub use Rattle.mxf_views.specs.Copies.{is_fill, is_primer, is_set, preface, preferred_of, rank, sets_found, sets_from}
pub use Rattle.mxf_views.specs.Copies.{status_rank, zone_of}
unfoldable pub use Rattle.mxf_views.specs.Copies.{copies_of, is_preface_note, is_set_note, sets_of}
pub use Rattle.mxf_findings.specs.FindingCauses.{AtClear}
pub use Rattle.mxf_findings.specs.Findings.{are_entries_of, ends_above, findings_for, findings_of, footer_stands_at}
pub use Rattle.mxf_findings.specs.Findings.{has_other_rip, is_partial, is_unfit_rip, lost_at}
pub use Rattle.mxf_references.specs.Readable.{is_unreadable}
pub use Rattle.mxf_findings.specs.Findings.{lost_beside, lost_by, offsets_for}
pub use Rattle.mxf_references.specs.Readable.{reads_value}
pub use Rattle.mxf_views.specs.Gaps.{gaps_of}
pub use Rattle.mxf_references.specs.Identified.{is_below, is_of, unreadable_offsets, with_uid}
pub use Rattle.mxf_views.specs.Labels.{is_in_copy, primer_there}
unfoldable pub use Rattle.mxf_views.specs.Labels.{primer_for}
pub use Rattle.mxf_views.specs.Partitions.{HangTogether, PartitionParts, chain_of, is_footer, link_at, link_of, pack_of}
pub use Rattle.mxf_views.specs.Partitions.{partitions_among}
unfoldable pub use Rattle.mxf_views.specs.Partitions.{is_no_unreadable_pack, partition_at, partitions_of}
pub use Rattle.mxf_views.specs.Places.{SegmentAtParts, is_segment, place_of, segments_among}
unfoldable pub use Rattle.mxf_views.specs.Places.{segments_of}
pub use Rattle.mxf_views.specs.RandomIndex.{is_rip, rip_in, standing_of}
unfoldable pub use Rattle.mxf_views.specs.RandomIndex.{is_rip_note, rips_of}
pub use Rattle.mxf_views.specs.RandomIndexView.{rip_view_among, rip_view_by, rip_view_of}
pub use Rattle.mxf_views.specs.Reading.{partitions_read, place_by_segment, segments_read}
pub use Rattle.mxf_views.specs.Readings.{IsReadAs, IsReadable}
unfoldable pub use Rattle.mxf_views.specs.Records.{read_pack, read_rip, read_segment}
pub use Rattle.mxf_references.specs.References.{found_among, reads_uid}
unfoldable pub use Rattle.mxf_references.specs.References.{has_uid}
pub use Rattle.mxf_references.specs.Resolved.{ResolvedParts, packages_of, resolved_by, resolved_from, resolved_of}
pub use Rattle.mxf_references.specs.Resolved.{storage_among}
unfoldable pub use Rattle.mxf_references.specs.Resolved.{preface_in, storage_in}
pub use Rattle.mxf_references.specs.Targets.{fits, is_readable, refs_of, target_among}
unfoldable pub use Rattle.mxf_references.specs.Targets.{target_at, target_of}
pub use Rattle.mxf_views.specs.WellFormed.{Agree, EndsWithFooter, EndsWithRandomIndex, HasMetadata, IsFill}
pub use Rattle.mxf_views.specs.WellFormed.{IsFooterPack, IsHeaderPack, IsPartitionPack, IsPrimerPack, IsRandomIndexPack}
pub use Rattle.mxf_views.specs.WellFormed.{IsWellFormed, entry_of, total_of}
pub use Rattle.mxf_findings.specs.WorkedFiles.{numbers, pack, primer}
pub use Rattle.mxf_views.specs.declared.chain.Chain.TheVariants.{Broken, Whole}
pub use Rattle.mxf_views.specs.declared.copy.CopyInfo.{CopyInfo}
pub use Rattle.mxf_findings.specs.declared.finding.Code.{Code}
pub use Rattle.mxf_findings.specs.declared.finding.Code.TheVariants.{F01, F03, F04, F09, F12, F13}
pub use Rattle.mxf_findings.specs.declared.finding.Finding.{Finding}
pub use Rattle.mxf_views.specs.declared.index.place.Place.{Place}
pub use Rattle.mxf_views.specs.declared.index.place.Place.TheVariants.{Ambiguous, At, NotIndexed}
pub use Rattle.mxf_views.specs.declared.random_index.RipView.TheVariants.{One}
pub use Rattle.mxf_references.specs.declared.reference.Found.{Found}
pub use Rattle.mxf_references.specs.declared.reference.Found.TheVariants.{Several}
pub use Rattle.mxf_references.specs.declared.reference.target.Ref.{Ref}
pub use Rattle.mxf_references.specs.declared.reference.target.Target.{Target}
pub use Rattle.mxf_references.specs.declared.reference.target.Target.TheVariants.{Unreadable}
pub use Rattle.mxf_references.specs.declared.reference.target.Wanted.{Wanted}
pub use Rattle.mxf_references.specs.declared.reference.target.Wanted.TheVariants.{Identification, Package, Storage}
pub use Rattle.std.proofs.lemmas.Bool.{and_from, and_parts, cases_lt, false_from_ne_true, false≢true, or_cases}
pub use Rattle.std.proofs.lemmas.Bool.{or_parts}
pub use Rattle.std.proofs.lemmas.Cmp.{nat_cmp_total, tied_itself}
pub use Rattle.std.proofs.lemmas.List.{map-append}
pub use Rattle.std.proofs.lemmas.List.Sorted.{Contains-permutation, answers_always}
pub use Rattle.std.proofs.lemmas.List.Sums.{length-filter}
pub use Rattle.std.proofs.lemmas.Option.{same_Some}
pub use Rattle.std.proofs.lemmas.Slice.Eq.{bytes_eq-Decides}
pub use Rattle.std.specs.FinSet.{nat_cmp-IsAntisymmetric}
pub use Rattle.std.specs.List.{AllByRecursion, AllWithin, cons_option, list_any}
pub use Rattle.std.specs.List.Sorted.{IsNonDecreasingBy}
pub use Rattle.std.specs.Ordering.{ordering_index}
pub use Rattle.std.specs.Result.{result_ok}
