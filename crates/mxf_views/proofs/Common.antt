-- The names that most proofs cite, passed on from one place. Declares nothing.
pub use Rattle.mxf_catalogue.proofs.ApartLaws.{covers_all, later_differs, picked_none, picked_one, picked_several}
pub use Rattle.mxf_catalogue.proofs.ClearLaws.{IsNew, after, apart, clear-laid, clear_after, clear_same, is_whole}
pub use Rattle.mxf_catalogue.proofs.ContentLaws.{In-union_of, IsContent-union_of, same_content}
pub use Rattle.mxf_catalogue.proofs.CoverLaws.{IsCover-with_run, gaps_by_definition, same_covers}
pub use Rattle.mxf_catalogue.proofs.DisputeLaws.{In-clear_notes, In-undisputed_notes, IsContent-clear_notes}
pub use Rattle.mxf_catalogue.proofs.DisputeLaws.{IsContent-filter, SharesByte-same_offset, clear-alone, clear_at-found}
pub use Rattle.mxf_catalogue.proofs.DisputeLaws.{is_disputed-IsDisputed, notes-disputed_notes, undisputed_at-found}
pub use Rattle.mxf_catalogue.proofs.FileLaws.{written_file}
pub use Rattle.mxf_catalogue.proofs.HeadLaws.{AreReduced-reduced_union, In-located, IsContent-reduced_union}
pub use Rattle.mxf_catalogue.proofs.HeadLaws.{IsContent-reduced_with, has-reduced_union, one_reduced}
pub use Rattle.mxf_catalogue.proofs.HeadLaws.{reduced_union-none, reduced_with-present, same_note}
pub use Rattle.mxf_catalogue.proofs.HeadWords.{own_head}
pub use Rattle.mxf_catalogue.proofs.HistoryLaws.{In-content}
pub use Rattle.mxf_catalogue.proofs.LaidNotes.{IsContent-laid}
pub use Rattle.mxf_catalogue.proofs.Places.{search_says}
pub use Rattle.mxf_catalogue.proofs.Ranges.{offsets_rise}
pub use Rattle.mxf_catalogue.proofs.RunBounds.{covers_below_end, covers_first, has_byte, starts_above}
pub use Rattle.mxf_catalogue.proofs.RunLaws.{AreMaximal-lower, same_runs}
pub use Rattle.mxf_catalogue.proofs.SpanLaws.{AreApart-clear_notes, AreApart-filter, AreApart-lower, less_by_offset}
pub use Rattle.mxf_catalogue.proofs.SpanLaws.{offset_le}
pub use Rattle.mxf_catalogue.specs.CatalogueFile.{IsFileOf, file_bytes}
pub use Rattle.mxf_catalogue.specs.Content.{AreReduced, IsCatalogue, IsContent, IsLocated, has_note, reduced_union}
pub use Rattle.mxf_catalogue.specs.Content.{reduced_with, union_of}
pub use Rattle.mxf_catalogue.specs.Covers.{IsCover, IsRun, LiesIn-with_run, gaps_of_runs, is_between, union_of_runs}
pub use Rattle.mxf_catalogue.specs.Covers.{union_of_runs-IsUnion, with_run}
pub use Rattle.mxf_catalogue.specs.Disputes.{AreApart, DisputedParts, IsClear, IsDisputed, SharesByte, clear_notes}
pub use Rattle.mxf_catalogue.specs.Disputes.{disputed_notes, is_disputed, is_same_note, lies_in, undisputed_notes}
pub use Rattle.mxf_catalogue.specs.History.{Absorb, Add, Cut, Hands, History, New, Read, content}
pub use Rattle.mxf_catalogue.specs.NoteLists.{Covers, covered_run, run_of}
pub use Rattle.mxf_catalogue.specs.ReducedLaws.{rising-filter}
pub use Rattle.mxf_catalogue.specs.Runs.{AreMaximal, IsWithin, LiesIn, SameOffsets, run}
pub use Rattle.mxf_klv.proofs.Counts.{count-none, count_by-cons, range-all, range-full, range-le, range-none}
pub use Rattle.mxf_klv.proofs.Counts.{range-same, range-split, tally}
pub use Rattle.mxf_klv.proofs.CutHeads.{heads_at-cut}
pub use Rattle.mxf_klv.proofs.HeadOrder.{same_note-Decides}
pub use Rattle.mxf_klv.proofs.KeyAndLengthLaws.{head-size, head-width}
pub use Rattle.mxf_klv.proofs.LengthLemmas.{spelled_len}
pub use Rattle.mxf_klv.proofs.ListSteps.{next_changed, next_unchanged}
pub use Rattle.mxf_klv.proofs.Lists.{Contains-from_In, In-append, In-at, In-end, In-filter, In-filter_map, In-flat_map}
pub use Rattle.mxf_klv.proofs.Lists.{In-from_Contains, In-list_all, In-map, all-In, all-filter, all_append, all_from_In}
pub use Rattle.mxf_klv.proofs.Lists.{all_push, filter_alike, filter_all, filter_none, find-none, find-only, found-In}
pub use Rattle.mxf_klv.proofs.Lists.{length-filter_le, length-filter_map, list_all-In, list_any-In, none_found}
pub use Rattle.mxf_klv.proofs.Lists.{some_above}
pub use Rattle.mxf_klv.proofs.MoreBytes.{IsHeadNow, none_more, notes_from-append, seam}
pub use Rattle.mxf_klv.proofs.NoteFilters.{all-right, tally_fits}
pub use Rattle.mxf_klv.proofs.PieceLaws.{ends_at, goes_on, head_at-head, length-spelled, none_at_end, packet_at-given}
pub use Rattle.mxf_klv.proofs.PieceLaws.{packets_in-none, packets_in-some, rest_in-none, some_piece}
pub use Rattle.mxf_klv.proofs.RisingBy.{IsRisingBy, by_itself, from_lower, never_falls, one_by_key, rises-filter}
pub use Rattle.mxf_klv.proofs.RisingBy.{rises-map, same_by_members}
pub use Rattle.mxf_klv.proofs.RoundTrips.{length_bytes-spelled, spelled-length_bytes}
pub use Rattle.mxf_klv.proofs.SmallPackets.{end_up}
pub use Rattle.mxf_klv.proofs.StopLaws.{at_cut, stops}
pub use Rattle.mxf_klv.proofs.Tests.{either, equals_itself, guarded, lt_from_less, none_if, not-true-false, not_equal}
pub use Rattle.mxf_klv.proofs.Tests.{not_true, same_bool, some_is, three_parts}
pub use Rattle.mxf_klv.specs.Ber.{IsSpelledLength, length_bytes}
pub use Rattle.mxf_klv.specs.Bytes.{AreBytes}
pub use Rattle.mxf_klv.specs.KeyAndLength.{BeginsWithKeyAndLength, HasNoKeyAndLength}
pub use Rattle.mxf_klv.specs.Kind.{kind_of}
pub use Rattle.mxf_klv.specs.Label.{begins_as_label, label_start}
pub use Rattle.mxf_klv.specs.Note.{IsCovered, IsInSpan, IsNote, covered_end, end_of, greatest_end, head_note, keeps}
pub use Rattle.mxf_klv.specs.Note.{keeps_value, note_cmp, note_of}
pub use Rattle.mxf_klv.specs.NoteOrder.{note_cmp-IsAntisymmetric, note_total, ties}
pub use Rattle.mxf_klv.specs.Packet.{IsPacket, IsSpelledPacket, size_of}
pub use Rattle.mxf_klv.specs.Parts.{CanSpell, LengthParts, NoteParts, PacketParts, head_parts, packet_parts}
pub use Rattle.mxf_klv.specs.Piece.{AreLaid, BeginsWithCut, end_after, notes_from}
pub use Rattle.mxf_klv.specs.PieceReading.{IsHeadOf, IsNoHead, IsOpen, notes_in, packet_at, stop_in}
unfoldable pub use Rattle.mxf_klv.specs.PieceReading.{head_at, heads_at, packets_in, rest_in, stop_of}
pub use Rattle.mxf_klv.specs.Rising.{In, In-union, IsPlaceOf, IsRising, IsRising-union, SameMembers, less_in}
pub use Rattle.mxf_klv.specs.Rising.{same_from_members, union, with_one}
pub use Rattle.mxf_klv.specs.Written.{Puts, Writes}
pub use Rattle.mxf_sets.proofs.PackKinds.{kind_says, kind_tells}
pub use Rattle.mxf_sets.proofs.TableLaws.{at_equal, at_other}
pub use Rattle.mxf_sets.specs.Batch.{BatchParts}
pub use Rattle.mxf_sets.specs.Identification.{identification_at}
pub use Rattle.mxf_sets.specs.Items.{ItemParts}
pub use Rattle.mxf_sets.specs.Offset.{covers_constant, covers_entry, entry_offset, index_entry, stream_offset}
pub use Rattle.mxf_sets.specs.PackReadings.{pack_at, part_and_status, primer_at, rip_at}
pub use Rattle.mxf_sets.specs.Package.{package_at}
pub use Rattle.mxf_sets.specs.PartitionPack.{IsPartitionKind, PartitionPackParts}
pub use Rattle.mxf_sets.specs.RandomIndexPack.{RipParts}
pub use Rattle.mxf_sets.specs.Readable.{read_as}
pub use Rattle.mxf_sets.specs.Segment.{SegmentParts, entry_count, is_constant, segment_at}
pub use Rattle.mxf_views.specs.Changes.{IsUnmet, SameOutside}
pub use Rattle.mxf_views.specs.Copies.{AreSoMany, CopiesRise, CountsZone, IsBest, IsCopy, IsFilled, IsPrefaceIn}
pub use Rattle.mxf_views.specs.Copies.{IsPreferred, IsPrimerOf, IsSetKind, IsStart, IsStartFound, best_of, better}
pub use Rattle.mxf_views.specs.Copies.{copies_among, copy_from, covered_of, has_metadata, identification, is_candidate}
pub use Rattle.mxf_views.specs.Copies.{is_fill, is_filled, is_primer, is_set, is_start, material_package, preface}
pub use Rattle.mxf_views.specs.Copies.{prefaces_of, preferred_of, rank, raw_set, sets_found, sets_from, source_package}
pub use Rattle.mxf_views.specs.Copies.{storage}
unfoldable pub use Rattle.mxf_views.specs.Copies.{copies_of, copy_of, is_fill_note, is_preface_note, is_readable_primer}
unfoldable pub use Rattle.mxf_views.specs.Copies.{is_set_note, zone_of}
pub use Rattle.mxf_views.specs.Gaps.{AreGaps, IsGap, gaps_from, gaps_of}
pub use Rattle.mxf_views.specs.Headline.{IsTheRun}
pub use Rattle.mxf_views.specs.Kept.{HasRoom, IsHull, IsStartBelow, KeptParts, MeetAt, StartsRise, copies_followed}
pub use Rattle.mxf_views.specs.Kept.{copy_by, followed, has_some_metadata, is_kept, is_outside, kept_among, kept_at}
pub use Rattle.mxf_views.specs.Kept.{kept_in, kept_of, kept_partition, kept_random_index_pack, kept_segment}
pub use Rattle.mxf_views.specs.Kept.{kept_unreadable_pack, lies_between, nothing_kept, offset_if, or_itself, outside}
pub use Rattle.mxf_views.specs.Kept.{reaches_from, reaches_of, renewed, states_metadata, with_found, with_keyed}
unfoldable pub use Rattle.mxf_views.specs.Kept.{can_bring_start}
pub use Rattle.mxf_views.specs.KeptAbove.{EndsBy, IsOfNone, IsStarting, IsUnionAt, clear_from, counted_above}
pub use Rattle.mxf_views.specs.KeptNotes.{partition_in, random_index_pack_in, segment_in, unreadable_pack_in}
pub use Rattle.mxf_views.specs.Labels.{is_in_copy, primer_of, primer_there}
unfoldable pub use Rattle.mxf_views.specs.Labels.{primer_for}
pub use Rattle.mxf_views.specs.Partitions.{AreInOrder, HangTogether, IsGreatestBelow, IsLink, PartitionParts, StandsAt}
pub use Rattle.mxf_views.specs.Partitions.{chain_of, in_numbers, is_footer, is_greatest, is_header, is_linked, link_at}
pub use Rattle.mxf_views.specs.Partitions.{link_by, link_of, pack_of, partitions_among, previous_of, stands_at}
pub use Rattle.mxf_views.specs.Partitions.{stands_between}
unfoldable pub use Rattle.mxf_views.specs.Partitions.{is_no_unreadable_pack, partition_at, partitions_of}
pub use Rattle.mxf_views.specs.Places.{IsBelow, IsGiven, IsOnlyPlace, SegmentAtParts, greatest_unit, in_stream}
pub use Rattle.mxf_views.specs.Places.{is_segment, place_by, place_cmp, place_in, places_with, segments_among}
pub use Rattle.mxf_views.specs.Places.{without_entries}
unfoldable pub use Rattle.mxf_views.specs.Places.{given_by, placed_segment, segments_of}
pub use Rattle.mxf_views.specs.RandomIndex.{RipAtParts, is_rip, rip_in, standing_of}
unfoldable pub use Rattle.mxf_views.specs.RandomIndex.{is_rip_note, rips_of}
pub use Rattle.mxf_views.specs.RandomIndexView.{rip_view_among, rip_view_by, rip_view_of}
pub use Rattle.mxf_views.specs.Reading.{CopyRead, copies_alone, copies_read, copy_read, link_read_at, links_read}
pub use Rattle.mxf_views.specs.Reading.{one_by_one, partition_read, partitions_read, place_by_segment, rip_read}
pub use Rattle.mxf_views.specs.Reading.{segments_read, taken}
pub use Rattle.mxf_views.specs.Readings.{IsReadAs}
pub use Rattle.mxf_views.specs.Records.{value_as}
unfoldable pub use Rattle.mxf_views.specs.Records.{read_pack}
pub use Rattle.mxf_views.specs.Rises.{RiseBy}
pub use Rattle.mxf_views.specs.Spans.{is_in_one, is_in_span, sizes}
pub use Rattle.mxf_views.specs.Sums.{AreInRange, SumsParts}
pub use Rattle.mxf_views.specs.WellFormed.{Agree, BeginsWithHeader, EndsWithFooter, EndsWithRandomIndex, HasMetadata}
pub use Rattle.mxf_views.specs.WellFormed.{IsFill, IsFooterPack, IsHeaderPack, IsPartitionPack, IsPrimerPack}
pub use Rattle.mxf_views.specs.WellFormed.{IsRandomIndexPack, IsReadable, IsWellFormed, is_readable_as, total_of}
pub use Rattle.mxf_views.specs.WholeFile.{HasCopiesOf, HasIndexOf, HasPartitionsOf}
pub use Rattle.std.proofs.Common.{Bool, Err, Global, IfErr, IfOk, IfSome, IsSome, IsTrue, List, MatchOption, None, Ok}
pub use Rattle.std.proofs.Common.{Option, Result, Some, Vec, [], ap, append-nil, append_assoc, arith, cond, count_by}
pub use Rattle.std.proofs.Common.{drop, eq-eqb, eqb-true, false, filter, filter_map, find, flat_map, get_or}
pub use Rattle.std.proofs.Common.{if◌then◌else◌, inl, inr, insert, is_ok, is_some, length, length-append, lt-ltb}
pub use Rattle.std.proofs.Common.{ltb-true, map, map-id, max, min, nat_le, nat_lt, ne_eqb, negsuc, not, of_z}
pub use Rattle.std.proofs.Common.{option_and_then, option_map, pos, refl, reverse, rules, set, subst, suc, sym, take}
pub use Rattle.std.proofs.Common.{to_z, true, unsigned_abs, unwrap_or, vec_capacity, vec_len, w64, zero, ℕ, ℤ, ◌%◌}
pub use Rattle.std.proofs.Common.{◌&&◌, ◌*◌, ◌++◌, ◌+◌, ◌-◌, ◌/◌, ◌<◌, ◌==◌, ◌^◌, ◌||◌, ◌↔◌, ◌∙◌, ◌∷◌, ◌≡◌, ◌≢◌, ◌≤◌}
pub use Rattle.std.proofs.Common.{◌⊎◌}
pub use Rattle.std.proofs.KnownBytes.{Appends-nil, Consumes-nil, Consumes-trans}
pub use Rattle.std.proofs.Math.Nat.{mul-le-mul_left}
pub use Rattle.std.proofs.Math.Seq.{drop-cons, take-append-add, take-append_seam}
pub use Rattle.std.proofs.lemmas.Bool.{and_cases, and_from, and_left, and_parts, cases_Bool, cases_lt, cases_order}
pub use Rattle.std.proofs.lemmas.Bool.{cond-false, eqb-false, false_from_ne_true, false≢true, le-leb, le-ltb, leb-false}
pub use Rattle.std.proofs.lemmas.Bool.{leb-true, lt-leb, ltb-false, not-false, not-true, or_cases, or_left, or_parts}
pub use Rattle.std.proofs.lemmas.Bool.{or_right, true≢false}
pub use Rattle.std.proofs.lemmas.Bool.Decides.{leb_tells, nat_tests}
pub use Rattle.std.proofs.lemmas.Cmp.{nat_cmp_total, on_total, then_total, tied_itself}
pub use Rattle.std.proofs.lemmas.Fn.{filter_same}
pub use Rattle.std.proofs.lemmas.Iterator.{YieldsList-from_map, YieldsList-from_map_by, YieldsList-from_slice}
pub use Rattle.std.proofs.lemmas.Iterator.{items_from_collect}
pub use Rattle.std.proofs.lemmas.Iterator.Adapters.{items_from_extend}
pub use Rattle.std.proofs.lemmas.Iterator.Consumers.{YieldsList-at, YieldsList-from_copied, YieldsList-from_filter}
pub use Rattle.std.proofs.lemmas.Iterator.Consumers.{YieldsList-from_filter_map, YieldsList-from_first}
pub use Rattle.std.proofs.lemmas.Iterator.Consumers.{YieldsList-from_scan, map_from_collect}
pub use Rattle.std.proofs.lemmas.List.{at_drop_all, at_drop_more, drop-append-le, drop-drop, drop-map, drop-take}
pub use Rattle.std.proofs.lemmas.List.{drop_all, drop_at, get_or-drop, get_or-map, get_or-reverse, get_or-take}
pub use Rattle.std.proofs.lemmas.List.{get_or_default, length-drop, length-map, length-reverse, length-take, map-append}
pub use Rattle.std.proofs.lemmas.List.{nil_from_length, take-append-drop, take-append-le, take-map, take-take, take_all}
pub use Rattle.std.proofs.lemmas.List.{take_at, take_more, take_rest}
pub use Rattle.std.proofs.lemmas.List.Elements.{filter-append, filter_map-append}
pub use Rattle.std.proofs.lemmas.List.FromFn.{length-map-range_with_len}
pub use Rattle.std.proofs.lemmas.List.Sorted.{Contains-permutation, IsNonDecreasingBy-from_sort}
pub use Rattle.std.proofs.lemmas.List.Sorted.{IsNonDecreasingBy-from_sort_by_key, IsPartitionPoint-from_clause}
pub use Rattle.std.proofs.lemmas.List.Sorted.{IsPartitionedBy-leb, IsPermutation-sym, answers_always}
pub use Rattle.std.proofs.lemmas.List.Sorted.{sum_by-IsPermutation}
pub use Rattle.std.proofs.lemmas.List.Sums.{count_by-le-length, length-filter, sum_by-append, sum_by-cons}
pub use Rattle.std.proofs.lemmas.Option.{IfSome_then, get_or_from_slice_get, same_Some, slice_get-get_or, slice_get-map}
pub use Rattle.std.proofs.lemmas.Option.{slice_get_read, slice_get_within}
pub use Rattle.std.proofs.lemmas.Result.{IfOk-weaker, err_from_is_err_and, on_ok_weaker}
pub use Rattle.std.proofs.lemmas.Simd.{map-map}
pub use Rattle.std.proofs.lemmas.Slice.Eq.{bytes_eq-Decides}
pub use Rattle.std.specs.BTreeMap.{BTreeMap, get, is_at}
pub use Rattle.std.specs.Bool.{then_some}
pub use Rattle.std.specs.Cmp.{IsTotalOrder}
pub use Rattle.std.specs.Cmp.Lexicographic.{options_total}
pub use Rattle.std.specs.FinMap.{nat_cmp-IsAntisymmetric}
pub use Rattle.std.specs.FinSet.{IsAntisymmetric}
pub use Rattle.std.specs.Io.KnownBytes.{Consumes, IsAtEnd}
pub use Rattle.std.specs.List.{AllByRecursion, AllWithin, cons_option, list_all, list_any, range_with_len}
pub use Rattle.std.specs.List.Sorted.{IsNonDecreasing, IsNonDecreasingBy, IsPartitionedBy, IsPermutation}
pub use Rattle.std.specs.Map.{lookup}
pub use Rattle.std.specs.Option.{ForSome, ok_or, option_cmp, option_copied, option_map_or, option_or, option_to_list}
pub use Rattle.std.specs.Ordering.{bool_cmp, is_eq, is_le, is_lt, nat_cmp, on, ordering_then, then_cmp}
pub use Rattle.std.specs.Prelude.{IfNone, IsSomeAnd, slice_get, slice_set}
pub use Rattle.std.specs.Result.{OnOk, result_ok}
pub use Rattle.std.specs.Str.{bytes_eq}
pub use Rattle.std.specs.Vec.Iter.{into_iter_items}
pub use Rattle.std.specs.declared.cmp.Ordering.{Ordering}
pub use Rattle.std.specs.declared.cmp.Ordering.TheVariants.{Equal, Greater, Less}
