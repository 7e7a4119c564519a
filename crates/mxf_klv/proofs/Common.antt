-- The names that most proofs cite, passed on from one place. Declares nothing.
pub use Rattle.mxf_klv.specs.Ber.{IsCutLength, IsSpelledLength, ReadsLength, length_bytes}
pub use Rattle.mxf_klv.specs.Bytes.{AreBytes}
pub use Rattle.mxf_klv.specs.KeyAndLength.{BeginsWithKeyAndLength, HasNoKeyAndLength, ReadsKeyAndLength}
pub use Rattle.mxf_klv.specs.Kind.{kind_of}
pub use Rattle.mxf_klv.specs.Label.{BeginsAsLabel, IsLabel, begins_as_label, label_start}
pub use Rattle.mxf_klv.specs.Note.{CanHead, CanNote, IsInSpan, IsNote, end_of, greatest_end, head_note, keeps, note_cmp}
pub use Rattle.mxf_klv.specs.Note.{note_of}
pub use Rattle.mxf_klv.specs.NoteOrder.{note_cmp-IsAntisymmetric, note_total}
pub use Rattle.mxf_klv.specs.Packet.{IsCutPacket, IsPacket, IsSpelledPacket, ReadsPacket, packet_bytes, packet_fault}
pub use Rattle.mxf_klv.specs.Packet.{size_of}
pub use Rattle.mxf_klv.specs.Parts.{CanSpell, LengthParts, NoteParts, PacketParts, head_parts, note_parts, packet_parts}
pub use Rattle.mxf_klv.specs.Piece.{BeginsWithNone, IsPiece, IsStop, end_after, notes_from}
pub use Rattle.mxf_klv.specs.PieceReading.{EndsAt, GoesOn, IsOpen, end_with, length_at, stop_in}
unfoldable pub use Rattle.mxf_klv.specs.PieceReading.{head_at, packet_at, packets_in, rest_in, stop_of}
pub use Rattle.mxf_klv.specs.Rising.{In, In-union, In-with_one, IsRising, IsRising-union, IsRising-with_one}
pub use Rattle.mxf_klv.specs.Rising.{SameMembers, less_back, less_in, same_from_members, union, with_one}
pub use Rattle.mxf_klv.specs.Written.{StopsIn, WritesPart, counted}
pub use Rattle.std.proofs.Common.{Bool, Err, FitsSigned, IfOk, IsTrue, List, None, Ok, Option, Result, Some, SomeIff}
pub use Rattle.std.proofs.Common.{[], add-one, ap, append-nil, append_assoc, arith, cond, count_by, drop, eq-eqb}
pub use Rattle.std.proofs.Common.{eqb-true, false, filter, filter_map, get_or, inl, inr, is_some, length, length-append}
pub use Rattle.std.proofs.Common.{map, min, nat_le, nat_lt, ne_eqb, not, ok_or, refl, replicate, rules, string_bytes}
pub use Rattle.std.proofs.Common.{subst, suc, sym, take, true, zero, zero-mul, ℕ, ℤ, ◌%◌, ◌&&◌, ◌*◌, ◌++◌, ◌+◌, ◌-◌}
pub use Rattle.std.proofs.Common.{◌/◌, ◌<◌, ◌==◌, ◌^◌, ◌||◌, ◌↔◌, ◌∙◌, ◌∷◌, ◌≡◌, ◌≢◌, ◌≤◌, ◌⊎◌}
pub use Rattle.std.proofs.KnownBytes.{Appends-trans}
pub use Rattle.std.proofs.Math.Seq.{take-append-add}
pub use Rattle.std.proofs.lemmas.Bool.{and_from, and_parts, both_ways, cases_Bool, cases_lt, cond-false, cond-true}
pub use Rattle.std.proofs.lemmas.Bool.{false_from_ne_true, false≢true, le-leb, leb-false, leb-true, lt-leb, lt-ltb}
pub use Rattle.std.proofs.lemmas.Bool.{ltb-false, ltb-true, not-false, or_cases, or_left, or_right, true≢false}
pub use Rattle.std.proofs.lemmas.Bool.Decides.{nat_tests}
pub use Rattle.std.proofs.lemmas.Cmp.{nat_cmp_total, tied_itself}
pub use Rattle.std.proofs.lemmas.Grind.{flat_map-append}
pub use Rattle.std.proofs.lemmas.Int.{ints, to_z-of_z}
pub use Rattle.std.proofs.lemmas.List.{drop-append-le, drop-drop, drop-take, drop_all, drop_at, get_or-drop}
pub use Rattle.std.proofs.lemmas.List.{get_or-take, get_or_default, get_or_past, length-drop, length-replicate}
pub use Rattle.std.proofs.lemmas.List.{length-take, nil_from_length, take-append-drop, take-append-le, take-take}
pub use Rattle.std.proofs.lemmas.List.{take_all, take_at, take_rest}
pub use Rattle.std.proofs.lemmas.List.Concat.{flat_map-cons}
pub use Rattle.std.proofs.lemmas.List.Sorted.{IsNonDecreasingBy-from_sort, IsPartitionPoint-from_clause}
pub use Rattle.std.proofs.lemmas.List.Sorted.{IsPartitionedBy-leb, IsPartitionedBy-ltb, searchable_from_sorted}
pub use Rattle.std.proofs.lemmas.List.Sorted.{sum_by-IsPermutation}
pub use Rattle.std.proofs.lemmas.List.Sums.{sum_by-cons}
pub use Rattle.std.proofs.lemmas.Option.{IfSome_then, get_or_from_slice_get, slice_get_within}
pub use Rattle.std.proofs.lemmas.Result.{IfOk-weaker, err_from_is_err_and}
pub use Rattle.std.proofs.lemmas.Slice.Eq.{bytes_eq-Decides, slice_eq-Decides}
pub use Rattle.std.specs.BTreeMap.{is_at}
pub use Rattle.std.specs.Bool.{Decides}
pub use Rattle.std.specs.Cmp.{IsTotalOrder}
pub use Rattle.std.specs.Cmp.Lexicographic.{slice_cmp}
pub use Rattle.std.specs.FinSet.{IsAntisymmetric, nat_cmp-IsAntisymmetric}
pub use Rattle.std.specs.Int.{cast_unsigned, from_be_bytes, is_negative, to_be_bytes, w16, w64}
pub use Rattle.std.specs.Io.KnownBytes.{Appends}
pub use Rattle.std.specs.List.{AllByRecursion, AllWithin, flat_map, insert, list_all, list_any}
pub use Rattle.std.specs.List.Retain.{DiffersFromLast, IsFiltered}
pub use Rattle.std.specs.List.Sorted.{IsNonDecreasing, IsNonDecreasingBy, IsPartitionedBy, IsPermutation, IsSortedByKey}
pub use Rattle.std.specs.Map.{lookup}
pub use Rattle.std.specs.Option.{IfNone, option_copied, option_map_or, option_to_list}
pub use Rattle.std.specs.Ordering.{bool_cmp, eq_by_cmp, is_eq, is_lt, nat_cmp, ordering_index, ordering_reverse}
pub use Rattle.std.specs.Ordering.{ordering_then}
pub use Rattle.std.specs.Prelude.{IfSome, IsSome, IsSomeAnd, MatchOption, find, max, slice_get, slice_set}
pub use Rattle.std.specs.Result.{result_ok}
pub use Rattle.std.specs.Str.{all_ascii_digits, bytes_eq}
pub use Rattle.std.specs.Str.Iter.{chars_rest}
pub use Rattle.std.specs.Vec.Iter.{into_iter_items}
pub use Rattle.std.specs.declared.cmp.Ordering.{Ordering}
pub use Rattle.std.specs.declared.cmp.Ordering.TheVariants.{Equal, Greater, Less}
