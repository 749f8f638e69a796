-- Names of std and of definitions that the proofs cite, re-exported from one place. Declares nothing.
pub use Rattle.std.proofs.Common.{All, Bool, Equal, Err, Greater, IfErr, IfOk, Less, List, None, Ok, Option, Ordering, Result, Some, [], ap, append-nil, append_assoc, arith, cond, drop, eqb, false, get_or, inl, inr, length, length-append, map, map-id, max, min, refl, rules, string_bytes, subst, suc, sym, take, true, zero, ℕ, ⊎_elim, ◌++◌, ◌+◌, ◌-◌, ◌<◌, ◌^◌, ◌||◌, ◌∙◌, ◌∷◌, ◌≡◌, ◌≤◌, ◌⊎◌}
pub use Rattle.std.proofs.Math.Bool.{and-false, and-true, or-false, or_assoc}
pub use Rattle.std.proofs.lemmas.Bool.{and_from, and_left, and_parts, and_right, cases_Bool, cases_lt, cond-false, cond-true, eq-eqb, eqb-false, eqb-true, false_from_ne_true, false≢true, le-ltb, lt-ltb, ltb-true, not-true, or_cases, or_left, or_parts, or_right}
pub use Rattle.std.proofs.lemmas.Bool.Decides.{nat_tests}
pub use Rattle.std.proofs.lemmas.Cmp.{and_equiv, nat_cmp_total, nat_eq_equiv, on_equiv, on_total, ranked, then_total, tied_itself}
pub use Rattle.std.proofs.lemmas.Grind.{flat_map-append}
pub use Rattle.std.proofs.lemmas.List.{drop_all, drop_more, flat_map_more, get_or-map, get_or_default, length-map, map-append, take_all, take_more}
pub use Rattle.std.proofs.lemmas.List.Elements.{All-append, All-cons, All-contains, All-contains_itself, All-filter, All-from_recursion, All-map, All-nil, All-push, Contains-append_cases, Contains-append_left, Contains-append_right, Contains-get_or, Contains-push, Contains-push_cases, filter-append, filter_map-append, filter_passes, recursion_from_All}
pub use Rattle.std.proofs.lemmas.List.Filters.{dedup_is, length-filter_both}
pub use Rattle.std.proofs.lemmas.List.Folds.{Any-from_list_any, find-append, flat_map-map, list_any-from_Any}
pub use Rattle.std.proofs.lemmas.List.Kept.{Contains-dedup_nat, IsStrictlySortedBy-filter}
pub use Rattle.std.proofs.lemmas.List.Sorted.{Contains-permutation, IsPermutation-sym, answers_always}
pub use Rattle.std.proofs.lemmas.List.FromFn.{get_or-range_with_len, length-range_with_len}
pub use Rattle.std.proofs.lemmas.List.Sums.{count_by-le-length, length-filter, sum_by-cons}
pub use Rattle.std.proofs.lemmas.Map.Keys.{IsStrictlyIncreasing-dedup, Less-from_sorted, le_from_not_gt, sorted_from_strictly_increasing, sorted_head}
pub use Rattle.std.proofs.lemmas.Map.Lookups.{CmpEqualImpliesEq, btree_set_from_contains, exact_pairs, exact_unsigned}
pub use Rattle.std.proofs.lemmas.Map.Made.{length-le_from_is_member}
pub use Rattle.std.proofs.lemmas.Map.Steps.{length-le_from_distinct_below, list_any_congr}
pub use Rattle.std.proofs.lemmas.Map.Views.{All-contains_from_tree_list, Contains-from_any, btree_set_contains_from_list, btree_set_contains_iff, list_any-from_Contains}
pub use Rattle.std.proofs.lemmas.Option.{cond_some, same_Some}
pub use Rattle.std.proofs.lemmas.Result.{IfOk-weaker, on_ok_weaker}
pub use Rattle.std.proofs.lemmas.Simd.{map-map}
pub use Rattle.std.specs.BTreeMap.{is_at as is_key, keys}
pub use Rattle.std.specs.BTreeSet.{BTreeSet, contains}
pub use Rattle.std.specs.Cmp.{IsEquivalence, IsTotalOrder}
pub use Rattle.std.specs.List.{AllByRecursion, cons_option, count_by, range_with_len, dedup, filter_map, find, flat_map, list_any}
pub use Rattle.std.specs.List.Sorted.{IsBinarySearchResult, IsNonDecreasing, IsNonDecreasingBy, IsSearchInRange, IsSorted, IsStrictlySortedBy}
pub use Rattle.std.specs.Option.{IsSome, is_none, is_some, option_eq, option_or, option_to_list}
pub use Rattle.std.specs.Ordering.{is_eq, is_gt, is_le, is_lt, nat_cmp, ord_max, ordering_index, ordering_then}
pub use Rattle.std.specs.Prelude.{Contains, IsPermutation, IsTrue, filter, if◌then◌else◌, nat_eq, nat_lt, not, option_map, ◌&&◌, ◌↔◌}
pub use Rattle.std.specs.Set.{distinct_count, is_member, unique_keys}
pub use Rattle.simplex_base.specs.Format.{Format, fixed}
pub use Rattle.simplex_base.specs.Positions.{Round, same_round}
pub use Rattle.simplex_base.specs.VarintLaws.{groups_some}
pub use Rattle.simplex_rules.specs.Certificates.{certificates_contradict, messages_contradict, subjects_contradict}
pub use Rattle.simplex_scheme.specs.Committees.{AreRising, Every, IsSchedule, Listed, Schedule, bound_of, certified_by, committee_of, greatest, schedule_of, size_by, valid_by}
pub use Rattle.simplex_rules.specs.Scheme.{rules_of, Scheme, scheme_of}
pub use Rattle.simplex_rules.specs.EncodedEvidence.{IsEncoded, StayEncoded}
pub use Rattle.simplex_rules.specs.Evidence.{IsEquivocation, IsEvidence, evidence_of, with_first, with_second}
pub use Rattle.simplex_rules.specs.FirstCertified.{RecordsFirsts, are_split, certified_subjects, changes_firsts, excludes_first, excludes_some, first_certified, first_with, firsts_of, nothing_certified}
pub use Rattle.simplex_rules.specs.Judging.{are_known, certified_under, rules_under, scheme_under, valid_under}
pub use Rattle.simplex_rules.specs.Independence.{FloorsRise, first_round, in_rounds, is_from}
pub use Rattle.simplex_rules.specs.Laws.{ReorderingAccusesSame}
pub use Rattle.simplex_rules.specs.Line.{line_of, parted}
pub use Rattle.simplex_rules.specs.News.{have_news, message_is_news, subject_is_news}
pub use Rattle.simplex_rules.specs.Accusation.{Accusation, is_accused, kind_rank, accused_by, accused_cmp, round_cmp, signer_cmp, signer_in}
pub use Rattle.simplex_rules.specs.Recorded.{RecordedAreSlots, Slot, changes, equivocation_of, evidence_from, if_differs, is_news, news_after, other_than, recorded_in, recorded_of, slot_of, slot_with, votes_in_slot, votes_recorded}
pub use Rattle.simplex_rules.specs.Rules.{AreLawful, HaveCommittees, Rules, is_valid, valid_votes}
pub use Rattle.simplex_rules.specs.SplitLaws.{EnoughAreAccused, IsAccountable, SignersAreAccountable, shared_signers}
pub use Rattle.simplex_rules.specs.Splits.{AreSplits, certified_in, if_certified, is_certified_message, is_accused_in, is_split, accused_count, split_of}
pub use Rattle.simplex_rules.specs.Suspects.{JudgeAlike, Suspected, SuspectsSuffice, claimed, is_suspect, is_suspect_round, judged_by, suspect_of}
pub use Rattle.simplex_rules.specs.Values.{activity_of, evidence_value}
pub use Rattle.simplex_rules.specs.declared.certified_subjects.CertifiedSubjects.{CertifiedSubjects}
pub use Rattle.simplex_rules.specs.declared.evidence.SignerInRound.{SignerInRound}
pub use Rattle.simplex_rules.specs.declared.judging.Judging.{Judging}
pub use Rattle.simplex_rules.specs.declared.judging.Judging.TheVariants.{Claimed, From, Suspects, Verified}
pub use Rattle.simplex_rules.specs.declared.judging.SuspectSigners.{SuspectSigners}
pub use Rattle.simplex_rules.specs.declared.split.Split.{Split}
pub use Rattle.simplex_evidence.specs.Activity.{activity_encoding, activity_round, subject_and_certificate, votes_in}
pub use Rattle.simplex_evidence.specs.Contradiction.{Conflicting_finalize, Conflicting_notarize, Equivocation, EquivocationKind, Nullify_finalize, clash, contradicts, excludes, first_kind, second_kind}
pub use Rattle.simplex_evidence.specs.VoteMap.{item_of}
pub use Rattle.simplex_evidence.specs.declared.types.activity.Activity.{Activity}
pub use Rattle.simplex_scheme.specs.Committee.{IsQuorum, faults_of, quorum_of, signers_of}
pub use Rattle.simplex_scheme.specs.Kind.{kind_of, same_kind}
pub use Rattle.simplex_scheme.specs.Subject.{Finalizes, Notarizes, Nullifies, SubjectValue, round_of, subject_value}
pub use Rattle.simplex_scheme.specs.declared.proposal.Proposal.{Proposal}
pub use Rattle.simplex_scheme.specs.declared.scheme.Attestation.{Attestation}
pub use Rattle.simplex_votes.specs.Votes.{SignedVote, finalize_vote, is_at, is_of, notarize_vote, nullify_vote, same_proposal, vote_on}
pub use Rattle.simplex_scheme.specs.declared.kind.VoteKind.{VoteKind}
