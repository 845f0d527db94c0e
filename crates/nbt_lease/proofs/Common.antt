-- The words and the lemmas of std that most proofs of this crate cite, passed on from one place.
pub use Rattle.std.specs.Bool.{OnFalse}
pub use Rattle.std.specs.Cmp.{IsEquivalence, tied_then, unsigned_tied}
pub use Rattle.std.specs.Cmp.Lexicographic.{slice_cmp}
pub use Rattle.std.specs.List.{AllByRecursion, Contains, filter, IsDistinct, list_any}
pub use Rattle.std.specs.List.Sorted.{IsStrictlySortedBy}
pub use Rattle.std.specs.Map.{keys_of, lookup, set_value}
pub use Rattle.std.specs.Option.{IfNone, IfSome}
pub use Rattle.std.specs.Ordering.{is_eq, is_gt, nat_cmp, ordering_then}
pub use Rattle.std.specs.Prelude.{All, Any, min}
pub use Rattle.std.specs.declared.cmp.Ordering.{Ordering}
pub use Rattle.std.specs.declared.cmp.Ordering.TheVariants.{Equal, Greater, Less}
pub use Rattle.std.proofs.Math.Bool.{or-false}
pub use Rattle.std.proofs.Math.Seq.{get_or-append_seam, set-append_seam}
pub use Rattle.std.proofs.lemmas.Bool.{and_from, and_parts, and_right, both_ways, cases_Bool, cases_eq, cases_lt, cond-false, cond-true, cond_both, eq-eqb, eqb-true, and_cases, false_from_ne_true, false≢true, le-ltb, leb-false, leb-true, lt-ltb, ltb-false, ltb-true, ne_eqb, not-true, or_parts, or_right}
pub use Rattle.std.proofs.lemmas.List.{append-nil, append_assoc, drop_more, length-append, length-map, length-take-le, map-append, nil_from_length, take-append-drop, take_all, take_more}
pub use Rattle.std.proofs.lemmas.List.Elements.{All-append, All-cons, All-contains, All-filter, All-from_recursion, All-head, All-nil, All-tail, All-weaker, Contains-append_cases, Contains-append_left, Contains-append_right, Contains-push, Contains-push_cases, filter-append, recursion_from_All}
pub use Rattle.std.proofs.lemmas.List.Folds.{list_any-append}
pub use Rattle.std.proofs.lemmas.List.Sums.{count_by-le-length, length-filter}
pub use Rattle.std.proofs.lemmas.Map.Keys.{IsDistinct-cons, IsDistinct-from_sorted, IsDistinct-head, IsDistinct-tail, le_from_not_gt}
pub use Rattle.std.proofs.lemmas.Map.Made.{length-from_same_keys}
pub use Rattle.std.proofs.lemmas.Map.Steps.{set_value_same}
pub use Rattle.std.proofs.lemmas.Map.Text.{is_eq-slice_cmp}
pub use Rattle.std.proofs.lemmas.Result.{IfOk-at_ok, on_err_weaker, on_ok_weaker}
pub use Rattle.nbt_name.specs.Wire.{NameValue, same_name}
pub use Rattle.nbt_name.specs.declared.addr.Kind.{Kind}
pub use Rattle.nbt_name.specs.declared.addr.Kind.TheVariants.{Group, Unique}
pub use Rattle.nbt_lease.specs.Config.{ConfigValue, granted}
pub use Rattle.nbt_lease.specs.Inner.Index.{Agrees, AreLive, due, Ended, Entries, has_end, has_over, if_any, in_set, is_due, is_live_of, IsMember, living, members_of, Moves, Renewed, rows_of, TakenFrom}
pub use Rattle.nbt_lease.specs.Inner.Placing.{HoldsLive, Places}
pub use Rattle.nbt_lease.specs.Inner.Standing.{HasOne, StandsIn}
pub use Rattle.nbt_lease.specs.Lease.{AreApart, AreGroup, AreOneKind, AreSound, at_name, group, HasNone, is_live, IsSound, latest_end, Leases, leases_at, live_count, members_most, Rows, TableValue, unique}
pub use Rattle.nbt_lease.specs.Rules.{active, asked, Asked, begins, begun, end_of, free, gone, grant_until, GrantCase, Grants, group_full, IsAllowed, IsGranted, IsLeastEnd, member, no_lease, of_others, owner, ReleaseCase, Releases, renewed, renews, table_full}
pub use Rattle.nbt_lease.specs.declared.ends.Due.{Due}
pub use Rattle.nbt_lease.specs.declared.fault.GrantFault.{GrantFault}
pub use Rattle.nbt_lease.specs.declared.fault.GrantFault.TheVariants.{Active, GroupFull, OutOfMemory, TableFull}
pub use Rattle.nbt_lease.specs.declared.lease.Grant.{Grant}
pub use Rattle.nbt_lease.specs.declared.lease.Lease.{Lease}
pub use Rattle.nbt_lease.specs.declared.lease.Released.{Released}
pub use Rattle.nbt_lease.specs.declared.lease.Released.TheVariants.{Gone, NoLease, OfOthers}
pub use Rattle.nbt_lease.specs.declared.standing.Standing.{Standing}
