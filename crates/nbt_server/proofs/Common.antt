-- The words and the lemmas of std that most proofs of this crate cite, passed on from one place.
pub use Rattle.std.specs.Prelude.{◌↔◌, IsTrue, Bool, IfOk, IfSome, if◌then◌else◌, is_some, min, nat_eq, nat_lt, OnErr, ◌⊎◌}
pub use Rattle.std.proofs.lemmas.Bool.{le-ltb, lt-ltb}
pub use Rattle.std.proofs.lemmas.List.{length-take}
pub use Rattle.std.proofs.lemmas.List.Elements.{All-contains, All-from_recursion}
pub use Rattle.std.proofs.lemmas.Option.{none-some, same_Some}
pub use Rattle.nbt_lease.specs.Config.{ConfigValue}
pub use Rattle.nbt_lease.specs.Lease.{AreSound, HasNone, IsSound, latest_end, Leases, leases_at, members_most, TableValue}
pub use Rattle.nbt_lease.specs.Rules.{Asked, Grants, IsLeastEnd, Releases}
pub use Rattle.nbt_lease.specs.declared.fault.GrantFault.{GrantFault}
pub use Rattle.nbt_lease.specs.declared.fault.GrantFault.TheVariants.{OutOfMemory}
pub use Rattle.nbt_lease.specs.declared.lease.Grant.{Grant}
pub use Rattle.nbt_lease.specs.declared.lease.Lease.{Lease}
pub use Rattle.nbt_lease.specs.declared.lease.Released.{Released}
pub use Rattle.nbt_name.specs.Wire.{NameValue}
pub use Rattle.nbt_name.specs.declared.addr.Kind.{Kind}
pub use Rattle.nbt_packet.specs.Message.{message_of, MessageValue, not_found, overwrite, query, refresh, registered, registration, release, released}
pub use Rattle.nbt_packet.specs.Spelling.{AreWritten, Spells}
pub use Rattle.nbt_packet.specs.Text.{entries_most, entry, text}
pub use Rattle.nbt_packet.specs.declared.message.Message.{Message}
pub use Rattle.nbt_packet.specs.declared.message.Registration.{Registration}
pub use Rattle.nbt_server.specs.Calls.{ServerHandles}
pub use Rattle.nbt_server.specs.Outcomes.{by_limit, by_rule, claim, claim_in, Does, DoesWithin, done_by, for_nodes, grant_outcome, has_reply, holder, IsDone, IsUnanswered, no_message, not_own, rcode_of, refusal_by, release_outcome, request, turned_away}
pub use Rattle.nbt_server.specs.Serving.{asked_in, AsksFor, by_refresh, by_registration, entries, fault_rcode, finds, finds_none, found_reply, grant_reply, is_no_message, is_silent, IsForNodes, IsFull, IsOverLimit, IsOwn, listed, name_error, passes_over, refusal, refused_error, refuses, refuses_overwrite, refuses_release, registers, release_rcode, releases, server_error, ServerValue, serves, Serves, ServesOctets, speaks_from, turns_away}
pub use Rattle.nbt_server.specs.declared.outcome.Claim.{Claim}
pub use Rattle.nbt_server.specs.declared.outcome.Outcome.{Outcome}
pub use Rattle.nbt_server.specs.declared.outcome.Refusal.{Refusal}
