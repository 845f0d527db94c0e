-- The words and the lemmas that most proofs of this crate cite, passed on from one place.
pub use Rattle.std.proofs.Common.{Err, IfOk, IsErr, List, None, Ok, Option, Result, Some, [], ap, append_assoc, arith, drop, false, get_or, inl, inr, length, map, refl, replicate, rules, slice_index, subst, suc, sym, true≢false, zero, ℕ, ◌%◌, ◌*◌, ◌++◌, ◌+◌, ◌/◌, ◌<◌, ◌↔◌, ◌∙◌, ◌∷◌, ◌≡◌, ◌≢◌, ◌≤◌}
pub use Rattle.std.proofs.lemmas.List.{append-nil, drop-replicate, length-append, take-append-drop}
pub use Rattle.std.proofs.lemmas.Option.{slice_get-map, slice_get_past, slice_get_read}
pub use Rattle.std.specs.Prelude.{IsOk, OnOk, slice_get}
pub use Rattle.hex.specs.Hex.{encode_lower, encode_upper, lower_digits, upper_digits}
pub use Rattle.nbt_dgram.specs.Dgram.{DgramValue, FragmentValue, dgram_of}
pub use Rattle.nbt_dgram.specs.Fragments.{IsSplit, Splits, back_of, front_of, in_one, in_two, one, packet, size_of}
pub use Rattle.nbt_dgram.specs.Text.{Fits, names_text}
pub use Rattle.nbt_dgram.specs.declared.dgram.Dgram.{Dgram}
pub use Rattle.nbt_lease.specs.Config.{ConfigValue, last_moment}
pub use Rattle.nbt_lease.specs.Lease.{TableValue, leases_at}
pub use Rattle.nbt_lease.specs.declared.lease.Lease.{Lease}
pub use Rattle.nbt_name.specs.Numbers.{refusal_number}
pub use Rattle.nbt_name.specs.Scope.{IsScope}
pub use Rattle.nbt_name.specs.Wire.{NameValue, wire}
pub use Rattle.nbt_name.specs.declared.addr.Addr.{Addr}
pub use Rattle.nbt_name.specs.declared.fault.NameRefusal.{NameRefusal}
pub use Rattle.nbt_name.specs.declared.fault.NameRefusal.TheVariants.{BadLabel, ScopeLong, Star}
pub use Rattle.nbt_node.proofs.Reading.{says_read}
pub use Rattle.nbt_node.specs.Answering.{own_reply, sent_back}
pub use Rattle.nbt_node.specs.Calls.{Opens, Polls, Sends, ask_refusal, release_refusal, resolve_refusal, started_from, status_refusal}
pub use Rattle.nbt_node.specs.Datagrams.{Handles, Says}
pub use Rattle.nbt_node.specs.Moves.{Told, ask, finds, finds_none, give_back, is_freed, is_granted, is_lost, is_renewed, lists, replied, told_of, waits}
pub use Rattle.nbt_node.specs.Node.{NodeValue, holds}
pub use Rattle.nbt_node.specs.declared.lookup.Wanted.TheVariants.{Entries}
pub use Rattle.nbt_packet.specs.Message.{MessageValue, found, message_if, not_found, overwrite, query, refresh, registered, registration, release, released, status, status_request, wait}
pub use Rattle.nbt_server.specs.Calls.{ServerForgets, ServerStarts, ServerTakes}
pub use Rattle.nbt_session.specs.Caller.{AnswerValue, CallerMoves, CallerValue, connects}
pub use Rattle.nbt_session.specs.Event.{EventValue, event_of}
pub use Rattle.nbt_session.specs.Listener.{CallMoves, ListenerAnswerValue, ListenerMoves, SlotMoves, Without, gets_no_request, is_called, name_is_not_present, send_and_close}
pub use Rattle.nbt_session.specs.Packet.{PacketValue, message, octet_of, packet_of, request, retarget, type_of}
pub use Rattle.nbt_session.specs.declared.listener.Entry.{Entry}
pub use Rattle.nbt_session.specs.declared.packet.PacketType.TheVariants.{Message, Request}
pub use Rattle.nbt_text.proofs.NameText.{nothing_left_over}
pub use Rattle.nbt_text.specs.NameText.{PrintsComponent, PrintsLabels, dot, label_printed, none_printed, prefix}
pub use Rattle.nbt_text.specs.ScopedNames.{dotted}
pub use Rattle.nbt_text.specs.SuffixedNames.{PrintsOctets, in_capitals, in_hexadecimal}
pub use Rattle.nbt_c.proofs.Calls.{above, answers, at_least, given, moved, none_of, refused}
pub use Rattle.nbt_c.specs.Datagrams.{AcceptsFor, SplitsFor, octets_of}
pub use Rattle.nbt_c.specs.Ends.{addr_of, has_no_moment, starts}
pub use Rattle.nbt_c.specs.Events.{octets_back, reported}
pub use Rattle.nbt_c.specs.Listening.{ListensTo, StartsListener, StopsListening}
pub use Rattle.nbt_c.specs.Names.{HoldsName, IsScopeText, IsWire, IsWord, Makes, MakesAny, Writes, has_no_name, has_no_room, name_in, stored, written}
pub use Rattle.nbt_c.specs.Nodes.{Asks, AsksStatus, GivesBack, Hears, PollsNode, Resolves, Stands, held_number, is_request}
pub use Rattle.nbt_c.specs.Results.{Puts, PutsMost, no_room}
pub use Rattle.nbt_c.specs.Serving.{ServesFor, TellsLease, TellsRow}
pub use Rattle.nbt_c.specs.Sessions.{IsPacketIn, TakesFor, WritesPacket, has_message, is_message, is_written}
pub use Rattle.nbt_c.specs.declared.name.CName.{CName}
