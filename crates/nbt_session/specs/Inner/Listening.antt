-- What a listener is told about the called name, and its entries as they stand (private functions alone).
use Rattle.std.specs.Prelude.{◌≡◌, Bool, false, List, map, Option, Some, None, is_some}
use Rattle.std.specs.List.{flat_map}
use Rattle.std.specs.Option.{option_to_list}
use Rattle.nbt_name.specs.declared.addr.Kind.{Kind}
use Rattle.nbt_name.specs.Wire.{NameValue, same_name}
use Rattle.nbt_session.specs.declared.listener.Entry.{Entry}
use Rattle.nbt_session.specs.Event.{EventValue, packet}
use Rattle.nbt_session.specs.Packet.{request}

-- whether the node holds the name that is called
abbrev pub Tells : (NameValue → Option Kind) → EventValue → Bool → Type 0
Tells holds (packet (request called calling)) held = held ≡ is_some (holds called)
Tells holds _ held = Unit {0}

-- the entries at these places
abbrev pub entries_in : List (Option Entry) → List Entry
entries_in places = flat_map option_to_list places

-- an entry stands at each of these places, and these are they
abbrev pub AreEntries : List (Option Entry) → List Entry → Type 0
AreEntries places entries = places ≡ map Some entries

-- whether an entry of this name stands at a place
abbrev pub is_for : Option Entry → NameValue → Bool
is_for None called = false
is_for (Some entry) called = same_name entry.called called
