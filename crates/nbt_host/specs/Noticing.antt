-- What a host learns of its names by a datagram (our profile).
use Rattle.std.specs.Prelude.{ℕ, nat_eq, Bool, true, false, ◌&&◌, not, if◌then◌else◌, Option, Some, None}
use Rattle.nbt_name.specs.declared.addr.Addr.{Addr}
use Rattle.nbt_name.specs.Wire.{NameValue}
use Rattle.nbt_packet.specs.Message.{MessageValue, registered, released}
use Rattle.nbt_node.specs.Moves.{Told, nothing, is_granted, is_renewed, is_refused, is_lost, is_freed}
use Rattle.nbt_node.specs.Datagrams.{same_end}
use Rattle.nbt_host.specs.declared.news.News.{News}
use Rattle.nbt_host.specs.declared.news.News.TheVariants as n
use Rattle.nbt_host.specs.declared.news.Notice.{Notice}

-- what a node's user is told of one of its names, by a reply with this TTL: 0 says no time
abbrev pub news_of : (ttl : ℕ) → Told → Option News
news_of ttl (is_granted seconds) = Some (if nat_eq ttl 0 then n.Untimed seconds else n.Granted seconds)
news_of ttl (is_renewed seconds) = Some (n.Renewed seconds)
news_of ttl (is_refused rcode) = Some (n.Refused rcode)
news_of ttl is_lost = Some n.Lost
news_of ttl (is_freed rcode) = Some (n.Freed rcode)
news_of ttl told = None

-- of which one: that of the server's reply. A reply to a release has no time.
abbrev pub news_in : Option MessageValue → Told → Option News
news_in (Some (registered rcode r)) told = news_of r.ttl told
news_in (Some (released id rcode name kind addr)) told = news_of 0 told
news_in message told = None

abbrev pub name_told : Option MessageValue → Option NameValue
name_told (Some (registered rcode r)) = Some r.name
name_told (Some (released id rcode name kind addr)) = Some name
name_told message = None

-- Nothing waited for the reply, and it says that its name is refused, or released.
abbrev pub denies : Option MessageValue → Told → Bool
denies (Some (registered rcode r)) nothing = not (nat_eq rcode 0)
denies (Some (released id rcode name kind addr)) nothing = true
denies message told = false

-- the name of which the server said so
abbrev pub doubted : (server from : Addr) → Option MessageValue → Told → Option NameValue
doubted server from message told = if same_end from server && denies message told then name_told message else None

abbrev pub of_name : Option NameValue → Option News → Option Notice
of_name (Some name) (Some news) = Some (record { name = name; news = news })
of_name name news = None

abbrev pub notice_of : (server from : Addr) → Option MessageValue → Told → Option Notice
notice_of server from message told = of_name (name_told message) (if same_end from server && denies message told then Some n.Doubted else news_in message told)
