-- When what watches a server is shown what its turns were: once their replies have left (our profile).
use Rattle.std.specs.Prelude.{◌≡◌, ℕ, ◌+◌, nat_le, nat_lt, Bool, true, not, ◌||◌, if◌then◌else◌, List, [], ◌∷◌, ◌++◌, length, map, filter, Option, Some, None}
use Rattle.nbt_log.specs.declared.entry.Entry.{Entry}
use Rattle.nbt_port.specs.PortCalls.{Chain}
use Rattle.nbt_server.specs.Serving.{ServerValue}
use Rattle.nbt_server.specs.Outcomes.{has_reply}
use Rattle.nbt_nbns.specs.declared.staying.Shown.{Shown}
use Rattle.nbt_serve.specs.Waiting.{ReplyValue, WaitingValue, batch}
use Rattle.nbt_serve.specs.declared.waiting.Sent.{Sent}
use Rattle.nbt_nbns.specs.declared.teller.Untold.{Untold}

-- A turn goes last, if the server took a datagram in it. There is room for as many as replies may wait: past that, which is so only after
-- failures of the port, those before it are left out.
abbrev pub queued : List Untold → (read : ℕ) → (ahead : Bool) → Option Entry → List Untold
queued untold read ahead None = untold
queued untold read ahead (Some entry) = (if nat_lt (length untold) batch then untold else []) ++ record { read = read; ahead = ahead; entry = entry } ∷ []

-- Whether a reply left that was read then, where what waited left at this moment, if it did: else it left at once, or was lost.
abbrev pub has_left : (life : ℕ) → (left : Option ℕ) → (read : ℕ) → Bool
has_left life None read = true
has_left life (Some now) read = nat_le now (read + life)

-- Whether a turn is shown once no reply waits: it had no reply, or one that went ahead, or has left. One that would have left later than a datagram's life
-- after its request was read was dropped, and its turn is left out.
abbrev pub is_shown : (life : ℕ) → (left : Option ℕ) → Untold → Bool
is_shown life left untold = not (has_reply untold.entry.outcome) || (untold.ahead || has_left life left untold.read)

-- each of these turns, and where there is none, that there is none
abbrev pub each_or_none : List Untold → List (Option Entry)
each_or_none [] = None ∷ []
each_or_none (first ∷ others) = map (λ untold. Some untold.entry) (first ∷ others)

-- what is shown, by the replies that wait: nothing while there is one
abbrev pub entries_shown : (life : ℕ) → (left : Option ℕ) → List ReplyValue → List Untold → List (Option Entry)
entries_shown life left [] untold = each_or_none (filter (is_shown life left) untold)
entries_shown life left (reply ∷ replies) untold = []

-- and what isn't yet
abbrev pub still_untold : List ReplyValue → List Untold → List Untold
still_untold [] untold = []
still_untold (reply ∷ replies) untold = untold

-- what a watcher makes of the server after a turn and of what it is shown, and what it prints
abbrev pub Sight : (V : Type 0) → Type 1
Sight V = V → ServerValue → Shown → (old_text : Option (List ℕ)) → V → (text : Option (List ℕ)) → Type 0

-- what watches a server, and what is printed
pub record Seeing (V : Type 0) : Type 0 where
  pub watcher : V
  pub text : Option (List ℕ)

abbrev pub SeesOne : {V : Type 0} → Sight V → ServerValue → Seeing V → Shown → Seeing V → Type 0
SeesOne sees server old shown new = sees old.watcher server shown old.text new.watcher new.text

-- After a turn the watcher is shown, one after the other, the turns whose replies have left by now, each with the moment and the health
-- after this turn. The others aren't shown yet.
pub record Tells {V : Type 0} (sees : Sight V) (server : ServerValue) (waiting : WaitingValue) (sent : Sent) (shown : Shown) (old : List Untold) (before : Seeing V) (new : List Untold) (after : Seeing V) : Type 0 where
  pub untold_is : new ≡ still_untold waiting.replies (queued old server.last sent.ahead shown.entry)
  pub seen : Chain (SeesOne sees server) before
      (map (λ entry. record shown { entry = entry }) (entries_shown server.table.config.life sent.left waiting.replies (queued old server.last sent.ahead shown.entry))) after
