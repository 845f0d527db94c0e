use Rattle.nbt_c.proofs.Common.{◌≡◌, ◌↔◌, ◌<◌, ℕ, List, [], false, Option, Some, None, Result, Ok, Err, IfOk, IsErr, refl, sym, true≢false, MessageValue, message_if, registration, overwrite, refresh, release, query, status_request, registered, released, found, not_found, status, wait, NodeValue, Told, told_of, replied, is_granted, is_renewed, is_lost, is_freed, waits, finds, finds_none, lists, Handles, Says, own_reply, sent_back, says_read, octets_back, reported, Hears, is_request, Puts, at_least}
use Rattle.nbt_node.specs.declared.event.Event.{Event}
use Rattle.nbt_node.specs.declared.fault.ClockBack.{ClockBack}
use Rattle.nbt_node.specs.Moves.{nothing, is_refused}
use Rattle.nbt_c.proofs.Heard.{heard_as}
use Rattle.nbt_c.proofs.hearing.hear.Goals as goal

-- where a node itself says nothing, nothing is sent back
own_says : (told : Told) → (told ≡ reported told (own_reply told [])) × ([] ≡ octets_back (own_reply told []))
own_says nothing = (refl, refl)
own_says replied = (refl, refl)
own_says (is_granted s) = (refl, refl)
own_says (is_renewed s) = (refl, refl)
own_says (is_refused r) = (refl, refl)
own_says is_lost = (refl, refl)
own_says (is_freed r) = (refl, refl)
own_says waits = (refl, refl)
own_says (finds e c) = (refl, refl)
own_says finds_none = (refl, refl)
own_says (lists n) = (refl, refl)

nothing_back : (node : NodeValue) (now : ℕ) (message : Option MessageValue) (told : Told) → is_request message ≡ false
    → (told ≡ reported told (sent_back node now message told [])) × ([] ≡ octets_back (sent_back node now message told []))
nothing_back node now None told request = own_says told
nothing_back node now (Some (query id name)) told request = absurd (true≢false request)
nothing_back node now (Some (registration r)) told request = own_says told
nothing_back node now (Some (overwrite r)) told request = own_says told
nothing_back node now (Some (refresh r)) told request = own_says told
nothing_back node now (Some (release id name kind addr)) told request = own_says told
nothing_back node now (Some (status_request id name)) told request = own_says told
nothing_back node now (Some (registered rcode r)) told request = own_says told
nothing_back node now (Some (released id rcode name kind addr)) told request = own_says told
nothing_back node now (Some (found id name ttl entries cut)) told request = own_says told
nothing_back node now (Some (not_found id rcode name)) told request = own_says told
nothing_back node now (Some (status id name names)) told request = own_says told
nothing_back node now (Some (wait id name ttl)) told request = own_says told

pub returns-clause-ok : goal.returns-clause-ok
returns-clause-ok c = go c.handle_unanswered.result c.handle_unanswered.ensures.refused c.handle_unanswered.ensures.ok
  where
    old : NodeValue
    old = c.args.node.now

    new : NodeValue
    new = c.handle_unanswered.new.self

    message : Option MessageValue
    message = message_if c.args.message.now

    says : Says c.args.octets.now message
    says = says_read c.args.message.now c.args.octets.now c.requires.spells

    go : (result : Result Event ClockBack) → IsErr result ↔ (c.args.now < old.last) → IfOk result (λ event. (octets : List ℕ) → Says octets message → Handles old c.args.now c.args.from octets new (told_of event) [])
        → IfOk result (λ event. (x : List ℕ) × Hears old c.args.now c.args.from c.args.octets.now 0 new (told_of event) message x × Puts x c.args.out.now c.args.out.now 0)
    go (Ok event) refused ok = (
      [],
      let back = nothing_back new c.args.now message (told_of event) (sym c.if-is_request.ensures) in
          heard_as old c.args.now c.args.from c.args.octets.now new message (told_of event) [] (told_of event) [] c.requires.moment (at_least refused) says (ok c.args.octets.now says) back.0 back.1,
      record { after_is = refl; size_is = refl },
    )
    go (Err fault) refused ok = tt
