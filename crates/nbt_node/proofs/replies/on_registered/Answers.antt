use Rattle.std.proofs.Common.{refl, sym, ◌∙◌}
use Rattle.nbt_packet.specs.Message.{registered}
use Rattle.nbt_node.proofs.Table.{stays, not_registering, differs, asking_demanded, held_demanded, asking_refused, held_refused, asking_granted, held_renewed}
use Rattle.nbt_node.proofs.replies.on_registered.Goals as goal

pub returns-then-asked-id : goal.returns-then-asked-id
returns-then-asked-id c = λ node now name r id_is seconds_is.
    asking_demanded node now name c.args.state.now _ _ c.in-Asking.kind c.in-Asking.ttl c.in-Asking.last c.args.rcode c.in-Asking.asked r c.in-Asking.is
    (λ e. c.if-asked-id.true (sym e ∙ id_is)) c.demanded.ensures.lost c.demanded.ensures.unmoved

pub returns-then-rcode-ne0 : goal.returns-then-rcode-ne0
returns-then-rcode-ne0 c = λ node now name r id_is seconds_is.
    rw (c.rests.ensures.state, c.rests.ensures.told)
    (asking_refused node now name c.args.state.now c.in-Asking.kind c.in-Asking.ttl c.in-Asking.last c.args.rcode c.in-Asking.asked r c.in-Asking.is
    (id_is ∙ sym c.if-asked-id.false) c.if-rcode-ne0.true)

pub returns-else-rcode-ne0 : goal.returns-else-rcode-ne0
returns-else-rcode-ne0 c = λ node now name r id_is seconds_is.
    asking_granted node now name c.args.state.now _ c.in-Asking.kind c.in-Asking.ttl c.in-Asking.last c.args.rcode c.args.seconds c.in-Asking.asked r
    c.in-Asking.is (id_is ∙ sym c.if-asked-id.false) c.if-rcode-ne0.false seconds_is c.hold.ensures

pub returns-in-None : goal.returns-in-None
returns-in-None c = λ node now name r id_is seconds_is.
    held_demanded node now name c.args.state.now _ _ c.in-Held.kind c.in-Held.ttl c.in-Held.until c.in-Held.renew c.in-Held.last c.in-Held.pending c.args.rcode r c.in-Held.is
    (rw c.in-None.is refl) c.demanded-in-None.ensures.lost c.demanded-in-None.ensures.unmoved

pub returns-then-refresh-id : goal.returns-then-refresh-id
returns-then-refresh-id c = λ node now name r id_is seconds_is.
    held_demanded node now name c.args.state.now _ _ c.in-Held.kind c.in-Held.ttl c.in-Held.until c.in-Held.renew c.in-Held.last c.in-Held.pending c.args.rcode r c.in-Held.is
    (rw (c.in-Some.is, id_is) (differs c.args.id c.in-Some.refresh.id c.if-refresh-id.true)) c.demanded-then-refresh-id.ensures.lost c.demanded-then-refresh-id.ensures.unmoved

pub returns-then-rcode-ne0-2 : goal.returns-then-rcode-ne0-2
returns-then-rcode-ne0-2 c = λ node now name r id_is seconds_is.
    rw (c.rests-then-rcode-ne0-2.ensures.state, c.rests-then-rcode-ne0-2.ensures.told)
    (held_refused node now name c.args.state.now c.in-Held.kind c.in-Held.ttl c.in-Held.until c.in-Held.renew c.in-Held.last c.in-Held.pending c.in-Some.refresh c.args.rcode r c.in-Held.is c.in-Some.is
    (id_is ∙ sym c.if-refresh-id.false) c.if-rcode-ne0-2.true)

pub returns-else-rcode-ne0-2 : goal.returns-else-rcode-ne0-2
returns-else-rcode-ne0-2 c = λ node now name r id_is seconds_is.
    held_renewed node now name c.args.state.now _ c.in-Held.kind c.in-Held.ttl c.in-Held.until c.in-Held.renew c.in-Held.last c.in-Held.pending c.in-Some.refresh c.args.rcode c.args.seconds r
    c.in-Held.is c.in-Some.is (id_is ∙ sym c.if-refresh-id.false) c.if-rcode-ne0-2.false seconds_is c.hold-in-Some.ensures

pub returns-in_default : goal.returns-in_default
returns-in_default c = λ node now name r id_is seconds_is.
    stays node now name c.args.state.now _ (registered c.args.rcode r) _ c.unmoved.ensures.state c.unmoved.ensures.told (not_registering c.args.state.now c.args.rcode r c.in_default.not-Asking c.in_default.not-Held)
