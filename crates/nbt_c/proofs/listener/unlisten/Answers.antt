use Rattle.nbt_c.proofs.Common.{sym, subst, NameValue, Without, StopsListening}
use Rattle.nbt_c.specs.Listening as is
use Rattle.nbt_c.proofs.listener.unlisten.Goals as goal

pub returns-in_default : goal.returns-in_default
returns-in_default c = is.StopsListening.has_no_name c.in_default.ensures.none

pub returns : goal.returns
returns c =
    let old = c.args.listener.now in
    let new = c.unlisten.new.self in
    let read = c.in-Some.ensures.read in
    let slots = sym c.unlisten.ensures.slots in
    let most = sym c.unlisten.ensures.most in
    subst (StopsListening c.args.called.now old 0) (λ i. record { entries = new.entries; slots = slots i; most = most i })
    (is.StopsListening.stops new.entries read.0 (subst (λ (name : NameValue). Without name old.entries new.entries) read.1 c.unlisten.ensures.entries))
