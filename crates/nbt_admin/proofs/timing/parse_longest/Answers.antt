use Rattle.std.proofs.Common.{◌≡◌, ℕ, true, false, List, Option, Some, None, refl, subst}
use Rattle.std.proofs.lemmas.Bool.{false≢true}
use Rattle.std.specs.Prelude.{IsSome, IfSome, IfNone}
use Rattle.nbt_lease.specs.Config.{IsLongest, milliseconds}
use Rattle.nbt_text.specs.Times.{SpellsTime}
use Rattle.nbt_admin.specs.Times.{SpellsLongest}
use Rattle.nbt_admin.proofs.timing.parse_longest.Goals as goal

-- the seconds of the time that a text spells
its_seconds : (text : List ℕ) (time : ℕ) (r : Option ℕ) → SpellsTime text time → IfSome r (λ seconds. (time ≡ milliseconds seconds) × IsLongest seconds) → IfSome r (SpellsLongest text)
its_seconds text time None spelled is = tt
its_seconds text time (Some seconds) spelled is = (subst (SpellsTime text) is.0 spelled, is.1)

-- there are none where it spells a time of none
no_seconds : (text : List ℕ) (time : ℕ) (r : Option ℕ) → ((t : ℕ) → SpellsTime text t → time ≡ t) → ((seconds : ℕ) → time ≡ milliseconds seconds → IsLongest seconds → IsSome r)
    → IfNone r ((seconds : ℕ) → ¬ SpellsLongest text seconds)
no_seconds text time None one found = λ seconds spelled. false≢true (found seconds (one (milliseconds seconds) spelled.0) spelled.1)
no_seconds text time (Some seconds) one found = tt

pub returns-in-Some-clause-read : goal.returns-in-Some-clause-read
returns-in-Some-clause-read c = its_seconds c.args.text.now c.in-Some.time c.seconds_within.result
    (rw (← c.as_bytes.ensures.value) ((c.in-Some.ensures c.in-Some.time).0 refl)) c.seconds_within.ensures.value

pub returns-in-Some-clause-none : goal.returns-in-Some-clause-none
returns-in-Some-clause-none c = no_seconds c.args.text.now c.in-Some.time c.seconds_within.result
    (λ t spelled.
    let time : SpellsTime c.as_bytes.result.now t = rw c.as_bytes.ensures.value spelled in
    let one = (c.in-Some.ensures t).1 time in
    cc)
    c.seconds_within.ensures.found

pub returns-in-None-clause-none : goal.returns-in-None-clause-none
returns-in-None-clause-none c = λ seconds spelled.
    let time : SpellsTime c.as_bytes.result.now (milliseconds seconds) = rw c.as_bytes.ensures.value spelled.0 in
    let one = (c.in-None.ensures (milliseconds seconds)).1 time in
    absurd cc
