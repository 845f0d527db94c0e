-- What a port has noted after a turn's calls.
use Rattle.std.proofs.Common.{◌≡◌, Bool, true, false, List, [], ◌∷◌, refl, sym, subst, ap, ◌∙◌, Result, Ok, Err}
use Rattle.std.specs.Prelude.{◌||◌, OnOk, OnErr}
use Rattle.std.specs.List.{list_any}
use Rattle.std.proofs.Math.Bool.{or_assoc, or-false}
use Rattle.nbt_name.specs.declared.addr.Addr.{Addr}
use Rattle.nbt_node.specs.Datagrams.{same_end}
use Rattle.nbt_port.specs.PortCalls.{PortCall, nothing_came, came, receive_failed, sent, send_failed, Chain}
use Rattle.nbt_port.specs.declared.port.Device.{Device}
use Rattle.nbt_host.specs.declared.asked.Noted.{Noted}
use Rattle.nbt_host.specs.declared.watching.Look.{Look}
use Rattle.nbt_host.specs.Hosting.{HostValue, Terms}
use Rattle.nbt_host.specs.Releasing.{Releasing}
use Rattle.nbt_host.specs.Servers.{comes_from, goes_to, noted_of}
use Rattle.nbt_host.specs.Sleeping.{last_of}
use Rattle.nbt_host.specs.Inner.Noting.{Noting, note, NotingDoes, NotedTurn}

-- what was noted before some calls, and what they were
abbrev with_calls : (server : Addr) → Noted → List PortCall → Noted
with_calls server n acts = record { heard = n.heard || list_any (comes_from server) acts; asked = n.asked || list_any (goes_to server) acts }

one_more : (server : Addr) (n : Noted) (call : PortCall) (acts : List PortCall) → with_calls server (note server call n) acts ≡ with_calls server n (call ∷ acts)
one_more server n nothing_came acts = refl
one_more server n (came from octets) acts =
    ap (λ (h : Bool). record { heard = h; asked = n.asked || list_any (goes_to server) acts }) (or_assoc n.heard (same_end from.peer server) (list_any (comes_from server) acts))
one_more server n receive_failed acts = refl
one_more server n (sent to octets) acts =
    ap (λ (h : Bool). record { heard = n.heard || list_any (comes_from server) acts; asked = h }) (or_assoc n.asked (same_end to.peer server) (list_any (goes_to server) acts))
one_more server n (send_failed to octets) acts = refl

none_more : (server : Addr) (n : Noted) → n ≡ with_calls server n []
none_more server n = ap (λ (h : Bool). record n { heard = h }) (sym (or-false n.heard)) ∙ ap (λ (h : Bool). record { heard = n.heard || false; asked = h }) (sym (or-false n.asked))

module _ {P S : Type 0} (does : P → PortCall → P → Type 0) (view : S → Noting P) where
  -- a call of a port that is seen so
  abbrev pub Calls : S → PortCall → S → Type 0
  Calls old call new = NotingDoes does (view old) call (view new)

  abbrev pub All : S → List PortCall → S → Type 0
  All old acts new = Chain does (view old).port acts (view new).port × ((view new).name ≡ (view old).name) × ((view new).noted ≡ with_calls (view old).server (view old).noted acts)

  all_none : (old new : S) → new ≡ old → All old [] new
  all_none old new is = subst (λ (n : S). All old [] n) (sym is) (refl, refl, none_more (view old).server (view old).noted)

  -- what calls of the port that notes were of the port beneath
  pub all_noted : (old new : S) (acts : List PortCall) → Chain Calls old acts new → All old acts new
  all_noted old new [] is = all_none old new is
  all_noted old new (call ∷ acts) x =
      let mid : S = x.0 in
      let rest = all_noted mid new acts x.2 in
      let server : (view mid).server ≡ (view old).server = x.1.2 in
      let noted : (view mid).noted ≡ note (view old).server call (view old).noted = x.1.3 in (
        ((view mid).port, x.1.0, rest.0),
        rest.1 ∙ x.1.1,
        rest.2 ∙ ap (λ (s : Addr). with_calls s (view mid).noted acts) server ∙ ap (λ (n : Noted). with_calls (view old).server n acts) noted ∙ one_more (view old).server (view old).noted call acts,
      )

module _ {P K S : Type 0} (does : P → PortCall → P → Type 0) (looks : K → Look → K → Type 0) (t : Terms) (old new : S) (view : S → Noting P) (old_watch watch : K) (old_last last : Look) (old_host host : HostValue)
    (none : (view old).noted ≡ record { heard = false; asked = false }) (server : (view old).server ≡ t.server) where
  -- a turn over the port that notes, by what its call returned
  abbrev pub Turned : (Terms → HostValue → List PortCall → List Look → HostValue → Type 0) → Type 0
  Turned turns = (acts : List PortCall) × (seen : List Look) × turns t old_host acts seen host × (last ≡ last_of old_last seen) × Chain (Calls does view) old acts new × Chain looks old_watch seen watch

  pub noted_so : (turns : Terms → HostValue → List PortCall → List Look → HostValue → Type 0) → Turned turns
      → NotedTurn turns does looks t (view new).noted (record { port = (view old).port; watch = old_watch; last = old_last; host = old_host }) (record { port = (view new).port; watch = watch; last = last; host = host })
  noted_so turns x =
      let all = all_noted does view old new x.0 x.4 in
      (x.0, x.1, x.2, x.3, all.0, x.5, all.2 ∙ ap (λ (n : Noted). with_calls (view old).server n x.0) none ∙ ap (λ (s : Addr). noted_of s x.0) server)

  pub same_name : {A : Type 0} (r : Result A Device) (well badly : Terms → HostValue → List PortCall → List Look → HostValue → Type 0) → OnOk r (Turned well) → OnErr r (Turned badly) → (view new).name ≡ (view old).name
  same_name (Ok done) well badly x y = (all_noted does view old new x.0 x.4).1
  same_name (Err failure) well badly x y = (all_noted does view old new y.0 y.4).1
