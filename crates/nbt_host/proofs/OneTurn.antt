-- One turn, by what its calls returned.
use Rattle.std.proofs.Common.{◌≡◌, List, subst, inl, inr, Result, Ok, Err, ◌∙◌, sym, ap}
use Rattle.std.specs.Prelude.{◌⊎◌, OnOk, OnErr, ℕ}
use Rattle.nbt_port.specs.PortCalls.{PortCall}
use Rattle.nbt_port.specs.declared.port.Device.{Device}
use Rattle.nbt_host.specs.declared.watching.Look.{Look}
use Rattle.nbt_host.specs.Hosting.{HostValue, Terms, HostTurn, HostBreaks}
use Rattle.nbt_host.specs.Host.{HostingValue, terms_of}
use Rattle.nbt_host.specs.Servers.{noted_of, after_turn}
use Rattle.nbt_host.specs.Inner.Noting.{NotedTurn}
use Rattle.nbt_host.specs.Inner.Through.{Through}
use Rattle.nbt_host.specs.declared.asked.Asked.{Asked}
use Rattle.nbt_host.specs.declared.asked.Noted.{Noted}
use Rattle.nbt_host.specs.Turning.{GoesThrough, TakesTurn, BreaksTurn}
use Rattle.nbt_host.specs.declared.arguments.HostArguments.{HostArguments}
use Rattle.nbt_host.specs.declared.host.Shown.{Shown}

module _ {P K : Type 0} (does : P → PortCall → P → Type 0) (tells : K → ℕ → K → Type 0) (looks : K → Look → K → Type 0) (a : HostArguments) (old_port port : P) (old mid new : HostingValue K) (shown : Shown)
    (told : tells mid.watch shown.at new.watch) (slept : shown.slept ≡ mid.last.slept) (rest : new ≡ record mid { watch = new.watch }) where
  goes_through : (turns : Terms → HostValue → List PortCall → List Look → HostValue → Type 0) → Through turns does looks a old_port old port mid → GoesThrough turns does tells looks a old_port old shown port new
  goes_through turns x =
      let host_is : mid.host ≡ new.host = sym (ap (λ (h : HostingValue K). h.host) rest) in
      let last_is : new.last ≡ mid.last = ap (λ (h : HostingValue K). h.last) rest in
      let asked_is : new.asked ≡ mid.asked = ap (λ (h : HostingValue K). h.asked) rest in
      record {
        acts = x.0;
        seen = x.1;
        mid = mid.watch;
        turn = subst (λ (h : HostValue). turns (terms_of a old.asked) old.host x.0 x.1 h) host_is x.2;
        last_is = last_is ∙ x.3;
        asked_is = asked_is ∙ x.6 ∙ ap (λ (l : Look). after_turn (noted_of old.asked.server x.0) l.at old.asked) (sym last_is);
        port_did = x.4;
        looked = x.5;
        told = told;
        slept_is = slept ∙ sym (ap (λ (l : Look). l.slept) last_is);
      }

  pub takes_turn : Through HostTurn does looks a old_port old port mid → TakesTurn does tells looks a old_port old shown port new
  takes_turn x = goes_through HostTurn x

  pub breaks_turn : Through HostBreaks does looks a old_port old port mid → BreaksTurn does tells looks a old_port old shown port new
  breaks_turn x = goes_through HostBreaks x

  pub turned_so : {A : Type 0} (r : Result A Device) → OnOk r (Through HostTurn does looks a old_port old port mid) → OnErr r (Through HostBreaks does looks a old_port old port mid)
      → TakesTurn does tells looks a old_port old shown port new ⊎ BreaksTurn does tells looks a old_port old shown port new
  turned_so (Ok done) turn breaks = inl (takes_turn turn)
  turned_so (Err failure) turn breaks = inr (breaks_turn breaks)

-- a turn whose calls of the port were noted, and the server that is asked after it
pub went_through : {P K : Type 0} (does : P → PortCall → P → Type 0) (looks : K → Look → K → Type 0) (a : HostArguments) (old_port port : P) (old : HostingValue K) (watch : K) (last : Look) (host : HostValue) (noted : Noted) (asked : Asked)
    (turns : Terms → HostValue → List PortCall → List Look → HostValue → Type 0) → asked ≡ after_turn noted last.at old.asked
    → NotedTurn turns does looks (terms_of a old.asked) noted (record { port = old_port; watch = old.watch; last = old.last; host = old.host }) (record { port = port; watch = watch; last = last; host = host })
    → Through turns does looks a old_port old port (record { watch = watch; last = last; asked = asked; host = host })
went_through does looks a old_port port old watch last host noted asked turns is x = (x.0, x.1, x.2, x.3, x.4, x.5, is ∙ ap (λ (n : Noted). after_turn n last.at old.asked) x.6)
