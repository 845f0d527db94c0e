-- A host begins, and what follows from how its calls came out.
use Rattle.std.proofs.Common.{◌≡◌, ℕ, List, Option, length, ap, subst, ◌∙◌}
use Rattle.std.specs.Io.KnownBytes.{Appends}
use Rattle.std.proofs.lemmas.List.{length-map}
use Rattle.nbt_name.specs.declared.addr.Addr.{Addr}
use Rattle.nbt_host.specs.declared.watching.Look.{Look}
use Rattle.nbt_host.specs.Hosting.{HostValue}
use Rattle.nbt_host.specs.Goals.{wanted}
use Rattle.nbt_host.specs.Begin.{begin_text}
use Rattle.nbt_host.specs.Host.{HostingValue, Running, Starts, first_host}
use Rattle.nbt_host.specs.Running.{Begins}
use Rattle.nbt_port.specs.Until.{until_of}
use Rattle.nbt_host.specs.declared.arguments.HostArguments.{HostArguments}

-- as many names are told of as are wanted
count_of : (a : HostArguments) (look : Look) (host : HostValue) → host ≡ first_host a look → length host.goals ≡ length a.wants.items
count_of a look host is = ap (λ (h : HostValue). length h.goals) is ∙ length-map a.wants.items (wanted a.config)

pub begins : {P K : Type 0} (looks : K → Look → K → Type 0) (at : Addr) (a : HostArguments) (goes : (until : Option ℕ) → Running P K → Running P K → Type 0)
    (old_port port : P) (watch : K) (old_text begun_text text : Option (List ℕ)) (first last : HostingValue K) (until : Option ℕ)
    → Starts looks a watch first → Appends old_text begun_text (begin_text at a.server (length first.host.goals)) → until ≡ until_of first.last.at a.time
    → goes until (record { port = old_port; host = first; text = begun_text }) (record { port = port; host = last; text = text }) → Begins looks at a goes old_port watch old_text port text
begins looks at a goes old_port port watch old_text begun_text text first last until starts printed is run = record {
  first = first;
  begun_text = begun_text;
  last = last;
  starts = starts;
  printed = subst (λ (n : ℕ). Appends old_text begun_text (begin_text at a.server n)) (count_of a first.last first.host starts.host_is) printed;
  goes_on = subst (λ (u : Option ℕ). goes u (record { port = old_port; host = first; text = begun_text }) (record { port = port; host = last; text = text })) is run;
}
