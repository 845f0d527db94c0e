use Rattle.std.proofs.Common.{◌≡◌, ◌∙◌, ℕ, true, List, length, sym, ap, subst, rules}
use Rattle.std.specs.Prelude.{◌==◌}
use Rattle.std.proofs.lemmas.Slice.Eq.{bytes_eq-Decides}
use Rattle.nbt_text.specs.HostNames.{IsHostName}
use Rattle.nbt_log.specs.Hosts.{server_octets}
use Rattle.nbt_log.proofs.Filling.{host_is_one}
use Rattle.nbt_log.proofs.hosts.host_of.Goals.{else-is_empty-via-then-is_empty+then-is_host_name+else-eq, else-is_empty-via-then-is_empty+else-is_host_name, else-is_empty-via-else-is_empty}
use Rattle.nbt_log.proofs.hosts.host_of.Goals as goal

pub returns-else-is_empty-clause-none : goal.returns-else-is_empty-clause-none
returns-else-is_empty-clause-none c = λ _ host is.
    let cut = c.before_space-host.ensures in
    let octets : c.as_slice.result.now ≡ server_octets host = c.as_slice.ensures ∙ (c.octets.ensures.value ∙ is.octets_are) in
    let one : c.before_space-host.result.now ≡ host = host_is_one c.as_slice.result.now c.before_space-host.result.now cut.0 host cut.1 is.is_name octets in
    elim c.else-is_empty.branch [
      | else-is_empty-via-then-is_empty+then-is_host_name+else-eq w ↦
          let same : w.filled.result ≡ w.octets-then-is_host_name.result.now = w.filled.ensures ∙ (ap server_octets one ∙ (sym is.octets_are ∙ sym w.octets-then-is_host_name.ensures.value)) in
          let equal = w.eq.ensures ∙ (bytes_eq-Decides w.filled.result w.octets-then-is_host_name.result.now).1 same in
          let other = w.if-eq.false in
          absurd cc
      | else-is_empty-via-then-is_empty+else-is_host_name w ↦ let named = w.is_host_name.ensures.1 (subst IsHostName (sym one) is.is_name) in absurd (search (rules, named))
      | else-is_empty-via-else-is_empty w ↦
          let empty : c.is_empty.result ≡ true = c.is_empty.ensures ∙ ap (λ (xs : List ℕ). length xs == 0) (c.scope.ensures.value ∙ is.no_scope) in
          let other = w.if-is_empty.false in
          absurd cc
    ]
