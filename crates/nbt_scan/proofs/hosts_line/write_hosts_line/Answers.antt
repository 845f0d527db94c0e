use Rattle.std.proofs.Common.{◌≡◌, ◌++◌, ◌∙◌, ℕ, List, [], Option, refl, sym, ap, subst, rules}
use Rattle.std.proofs.lemmas.List.{append-nil}
use Rattle.std.specs.String.{string_bytes}
use Rattle.nbt_text.specs.HostNames.{IsHostName, host_line}
use Rattle.nbt_text.proofs.Joining.{OnOk-map}
use Rattle.nbt_scan.specs.Cells.{PrintsName}
use Rattle.nbt_scan.specs.Lines.{of_host, of_other}
use Rattle.nbt_scan.proofs.hosts_line.write_hosts_line.Goals as goal

pub returns-then-not-is_host_name : goal.returns-then-not-is_host_name
returns-then-not-is_host_name c =
    let name = c.in_ok-write_name.ensures in
    let word = name.0 in
    let whole : c.as_bytes-host.result.now ≡ word = c.as_bytes-host.ensures.value ∙ c.as_str.ensures.value ∙ name.2 ∙ ap (λ (front : List ℕ). front ++ word) c.new-word.ensures.bytes in
    let prints = subst (λ (n : Option (List ℕ)). PrintsName n word) c.name_of.ensures name.1 in
    let other : ¬ IsHostName word = λ is. let named = c.is_host_name.ensures.1 (subst IsHostName (sym whole) is) in absurd (search (rules, named)) in
    ([], of_other word prints other refl, sym (append-nil (string_bytes c.args.out.now)))

pub returns : goal.returns
returns c =
    let name = c.in_ok-write_name.ensures in
    let word = name.0 in
    let whole : c.as_bytes-host.result.now ≡ word = c.as_bytes-host.ensures.value ∙ c.as_str.ensures.value ∙ name.2 ∙ ap (λ (front : List ℕ). front ++ word) c.new-word.ensures.bytes in
    let prints = subst (λ (n : Option (List ℕ)). PrintsName n word) c.name_of.ensures name.1 in
    let is : IsHostName word = subst IsHostName whole (c.is_host_name.ensures.0 (search rules)) in
    OnOk-map c.write_host.result c.write_host.ensures (λ e. (host_line c.args.ip word, of_host word prints is refl, e ∙ ap (λ (host : List ℕ). string_bytes c.args.out.now ++ host_line c.args.ip host) whole))
