use Rattle.std.proofs.Common.{◌≡◌, ◌∙◌, ℕ, List, [], length, ap, subst, rules, tests}
use Rattle.std.proofs.lemmas.List.{drop_all, nil_from_length}
use Rattle.nbt_text.specs.Lines.{lines}
use Rattle.nbt_text.specs.Texts.{texts}
use Rattle.nbt_front.specs.Networks.{NetworkValue}
use Rattle.nbt_front.specs.NetworkFiles.{ReadsNetworks}
use Rattle.nbt_front.proofs.NetworkByNetwork.{one_more, later_fault, refused_here, all_read}
use Rattle.nbt_front.proofs.network_file.read_networks.Goals as goal

pub lines-preserved : goal.lines-preserved
lines-preserved c = record {
  so_far = one_more c.as_slice-lines.result.now c.lines.place c.lines.networks.items _ c.lines-test.true c.take_network.new.networks.items c.in-Ok.ensures.ok c.lines.invariant.so_far;
  failing = later_fault c.as_slice-lines.result.now c.lines.place c.lines.networks.items _ c.lines-test.true c.take_network.new.networks.items c.in-Ok.ensures.ok c.lines.invariant.failing;
}

pub returns-in-Err-clause-fault : goal.returns-in-Err-clause-fault
returns-in-Err-clause-fault c =
    rw c.fault_at.ensures (refused_here c.as_slice-lines.result.now c.lines.place c.lines.networks.items _ c.lines-test.true c.args.text.now (ap texts c.as_slice-lines.ensures.value ∙ c.in_ok-lines.ensures) c.in-Err.refused
    c.in-Err.ensures.err c.lines.invariant.failing)

pub returns-then-is_empty-clause-fault : goal.returns-then-is_empty-clause-fault
returns-then-is_empty-clause-fault c =
    let all = c.as_slice-lines.result.now in
    let none : c.lines.networks.items ≡ [] = nil_from_length c.lines.networks.items (search (rules, tests)) in
    subst (λ (networks : List NetworkValue). ReadsNetworks [] (lines c.args.text.now) networks) none
    (subst (λ (ls : List (List ℕ)). ReadsNetworks [] ls c.lines.networks.items) (ap texts c.as_slice-lines.ensures.value ∙ c.in_ok-lines.ensures)
    (all_read all c.lines.place c.lines.networks.items (drop_all c.lines.place all c.lines-test.false) c.lines.invariant.so_far))

pub returns-clause-networks : goal.returns-clause-networks
returns-clause-networks c =
    let all = c.as_slice-lines.result.now in (
      subst (λ (ls : List (List ℕ)). ReadsNetworks [] ls c.lines.networks.items) (ap texts c.as_slice-lines.ensures.value ∙ c.in_ok-lines.ensures)
          (all_read all c.lines.place c.lines.networks.items (drop_all c.lines.place all c.lines-test.false) c.lines.invariant.so_far),
      λ none. let long : length c.lines.networks.items ≡ 0 = ap length none in search (rules, tests, long),
    )
