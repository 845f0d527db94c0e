use Rattle.nbt_front.proofs.NetworkByNetwork.{SoFar, Failing}
use Rattle.nbt_front.proofs.network_file.read_networks.Given as goal

abbrev pub invariant-lines : goal.invariant-lines
invariant-lines l = record {
  so_far : SoFar l.lines l.place l.networks.items;
  failing : Failing l.lines l.place l.networks.items;
}
