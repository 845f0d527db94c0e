use Rattle.std.proofs.Common.{◌≡◌, Some, refl, sym, subst}
use Rattle.nbt_store.specs.Boot.{IsBoot}
use Rattle.nbt_store.proofs.beginning.copy_of.Goals as goal

pub unwrap-requires : goal.unwrap-requires
unwrap-requires c =
    let is : c.new.result ≡ Some c.args.boot.now = (c.new.ensures c.args.boot.now).1 (sym c.octets.ensures.value, subst IsBoot (sym c.octets.ensures.value) c.octets.ensures.boot) in
    rw is refl

pub returns : goal.returns
returns c =
    let is : c.new.result ≡ Some c.args.boot.now = (c.new.ensures c.args.boot.now).1 (sym c.octets.ensures.value, subst IsBoot (sym c.octets.ensures.value) c.octets.ensures.boot) in
    let was = c.unwrap.ensures in
    cc
