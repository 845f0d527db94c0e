use Rattle.std.proofs.Common.{◌∙◌, ℕ, List, ◌++◌, ap, refl, rules, lit<}
use Rattle.std.specs.String.{string_bytes}
use Rattle.nbt_text.specs.Address.{address_text}
use Rattle.nbt_store.specs.Words.{end_of}
use Rattle.nbt_store.proofs.WordLists.{adds_behind, host_word}
use Rattle.nbt_store.proofs.writing.add_host.Goals as goal

pub returns : goal.returns
returns c =
    let text = address_text (end_of c.args.addr) in (
      text,
      record { ip_fits = search rules; port_fits = lit< tt; text_is = refl },
      adds_behind (string_bytes c.args.out.now) (string_bytes c.write_address.new.out) text (host_word c.args.addr (search rules))
          (c.in_ok-write_address.ensures ∙ ap (λ (xs : List ℕ). xs ++ text) c.in_ok-push_str.ensures.bytes),
    )
