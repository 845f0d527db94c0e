use Rattle.std.proofs.Common.{◌∙◌, ◌≡◌, ◌<◌, ◌^◌, Option, Some, None, refl, arith, rules}
use Rattle.std.specs.Prelude.{◌↔◌}
use Rattle.nbt_name.specs.declared.addr.Addr.{Addr}
use Rattle.nbt_text.specs.Address.{SpellsAddress, address_text}
use Rattle.nbt_text.proofs.AddressText.{from_second, from_third, from_fourth, address_text-from_first, address_text_joined, joined_octets, octet_lt}
use Rattle.nbt_text.proofs.address.parse_address.Goals as goal

no_address : (r : Option Addr) (a : Addr) (P : Type 0) → r ≡ None → ¬ P → (r ≡ Some a) ↔ P
no_address r a P none other = (λ e. absurd cc, λ p. absurd (other p))

pub returns-in_err-first : goal.returns-in_err-first
returns-in_err-first c = λ a. no_address _ a _ (search rules) (λ (s : SpellsAddress c.args.text.now a).
    let low = octet_lt a.ip s.ip_fits in
    c.in_err-first.ensures.found _ (from_second a) low.0 (s.text_is ∙ address_text-from_first a))

pub returns-in_err-second : goal.returns-in_err-second
returns-in_err-second c = λ a. no_address _ a _ (search rules) (λ (s : SpellsAddress c.args.text.now a).
    let low = octet_lt a.ip s.ip_fits in
    let one = c.in_ok-first.ensures.found _ (from_second a) low.0 (s.text_is ∙ address_text-from_first a) in
    c.in_err-second.ensures.found _ (from_third a) low.1 one.1)

pub returns-in_err-third : goal.returns-in_err-third
returns-in_err-third c = λ a. no_address _ a _ (search rules) (λ (s : SpellsAddress c.args.text.now a).
    let low = octet_lt a.ip s.ip_fits in
    let one = c.in_ok-first.ensures.found _ (from_second a) low.0 (s.text_is ∙ address_text-from_first a) in
    let two = c.in_ok-second.ensures.found _ (from_third a) low.1 one.1 in
    c.in_err-third.ensures.found _ (from_fourth a) low.2 two.1)

pub returns-in_err-fourth : goal.returns-in_err-fourth
returns-in_err-fourth c = λ a. no_address _ a _ (search rules) (λ (s : SpellsAddress c.args.text.now a).
    let low = octet_lt a.ip s.ip_fits in
    let one = c.in_ok-first.ensures.found _ (from_second a) low.0 (s.text_is ∙ address_text-from_first a) in
    let two = c.in_ok-second.ensures.found _ (from_third a) low.1 one.1 in
    let three = c.in_ok-third.ensures.found _ (from_fourth a) low.2 two.1 in
    c.in_err-fourth.ensures.found _ _ low.3 three.1)

pub returns-in_err-port : goal.returns-in_err-port
returns-in_err-port c = λ a. no_address _ a _ (search rules) (λ (s : SpellsAddress c.args.text.now a).
    let low = octet_lt a.ip s.ip_fits in
    let one = c.in_ok-first.ensures.found _ (from_second a) low.0 (s.text_is ∙ address_text-from_first a) in
    let two = c.in_ok-second.ensures.found _ (from_third a) low.1 one.1 in
    let three = c.in_ok-third.ensures.found _ (from_fourth a) low.2 two.1 in
    let four = c.in_ok-fourth.ensures.found _ _ low.3 three.1 in
    let bad = c.in_err-port.ensures.found a.port s.port_fits four.1 in cc)

pub returns : goal.returns
returns c = λ a. (
  λ e.
      let text = address_text_joined c.in_ok-first.first c.in_ok-second.second c.in_ok-third.third c.in_ok-fourth.fourth c.joined.result c.in_ok-port.port
      c.in_ok-first.ensures.bound c.in_ok-second.ensures.bound c.in_ok-third.ensures.bound c.in_ok-fourth.ensures.bound c.joined.ensures in
      let one = c.in_ok-first.ensures.read in
      let two = c.in_ok-second.ensures.read in
      let three = c.in_ok-third.ensures.read in
      let four = c.in_ok-fourth.ensures.read in
      let port = c.in_ok-port.ensures.read.1 in
      let spelled : c.args.text.now ≡ address_text (record { ip = c.joined.result; port = c.in_ok-port.port }) = cc in
      let low : c.joined.result < 2 ^ 32 = omega (arith, c.joined.ensures, c.in_ok-first.ensures.bound, c.in_ok-second.ensures.bound, c.in_ok-third.ensures.bound, c.in_ok-fourth.ensures.bound) in
      let same : record { ip = c.joined.result; port = c.in_ok-port.port } ≡ a = cc in
      rw (← same) (record { ip_fits = low; port_fits = c.in_ok-port.ensures.read.0; text_is = spelled }),
  λ (s : SpellsAddress c.args.text.now a).
      let low = octet_lt a.ip s.ip_fits in
      let one = c.in_ok-first.ensures.found _ (from_second a) low.0 (s.text_is ∙ address_text-from_first a) in
      let two = c.in_ok-second.ensures.found _ (from_third a) low.1 one.1 in
      let three = c.in_ok-third.ensures.found _ (from_fourth a) low.2 two.1 in
      let four = c.in_ok-fourth.ensures.found _ _ low.3 three.1 in
      let port = c.in_ok-port.ensures.found a.port s.port_fits four.1 in
      let same : c.joined.result ≡ a.ip = c.joined.ensures ∙ (rw (one.0, two.0, three.0, four.0) (joined_octets a.ip s.ip_fits)) in
      let same_port : c.in_ok-port.port ≡ a.port = cc in rw (same, same_port) refl,
)
