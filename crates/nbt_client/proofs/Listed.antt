-- What a reply lists, or that it lists nothing.
use Rattle.std.proofs.Common.{◌≡◌, ◌≢◌, ℕ, ◌+◌, Bool, true, false, nat_eq, List, [], ◌∷◌, ◌++◌, length, sym, ap, ◌∙◌, arith, append-nil, length-append, eq-eqb, ne_eqb}
use Rattle.std.specs.Prelude.{if◌then◌else◌}
use Rattle.nbt_show.specs.declared.reply.Reply.TheVariants as r
use Rattle.nbt_show.specs.Replies.{PrintsReply}
use Rattle.nbt_client.specs.Answers.{no_names, TellsEnding, tells_found, tells_no_names}
use Rattle.nbt_client.specs.declared.answer.Answer.TheVariants as a
use Rattle.nbt_client.specs.declared.lookup.Ending.TheVariants as e

-- by the length of what stood before
pub found_told : (shown old text mid new octets : List ℕ) → shown ≡ old → PrintsReply octets r.Found text → mid ≡ old ++ text → new ≡ (if nat_eq (length mid) (length shown) then mid ++ no_names else mid)
    → (told : List ℕ) × TellsEnding e.Told octets a.Found told × (new ≡ old ++ told)
found_told shown old [] mid new octets before prints is so =
    let same : mid ≡ old = is ∙ append-nil old in
    let test : nat_eq (length mid) (length shown) ≡ true = eq-eqb (length mid) (length shown) (ap length (same ∙ sym before)) in
    (no_names, tells_no_names octets prints, so ∙ (ap (λ (b : Bool). if b then mid ++ no_names else mid) test ∙ ap (λ (m : List ℕ). m ++ no_names) same))
found_told shown old (first ∷ text) mid new octets before prints is so =
    let long_before : length shown ≡ length old = ap length before in
    let long : length mid ≡ length old + length (first ∷ text) = ap length is ∙ length-append old (first ∷ text) in
    let apart : length mid ≢ length shown = omega arith in
    let test : nat_eq (length mid) (length shown) ≡ false = ne_eqb (length mid) (length shown) apart in
    (first ∷ text, tells_found octets first text prints, so ∙ (ap (λ (b : Bool). if b then mid ++ no_names else mid) test ∙ is))
