use Rattle.std.proofs.Common.{◌≡◌, ◌∙◌, ℕ, List, Option, Some, None, true, sym, ap, subst}
use Rattle.std.specs.Prelude.{is_some}
use Rattle.std.proofs.lemmas.Result.{IfOk-weaker}
use Rattle.hex.specs.Hex.{encode_lower}
use Rattle.nbt_packet.specs.Message.{MessageValue}
use Rattle.nbt_packet.specs.Spelling.{AreWritten}
use Rattle.nbt_server.specs.Calls.{ServerTakes}
use Rattle.nbt_server.specs.Serving.{ServerValue}
use Rattle.nbt_text.specs.Lines.{one_line}
use Rattle.nbt_prog.specs.Answering.{answer_text}
use Rattle.nbt_prog.proofs.offline.answering.reply_line.Goals as goal

-- a reply that was written, in hexadecimal
in_digits : (reply : Option MessageValue) (octets : List ℕ) → is_some reply ≡ true → AreWritten reply octets → one_line (encode_lower octets) ≡ answer_text reply
in_digits None octets is written = absurd cc
in_digits (Some reply) octets is written = ap (λ (xs : List ℕ). one_line (encode_lower xs)) written.0

pub returns-then-is_reply : goal.returns-then-is_reply
returns-then-is_reply c =
    let served = c.in-Ok.ensures.served in
    let there : is_some served.0 ≡ true = sym served.2 ∙ c.if-is_reply.true in
    IfOk-weaker c.hexadecimal_line.result _ _
    (λ line is. (
      served.0,
      c.on_datagram.new.self,
      subst (λ (v : ServerValue). ServerTakes v c.args.at c.args.from.ip c.args.octets.now served.0 c.on_datagram.new.self) c.new_server-server.ensures served.1,
      is ∙ (ap (λ (xs : List ℕ). one_line (encode_lower xs)) c.as_slice.ensures.value ∙ in_digits served.0 _ there served.3),
    )) c.hexadecimal_line.ensures
