use Rattle.std.proofs.Common.{◌≡◌, ◌++◌, ℕ, List, Result, Ok, Err, codes, append_assoc, refl}
use Rattle.std.specs.Bool.{if◌then◌else◌}
use Rattle.std.specs.Prelude.{OnOk}
use Rattle.std.specs.Result.{is_ok}
use Rattle.std.specs.declared.alloc.AllocError.{AllocError}
use Rattle.std.specs.String.{string_bytes}
use Rattle.nbt_session.specs.Packet.{packet_of}
use Rattle.nbt_text.specs.Address.{address_text}
use Rattle.nbt_show.specs.DgramText.{two_digits}
use Rattle.nbt_text.specs.Lines.{newline}
use Rattle.nbt_show.specs.SessionText.{PrintsPacketLine, message_line, request_line, of_message, of_request, of_positive, of_negative, of_retarget, of_keep_alive}
use Rattle.nbt_text.proofs.Joining.{OnOk-map, three_parts}
use Rattle.nbt_show.proofs.session_text.write_other_line.Goals as goal

-- a line that is written at once
one_line : (P : List ℕ → Type 0) (old new : List ℕ) (r : Result (Unit {0}) AllocError) (line : List ℕ) → new ≡ (if is_ok r then old ++ line else old) → P line → OnOk r ((text : List ℕ) × (new ≡ old ++ text) × P text)
one_line P old new (Ok u) line written is = (line, written, is)
one_line P old new (Err e) line written is = tt

pub returns-in-Message : goal.returns-in-Message
returns-in-Message c = OnOk-map c.write_message_line.result c.write_message_line.ensures (λ e. (
  message_line c.in-Message.octets.items,
  rw (e, c.deref.ensures.value) refl,
  rw c.in-Message.is (of_message c.in-Message.octets.items),
))

pub returns-in-Request : goal.returns-in-Request
returns-in-Request c = OnOk-map c.write_request_line.result c.write_request_line.ensures (λ line. (
  request_line line.0 line.1,
  line.2,
  rw c.in-Request.is (of_request c.in-Request.called c.in-Request.calling line.0 line.1 line.3 line.4),
))

pub returns-in-Positive : goal.returns-in-Positive
returns-in-Positive c = one_line (PrintsPacketLine (packet_of c.args.packet.now)) (string_bytes c.args.out.now) (string_bytes c.push_str.new.self) c.push_str.result (codes "positive" ++ newline) c.push_str.ensures.bytes (rw c.in-Positive.is of_positive)

pub returns-in_ok-write_octet-in-Negative : goal.returns-in_ok-write_octet-in-Negative
returns-in_ok-write_octet-in-Negative c = OnOk-map c.end_line.result c.end_line.ensures (λ e. (
  codes "negative " ++ two_digits c.in-Negative.code ++ newline,
  rw (e, c.in_ok-write_octet-in-Negative.ensures, c.in_ok-push_str-in-Negative.ensures.bytes) (simp append_assoc),
  rw c.in-Negative.is (of_negative c.in-Negative.code),
))

pub returns-in_ok-write_address-in-Retarget : goal.returns-in_ok-write_address-in-Retarget
returns-in_ok-write_address-in-Retarget c = OnOk-map c.end_line-in-Retarget.result c.end_line-in-Retarget.ensures (λ e. (
  codes "retarget " ++ address_text c.in-Retarget.to ++ newline,
  three_parts _ (codes "retarget ") (address_text c.in-Retarget.to) newline _ _ _ c.in_ok-push_str-in-Retarget.ensures.bytes c.in_ok-write_address-in-Retarget.ensures e,
  rw c.in-Retarget.is (of_retarget c.in-Retarget.to),
))

pub returns-in-KeepAlive : goal.returns-in-KeepAlive
returns-in-KeepAlive c = one_line (PrintsPacketLine (packet_of c.args.packet.now)) (string_bytes c.args.out.now) (string_bytes c.push_str-in-KeepAlive.new.self) c.push_str-in-KeepAlive.result (codes "keep-alive" ++ newline) c.push_str-in-KeepAlive.ensures.bytes (rw c.in-KeepAlive.is of_keep_alive)
