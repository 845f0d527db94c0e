use Rattle.std.proofs.Common.{append_assoc}
use Rattle.nbt_text.proofs.Joining.{OnOk-map}
use Rattle.nbt_show.proofs.packet_text.write_type_and_class.Goals as goal

pub returns : goal.returns
returns c = OnOk-map c.write_word-2.result c.write_word-2.ensures
    (λ e. rw (e, c.in_ok-push_str-2.ensures.bytes, c.in_ok-write_word.ensures, c.in_ok-push_str.ensures.bytes) (simp append_assoc))
