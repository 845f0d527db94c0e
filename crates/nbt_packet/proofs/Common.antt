-- The words and the lemmas of std that most proofs of this crate cite, passed on from one place.
pub use Rattle.std.specs.Prelude.{Bool, Err, false, IfErr, IfOk, is_ok, IsErr, IsTrue, Ok, replicate, Result, slice_index, slice_range, true, ◌↔◌, ◌⊎◌}
pub use Rattle.std.proofs.lemmas.Bool.{cases_lt, iff_false, true≢false}
pub use Rattle.std.proofs.lemmas.List.{append-nil, length-append, length-drop, length-take-le, take_at}
pub use Rattle.std.proofs.lemmas.Option.{same_Some}
pub use Rattle.std.proofs.lemmas.Result.{err_from_is_err_and, IfErr-weaker}
pub use Rattle.nbt_name.specs.Reading.{FaultAt, NameAt}
pub use Rattle.nbt_name.specs.Wire.{AreOctets, IsName, NameValue, wire, wire_size}
pub use Rattle.nbt_name.specs.Words.{long, long_at, word, word_at}
pub use Rattle.nbt_name.specs.declared.addr.Kind.{Kind}
pub use Rattle.nbt_name.specs.declared.addr.Kind.TheVariants.{Group, Unique}
pub use Rattle.nbt_name.specs.declared.fault.NameFault.{NameFault}
pub use Rattle.nbt_name.specs.declared.form.Form.TheVariants.{Compressed}
pub use Rattle.nbt_packet.specs.Inner.Classifying.{IsWrong}
pub use Rattle.nbt_packet.specs.Inner.Decoding.{CountFault, cut, great, IsHeaderOf}
pub use Rattle.nbt_packet.specs.Message.{Answers, AnswersEntry, AreEntries, Claims, ClaimsEntry, Fits, found, GivesName, HoldsNumbers, internet, internet_record, IsChallenge, IsEntry, IsRegistration, IsRequest, IsResponse, message_of, MessageIs, MessageValue, nb, nbstat, not_found, null, opcode_of, overwrite, query, refresh, registered, registration, release, released, status, status_request, wait}
pub use Rattle.nbt_packet.specs.Numbers.{fault_of, short, too_many}
pub use Rattle.nbt_packet.specs.Packet.{additional_bad, additionals, answer_bad, answers, authorities, Count, count_great, CountsFit, decoded, header_cut, IsHeader, packet_of, PacketFault, PacketIs, PacketValue, question_bad, question_cut, question_name, QuestionAt, QuestionFault, questions, rdata_cut, record_cut, record_if, record_name, record_of, RecordAt, RecordFault, RecordValue, SectionAt}
pub use Rattle.nbt_packet.specs.Reasons.{Added, Answered, Asked, asking, claiming, confirming, denying, finding, HasShape, IsOfEntry, IsReason, no_shape, not_right, Shape, waiting}
pub use Rattle.nbt_packet.specs.Spelling.{HasFewRows, Spells}
pub use Rattle.nbt_packet.specs.Text.{answer_octets, claim_octets, entry, found_flags, header, question_octets, record_fields, size_of, text}
pub use Rattle.nbt_packet.specs.declared.decoding.Header.{Header}
pub use Rattle.nbt_packet.specs.declared.fault.Fault.{Fault}
pub use Rattle.nbt_packet.specs.declared.message.Registration.{Registration}
pub use Rattle.nbt_packet.specs.declared.packet.Packet.{Packet}
pub use Rattle.nbt_packet.specs.declared.packet.Question.{Question}
pub use Rattle.nbt_packet.specs.declared.packet.Record.{Record}
pub use Rattle.nbt_packet.specs.declared.reason.Reason.{Reason}
