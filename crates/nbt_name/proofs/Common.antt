-- The words and the lemmas of std that most proofs of this crate cite, passed on from one place.
pub use Rattle.std.specs.Option.{ForNone}
pub use Rattle.std.specs.Prelude.{IfErr, IfOk, IsTrue, None, slice_get, slice_index, slice_range, slice_set, unwrap_or, ◌↔◌, ◌⊎◌}
pub use Rattle.std.specs.Str.{bytes_eq}
pub use Rattle.std.proofs.Math.ListN.{get_or-eq_default}
pub use Rattle.std.proofs.Math.Nat.{mul-le-mul_right}
pub use Rattle.std.proofs.Math.Seq.{take-add}
pub use Rattle.std.proofs.lemmas.Bool.{and_from, and_parts, both_ways, cases_Bool, cases_eq, cases_lt, cases_order, false_from_ne_true, lt-leb}
pub use Rattle.std.proofs.lemmas.List.{append-nil, drop-drop, drop_at, get_or-drop, get_or-take, get_or_append_left, get_or_at, get_or_past, get_or_read, get_or-set_other, get_or-set_same, length-append, length-drop, length-set, length-take, length-take-le, nil_from_length, take-append-drop, take_at, take_rest}
pub use Rattle.std.proofs.lemmas.List.Concat.{flat_map-cons}
pub use Rattle.std.proofs.lemmas.Option.{slice_get-get_or, slice_get_past, slice_get_within}
pub use Rattle.std.proofs.lemmas.Result.{err_from_is_err_and}
pub use Rattle.std.proofs.lemmas.Slice.Eq.{bytes_eq-Decides}
pub use Rattle.byteorder.specs.Endian.{big_number}
pub use Rattle.byteorder.specs.Numbers.{big_number-reads_back}
pub use Rattle.nbt_name.specs.Inner.Reader.{Goes, HasPassed, passed_of, spot_of}
pub use Rattle.nbt_name.specs.Reading.{Fails, Finds, first_label_bad, here, IsFirst, IsLater, IsLetter, label_bad, label_cut, label_long, label_passes, led, LetterFault, letters_bad, letters_pass, LettersAt, missing, NameAt, octets_end, onward, other_octet, past, Path, PlainNameAt, pointer_cut, pointer_leads, pointer_onward, pointer_plain, Spot, Stands, start, Step, Stuck, target}
pub use Rattle.nbt_name.specs.Scope.{empty, IsScope, label}
pub use Rattle.nbt_name.specs.Wire.{AreOctets, IsName, letters, name_of, NameValue, same_name, wire, wire_size}
pub use Rattle.nbt_name.specs.Words.{long, long_at, word, word_at}
pub use Rattle.nbt_name.specs.declared.fault.NameFault.{NameFault}
pub use Rattle.nbt_name.specs.declared.fault.NameFaultKind.{NameFaultKind}
pub use Rattle.nbt_name.specs.declared.fault.NameFaultKind.TheVariants.{BadHalf, BadLabel, BadPointer, Long, Short}
pub use Rattle.nbt_name.specs.declared.form.Form.{Form}
pub use Rattle.nbt_name.specs.declared.form.Form.TheVariants.{Compressed, Plain}
pub use Rattle.nbt_name.specs.declared.reader.Reader.{Reader}
