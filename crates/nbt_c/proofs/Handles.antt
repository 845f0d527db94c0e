-- The handle of each object, as `InMemory` has handles.
use Rattle.std.proofs.Common.{refl}
use Rattle.nbt_c.specs.Memory.{node_row, server_row, joiner_row, pieces_row, caller_row, listener_row}
use Rattle.nbt_c.specs.declared.held.CNode.{CNode}
use Rattle.nbt_c.specs.declared.held.CServer.{CServer}
use Rattle.nbt_c.specs.declared.held.CJoiner.{CJoiner}
use Rattle.nbt_c.specs.declared.held.CPieces.{CPieces}
use Rattle.nbt_c.specs.declared.held.CCaller.{CCaller}
use Rattle.nbt_c.specs.declared.held.CListener.{CListener}
use Rattle.nbt_c.specs.contracts.held.CNode.{struct as node_struct, the_codes as node_codes}
use Rattle.nbt_c.specs.contracts.held.CServer.{struct as server_struct, the_codes as server_codes}
use Rattle.nbt_c.specs.contracts.held.CJoiner.{struct as joiner_struct, the_codes as joiner_codes}
use Rattle.nbt_c.specs.contracts.held.CPieces.{struct as pieces_struct, the_codes as pieces_codes}
use Rattle.nbt_c.specs.contracts.held.CCaller.{struct as caller_struct, the_codes as caller_codes}
use Rattle.nbt_c.specs.contracts.held.CListener.{struct as listener_struct, the_codes as listener_codes}
use Rattle.nbt_c.proofs.InMemory.{Held}

abbrev pub node_handle : Held
node_handle = record { value = node_row; name = node_struct.name; D = CNode; at = λ d. d.at; held = λ d. d.node; make = λ p m. record { at = p; node = m }; eta = λ d. refl; beta = λ p m. refl; codes = node_codes }

abbrev pub server_handle : Held
server_handle = record { value = server_row; name = server_struct.name; D = CServer; at = λ d. d.at; held = λ d. d.server; make = λ p m. record { at = p; server = m }; eta = λ d. refl; beta = λ p m. refl; codes = server_codes }

abbrev pub joiner_handle : Held
joiner_handle = record { value = joiner_row; name = joiner_struct.name; D = CJoiner; at = λ d. d.at; held = λ d. d.joiner; make = λ p m. record { at = p; joiner = m }; eta = λ d. refl; beta = λ p m. refl; codes = joiner_codes }

abbrev pub pieces_handle : Held
pieces_handle = record { value = pieces_row; name = pieces_struct.name; D = CPieces; at = λ d. d.at; held = λ d. d.pieces; make = λ p m. record { at = p; pieces = m }; eta = λ d. refl; beta = λ p m. refl; codes = pieces_codes }

abbrev pub caller_handle : Held
caller_handle = record { value = caller_row; name = caller_struct.name; D = CCaller; at = λ d. d.at; held = λ d. d.caller; make = λ p m. record { at = p; caller = m }; eta = λ d. refl; beta = λ p m. refl; codes = caller_codes }

abbrev pub listener_handle : Held
listener_handle = record { value = listener_row; name = listener_struct.name; D = CListener; at = λ d. d.at; held = λ d. d.listener; make = λ p m. record { at = p; listener = m }; eta = λ d. refl; beta = λ p m. refl; codes = listener_codes }
