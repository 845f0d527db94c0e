-- Moments, moves along equations, and room that is left.
mod Calls
-- What most proofs cite.
mod Common
-- A call of a session sends requests alone.
mod Calling
-- What crosses to C lies there as the header declares it.
mod Crossing
-- Forms of a name, its word, and the dot before a scope's labels.
mod Forms
-- Session packets in octets.
mod Framed
-- The handle of each object.
mod Handles
-- What a node reports of a datagram.
mod Heard
-- A value in C's memory, of whatever type: it is put there, and borrowed.
mod InMemory
-- A listener sends no message.
mod Listened
-- The packets that data are split into have room.
mod Packets
