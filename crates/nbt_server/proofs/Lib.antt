-- Common: the words and the lemmas of std that most proofs cite.
pub mod Common
-- Rules: what the code has found, as a line of the server's rules.
pub mod Rules
-- OneServing: two answers of the rules are the same.
pub mod OneServing
-- Shifting: a server by a clock that shows a constant more does the same.
pub mod Shifting
