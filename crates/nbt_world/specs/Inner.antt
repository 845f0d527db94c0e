-- What carries the proof that no two nodes hold one name: who reads what is promised needs none of it.
pub mod Kept
pub mod Facts
pub mod Handing
