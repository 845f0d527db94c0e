-- What several proofs share; the proof of a function is in the folder of its module and its name.

-- what comes to the server, and what leaves
pub mod Handing
-- steps, one after the other
pub mod Stepping
-- one thing that is done between two turns
pub mod Doing
-- what was set aside
pub mod Looking
-- nothing is done
pub mod Idling
-- what is done keeps what holds of each further address
pub mod Keeping
-- nothing can be done
pub mod Resting
