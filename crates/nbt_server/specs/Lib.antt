pub mod Serving
pub mod Outcomes
pub mod Calls
pub mod Shifted
pub mod Numbers
pub mod OneAnswer
