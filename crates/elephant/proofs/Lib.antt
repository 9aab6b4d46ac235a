-- demand 2: no second answer meets the contracts
pub mod OneAnswer
pub mod Verdicts
pub mod Ends
pub mod Ending
pub mod Walking
pub mod Makes
pub mod Changes
pub mod Rewrites
pub mod Written
pub mod Readings
pub mod Clearings
pub mod Destroying
pub mod Turns
pub mod Grants
pub mod Asking
pub mod Entering
pub mod Promises
pub mod Requests
pub mod Links
pub mod Places
pub mod Granted
pub mod Refused
mod Trees
