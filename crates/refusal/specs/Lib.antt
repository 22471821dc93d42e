-- What the contracts of `refusal` cite, and every other table of refusals.
pub mod Refusals
