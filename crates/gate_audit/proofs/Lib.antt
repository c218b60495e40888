mod ExpectedEvents
mod Laws
mod WholeGiven
mod LostEvents
