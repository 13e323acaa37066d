-- Read Honest first: what an honest gateway answers a client. Stands is what a put leaves, Trips what is got again, Said
-- what an honest answer has to do with the gateway's own theorem, and Told what callers are told in a run.
pub mod Honest
pub mod Stands
pub mod Trips
pub mod Said
pub mod Told
