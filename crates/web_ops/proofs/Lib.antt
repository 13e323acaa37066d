pub mod Looks
pub mod Found
pub mod Amid
pub mod OneLook
pub mod CarriedOut
