-- Read ObjectSites and ObjectNames for where objects stand, then RequestHeads for what is told. ReplyAnswers and
-- ReplyFaults are what replies say, and ErrorCodes is where their codes stand.
pub mod ObjectSites
pub mod ObjectNames
pub mod RequestHeads
pub mod ReplyAnswers
pub mod ReplyFaults
pub mod ErrorCodes
