-- Read Brackets, then MemberCuts; how values are joined is of JoinedObjects.
pub mod Brackets
pub mod MemberCuts
pub mod JoinedObjects
pub mod ScanStates
