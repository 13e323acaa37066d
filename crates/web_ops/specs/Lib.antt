-- Read Answers first: what each request is answered, over Replies and Uploads. Replied says the same over any stores,
-- and Amid over stores that others change.
pub mod Encoding
pub mod Uploads
pub mod Answers
pub mod Reach
pub mod Agree
pub mod Replied
pub mod Amid
pub mod Changes
pub mod Calls
