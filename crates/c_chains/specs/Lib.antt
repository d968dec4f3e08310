-- What a reader must believe of judging, growing, rivals and deciding pairs on lent words.
pub mod Serving
