-- What a reader must believe of the program's own answers: which cutoff a word is. All else that it answers is the library's.
pub mod Cutoff
