-- What a reader must believe of the machine: ascending lists and the order of sequences, the rules and the calls, which picks go with a phase.
pub mod Sequences
pub mod Machine
pub mod Calls
pub mod Keeping
pub mod ByNumber
pub mod private
