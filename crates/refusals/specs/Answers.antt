-- What an entry answers, in 01's words: the number of the refusal, 0 where nothing is refused, and the values beside it, which are
-- blank on a refusal. Each crate reads its own answers through a definition made of these, and no two answers read alike.
use Rattle.std.specs.Prelude.{cond, ℕ, eqb, Result, Ok, Err}
use Rattle.refusals.specs.declared.Refusal.{Refusal}
use Rattle.refusals.specs.declared.Refusal.TheVariants.{
  FileTooLong,
  NotTheBanner,
  LineTooLong,
  SizeFields,
  SizeRange,
  PairFields,
  PairRange,
  PairRepeated,
  PairCount,
  TableShape,
  TableRows,
  ChainCount,
  ChainPairs,
  NotAChain,
  NotReached,
  BufferTooShort,
  NoSuchComment,
  BudgetTooLarge,
  PairAbsent,
  ReadingRange,
  CutoffRange,
  PairInChain,
  CoverShape,
  TooManyChains,
  NotMaximal,
  OtherProposal,
  NotAnArrangement,
  SampleInput,
}

-- the number of a refusal in 01, "Refused, by the place of the check", and in 02
abbrev pub number : Refusal → ℕ
number FileTooLong = 1
number NotTheBanner = 2
number LineTooLong = 3
number SizeFields = 4
number SizeRange = 5
number PairFields = 6
number PairRange = 7
number PairRepeated = 8
number PairCount = 9
number TableShape = 10
number TableRows = 11
number ChainCount = 12
number ChainPairs = 13
number NotAChain = 14
number NotReached = 15
number BufferTooShort = 16
number NoSuchComment = 17
number BudgetTooLarge = 18
-- 02, R-2: "the pair named is not in the table"
number PairAbsent = 19
-- 02, R-5: "20: v out of range"; "21: cutoff out of range"
number ReadingRange = 20
number CutoffRange = 21
-- 02, R-6: "the pair is in the ladder"
number PairInChain = 22
-- 02, R-7: "G or L above 8"; "more than 1,024 ladders"
number CoverShape = 23
number TooManyChains = 24
-- 02, R-9: "the second is no ladder or lacks a pair of the first"; R-10: "not a ladder of the table"
number NotMaximal = 25
-- 02, R-10: "the proposal is not what the trial of its ladder and place on that table gives"
number OtherProposal = 26
-- 02, R-12: "27: not such an arrangement"
number NotAnArrangement = 27
-- 02, R-13: "the start is zero or the density above 256"
number SampleInput = 28

-- an answer: 01's number, 0 where nothing is refused, and the value
pub record Answer (A : Type 0) : Type 0 where
  pub refusal : ℕ
  pub value : A

-- the answer whose refusal is n, with the value where n is 0 and the blank one where it is not
abbrev pub answer : {A : Type 0} → ℕ → A → A → Answer A
answer n value blank = record { refusal = n; value = cond (eqb n 0) value blank }

-- the answer of a refusal
abbrev pub refused : {A : Type 0} → Refusal → A → Answer A
refused why blank = record { refusal = number why; value = blank }

-- how the code's answers read: their number, the value that they give, for which `blank` stands on a refusal, and both
abbrev pub verdict : {A : Type 0} → Result A Refusal → ℕ
verdict (Ok value) = 0
verdict (Err why) = number why

abbrev pub given : {A : Type 0} → A → Result A Refusal → A
given blank (Ok value) = value
given blank (Err why) = blank

abbrev pub answered : {A : Type 0} → A → Result A Refusal → Answer A
answered blank result = record { refusal = verdict result; value = given blank result }
