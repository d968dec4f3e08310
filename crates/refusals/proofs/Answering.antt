-- Reading answers. In order: from a number back to its refusal (`named-number`, the one law that goes by cases), so
-- no two refusals have one number and none has 0; what an answer is where a check refused or passed; and that no two answers and no two verdicts
-- read alike. Where a crate's answer reads otherwise, that no two of those read alike is in that crate.
--
-- Pins, which nothing else cites: `verdict_injective`.
use mathlib.Core.Path.{◌≡◌, refl, sym, ap, ◌∙◌}
use mathlib.Core.Logic.{⊎_elim}
use mathlib.Core.List.{[], ◌∷◌}
use mathlib.Core.Bool.{false}
use Prim.Native.Nat.{ℕ, ◌-◌, ◌<◌}
use native.Mathlib.Nat.{eq-zero-or-pos}
use native.Mathlib.Omega.{arith}
use lib.Dec.{eqb}
use lib.ListN.{get_or}
use borrow.Author.Tests.{ne_eqb}
use Rattle.std.specs.Prelude.{Result, Ok, Err, IsOk}
use Rattle.refusals.specs.Answers.{Answer, number, answer, refused, verdict, answered}
use Rattle.refusals.specs.declared.Refusal.{Refusal}
use Rattle.refusals.specs.declared.Refusal.TheVariants.{
  FileTooLong,
  NotTheBanner,
  LineTooLong,
  SizeFields,
  SizeRange,
  PairFields,
  PairRange,
  PairRepeated,
  PairCount,
  TableShape,
  TableRows,
  ChainCount,
  ChainPairs,
  NotAChain,
  NotReached,
  BufferTooShort,
  NoSuchComment,
  BudgetTooLarge,
  PairAbsent,
  ReadingRange,
  CutoffRange,
  PairInChain,
  CoverShape,
  TooManyChains,
  NotMaximal,
  OtherProposal,
  NotAnArrangement,
  SampleInput,
}

-- ---- the refusal of a number: the refusals in the order of their numbers, from 1
pub named : ℕ → Refusal
named n =
    get_or
    (FileTooLong ∷ NotTheBanner ∷ LineTooLong ∷ SizeFields ∷ SizeRange ∷ PairFields ∷ PairRange ∷ PairRepeated ∷ PairCount
    ∷ TableShape ∷ TableRows ∷ ChainCount ∷ ChainPairs ∷ NotAChain ∷ NotReached ∷ BufferTooShort ∷ NoSuchComment ∷ BudgetTooLarge
    ∷ PairAbsent ∷ ReadingRange ∷ CutoffRange ∷ PairInChain ∷ CoverShape ∷ TooManyChains ∷ NotMaximal ∷ OtherProposal ∷ NotAnArrangement ∷ SampleInput ∷ [])
    (n - 1) FileTooLong

pub named-number : (x : Refusal) → named (number x) ≡ x
unfolding named
named-number FileTooLong = refl
named-number NotTheBanner = refl
named-number LineTooLong = refl
named-number SizeFields = refl
named-number SizeRange = refl
named-number PairFields = refl
named-number PairRange = refl
named-number PairRepeated = refl
named-number PairCount = refl
named-number TableShape = refl
named-number TableRows = refl
named-number ChainCount = refl
named-number ChainPairs = refl
named-number NotAChain = refl
named-number NotReached = refl
named-number BufferTooShort = refl
named-number NoSuchComment = refl
named-number BudgetTooLarge = refl
named-number PairAbsent = refl
named-number ReadingRange = refl
named-number CutoffRange = refl
named-number PairInChain = refl
named-number CoverShape = refl
named-number TooManyChains = refl
named-number NotMaximal = refl
named-number OtherProposal = refl
named-number NotAnArrangement = refl
named-number SampleInput = refl

pub number_injective : (x y : Refusal) → number x ≡ number y → x ≡ y
number_injective x y e = sym (named-number x) ∙ ap named e ∙ named-number y

-- 0 names the first refusal, whose number is 1
pub number_pos : (x : Refusal) → 0 < number x
unfolding named
number_pos x = ⊎_elim (λ e. let z : number x ≡ 1 = ap number (sym (named-number x) ∙ ap named e) in omega arith) (λ h. h) (eq-zero-or-pos (number x))

-- ---- a check that refused, and one that passed, by what it answered
pub verdict_refused : {A : Type 0} (v : Result A Refusal) (x : Refusal) (n : ℕ) → v ≡ Err x → verdict v ≡ n → number x ≡ n
verdict_refused v x n e d = ap verdict (sym e) ∙ d

pub ok_of : {A : Type 0} (v : Result A Refusal) → verdict v ≡ 0 → IsOk v
ok_of (Ok a) e = refl
ok_of (Err x) e = absurd (omega (arith, number_pos x))

-- the answer of a refusal, and of a result
pub answer-refused : {A : Type 0} (x : Refusal) (n : ℕ) (value blank : A) → number x ≡ n → refused x blank ≡ answer n value blank
answer-refused x n value blank e =
    let z : eqb n 0 ≡ false = ne_eqb n 0 (λ d. omega (arith, number_pos x)) in
    rw (z, e)

pub answer_given : {A : Type 0} (n : ℕ) (value blank : A) → n ≡ 0 → record { refusal = 0; value = value } ≡ answer n value blank
answer_given n value blank e = rw e

-- ---- no two answers read alike, whatever value stands beside a refusal
pub answered_injective : {A : Type 0} (blank : A) (v w : Result A Refusal) → answered blank v ≡ answered blank w → v ≡ w
answered_injective blank (Ok a) (Ok b) e = ap Ok (ap (λ (x : Answer _). x.value) e)
answered_injective blank (Ok a) (Err y) e = absurd (omega (arith, ap (λ (x : Answer _). x.refusal) e, number_pos y))
answered_injective blank (Err x) (Ok b) e = absurd (omega (arith, ap (λ (z : Answer _). z.refusal) e, number_pos x))
answered_injective blank (Err x) (Err y) e = ap Err (number_injective x y (ap (λ (z : Answer _). z.refusal) e))

-- a check has no value, so its number tells all
pub verdict_injective : (v w : Result Unit Refusal) → verdict v ≡ verdict w → v ≡ w
verdict_injective (Ok a) (Ok b) e = refl
verdict_injective (Ok a) (Err y) e = absurd (omega (arith, number_pos y))
verdict_injective (Err x) (Ok b) e = absurd (omega (arith, number_pos x))
verdict_injective (Err x) (Err y) e = ap Err (number_injective x y e)
