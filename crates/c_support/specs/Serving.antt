-- What the entries give that a caller asks beside the library's questions: the number of the release, words, and the
-- plain order.
--
-- Elsewhere: the words of each number, Words.antt; the number returned and what a slice is left with,
-- words/specs/Serving; the plain arrangement as 64 numbers, preference/specs/Preferences; that there is one answer
-- for every input, proofs/Answers.antt.
use Rattle.std.specs.Prelude.{◌≡◌, cond, ◌⊎◌, List, [], ◌∷◌, ℕ, ◌+◌, ◌*◌, ◌<◌, length, get_or}
use Rattle.sets.specs.Lists.{tabulate}
use Rattle.refusals.specs.Answers.{Answer, answer}
use Rattle.table.specs.Tables.{in_range}
use Rattle.preference.specs.Preferences.{plain_numbers}
use Rattle.words.specs.Serving.{Gives, GivesTwo}
use Rattle.c_support.specs.Words.{words_of}

-- the number of a release, by which two are compared (`release_later` in proofs/Sentences.antt)
abbrev pub release_number : ℕ → ℕ → ℕ → ℕ
release_number major minor patch = major * 10000 + minor * 100 + patch

-- this release: 1.0, as the file VERSION has it
abbrev pub this_release : ℕ
this_release = release_number 1 0 0

-- a text as lent memory has it: 80 bytes, those of the text, padded with zeros
abbrev pub lent : List ℕ → List ℕ
lent text = tabulate (λ i. get_or text i 0) 80

-- the words of the number n in 80 bytes, and how many bytes they are; no number is refused
abbrev pub SaysWords : ℕ → List ℕ → List ℕ → List ℕ → List ℕ → ℕ → Type 0
SaysWords n text len text' len' r =
    GivesTwo ((length text < 80) ⊎ (length len < 1))
    (λ (t : List ℕ). t ≡ words_of n)
    (λ (t : List ℕ). 0)
    lent
    (λ (t : List ℕ). length t ∷ [])
    text
    len
    text'
    len'
    r

-- "the arrangement 1, 2, 3 and on" of n numbers (02, R-12), padded with zeros, or 10: "G or L not in 1..64", so that
-- no table has n gauges or n cases
abbrev pub plain_answer : ℕ → Answer (List ℕ)
plain_answer n = answer (cond (in_range 64 n) 0 10) (plain_numbers n) []

-- the plain order of n numbers into an order's words
abbrev pub GivesPlain : ℕ → List ℕ → List ℕ → ℕ → Type 0
GivesPlain n out out' r =
    Gives (length out < 64)
    (λ (a : Answer (List ℕ)). a ≡ plain_answer n)
    (λ (a : Answer (List ℕ)). a.refusal)
    (λ (a : Answer (List ℕ)). a.value)
    out
    out'
    r
