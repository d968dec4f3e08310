-- What the entries give is there for every input, and is one thing only.
--
-- In order: words (`says_unique`, `says_exists`), and the plain order (`plain_unique`, `plain_exists`), with slices no longer than their layouts
-- (`says_served`, `plain_served`).
-- Pins, which nothing else cites: `says_unique`, `says_exists`, `plain_unique`, `plain_exists`.
--
-- Elsewhere: what holds of every entry, words/proofs/Answers; sentence by sentence, Sentences.antt.
use mathlib.Core.Path.{◌≡◌, refl, sym, ap, ◌∙◌}
use mathlib.Core.Logic.{◌⊎◌}
use mathlib.Core.List.{List, [], ◌∷◌, ◌++◌}
use Prim.Native.Nat.{ℕ, ◌≤◌, ◌<◌}
use native.Mathlib.Omega.{arith}
use lib.ListN.{length, drop}
use Rattle.sets.proofs.Tabulated.{length-tabulate}
use Rattle.words.specs.Serving.{words_after, ServedTwo}
use Rattle.words.proofs.Serving.{long, long_two}
use Rattle.words.proofs.Answers.{short_dec, or_dec, left_zero, gives_is, gives_exists, gives_unique, two_exists, two_unique}
use Rattle.words.proofs.Back.{front_is}
use Rattle.c_support.specs.Words.{words_of}
use Rattle.c_support.specs.Serving.{lent, SaysWords, plain_answer, GivesPlain}

-- ---- words
module _ (n : ℕ) (text len : List ℕ) where
  says_dec : Dec ((length text < 80) ⊎ (length len < 1))
  says_dec = or_dec (short_dec text 80) (short_dec len 1)

  pub says_unique : (a b c d : List ℕ) (r q : ℕ) → SaysWords n text len a b r → SaysWords n text len c d q → (a ≡ c) × (b ≡ d) × (r ≡ q)
  says_unique = two_unique text len says_dec (λ x y p q. p ∙ sym q)

  pub says_exists : (text' : List ℕ) × (len' : List ℕ) × (r : ℕ) × SaysWords n text len text' len' r
  says_exists = two_exists text len says_dec (words_of n) refl

  -- 80 bytes and 1 word are enough, and no number is refused: the 80 bytes are the text and zeros, the word is its length
  pub says_served : 80 ≤ length text → 1 ≤ length len → (text' len' : List ℕ) (r : ℕ) → SaysWords n text len text' len' r
      → (r ≡ 0) × (text' ≡ lent (words_of n) ++ drop 80 text) × (len' ≡ length (words_of n) ∷ drop 1 len)
  says_served lt ll text' len' r g = (
    x.says,
    x.leaves_first ∙ left_zero r (lent x.answer) text x.says ∙ front_is text (lent x.answer) (omega (arith, size))
        ∙ ap (λ (k : ℕ). lent x.answer ++ drop k text) size ∙ ap (λ (t : List ℕ). lent t ++ drop 80 text) x.promised,
    x.leaves_second ∙ left_zero r (length x.answer ∷ []) len x.says ∙ front_is len (length x.answer ∷ []) (omega arith)
        ∙ ap (λ (t : List ℕ). length t ∷ drop 1 len) x.promised,
  )
    where
      x : ServedTwo (λ (t : List ℕ). t ≡ words_of n) (λ (t : List ℕ). 0) lent (λ (t : List ℕ). length t ∷ []) text len text' len' r
      x = g.served (long_two lt ll)

      size : length (lent x.answer) ≡ 80
      size = length-tabulate _ 80

-- ---- the plain order
module _ (n : ℕ) (out : List ℕ) where
  pub plain_unique : (a b : List ℕ) (r q : ℕ) → GivesPlain n out a r → GivesPlain n out b q → (a ≡ b) × (r ≡ q)
  plain_unique = gives_unique out (short_dec out 64) (λ x y p q. p ∙ sym q)

  pub plain_exists : (out' : List ℕ) × (r : ℕ) × GivesPlain n out out' r
  plain_exists = gives_exists out (short_dec out 64) (plain_answer n) refl

  -- 64 words are enough
  pub plain_served : 64 ≤ length out → (out' : List ℕ) (r : ℕ) → GivesPlain n out out' r
      → (r ≡ (plain_answer n).refusal) × (out' ≡ words_after (plain_answer n).refusal (plain_answer n).value out)
  plain_served l = gives_is out (λ x y p q. p ∙ sym q) (long l) (plain_answer n) refl
