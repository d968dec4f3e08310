-- What a caller reads off the promises, sentence by sentence (specs/Serving): of every entry of the C library, that
-- writes to one slice or to two.
--
-- In order, of one slice and then of two: the number is 100 where a lent slice is shorter than its layout
-- (`gives_100`, `two_100`); else it is that of an answer which the library promises (`served_number`, `two_number`);
-- where it is 0, that answer's words are over the front, and the words behind them are as they were (`served_front`,
-- `two_front`); where it is not, every word is (`served_kept`, `two_kept`).
--
-- Elsewhere: one number and one slice for every input, Answers.antt; what the words read as, Back.antt.
use mathlib.Core.Path.{◌≡◌, sym, ◌∙◌}
use mathlib.Core.List.{List, ◌++◌}
use Prim.Native.Nat.{ℕ, ◌≤◌}
use lib.ListN.{length, drop}
use Rattle.words.specs.Serving.{words_after, Served, Gives, ServedTwo, GivesTwo}
use Rattle.words.proofs.Serving.{left_refused}
use Rattle.words.proofs.Answers.{left_zero}
use Rattle.words.proofs.Back.{front_is}

-- w' is w with the words vs over its front, and the words behind them as they were
abbrev pub Over : List ℕ → List ℕ → List ℕ → Type 0
Over vs w w' = length vs ≤ length w → w' ≡ vs ++ drop (length vs) w

left_over_lem : (r : ℕ) (vs w w' : List ℕ) → w' ≡ words_after r vs w → r ≡ 0 → Over vs w w'
left_over_lem r vs w w' e z l = e ∙ left_zero r vs w z ∙ front_is w vs l

-- ---- one slice
module _ {X : Type 0} {P : X → Type 0} {number : X → ℕ} {words : X → List ℕ} {out out' : List ℕ} {r : ℕ} where
  pub gives_100 : {Short : Type 0} → Gives Short P number words out out' r → Short → (r ≡ 100) × (out' ≡ out)
  gives_100 g h = g.short h

  pub served_number : Served P number words out out' r → (x : X) × P x × (r ≡ number x)
  served_number s = (s.answer, s.promised, s.says)

  pub served_front : Served P number words out out' r → r ≡ 0 → (x : X) × P x × (number x ≡ 0) × Over (words x) out out'
  served_front s z = (s.answer, s.promised, sym s.says ∙ z, left_over_lem r (words s.answer) out out' s.leaves z)

  pub served_kept : Served P number words out out' r → ¬ (r ≡ 0) → out' ≡ out
  served_kept s z = s.leaves ∙ left_refused r (words s.answer) out z

-- ---- two slices
module _ {X : Type 0} {P : X → Type 0} {number : X → ℕ} {first second : X → List ℕ} {a b a' b' : List ℕ} {r : ℕ} where
  pub two_100 : {Short : Type 0} → GivesTwo Short P number first second a b a' b' r → Short → (r ≡ 100) × (a' ≡ a) × (b' ≡ b)
  two_100 g h = g.short h

  pub two_number : ServedTwo P number first second a b a' b' r → (x : X) × P x × (r ≡ number x)
  two_number s = (s.answer, s.promised, s.says)

  pub two_front : ServedTwo P number first second a b a' b' r → r ≡ 0
      → (x : X) × P x × (number x ≡ 0) × Over (first x) a a' × Over (second x) b b'
  two_front s z = (
    s.answer,
    s.promised,
    sym s.says ∙ z,
    left_over_lem r (first s.answer) a a' s.leaves_first z,
    left_over_lem r (second s.answer) b b' s.leaves_second z,
  )

  pub two_kept : ServedTwo P number first second a b a' b' r → ¬ (r ≡ 0) → (a' ≡ a) × (b' ≡ b)
  two_kept s z = (s.leaves_first ∙ left_refused r (first s.answer) a z, s.leaves_second ∙ left_refused r (second s.answer) b z)
