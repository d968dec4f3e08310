-- Texts as the private steps make, find and put them.
--
-- In order: a text by its bytes (`text_is`); the arms of a match on a number (`text_at`, `text_later`, `text_else`); the words and their length put
-- (`says`); bytes put over the front (`put_front`).
use mathlib.Core.Path.{◌≡◌, refl, sym, ap, ◌∙◌}
use mathlib.Core.Logic.{◌⊎◌}
use mathlib.Core.List.{List, [], ◌∷◌, ◌++◌}
use Prim.Native.Nat.{ℕ, ◌<◌, ◌≤◌}
use Prim.Native.String.{String}
use native.Mathlib.Nat.{zero-add}
use native.Mathlib.Omega.{arith}
use lib.ListN.{length, take, drop}
use lib.Seq.{sets-eq}
use borrow.Author.Tests.{ne_eqb}
use Rattle.words.specs.Layouts.{Put}
use Rattle.words.proofs.Serving.{two_accepted}
use Rattle.c_support.specs.Words.{bytes_of, text_in, texts, other_text, words_of}
use Rattle.c_support.specs.Serving.{lent, SaysWords}
use Rattle.c_support.specs.declared.Text.{Text}
use Rattle.c_support.specs.private.Texts.{later_words, text_of}

pub text_is : (t b : List ℕ) → b ≡ lent t → ◌≡◌ {A = Text} (record { bytes = b; length = length t }) (text_of t)
text_is t b e = rw e

-- ---- the arms of a match: of a number in a list, and of one that is not in it
pub text_at : {r : Text} {n k : ℕ} (words : ℕ → List ℕ) (t : List ℕ) → n ≡ k → words k ≡ t → r ≡ text_of t → r ≡ text_of (words n)
text_at words t e d is = is ∙ ap text_of (sym d ∙ ap words (sym e))

-- as the arms leave it: the number is none of the list's, and N holds
abbrev pub Unlike : List (ℕ × String) → ℕ → Type 0 → Type 0
Unlike [] n N = N
Unlike (t ∷ ts) n N = Unlike ts n (N × (n ≡ t.0 → ⊥))

-- so its text is that of the list behind
text_past : (ts us : List (ℕ × String)) (other : String) (n : ℕ) (N : Type 0) → Unlike ts n N → (text_in (ts ++ us) other n ≡ text_in us other n) × N
unfolding text_in
text_past [] us other n N h = (refl, h)
text_past (t ∷ ts) us other n N h =
    let (e, rest) = text_past ts us other n (N × (n ≡ t.0 → ⊥)) h in
    (rw (ne_eqb n t.0 rest.1) e, rest.0)

pub text_later : {r : Text} {n : ℕ} → Unlike (take 15 texts) n (Unit {0}) → r ≡ text_of (later_words n) → r ≡ text_of (words_of n)
unfolding words_of later_words
text_later {r} {n} h is =
    is ∙ ap (λ (s : String). text_of (bytes_of s)) (sym (text_past (take 15 texts) (drop 15 texts) other_text n (Unit {0}) h).0)

pub text_else : {r : Text} {n : ℕ} (t : List ℕ) → Unlike (drop 15 texts) n (Unit {0}) → bytes_of other_text ≡ t → r ≡ text_of t → r ≡ text_of (later_words n)
unfolding later_words text_in
text_else {r} {n} t h d is = is ∙ ap text_of (sym d ∙ ap bytes_of (sym (text_past (drop 15 texts) [] other_text n (Unit {0}) h).0))

-- ---- the words are put, and their length
pub says : (n : ℕ) (x : Text) {text text' len len' : List ℕ} → ¬ ((length text < 80) ⊎ (length len < 1)) → x ≡ text_of (words_of n)
    → Put text 0 x.bytes text' → Put len 0 (x.length ∷ []) len' → SaysWords n text len text' len' 0
says n x {text} {text'} {len} {len'} l e p q = two_accepted text len text' len' l (words_of n) refl 0 refl refl (rw e at p) (rw e at q)

-- ---- 80 bytes are put over the front
pub put_front : {l m : List ℕ} (vs : List ℕ) → length vs ≡ 80 → 80 ≤ length l → m ≡ vs → Put l 0 vs (m ++ drop 80 l)
put_front {l} {m} vs size h e = record {
  words = ap (λ (x : List ℕ). x ++ drop 80 l) e ∙ ap (λ (n : ℕ). vs ++ drop n l) (sym (zero-add (length vs) ∙ size)) ∙ sym (sets-eq vs l 0 (omega arith));
}
