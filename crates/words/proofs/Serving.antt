-- The returns of an entry: a slice too short, a refusal, and an answer whose words are put; and slices that are long enough.
use mathlib.Core.Path.{◌≡◌, refl, sym, ◌∙◌}
use mathlib.Core.Logic.{◌⊎◌, inl, inr}
use mathlib.Core.List.{List}
use Prim.Native.Nat.{ℕ, ◌≤◌, ◌<◌}
use native.Mathlib.Omega.{arith}
use borrow.Author.Tests.{ne_eqb}
use Rattle.words.specs.Layouts.{Put}
use Rattle.words.specs.Serving.{words_after, Gives, GivesTwo}

pub left_refused : (n : ℕ) (vs w : List ℕ) → ¬ (n ≡ 0) → words_after n vs w ≡ w
left_refused n vs w h = rw (ne_eqb n 0 h)

module _ {X : Type 0} {Short : Type 0} {P : X → Type 0} {number : X → ℕ} {words : X → List ℕ} where
  pub gives_short : (out : List ℕ) → Short → Gives Short P number words out out 100
  gives_short out h = record { short = λ _. (refl, refl); served = λ n. absurd (n h) }

  pub gives_refused : (out : List ℕ) → ¬ Short → (x : X) → P x → (n : ℕ) → n ≡ number x → ¬ (n ≡ 0) → Gives Short P number words out out n
  gives_refused out s x p n e h = record {
    short = λ t. absurd (s t);
    served = λ _. record { answer = x; promised = p; says = e; leaves = sym (left_refused n (words x) out h) };
  }

  pub gives_accepted : (out out' : List ℕ) → ¬ Short → (x : X) → P x → (n : ℕ) → n ≡ number x → n ≡ 0 → Put out 0 (words x) out'
      → Gives Short P number words out out' 0
  gives_accepted out out' s x p n e h d = record {
    short = λ t. absurd (s t);
    served = λ _. record { answer = x; promised = p; says = sym h ∙ e; leaves = d.words };
  }

module _ {X : Type 0} {Short : Type 0} {P : X → Type 0} {number : X → ℕ} {first second : X → List ℕ} where
  pub two_short : (a b : List ℕ) → Short → GivesTwo Short P number first second a b a b 100
  two_short a b h = record { short = λ _. (refl, refl, refl); served = λ n. absurd (n h) }

  pub two_refused : (a b : List ℕ) → ¬ Short → (x : X) → P x → (n : ℕ) → n ≡ number x → ¬ (n ≡ 0) → GivesTwo Short P number first second a b a b n
  two_refused a b s x p n e h = record {
    short = λ t. absurd (s t);
    served =
        λ _. record {
          answer = x;
          promised = p;
          says = e;
          leaves_first = sym (left_refused n (first x) a h);
          leaves_second = sym (left_refused n (second x) b h);
        };
  }

  pub two_accepted : (a b a' b' : List ℕ) → ¬ Short → (x : X) → P x → (n : ℕ) → n ≡ number x → n ≡ 0 → Put a 0 (first x) a' → Put b 0 (second x) b'
      → GivesTwo Short P number first second a b a' b' 0
  two_accepted a b a' b' s x p n e h d f = record {
    short = λ t. absurd (s t);
    served = λ _. record { answer = x; promised = p; says = sym h ∙ e; leaves_first = d.words; leaves_second = f.words };
  }

-- ---- slices that are long enough
pub long : {n m : ℕ} → n ≤ m → ¬ (m < n)
long h l = omega arith

pub long_two : {n m k j : ℕ} → n ≤ m → k ≤ j → ¬ ((m < n) ⊎ (j < k))
long_two h g (inl l) = omega arith
long_two h g (inr l) = omega arith

-- and one more
pub long_more : {n m : ℕ} {A : Type 0} → n ≤ m → ¬ A → ¬ ((m < n) ⊎ A)
long_more h g (inl l) = omega arith
long_more h g (inr a) = g a
