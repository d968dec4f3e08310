-- What an entry gives is one thing, for every input. Over any promise P of an answer, its number and its words:
--
-- In order: whether a slice is shorter than its layout is decided (`short_dec`, `or_dec`); what 0 says of the slices (`gives_long`, `gives_zero`); where
-- none is too short, the number and the words are those of any answer that P allows (`gives_is`); an entry that writes to one slice gives something
-- where P can be met (`gives_exists`), and one thing only where P leaves one answer (`gives_unique`), or answers of one number, and of one list of words
-- where that is 0 (`gives_alike`); a refusal leaves the slice as it was (`gives_kept`); the same of an entry that writes to two (`two_exists`,
-- `two_unique`, `two_alike`).
--
-- Elsewhere: the returns of the code, Serving.antt; what was put is read back, Back.antt; the laws of each entry, proofs/Answers.antt of its crate.
use mathlib.Core.Path.{◌≡◌, refl, ap, ap₂, sym, ◌∙◌}
use mathlib.Core.Logic.{◌⊎◌, inl, inr}
use mathlib.Core.List.{List}
use Prim.Native.Nat.{ℕ, ◌<◌}
use native.Mathlib.Decide.{ℕ_discrete, dec_lt}
use native.Mathlib.Omega.{arith}
use lib.ListN.{length}
use lib.Seq.{sets as stored}
use Rattle.words.specs.Serving.{words_after, Served, Gives, ServedTwo, GivesTwo}
use Rattle.words.proofs.Serving.{left_refused, gives_short, two_short}

-- ---- slices
pub short_dec : (w : List ℕ) (n : ℕ) → Dec (length w < n)
short_dec w n = dec_lt (length w) n

pub or_dec : {A B : Type 0} → Dec A → Dec B → Dec (A ⊎ B)
or_dec (yes a) d = yes (inl a)
or_dec (no n) (yes b) = yes (inr b)
or_dec {A} {B} (no n) (no m) = no neither
  where
    neither : A ⊎ B → ⊥
    neither (inl a) = n a
    neither (inr b) = m b

-- a slice looks at the words only where the number is 0
left_alike : (n : ℕ) (vs us w : List ℕ) → (n ≡ 0 → vs ≡ us) → words_after n vs w ≡ words_after n us w
left_alike n vs us w h = go (ℕ_discrete n 0)
  where
    go : Dec (n ≡ 0) → words_after n vs w ≡ words_after n us w
    go (yes z) = ap (λ (x : List ℕ). words_after n x w) (h z)
    go (no z) = left_refused n vs w z ∙ sym (left_refused n us w z)

pub left_zero : (n : ℕ) (vs w : List ℕ) → n ≡ 0 → words_after n vs w ≡ stored w 0 vs
left_zero n vs w z = rw z

-- ---- an entry that writes to one slice
module _ {X : Type 0} {Short : Type 0} {P : X → Type 0} {number : X → ℕ} {words : X → List ℕ} (out : List ℕ) where
  -- an entry that returned 0 was lent slices that are long enough, has an answer of that number, and put its words
  pub gives_long : (out' : List ℕ) (r : ℕ) → r ≡ 0 → Gives Short P number words out out' r → ¬ Short
  gives_long out' r z g s = omega (arith, (g.short s).0)

  pub gives_zero : (out' : List ℕ) (r : ℕ) → r ≡ 0 → Gives Short P number words out out' r
      → (x : X) × P x × (number x ≡ 0) × (out' ≡ stored out 0 (words x))
  gives_zero out' r z g =
      let x : Served P number words out out' r = g.served (gives_long out' r z g) in
      (x.answer, x.promised, sym x.says ∙ z, x.leaves ∙ left_zero r (words x.answer) out z)

  -- where the slices are long enough it is the answer's number and words, of any answer that the library promises
  pub gives_is : ((x y : X) → P x → P y → x ≡ y) → ¬ Short → (x : X) → P x → (out' : List ℕ) (r : ℕ) → Gives Short P number words out out' r
      → (r ≡ number x) × (out' ≡ words_after (number x) (words x) out)
  gives_is one n x p out' r g =
      let y : Served P number words out out' r = g.served n in
      let e : r ≡ number x = y.says ∙ ap number (one y.answer x y.promised p) in
      (e, y.leaves ∙ ap₂ (λ (k : ℕ) (z : X). words_after k (words z) out) e (one y.answer x y.promised p))

module _ {X : Type 0} {Short : Type 0} {P : X → Type 0} {number : X → ℕ} {words : X → List ℕ} (out : List ℕ) (d : Dec Short) where
  pub gives_exists : (x : X) → P x → (out' : List ℕ) × (r : ℕ) × Gives Short P number words out out' r
  gives_exists x p = go d
    where
      go : Dec Short → (out' : List ℕ) × (r : ℕ) × Gives Short P number words out out' r
      go (yes s) = (out, 100, gives_short out s)
      go (no s) = (
        words_after (number x) (words x) out,
        number x,
        record { short = λ t. absurd (s t); served = λ _. record { answer = x; promised = p; says = refl; leaves = refl } },
      )

  -- it is enough that two answers have one number, and where it is 0 the same words
  pub gives_alike : ((x y : X) → P x → P y → (number x ≡ number y) × (number x ≡ 0 → words x ≡ words y)) → (a b : List ℕ) (r s : ℕ)
      → Gives Short P number words out a r → Gives Short P number words out b s → (a ≡ b) × (r ≡ s)
  gives_alike one a b r s g h = go d
    where
      go : Dec Short → (a ≡ b) × (r ≡ s)
      go (yes t) = ((g.short t).1 ∙ sym (h.short t).1, (g.short t).0 ∙ sym (h.short t).0)
      go (no t) = (
        x.leaves ∙ left_alike r (words x.answer) (words y.answer) out (λ z. alike.1 (sym x.says ∙ z))
            ∙ ap (λ (n : ℕ). words_after n (words y.answer) out) same ∙ sym y.leaves,
        same,
      )
        where
          x : Served P number words out a r
          x = g.served t

          y : Served P number words out b s
          y = h.served t

          alike : (number x.answer ≡ number y.answer) × (number x.answer ≡ 0 → words x.answer ≡ words y.answer)
          alike = one x.answer y.answer x.promised y.promised

          same : r ≡ s
          same = x.says ∙ alike.0 ∙ sym y.says

  pub gives_unique : ((x y : X) → P x → P y → x ≡ y) → (a b : List ℕ) (r s : ℕ) → Gives Short P number words out a r
      → Gives Short P number words out b s → (a ≡ b) × (r ≡ s)
  gives_unique one = gives_alike (λ x y p q. (ap number (one x y p q), λ _. ap words (one x y p q)))

  -- an entry that returned another number than 0 left the slice as it was
  pub gives_kept : (out' : List ℕ) (r : ℕ) → ¬ (r ≡ 0) → Gives Short P number words out out' r → out' ≡ out
  gives_kept out' r z g = go d
    where
      go : Dec Short → out' ≡ out
      go (yes s) = (g.short s).1
      go (no s) = let x : Served P number words out out' r = g.served s in x.leaves ∙ left_refused r (words x.answer) out z

-- ---- an entry that writes to two
module _ {X : Type 0} {Short : Type 0} {P : X → Type 0} {number : X → ℕ} {first second : X → List ℕ} (a b : List ℕ) (d : Dec Short) where
  pub two_exists : (x : X) → P x → (a' : List ℕ) × (b' : List ℕ) × (r : ℕ) × GivesTwo Short P number first second a b a' b' r
  two_exists x p = go d
    where
      go : Dec Short → (a' : List ℕ) × (b' : List ℕ) × (r : ℕ) × GivesTwo Short P number first second a b a' b' r
      go (yes s) = (a, b, 100, two_short a b s)
      go (no s) = (
        words_after (number x) (first x) a,
        words_after (number x) (second x) b,
        number x,
        record {
          short = λ t. absurd (s t);
          served = λ _. record { answer = x; promised = p; says = refl; leaves_first = refl; leaves_second = refl };
        },
      )

  pub two_alike : ((x y : X) → P x → P y → (number x ≡ number y) × (number x ≡ 0 → (first x ≡ first y) × (second x ≡ second y)))
      → (u v u' v' : List ℕ) (r s : ℕ) → GivesTwo Short P number first second a b u v r → GivesTwo Short P number first second a b u' v' s
      → (u ≡ u') × (v ≡ v') × (r ≡ s)
  two_alike one u v u' v' r s g h = go d
    where
      go : Dec Short → (u ≡ u') × (v ≡ v') × (r ≡ s)
      go (yes t) =
          let (r1, u1, v1) = g.short t in
          let (r2, u2, v2) = h.short t in
          (u1 ∙ sym u2, v1 ∙ sym v2, r1 ∙ sym r2)
      go (no t) = (
        x.leaves_first ∙ left_alike r (first x.answer) (first y.answer) a (λ z. (alike.1 (sym x.says ∙ z)).0)
            ∙ ap (λ (n : ℕ). words_after n (first y.answer) a) same ∙ sym y.leaves_first,
        x.leaves_second ∙ left_alike r (second x.answer) (second y.answer) b (λ z. (alike.1 (sym x.says ∙ z)).1)
            ∙ ap (λ (n : ℕ). words_after n (second y.answer) b) same ∙ sym y.leaves_second,
        same,
      )
        where
          x : ServedTwo P number first second a b u v r
          x = g.served t

          y : ServedTwo P number first second a b u' v' s
          y = h.served t

          alike : (number x.answer ≡ number y.answer)
              × (number x.answer ≡ 0 → (first x.answer ≡ first y.answer) × (second x.answer ≡ second y.answer))
          alike = one x.answer y.answer x.promised y.promised

          same : r ≡ s
          same = x.says ∙ alike.0 ∙ sym y.says

  pub two_unique : ((x y : X) → P x → P y → x ≡ y) → (u v u' v' : List ℕ) (r s : ℕ) → GivesTwo Short P number first second a b u v r
      → GivesTwo Short P number first second a b u' v' s → (u ≡ u') × (v ≡ v') × (r ≡ s)
  two_unique one = two_alike (λ x y p q. (ap number (one x y p q), λ _. (ap first (one x y p q), ap second (one x y p q))))
