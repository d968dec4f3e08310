-- The phase that words read as: a law for each return of the code, for either side.
use mathlib.Core.Path.{◌≡◌, ap, ◌∙◌}
use mathlib.Core.Bool.{Bool, true, false, not}
use mathlib.Core.List.{List}
use Prim.Native.Nat.{ℕ, ◌≤◌, ◌<◌}
use lib.Dec.{eqb}
use borrow.Author.Tests.{eq-eqb, ne_eqb, le-leb, lt-leb}
use Rattle.rules.specs.Machine.{Phase, Down, Handed, Back, Ended}
use Rattle.table.specs.declared.Table.{Table}
use Rattle.runs.specs.Paused.{Value}
use Rattle.words.specs.Layouts.{word_at, numbers_at, table_at}
use Rattle.run_words.specs.Values.{side_word, phase_of, is_value, mark_at, value_at}
use Rattle.run_words.specs.declared.Mark.{Mark}

-- ---- a phase by its number
pub phase_down : (n x : ℕ) → n ≡ 0 → Down ≡ phase_of n x
unfolding phase_of
phase_down n x e = rw (eq-eqb n 0 e)

pub phase_handed : (n x : ℕ) → ¬ (n ≡ 0) → n ≡ 1 → Handed ≡ phase_of n x
unfolding phase_of
phase_handed n x a e = rw (ne_eqb n 0 a, eq-eqb n 1 e)

pub phase_ended : (n x : ℕ) → ¬ (n ≡ 0) → ¬ (n ≡ 1) → n ≡ 3 → Ended ≡ phase_of n x
unfolding phase_of
phase_ended n x a b e = rw (ne_eqb n 0 a, ne_eqb n 1 b, eq-eqb n 3 e)

pub phase_back : (n x : ℕ) → ¬ (n ≡ 0) → ¬ (n ≡ 1) → ¬ (n ≡ 3) → Back x ≡ phase_of n x
unfolding phase_of
phase_back n x a b d = rw (ne_eqb n 0 a, ne_eqb n 1 b, ne_eqb n 3 d)

-- ---- whether words are of a value: s, p, o and f are words 0, 196, 198 and 197
pub other_side : (k : ℕ) (w : List ℕ) (s : ℕ) → s ≡ word_at w 0 → ¬ (s ≡ k) → false ≡ is_value k w
unfolding is_value
other_side k w s e h = rw (ne_eqb (word_at w 0) k (λ d. h (e ∙ d)))

module _ (k : ℕ) (w : List ℕ) (s : ℕ) (e : s ≡ word_at w 0) (h : s ≡ k) (p : ℕ) (ep : p ≡ word_at w 196) where
  side_is : eqb (word_at w 0) k ≡ true
  side_is = eq-eqb (word_at w 0) k (cc)

  pub other_phase : 3 < p → false ≡ is_value k w
  unfolding is_value
  other_phase l = rw (side_is, lt-leb (word_at w 196) 3 (rw ep at l))

  module _ (l : p ≤ 3) (o : ℕ) (eo : o ≡ word_at w 198) where
    phase-is : word_at w 196 ≤ 3
    phase-is = rw ep at l

    pub other-omit : 1 < o → false ≡ is_value k w
    unfolding is_value
    other-omit m = rw (side_is, le-leb (word_at w 196) 3 phase-is, lt-leb (word_at w 198) 1 (rw eo at m))

    module _ (m : o ≤ 1) where
      omit-is : word_at w 198 ≤ 1
      omit-is = rw eo at m

      pub is-back : p ≡ 2 → true ≡ is_value k w
      unfolding is_value
      is-back d = rw (side_is, le-leb (word_at w 196) 3 phase-is, le-leb (word_at w 198) 1 omit-is, eq-eqb (word_at w 196) 2 (cc))

      pub is-other : ¬ (p ≡ 2) → (f : ℕ) → f ≡ word_at w 197 → eqb f 0 ≡ is_value k w
      unfolding is_value
      is-other d f ef =
          rw (side_is, le-leb (word_at w 196) 3 phase-is, le-leb (word_at w 198) 1 omit-is, ne_eqb (word_at w 196) 2 (λ z. d (ep ∙ z)))
          (ap (λ (x : ℕ). eqb x 0) ef)

-- ---- the phase read
pub mark_other : (k : ℕ) (w : List ℕ) (t : Bool) → t ≡ is_value k w → t ≡ false → record { phase = 2; from = 0 } ≡ mark_at k w
mark_other k w t e h = let z : is_value k w ≡ false = cc in rw z

pub mark_is : (k : ℕ) (w : List ℕ) (t : Bool) → t ≡ is_value k w → t ≡ true → (p f : ℕ) → p ≡ word_at w 196 → f ≡ word_at w 197
    → record { phase = p; from = f } ≡ mark_at k w
mark_is k w t e h p f ep ef = let z : is_value k w ≡ true = cc in rw z (cc)

-- ---- a value by its parts
pub value_is : (b : Bool) (k : ℕ) (w : List ℕ) (t : Table) (o p : List ℕ) (n x : ℕ) (m : Mark) (f : Phase) → t ≡ table_at 1 w → o ≡ numbers_at 67 w
    → p ≡ numbers_at 131 w → n ≡ word_at w 195 → k ≡ side_word b → m ≡ mark_at k w → f ≡ phase_of m.phase m.from → x ≡ word_at w 198
    → ◌≡◌ {A = Value} (record { table = t; order = o; picks = p; count = n; phase = f; omit = not (eqb x 0) }) (value_at (side_word b) w)
value_is b k w t o p n x m f et eo ep en ek em ef ex = rw (et, eo, ep, en, ef, em, ek, ex)
