-- Words that no value of the side has get 15 from a run call, and nothing is written: `foreign_words`. First come the numbers of the table and the
-- preference that are in them (10, 11 and 27), as for any value. Such words read as back from number 0, and no move leads back from that. The words of
-- a value of another side are such words (`other_side_words`).
--
-- In order: the numbers for a table and a preference; the value that such words read as, and that it is no paused value; the law; the other side.
use mathlib.Core.Path.{◌≡◌, refl, sym, ap, ◌∙◌}
use mathlib.Core.Logic.{◌⊎◌, inl, inr}
use mathlib.Core.Bool.{Bool, true, false, ◌&&◌, cond}
use mathlib.Core.List.{List}
use Prim.Native.Nat.{ℕ, suc, ◌≤◌, ◌<◌}
use native.Mathlib.Decide.{ℕ_discrete}
use native.Mathlib.Omega.{arith}
use lib.Dec.{eqb}
use lib.ListN.{length}
use lib.Seq.{sets as stored}
use Rattle.basics.proofs.Clash.{clash}
use Rattle.table.specs.declared.Table.{Table}
use Rattle.table.specs.Tables.{table_refusal, in_range, rows_fit}
use Rattle.rules.specs.Machine.{Phase, Down, Handed, Back, Ended, State}
use Rattle.lists.specs.Lists.{Side}
use Rattle.preference.specs.Preferences.{preferred_refusal, is_preference}
use Rattle.runs.specs.Paused.{Value, numbered}
use Rattle.runs.specs.Calling.{Step, value_refusal, PausedAt}
use Rattle.words.specs.Serving.{ServedTwo}
use Rattle.words.proofs.Serving.{left_refused, long_two}
use Rattle.run_words.specs.Values.{phase_of, is_value, value_at, value_words, refusal_number, step_words}
use Rattle.run_words.proofs.Reading.{other_side}
use Rattle.run_words.proofs.ReadingBack.{Held, side-back}
use Rattle.c_runs.specs.Serving.{RunCall, Runs}

-- ---- the numbers for a table and a preference
abbrev TableNumber : ℕ → Type 0
TableNumber n = (n ≡ 0) ⊎ ((n ≡ 10) ⊎ (n ≡ 11))

table_numbers : (t : Table) → TableNumber (table_refusal t)
unfolding table_refusal
table_numbers t = go (in_range 64 t.gauges && in_range 64 t.cases) (rows_fit t.gauges t.cases t.rows)
  where
    go : (a b : Bool) → TableNumber (cond a (cond b 0 11) 10)
    go true true = inl refl
    go true false = inr (inr refl)
    go false b = inr (inl refl)

abbrev OneNumber : ℕ → Type 0
OneNumber n = (n ≡ 0) ⊎ ((n ≡ 10) ⊎ ((n ≡ 11) ⊎ (n ≡ 27)))

preferred_numbers : (t : Table) (n : ℕ) (k : List ℕ) → OneNumber (preferred_refusal t n k)
unfolding preferred_refusal
preferred_numbers t n k = go (table_refusal t) (table_numbers t) (is_preference n k)
  where
    go : (m : ℕ) → TableNumber m → (b : Bool) → OneNumber (cond (eqb m 0) (cond b 0 27) m)
    go m (inl e) true = inl (rw e)
    go m (inl e) false = inr (inr (inr (rw e)))
    go m (inr (inl e)) b = inr (inl (rw e))
    go m (inr (inr e)) b = inr (inr (inl (rw e)))

-- ---- no paused value
foreign_phase : (n : ℕ) (w : List ℕ) → is_value n w ≡ false → (value_at n w).phase ≡ Back 0
unfolding phase_of
foreign_phase n w e = rw e

no_number : (f : Phase) → ¬ (Back 0 ≡ numbered f)
no_number Down e = clash cc
no_number Handed e = clash cc
no_number (Back i) e = let z : 0 ≡ suc i = cc in omega arith
no_number Ended e = clash cc

foreign_none : (side : Table → Side) (n : ℕ) (w : List ℕ) → is_value n w ≡ false → (s : State) → PausedAt side (value_at n w) s → ⊥
foreign_none side n w e s p = no_number s.phase (sym (foreign_phase n w e) ∙ ap (λ (v : Value). v.phase) p.stands)

-- ---- the law
-- what a call returns and leaves: the number of the table and the preference in the words, and where that is 0, 15; and both slices as they were
pub record Foreign (side : Table → Side) (n : ℕ) (w out w' out' : List ℕ) (r : ℕ) : Type 0 where
  pub table : 0 < value_refusal side (value_at n w) → r ≡ value_refusal side (value_at n w)
  pub value : value_refusal side (value_at n w) ≡ 0 → r ≡ 15
  pub numbers : (r ≡ 10) ⊎ ((r ≡ 11) ⊎ ((r ≡ 27) ⊎ (r ≡ 15)))
  pub run : w' ≡ w
  pub step : out' ≡ out

pub foreign_words : (side : Table → Side) (n : ℕ) (w : List ℕ) (b : ℕ) (out w' out' : List ℕ) (r : ℕ) → is_value n w ≡ false → 199 ≤ length w
    → 131 ≤ length out → Runs side n w b out w' out' r → Foreign side n w out w' out' r
foreign_words side n w b out w' out' r e l m h =
    record { table = table; value = value; numbers = numbers (preferred_numbers _ _ _); run = kept.0; step = kept.1 }
  where
    s : ServedTwo (RunCall side (value_at n w) b) (λ (s : Step). refusal_number s.answer) (λ (s : Step). value_words n s.next) step_words w out w' out' r
    s = h.gives.served (long_two l m)

    table : 0 < value_refusal side (value_at n w) → r ≡ value_refusal side (value_at n w)
    table z = s.says ∙ ap (λ (x : Step). refusal_number x.answer) (s.promised.called.table z)

    value : value_refusal side (value_at n w) ≡ 0 → r ≡ 15
    value z = s.says ∙ ap (λ (x : Step). refusal_number x.answer) (s.promised.called.value z (foreign_none side n w e))

    numbers : OneNumber (value_refusal side (value_at n w)) → (r ≡ 10) ⊎ ((r ≡ 11) ⊎ ((r ≡ 27) ⊎ (r ≡ 15)))
    numbers (inl z) = inr (inr (inr (value z)))
    numbers (inr (inl z)) = inl (table (omega (arith, z)) ∙ z)
    numbers (inr (inr (inl z))) = inr (inl (table (omega (arith, z)) ∙ z))
    numbers (inr (inr (inr z))) = inr (inr (inl (table (omega (arith, z)) ∙ z)))

    some : Dec (value_refusal side (value_at n w) ≡ 0) → ¬ (r ≡ 0)
    some (yes z) d = omega (arith, d, value z)
    some (no z) d = z (sym (table (omega (arith, z))) ∙ d)

    kept : (w' ≡ w) × (out' ≡ out)
    kept =
        let z : ¬ (r ≡ 0) = some (ℕ_discrete (value_refusal side (value_at n w)) 0) in
        (s.leaves_first ∙ left_refused r (value_words n s.answer.next) w z, s.leaves_second ∙ left_refused r (step_words s.answer) out z)

-- ---- the other side
pub other_side_words : (n m : ℕ) → ¬ (n ≡ m) → (v : Value) → Held v → (w : List ℕ) → 199 ≤ length w → is_value m (stored w 0 (value_words n v)) ≡ false
other_side_words n m d v h w l = sym (other_side m (stored w 0 (value_words n v)) n (sym (side-back n v h w l)) d)
