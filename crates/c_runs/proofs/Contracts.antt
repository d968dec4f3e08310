-- The contracts of a run call and of a fresh start, from what each gives by value: demand 3 in words comes with it (`runs_of`, `starts_of`). And the words
-- that a start left which returned 0 hold the fresh run (`start_passes`, `start_fresh`, `start_omitting`).
--
-- Pins, which nothing else cites: `start_omitting`.
use mathlib.Core.Path.{◌≡◌, sym, ap, ◌∙◌, subst}
use mathlib.Core.Logic.{◌⊎◌, inr}
use mathlib.Core.Bool.{Bool, true, false, not, cond}
use mathlib.Core.List.{List}
use Prim.Native.Nat.{ℕ, ◌≤◌, ◌<◌}
use native.Mathlib.Decide.{dec_lt}
use native.Mathlib.Omega.{arith}
use lib.Dec.{eqb}
use lib.ListN.{length}
use lib.Seq.{sets as stored, length-sets}
use borrow.Author.Tests.{eq-eqb, ne_eqb}
use Rattle.refusals.specs.Answers.{Answer}
use Rattle.table.specs.declared.Table.{Table}
use Rattle.rules.specs.Machine.{fresh}
use Rattle.lists.specs.Lists.{Side}
use Rattle.preference.specs.Preferences.{preferred_refusal}
use Rattle.runs.specs.Paused.{Value, paused, blank_value}
use Rattle.runs.specs.Demand.{SharesAll}
use Rattle.runs.specs.Omitting.{CalledEither}
use Rattle.words.specs.Layouts.{table_at, numbers_at}
use Rattle.words.specs.Serving.{Gives}
use Rattle.words.proofs.Answers.{gives_long}
use Rattle.run_words.specs.Values.{value_at, value_words}
use Rattle.words.proofs.Back.{rows_size}
use Rattle.run_words.proofs.ReadingBack.{numbers_read, value-back}
use Rattle.c_runs.specs.Calls.{Seen, GivesCall, FreshWords}
use Rattle.c_runs.specs.Serving.{FreshStart, Starts, RunCall, Runs}
use Rattle.c_runs.proofs.Sides.{Startable}
use Rattle.c_runs.proofs.Returned.{fresh-held}
use Rattle.c_runs.proofs.Telling.{left_accepted}
use Rattle.c_runs.proofs.WordCalls.{keeps-word-demand, keeps-word-omits, carries-word-demand, carries-word-omits, shares_all_words}

-- ---- the contract of a call
-- without what it carries on: a call of a list
pub called_of : (side : Table → Side) (n : ℕ) (w : List ℕ) (b : ℕ) (x : Seen) → GivesCall (RunCall side) n w b x → GivesCall (CalledEither side) n w b x
called_of side n w b x g = record {
  short = g.short;
  served = λ h.
      let s = g.served h in
      record { answer = s.answer; promised = s.promised.either; says = s.says; leaves_first = s.leaves_first; leaves_second = s.leaves_second };
}

pub runs_of : (side : Table → Side) → Startable side → {n : ℕ} {w : List ℕ} {b : ℕ} {out w' out' : List ℕ} {r : ℕ}
    → GivesCall (RunCall side) n w b (record { lent = out; number = r; run = w'; step = out' }) → Runs side n w b out w' out' r
runs_of side all {n} {w} {b} {out} {w'} {out'} {r} g =
    let x : Seen = record { lent = out; number = r; run = w'; step = out' } in
    let c = called_of side n w b x g in
    record { gives = g; demand = carries-word-demand side all n w b x c; omits = carries-word-omits side all n w b x c }

-- ---- the contract of a start
module _ (side : Table → Side) (all : Startable side) (n : ℕ) (t o : List ℕ) (omit : ℕ) (out out' : List ℕ) (r : ℕ) where
  abbrev T : Table
  T = table_at 0 t

  abbrev K : List ℕ
  K = numbers_at 0 o

  abbrev Given : Type 0
  Given =
      Gives ((length t < 66) ⊎ ((length o < 64) ⊎ (length out < 199))) (FreshStart side T K (not (eqb omit 0)))
      (λ (a : Answer Value). a.refusal) (λ (a : Answer Value). value_words n a.value) out out' r

  record Accepted : Type 0 where
    ok : preferred_refusal T (side T).count K ≡ 0
    words : FreshWords n T K (not (eqb omit 0)) out'
    shares : not (eqb omit 0) ≡ false → SharesAll side T K (paused T K false fresh)

  accepted : Given → r ≡ 0 → Accepted
  accepted g e = served (gives_long out out' r e g)
    where
      served : ¬ ((length t < 66) ⊎ ((length o < 64) ⊎ (length out < 199))) → Accepted
      served h =
          let s = g.served h in
          let p : preferred_refusal T (side T).count K ≡ 0 = sym (ap (λ (a : Answer Value). a.refusal) s.promised.is) ∙ sym s.says ∙ e in
          let v : s.answer.value ≡ paused T K (not (eqb omit 0)) fresh =
          ap (λ (a : Answer Value). a.value) s.promised.is
          ∙ ap (λ (b : Bool). cond b (paused T K (not (eqb omit 0)) fresh) blank_value) (eq-eqb (preferred_refusal T (side T).count K) 0 p) in
          let w : out' ≡ stored out 0 (value_words n (paused T K (not (eqb omit 0)) fresh)) =
          s.leaves ∙ left_accepted r (value_words n s.answer.value) out e ∙ ap (λ (y : Value). stored out 0 (value_words n y)) v in record {
            ok = p;
            words = record {
              long = omega (arith, ap length w, length-sets out 0 (value_words n (paused T K (not (eqb omit 0)) fresh)), not_short h);
              reads = ap (value_at n) w
                  ∙ value-back n (paused T K (not (eqb omit 0)) fresh)
                  (fresh-held side all T K (rows_size 2 t) (numbers_read 0 o) p (not (eqb omit 0))) out (not_short h);
            };
            shares = λ d.
                subst (SharesAll side T K) (v ∙ ap (λ (b : Bool). paused T K b fresh) d) (s.promised.shared d);
          }
        where
          not_short : ¬ ((length t < 66) ⊎ ((length o < 64) ⊎ (length out < 199))) → 199 ≤ length out
          not_short q = at (dec_lt (length out) 199)
            where
              at : Dec (length out < 199) → 199 ≤ length out
              at (yes z) = absurd (q (inr (inr z)))
              at (no z) = omega arith

  as_omit : (b : Bool) → not (eqb omit 0) ≡ b → FreshWords n T K (not (eqb omit 0)) out' → FreshWords n T K b out'
  as_omit b e f = rw e at f

  plain : omit ≡ 0 → not (eqb omit 0) ≡ false
  plain z = rw (eq-eqb omit 0 z)

  omitting : ¬ (omit ≡ 0) → not (eqb omit 0) ≡ true
  omitting z = rw (ne_eqb omit 0 z)

  started_by : Given → Starts side n t o omit out out' r
  started_by g = record {
    gives = g;
    demand = λ e z.
        let a = accepted g e in
        keeps-word-demand side all n T K (all T (rows_size 2 t) K (numbers_read 0 o).size a.ok) out' (as_omit false (plain z) a.words);
    shared = λ e z.
        let a = accepted g e in
        shares_all_words side all n T K out' (as_omit false (plain z) a.words) a.ok (a.shares (plain z));
    omits = λ e z.
        let a = accepted g e in
        keeps-word-omits side all n T K (all T (rows_size 2 t) K (numbers_read 0 o).size a.ok) out' (as_omit true (omitting z) a.words);
  }

  -- a start that returned 0: nothing is refused, and the words that it left hold the fresh run
  pub start_passes : Starts side n t o omit out out' r → r ≡ 0 → preferred_refusal T (side T).count K ≡ 0
  start_passes s e = (accepted s.gives e).ok

  pub start_fresh : Starts side n t o omit out out' r → r ≡ 0 → omit ≡ 0 → FreshWords n T K false out'
  start_fresh s e z = as_omit false (plain z) (accepted s.gives e).words

  pub start_omitting : Starts side n t o omit out out' r → r ≡ 0 → ¬ (omit ≡ 0) → FreshWords n T K true out'
  start_omitting s e z = as_omit true (omitting z) (accepted s.gives e).words

pub starts_of : (side : Table → Side) (all : Startable side) {n : ℕ} {t o : List ℕ} {omit : ℕ} {out out' : List ℕ} {r : ℕ}
    → Given side all n t o omit out out' r → Starts side n t o omit out out' r
starts_of side all {n} {t} {o} {omit} {out} {out'} {r} g = started_by side all n t o omit out out' r g
