-- "A run paused on the old table remains a run of the old table" (02, R-10): `old_run_kept`, of every paused value, whatever its preference; what that says
-- after any calls (`remains_paused`); and `kept_after_commit`, of one that is paused on the current table when a flip is committed, which is then no run of
-- the new table.
use mathlib.Core.Path.{◌≡◌, refl, sym, ap₂, ◌∙◌, subst, subst₂}
use mathlib.Core.List.{List, [], ◌∷◌}
use Prim.Native.Nat.{ℕ}
use native.Mathlib.Decide.{ℕ_discrete}
use native.Mathlib.Omega.{arith}
use lib.ListN.{length}
use Rattle.refusals.specs.Answers.{Answer}
use Rattle.table.specs.declared.Table.{Table}
use Rattle.rules.specs.Machine.{State}
use Rattle.rules.specs.Calls.{Reply, refused, spent, handed, end, Call}
use Rattle.lists.specs.Lists.{Side}
use Rattle.lists.specs.OnTable.{ReachedOn}
use Rattle.runs.specs.Paused.{Value, paused}
use Rattle.runs.specs.Calling.{Step, arrangement, by_rules, held, value_refusal, kept_value, PausedAt, last_value}
use Rattle.runs.specs.Omitting.{CallsEither}
use Rattle.runs.specs.private.Either.{call_of, CalledOf}
use Rattle.runs.proofs.Answered.{called_of_both}
use Rattle.runs.proofs.Demands.{reached_next}
use Rattle.trials.specs.declared.Proposal.{Proposal}
use Rattle.trials.specs.Trials.{Committed}
use Rattle.trials.proofs.Commits.{Commits, commits}
use Rattle.kept_runs.specs.KeptRuns.{RemainsRunOf}

module _ (side : Table → Side) where
  -- w is paused in a run of the table t, with the preference in k
  record RunOf (t : Table) (k : List ℕ) (w : Value) : Type 0 where
    table : w.table ≡ t
    order : w.order ≡ k
    state : State
    stands : PausedAt side w state

  -- one call leads from such a run to such a run; one that 10, 11 or 27 refuses changes nothing
  next_run : (t : Table) (k : List ℕ) (v : Value) (b : ℕ) (r : Step) → RunOf t k v → CalledOf side v b r → RunOf t k (kept_value r.answer v r.next)
  next_run t k v b r h c = go (ℕ_discrete (value_refusal side v) 0)
    where
      u : Table
      u = v.table

      call : Call
      call = call_of u (side u) (held side v) v.omit b h.state

      there : RunOf t k (paused u v.order v.omit call.next)
      there = record {
        table = h.table;
        order = h.order;
        state = call.next;
        stands = record { reached = reached_next u (side u) (held side v) v.omit b h.state h.stands.reached; stands = refl };
      }

      given : Reply → Step
      given a = by_rules u (side u) v.order v.omit a call.moves call.next

      by_answer : (a : Reply) → RunOf t k (kept_value (given a).answer v (given a).next)
      by_answer (refused n) = h
      by_answer spent = there
      by_answer (handed x) = there
      by_answer end = there

      after : {x : Step} → r ≡ x → RunOf t k (kept_value x.answer v x.next) → RunOf t k (kept_value r.answer v r.next)
      after e m = subst (λ (x : Step). RunOf t k (kept_value x.answer v x.next)) (sym e) m

      go : Dec (value_refusal side v ≡ 0) → RunOf t k (kept_value r.answer v r.next)
      go (yes ok) = after (c.rules ok h.state h.stands) (by_answer call.answer)
      go (no ok) = after (c.table (omega arith)) h

  all_runs : (t : Table) (k : List ℕ) (v : Value) → RunOf t k v → (bs : List ℕ) (rs : List Step) → CallsEither side v bs rs → RunOf t k (last_value v rs)
  all_runs t k v h [] [] c = h
  all_runs t k v h [] (r ∷ rs) c = absurd c
  all_runs t k v h (b ∷ bs) [] c = absurd c
  all_runs t k v h (b ∷ bs) (r ∷ rs) c = all_runs t k (kept_value r.answer v r.next) (next_run t k v b r h (called_of_both side v b r c.0)) bs rs c.1

  pub old_run_kept : (v : Value) (s : State) → PausedAt side v s → RemainsRunOf side v.table v
  old_run_kept v s h = record {
    table = λ bs rs c. (run bs rs c).table;
    order = λ bs rs c. (run bs rs c).order;
    state = λ bs rs c. ((run bs rs c).state, (run bs rs c).stands);
  }
    where
      run : (bs : List ℕ) (rs : List Step) → CallsEither side v bs rs → RunOf v.table v.order (last_value v rs)
      run bs rs c = all_runs v.table v.order v (record { table = refl; order = refl; state = s; stands = h }) bs rs c

  -- after any calls the value left is that of a state which moves on the table t, with v's preference, lead to
  pub remains_paused : (t : Table) (v : Value) → RemainsRunOf side t v → (bs : List ℕ) (rs : List Step) → CallsEither side v bs rs
      → (s : State) × ReachedOn (side t) (arrangement (side t) v.order) s × (last_value v rs ≡ paused t v.order (last_value v rs).omit s)
  remains_paused t v r bs rs c =
      let (s, h) = r.state bs rs c in
      let e : (last_value v rs).table ≡ t = r.table bs rs c in
      let d : (last_value v rs).order ≡ v.order = r.order bs rs c in (
        s,
        subst₂ (λ (u : Table) (k : List ℕ). ReachedOn (side u) (arrangement (side u) k) s) e d h.reached,
        h.stands ∙ ap₂ (λ (u : Table) (k : List ℕ). paused u k (last_value v rs).omit s) e d,
      )

  -- a flip is committed on the table that v is paused on
  pub kept_after_commit : (p : Proposal) (t : Table) (a : Answer Table) → length t.rows ≡ 64 → length p.chain.rows ≡ 64 → Committed p t a
      → a.refusal ≡ 0 → (v : Value) (s : State) → v.table ≡ t → PausedAt side v s → RemainsRunOf side t v × (¬ RemainsRunOf side a.value v)
  kept_after_commit p t a n m x e v s d h =
      let k : Commits p t n m a x e = commits p t n m a x e in (
        subst (λ (w : Table). RemainsRunOf side w v) d (old_run_kept v s h),
        λ y. k.another (sym (y.table [] [] tt) ∙ d),
      )
