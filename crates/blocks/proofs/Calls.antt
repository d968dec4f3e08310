-- The calls of a block, so many from a state on, each with the greatest budget.
--
-- In order: lists in two parts; so many calls and then more (`calls_more`, `after_more`, `text_more`, `has_more`); one call more; the state after them
-- is reached (`reached_after`); a call that hands something out has a file (`added_some`), so the calls stop (`calls_stop_at`);
-- those of a run that omits nothing stop at the end alone (`stop_ends`).
--
-- Elsewhere: a set handed out is one of the table's (Chains.antt); the block that the calls fill (Fillings.antt).
use mathlib.Core.Path.{◌≡◌, refl, sym, ap, ◌∙◌}
use mathlib.Core.Logic.{◌⊎◌, inl, inr}
use mathlib.Core.Bool.{Bool, true, false, ◌||◌}
use mathlib.Core.List.{List, [], ◌∷◌, ◌++◌, append_assoc}
use Prim.Native.Nat.{ℕ, zero, suc, ◌+◌, ◌≤◌, ◌<◌}
use native.Mathlib.Nat.{zero-add, suc-add}
use native.Mathlib.Omega.{arith}
use lib.ListN.{length, length-append}
use Rattle.basics.proofs.Clash.{clash}
use Rattle.table.specs.declared.Table.{Table}
use Rattle.rules.specs.Machine.{State}
use Rattle.rules.specs.Calls.{Reply, refused, spent, handed, end, Call, most_budget, answered, handouts}
use Rattle.rules.proofs.Calls.{answered_append}
use Rattle.rules.proofs.Reports.{only18_by}
use Rattle.lists.specs.Lists.{gauge_side}
use Rattle.lists.specs.OnTable.{hand_out, ReachedOn}
use Rattle.runs.specs.Calling.{arrangement}
use Rattle.runs.specs.private.Either.{call_of}
use Rattle.runs.specs.Omitting.{moves_of}
use Rattle.runs.proofs.Demands.{Started, reached_next}
use Rattle.file_writer.specs.Writing.{write_file}
use Rattle.blocks.specs.Filling.{pair_table, files, calls, after, text, is_end, is_none, has, Stops}
use Rattle.blocks.proofs.Chains.{never_spent}

-- ---- lists in two parts
pub files_append : (t : Table) (xs ys : List (List ℕ)) → files t (xs ++ ys) ≡ files t xs ++ files t ys
files_append t [] ys = refl
files_append t (x ∷ xs) ys = rw (files_append t xs ys) (sym (append_assoc (write_file (pair_table t x)) (files t xs) (files t ys)))

pub handouts_append : (cs ds : List Call) → handouts (cs ++ ds) ≡ handouts cs ++ handouts ds
handouts_append [] ds = refl
handouts_append (c ∷ cs) ds = ap (answered c.answer) (handouts_append cs ds) ∙ sym (answered_append c.answer (handouts cs) (handouts ds))

pub has_append : (q : Reply → Bool) (cs ds : List Call) → has q (cs ++ ds) ≡ (has q cs || has q ds)
has_append q [] ds = refl
has_append q (c ∷ cs) ds = ap (λ (b : Bool). q c.answer || b) (has_append q cs ds) ∙ or_assoc (q c.answer) (has q cs) (has q ds)
  where
    or_assoc : (a b d : Bool) → (a || (b || d)) ≡ ((a || b) || d)
    or_assoc true b d = refl
    or_assoc false b d = refl

-- a call that hands something out is no end
pub none_ends : (cs : List Call) → has is_none cs ≡ false → has is_end cs ≡ false
none_ends [] e = refl
none_ends (c ∷ cs) e = go c.answer e (none_ends cs)
  where
    go : (a : Reply) → (is_none a || has is_none cs) ≡ false → (has is_none cs ≡ false → has is_end cs ≡ false) → (is_end a || has is_end cs) ≡ false
    go (refused n) e more = clash cc
    go spent e more = clash cc
    go (handed x) e more = more e
    go end e more = clash cc

-- no file is empty
file_pos : (t : Table) → 0 < length (write_file t)
unfolding write_file
file_pos t = simp length-append (omega arith)

-- sets have files
pub files_some : (t : Table) (xs : List (List ℕ)) → 0 < length xs → 0 < length (files t xs)
files_some t [] h = absurd (omega arith)
files_some t (x ∷ xs) h = omega (arith, length-append (write_file (pair_table t x)) (files t xs), file_pos (pair_table t x))

-- a call that hands a set out has a file, and that has a byte
added_some : (t : Table) (a : Reply) → is_none a ≡ false → 0 < length (files t (answered a []))
added_some t (refused n) e = clash cc
added_some t spent e = clash cc
added_some t (handed x) e = omega (arith, length-append (write_file (pair_table t x)) [], file_pos (pair_table t x))
added_some t end e = clash cc

module _ (t : Table) (order : List ℕ) (omit : Bool) where
  abbrev made : State → Call
  made s = call_of t (gauge_side t) (arrangement (gauge_side t) order) omit most_budget s

  abbrev next : State → State
  next s = (made s).next

  -- ---- n calls, and m more
  pub calls_more : (n m : ℕ) (s : State) → calls t order omit (n + m) s ≡ calls t order omit n s ++ calls t order omit m (after t order omit n s)
  calls_more zero m s = ap (λ (k : ℕ). calls t order omit k s) (zero-add m)
  calls_more (suc n) m s = ap (λ (k : ℕ). calls t order omit k s) (suc-add n m) ∙ ap (λ (cs : List Call). made s ∷ cs) (calls_more n m (next s))

  pub after_more : (n m : ℕ) (s : State) → after t order omit (n + m) s ≡ after t order omit m (after t order omit n s)
  after_more zero m s = ap (λ (k : ℕ). after t order omit k s) (zero-add m)
  after_more (suc n) m s = ap (λ (k : ℕ). after t order omit k s) (suc-add n m) ∙ after_more n m (next s)

  pub text_more : (n m : ℕ) (s : State) → text t order omit (n + m) s ≡ text t order omit n s ++ text t order omit m (after t order omit n s)
  text_more n m s =
      let more : List Call = calls t order omit m (after t order omit n s) in
      ap (λ (cs : List Call). files t (handouts cs)) (calls_more n m s) ∙ ap (files t) (handouts_append (calls t order omit n s) more)
      ∙ files_append t (handouts (calls t order omit n s)) (handouts more)

  pub has_more : (q : Reply → Bool) (n m : ℕ) (s : State) → has q (calls t order omit n s) ≡ false
      → has q (calls t order omit (n + m) s) ≡ has q (calls t order omit m (after t order omit n s))
  has_more q n m s e =
      let more : List Call = calls t order omit m (after t order omit n s) in
      ap (has q) (calls_more n m s) ∙ has_append q (calls t order omit n s) more ∙ ap (λ (b : Bool). b || has q more) e

  -- ---- one call more
  calls_one : (n : ℕ) (s : State) → calls t order omit (suc n) s ≡ calls t order omit n s ++ (made (after t order omit n s) ∷ [])
  calls_one zero s = refl
  calls_one (suc n) s = ap (λ (cs : List Call). made s ∷ cs) (calls_one n (next s))

  text_one : (n : ℕ) (s : State) → text t order omit (suc n) s ≡ text t order omit n s ++ files t (answered (made (after t order omit n s)).answer [])
  text_one n s =
      let c : Call = made (after t order omit n s) in
      ap (λ (cs : List Call). files t (handouts cs)) (calls_one n s) ∙ ap (files t) (handouts_append (calls t order omit n s) (c ∷ []))
      ∙ files_append t (handouts (calls t order omit n s)) (answered c.answer [])

  has_one : (q : Reply → Bool) (n : ℕ) (s : State) → has q (calls t order omit n s) ≡ false
      → has q (calls t order omit (suc n) s) ≡ q (made (after t order omit n s)).answer
  has_one q n s e =
      let c : Call = made (after t order omit n s) in
      ap (has q) (calls_one n s) ∙ has_append q (calls t order omit n s) (c ∷ []) ∙ ap (λ (b : Bool). b || has q (c ∷ [])) e ∙ or-false (q c.answer)
    where
      or-false : (a : Bool) → (a || false) ≡ a
      or-false true = refl
      or-false false = refl

  -- ---- the state after them
  pub reached_after : (n : ℕ) (s : State) → ReachedOn (gauge_side t) (arrangement (gauge_side t) order) s
      → ReachedOn (gauge_side t) (arrangement (gauge_side t) order) (after t order omit n s)
  reached_after zero s h = h
  reached_after (suc n) s h = reached_after n (next s) (reached_next t (gauge_side t) (arrangement (gauge_side t) order) omit most_budget s h)

  -- ---- calls that all hand something out have a file each, so they stop
  grows : (n : ℕ) (s : State) → (has is_none (calls t order omit n s) ≡ true) ⊎ (n ≤ length (text t order omit n s))
  grows zero s = inr (omega arith)
  grows (suc n) s = go (grows n s) (has is_none (calls t order omit n s)) refl (is_none (made (after t order omit n s)).answer) refl
    where
      go : (has is_none (calls t order omit n s) ≡ true) ⊎ (n ≤ length (text t order omit n s)) → (b : Bool) → has is_none (calls t order omit n s) ≡ b
          → (d : Bool) → is_none (made (after t order omit n s)).answer ≡ d
          → (has is_none (calls t order omit (suc n) s) ≡ true) ⊎ (suc n ≤ length (text t order omit (suc n) s))
      go h true e d f =
          inl (ap (has is_none) (calls_one n s) ∙ has_append is_none (calls t order omit n s) (made (after t order omit n s) ∷ [])
          ∙ ap (λ (b : Bool). b || has is_none (made (after t order omit n s) ∷ [])) e)
      go h false e true f = inl (has_one is_none n s e ∙ f)
      go (inl h) false e false f = clash cc
      go (inr h) false e false f =
          inr (omega (
            arith,
            h,
            added_some t (made (after t order omit n s)).answer f,
            length-append (text t order omit n s) (files t (answered (made (after t order omit n s)).answer [])),
            ap length (text_one n s),
          ))

  pub calls_stop_at : (room : ℕ) (s : State) → Stops t order omit s room room
  calls_stop_at room s = go (grows room s)
    where
      go : (has is_none (calls t order omit room s) ≡ true) ⊎ (room ≤ length (text t order omit room s)) → Stops t order omit s room room
      go (inl h) = inl h
      go (inr h) = inr (omega arith)

-- ---- a run that omits nothing
pub stop_ends : (t : Table) (order : List ℕ) → Started gauge_side t order → (n : ℕ) (s : State)
    → ReachedOn (gauge_side t) (arrangement (gauge_side t) order) s → has is_none (calls t order false n s) ≡ true → has is_end (calls t order false n s) ≡ true
stop_ends t order g zero s h e = e
stop_ends t order g (suc n) s h e =
    go (made t order false s).answer (never_spent t order g most_budget (omega arith) (omega arith) s h)
    ((only18_by (moves_of t (gauge_side t) (arrangement (gauge_side t) order) false) (hand_out (gauge_side t)) most_budget s).else (omega arith)) e
    (stop_ends t order g n (next t order false s) (reached_after t order false 1 s h))
  where
    rest : List Call
    rest = calls t order false n (next t order false s)

    go : (a : Reply) → (a ≡ spent → ⊥) → ((k : ℕ) → a ≡ refused k → ⊥) → (is_none a || has is_none rest) ≡ true
        → (has is_none rest ≡ true → has is_end rest ≡ true) → (is_end a || has is_end rest) ≡ true
    go (refused k) x r e more = absurd (r k refl)
    go spent x r e more = absurd (x refl)
    go (handed y) x r e more = more e
    go end x r e more = refl
